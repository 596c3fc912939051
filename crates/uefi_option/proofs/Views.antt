-- What a view shows: the parts of an option, each at its place in the input.
use Rattle.std.proofs.Common.{◌≡◌, ℕ, ◌+◌, List, [], ◌++◌, length, take, drop, refl, sym, ap, ◌∙◌, arith, append_assoc}
use Rattle.std.specs.Int.{w16, to_le_bytes}
use Rattle.std.specs.List.{AllByRecursion}
use Rattle.std.proofs.lemmas.List.{length-append, append-nil, take_at, drop_at}
use Rattle.uefi_path.specs.Units.{units_of}
use Rattle.uefi_path.specs.Row.{IsByte}
use Rattle.uefi_path.specs.Path.{IsPath}
use Rattle.uefi_path.specs.Views.{IsSliceAt}
use Rattle.uefi_option.specs.declared.view.OptionView.{OptionView}
use Rattle.uefi_option.specs.LoadOption.{OptionParts, option_parts, header_bytes, description_bytes, list_bytes, SpellsOption}
use Rattle.uefi_option.specs.Reader.{SplitsOption, ArePaths}
use Rattle.uefi_option.specs.View.{ShowsOption, IsCutFrom}
use Rattle.uefi_option.proofs.Units.{ReadAgain, two_bytes}
use Rattle.uefi_option.proofs.Lists.{Path, list_some}
use Rattle.uefi_option.proofs.Readings.{option_read, some_path}

-- what is split so is shown by the view
abbrev pub IsSplit : List ℕ → OptionView → Type 0
IsSplit bytes view = SplitsOption bytes view.attributes view.description.now view.list.now view.optional.now

pub view_shows : (bytes : List ℕ) (view : OptionView) → AllByRecursion IsByte bytes → IsSplit bytes view →
    ArePaths view.list.now → (option : OptionParts) × SpellsOption bytes option × ShowsOption view option
view_shows bytes view fits split are = (
  option_parts view.attributes (units_of view.description.now) are.paths view.optional.now,
  option_read bytes view.attributes view.description.now view.list.now view.optional.now are.paths fits split are.whole are.parts,
  record { attributes = refl; description = split.units.is; list = are.parts; optional = refl },
)

slice_at : (input before slice behind : List ℕ) (at : ℕ) → input ≡ before ++ (slice ++ behind) → length before ≡ at → IsSliceAt input at slice
slice_at input before slice behind at parts size =
    let all : length input ≡ length before + (length slice + length behind) =
    ap length parts ∙ length-append before (slice ++ behind) ∙ ap (λ (n : ℕ). length before + n) (length-append slice behind) in
    let rest : drop at input ≡ slice ++ behind = ap (drop at) parts ∙ drop_at before (slice ++ behind) at size in
    record { within = omega arith; is = sym (ap (take (length slice)) rest ∙ take_at slice behind (length slice) refl) }

pub view_is_cut : (bytes : List ℕ) (view : OptionView) → IsSplit bytes view → IsCutFrom view bytes
view_is_cut bytes view split =
    let description = view.description.now in
    let list = view.list.now in
    let optional = view.optional.now in
    let header = header_bytes view.attributes (length list) in
    let zero = to_le_bytes w16 0 in
    let front = header ++ (description ++ zero) in
    let front_size : length front ≡ 8 + length description = length-append header (description ++ zero)
    ∙ ap (λ (n : ℕ). 6 + n) (length-append description zero) ∙ omega arith in
    let whole : bytes ≡ front ++ (list ++ optional) = split.parts ∙ sym (append_assoc header (description ++ zero) (list ++ optional)) in
    let before : length (front ++ list) ≡ 8 + length description + length list = length-append front list ∙ ap (λ (n : ℕ). n + length list) front_size in
    record {
      description = slice_at bytes header description (zero ++ (list ++ optional)) 6
          (split.parts ∙ ap (λ (t : List ℕ). header ++ t) (append_assoc description zero (list ++ optional))) refl;
      list = slice_at bytes front list optional (8 + length description) whole front_size;
      optional = slice_at bytes (front ++ list) optional [] (8 + length description + length list)
          (whole ∙ sym (append_assoc front list optional) ∙ ap (λ (t : List ℕ). (front ++ list) ++ t)
          (sym (append-nil optional))) before;
      end = ap length (whole ∙ sym (append_assoc front list optional)) ∙ length-append (front ++ list) optional ∙ ap (λ (n : ℕ). n + length optional) before;
    }

-- the parts that are read off a view are those of the option that it shows
pub parts_read : ReadAgain → (bytes : List ℕ) (view : OptionView) (o : OptionParts) (description : List ℕ) (paths : List Path)
    (optional : List ℕ) → SpellsOption bytes o → ShowsOption view o → description ≡ units_of view.description.now →
    AllByRecursion IsPath paths → view.list.now ≡ list_bytes paths → optional ≡ view.optional.now
    → SpellsOption bytes (option_parts view.attributes description paths optional)
parts_read again bytes view o description paths optional spelled shows units-is whole list-is optional-is =
    let is = spelled.0 in
    let units : description ≡ o.description = units-is ∙ ap units_of shows.description ∙ again o.description (two_bytes o.description is.description) in
    let list : list_bytes o.paths ≡ list_bytes paths = sym shows.list ∙ list-is in
    let size : length (list_bytes o.paths) ≡ length (list_bytes paths) = ap length list in
    rw (shows.attributes, units, optional-is ∙ shows.optional) (
      record {
        attributes = is.attributes;
        description = is.description;
        some = some_path (list_bytes o.paths) paths list (list_some o.paths is.paths is.some);
        paths = whole;
        len = let len = is.len in omega (arith, len, size);
        optional = is.optional;
      },
      spelled.1 ∙ ap (λ (t : List ℕ). header_bytes o.attributes (length t) ++ (description_bytes o.description ++ (t ++ o.optional))) list,
    )
