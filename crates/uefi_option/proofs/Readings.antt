-- What the reader finds: the parts of an option, and every input's option or first fault.
use Rattle.std.proofs.Common.{◌≡◌, ◌≢◌, ◌⊎◌, ℕ, ◌+◌, ◌-◌, ◌<◌, ◌^◌, List, [], ◌++◌, length, take, drop, refl, sym, ap, subst, ◌∙◌, inl}
use Rattle.std.proofs.Common.{inr, arith, append_assoc}
use Rattle.std.specs.Int.{w16, to_le_bytes}
use Rattle.std.specs.List.{AllByRecursion}
use Rattle.std.proofs.lemmas.Bool.{cases_lt, cases_eq}
use Rattle.std.proofs.lemmas.List.{length-append, append-nil, take-append-drop, length-take-le}
use Rattle.uefi_path.specs.Units.{units_of}
use Rattle.uefi_path.specs.Row.{IsByte}
use Rattle.uefi_path.specs.Parts.{IsUnit}
use Rattle.uefi_path.specs.Path.{IsPath}
use Rattle.uefi_option.specs.declared.fault.OptionFault.{OptionFault}
use Rattle.uefi_option.specs.declared.fault.OptionFault.TheVariants as fault
use Rattle.uefi_option.specs.LoadOption.{OptionParts, option_parts, header_bytes, description_bytes, list_bytes, SpellsOption}
use Rattle.uefi_option.specs.Fault.{IsFront, IsCutList, IsEmptyList, IsFirstFault}
use Rattle.uefi_option.specs.Reader.{SplitsUnits, SplitsOption, IsListFault}
use Rattle.uefi_option.proofs.Bytes.{AllByRecursion-behind, AllByRecursion-first}
use Rattle.uefi_option.proofs.Fronts.{HasHeader, heads, closes}
use Rattle.uefi_option.proofs.Lists.{Path, Begins, list_reads}

-- ---- the prefix of an option

-- the input is a prefix that states this length, and a rest
pub record SplitsFront (input front : List ℕ) (len : ℕ) (rest : List ℕ) : Type 0 where
  pub before : IsFront front len
  pub parts : input ≡ front ++ rest

pub front_read : (bytes : List ℕ) (attributes len : ℕ) (rest description behind : List ℕ) →
    (attributes < 2 ^ 32) × (len < 2 ^ 16) → bytes ≡ header_bytes attributes len ++ rest → SplitsUnits rest description behind
    → SplitsFront bytes (header_bytes attributes len ++ (description ++ to_le_bytes w16 0)) len behind
front_read bytes attributes len rest description behind bounds header split = record {
  before = record {
    attributes = attributes;
    units = units_of description;
    four_bytes = bounds.0;
    two_bytes = bounds.1;
    nonzero = split.units.nonzero;
    is = ap (λ (t : List ℕ). header_bytes attributes len ++ (t ++ to_le_bytes w16 0)) split.units.is;
  };
  parts = header ∙ ap (λ (t : List ℕ). header_bytes attributes len ++ t) split.parts
      ∙ sym (append_assoc (header_bytes attributes len) (description ++ to_le_bytes w16 0) behind);
}

pub cut_list : (bytes front : List ℕ) (len : ℕ) (rest : List ℕ) → SplitsFront bytes front len rest → length rest < len → IsCutList bytes len (length rest)
cut_list bytes front len rest split past = record { front = front; rest = rest; before = split.before; parts = split.parts; size = refl; past = past }

pub empty_list : (bytes front : List ℕ) (len : ℕ) (rest : List ℕ) → SplitsFront bytes front len rest → len ≡ 0 → IsEmptyList bytes
empty_list bytes front len rest split zero = record { front = front; rest = rest; before = subst (IsFront front) zero split.before; parts = split.parts }

-- ---- the list of an option that was split

split_front : (bytes : List ℕ) (attributes : ℕ) (description list optional : List ℕ) →
    SplitsOption bytes attributes description list optional →
    SplitsFront bytes (header_bytes attributes (length list) ++ (description ++ to_le_bytes w16 0)) (length list) (list ++ optional)
split_front bytes attributes description list optional split =
    front_read bytes attributes (length list) ((description ++ to_le_bytes w16 0) ++ (list ++ optional)) description
    (list ++ optional) (split.four_bytes, let len = split.len in omega (arith, len)) split.parts
    (record { units = split.units; parts = refl })

pub list_fault_is : (bytes : List ℕ) (attributes : ℕ) (description list optional : List ℕ) (start : ℕ) (f : OptionFault) →
    SplitsOption bytes attributes description list optional → start ≡ length bytes - length optional - length list →
    IsListFault list start f
    → IsFirstFault bytes f
list_fault_is bytes attributes description list optional start (fault.Path place path_fault) split at h =
    let front = header_bytes attributes (length list) ++ (description ++ to_le_bytes w16 0) in
    let whole = split_front bytes attributes description list optional split in
    let size : length bytes ≡ length front + (length list + length optional) =
    ap length whole.parts ∙ length-append front (list ++ optional)
    ∙ ap (λ (n : ℕ). length front + n) (length-append list optional) in
    let begins : start ≡ length front = at ∙ omega arith in
    record {
      front = front;
      paths = h.paths;
      rest = h.rest;
      optional = optional;
      before = subst (λ (t : List ℕ). IsFront front (length t)) h.parts whole.before;
      whole = h.whole;
      some = h.some;
      parts = whole.parts ∙ ap (λ (t : List ℕ). front ++ (t ++ optional)) h.parts;
      at = h.at ∙ ap (λ (n : ℕ). n + length (list_bytes h.paths)) begins ∙ sym (length-append front (list_bytes h.paths));
      first = h.first;
    }
list_fault_is bytes attributes description list optional start fault.OutOfMemory split at h = absurd h
list_fault_is bytes attributes description list optional start (fault.Short found) split at h = absurd h
list_fault_is bytes attributes description list optional start fault.NoTerminator split at h = absurd h
list_fault_is bytes attributes description list optional start (fault.ListPastEnd stated left) split at h = absurd h
list_fault_is bytes attributes description list optional start fault.EmptyList split at h = absurd h
list_fault_is bytes attributes description list optional start fault.ZeroUnit split at h = absurd h
list_fault_is bytes attributes description list optional start fault.ListTooLong split at h = absurd h

-- a list that is not empty is that of some path
pub some_path : (list : List ℕ) (paths : List Path) → list ≡ list_bytes paths → 0 < length list → paths ≢ []
some_path list paths parts some none =
    let size : length list ≡ 0 = ap length parts ∙ ap (λ (ps : List Path). length (list_bytes ps)) none in
    omega arith

pub option_read : (bytes : List ℕ) (attributes : ℕ) (description list optional : List ℕ) (paths : List Path) →
    AllByRecursion IsByte bytes → SplitsOption bytes attributes description list optional → AllByRecursion IsPath paths →
    list ≡ list_bytes paths
    → SpellsOption bytes (option_parts attributes (units_of description) paths optional)
option_read bytes attributes description list optional paths fits split are parts =
    let front = header_bytes attributes (length list) in
    let after = description ++ to_le_bytes w16 0 in
    let behind = AllByRecursion-behind IsByte front (after ++ (list ++ optional)) (subst (AllByRecursion IsByte) split.parts fits) in
    let tail = AllByRecursion-behind IsByte list optional (AllByRecursion-behind IsByte after (list ++ optional) behind) in
    let size : length (list_bytes paths) ≡ length list = ap length (sym parts) in (
      record {
        attributes = split.four_bytes;
        description = split.units.nonzero;
        some = some_path list paths parts split.some;
        paths = are;
        len = let len = split.len in omega (arith, len, size);
        optional = tail;
      },
      split.parts ∙ ap (λ (t : List ℕ). header_bytes attributes (length list) ++ ((t ++ to_le_bytes w16 0) ++ (list ++ optional))) split.units.is
          ∙ ap (λ (t : List ℕ). header_bytes attributes (length t) ++ (description_bytes (units_of description) ++ (t ++ optional))) parts,
    )

-- ---- every input is an option, or has a first fault

abbrev pub Ends : List ℕ → Type 0
Ends bytes = ((option : OptionParts) × SpellsOption bytes option) ⊎ ((f : OptionFault) × IsFirstFault bytes f)

list_ends : Begins → (bytes : List ℕ) (attributes : ℕ) (units list optional : List ℕ) → AllByRecursion IsByte bytes →
    (attributes < 2 ^ 32) × (length list < 2 ^ 16) → AllByRecursion IsUnit units → 0 < length list
    → bytes ≡ header_bytes attributes (length list) ++ (description_bytes units ++ (list ++ optional)) → Ends bytes
list_ends begins bytes attributes units list optional fits bounds nonzero some parts =
    let header = header_bytes attributes (length list) in
    let front = header ++ description_bytes units in
    let behind = AllByRecursion-behind IsByte (description_bytes units) (list ++ optional)
    (AllByRecursion-behind IsByte header (description_bytes units ++ (list ++ optional))
    (subst (AllByRecursion IsByte) parts fits)) in
    elim (list_reads begins list (AllByRecursion-first IsByte list optional behind)) [
      | inl read ↦
          let whole : list ≡ list_bytes read.0 = read.1.parts ∙ append-nil (list_bytes read.0) in
          let size : length (list_bytes read.0) ≡ length list = ap length (sym whole) in
          let room = bounds.1 in
          inl (
            option_parts attributes units read.0 optional,
            (
              record {
                attributes = bounds.0;
                description = nonzero;
                some = some_path list read.0 whole some;
                paths = read.1.whole;
                len = omega (arith, room, size);
                optional = AllByRecursion-behind IsByte list optional behind;
              },
              parts ∙ ap (λ (t : List ℕ). header_bytes attributes (length t) ++ (description_bytes units ++ (t ++ optional))) whole,
            ),
          )
      | inr stop ↦
          let paths = stop.0 in
          let rest = stop.1 in
          let h = stop.3 in
          let before : IsFront front (length list) = record {
            attributes = attributes;
            units = units;
            four_bytes = bounds.0;
            two_bytes = bounds.1;
            nonzero = nonzero;
            is = refl;
          } in
          inr (
            fault.Path (length (front ++ list_bytes paths)) stop.2,
            record {
              front = front;
              paths = paths;
              rest = rest;
              optional = optional;
              before = subst (λ (t : List ℕ). IsFront front (length t)) h.before.parts before;
              whole = h.before.whole;
              some = h.some;
              parts = parts ∙ sym (append_assoc header (description_bytes units) (list ++ optional))
                  ∙ ap (λ (t : List ℕ). front ++ (t ++ optional)) h.before.parts;
              at = refl;
              first = h.first;
            },
          )
    ]

front_ends : Begins → (bytes : List ℕ) (attributes len : ℕ) (units behind : List ℕ) → AllByRecursion IsByte bytes →
    (attributes < 2 ^ 32) × (len < 2 ^ 16) → AllByRecursion IsUnit units →
    bytes ≡ header_bytes attributes len ++ (description_bytes units ++ behind) → Ends bytes
front_ends begins bytes attributes len units behind fits bounds nonzero parts =
    let front = header_bytes attributes len ++ description_bytes units in
    let split : SplitsFront bytes front len behind = record {
      before = record { attributes = attributes; units = units; four_bytes = bounds.0; two_bytes = bounds.1; nonzero = nonzero; is = refl };
      parts = parts ∙ sym (append_assoc (header_bytes attributes len) (description_bytes units) behind);
    } in
    elim (cases_lt (length behind) len) [
      | inl past ↦ inr (fault.ListPastEnd len (length behind), cut_list bytes front len behind split past)
      | inr within ↦ elim (cases_eq len 0) [
        | inl zero ↦ inr (fault.EmptyList, empty_list bytes front len behind split zero)
        | inr some ↦
            let list = take len behind in
            let size : length list ≡ len = length-take-le len behind within in
            let room = bounds.1 in
            list_ends begins bytes attributes units list (drop len behind) fits (bounds.0, omega (arith, room, size)) nonzero (omega (arith, size))
            (parts ∙ ap (λ (t : List ℕ). header_bytes attributes len ++ (description_bytes units ++ t))
            (sym (take-append-drop len behind)) ∙ ap (λ (n : ℕ).
            header_bytes attributes n ++ (description_bytes units ++ (list ++ drop len behind))) (sym size))
      ]
    ]

header_ends : Begins → (bytes : List ℕ) (attributes len : ℕ) (rest : List ℕ) → AllByRecursion IsByte bytes → HasHeader bytes attributes len rest → Ends bytes
header_ends begins bytes attributes len rest fits header =
    elim (closes rest (AllByRecursion-behind IsByte (header_bytes attributes len) rest (subst (AllByRecursion IsByte) header.parts fits))) [
      | inl none ↦ inr (
        fault.NoTerminator,
        record {
          attributes = attributes;
          len = len;
          units = none.units;
          left = none.left;
          four_bytes = header.four_bytes;
          two_bytes = header.two_bytes;
          nonzero = none.nonzero;
          half = none.half;
          parts = header.parts ∙ ap (λ (t : List ℕ). header_bytes attributes len ++ t) none.parts;
        },
      )
      | inr closed ↦ front_ends begins bytes attributes len closed.0 closed.1 fits (header.four_bytes, header.two_bytes)
          closed.2.nonzero (header.parts ∙ ap (λ (t : List ℕ). header_bytes attributes len ++ t) closed.2.parts)
    ]

pub bytes_end : Begins → (bytes : List ℕ) → AllByRecursion IsByte bytes → Ends bytes
bytes_end begins bytes fits =
    elim (heads bytes fits) [ inl short ↦ inr (fault.Short (length bytes), (refl, short)) | inr header ↦ header_ends begins bytes header.0 header.1 header.2 fits header.3 ]
