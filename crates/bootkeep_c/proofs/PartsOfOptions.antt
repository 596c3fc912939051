-- The parts of load options.
use Rattle.std.proofs.Common.{◌≡◌, ◌≢◌, ℕ, ◌+◌, ◌-◌, ◌<◌, List, ◌++◌, length, get_or, drop, sym, ap, ◌∙◌, arith, append_assoc}
use Rattle.std.specs.List.{flat_map}
use Rattle.std.specs.Char.Escape.{encode_utf16}
use Rattle.std.proofs.lemmas.List.{at_drop_more, length-append}
use Rattle.uefi_path.specs.declared.fault.PathFault.{PathFault}
use Rattle.uefi_path.specs.declared.fault.PathFault.TheVariants as path
use Rattle.uefi_path.specs.Fault.{IsFirstFault}
use Rattle.uefi_option.specs.LoadOption.{list_bytes}
use Rattle.uefi_option.proofs.Lists.{Path, HasPaths}
use Rattle.bootkeep_c.specs.declared.failure.Failure.{Failure}
use Rattle.bootkeep_c.specs.declared.failure.Failure.TheVariants as failure
use Rattle.bootkeep_c.specs.Refusals.{path_failure, list_failure}
use Rattle.bootkeep_c.specs.Making.{HasBadPath}

-- the units of one character more
pub more_units : (units : List ℕ) (characters : List ℕ) (n character : ℕ) → (n < length characters) × (character ≡ get_or characters n character)
    → (units ++ encode_utf16 character) ++ flat_map encode_utf16 (drop (n + 1) characters) ≡ units ++ flat_map encode_utf16 (drop n characters)
more_units units characters n character h =
    let left = flat_map encode_utf16 (drop (n + 1) characters) in
    let next : flat_map encode_utf16 (drop n characters) ≡ encode_utf16 (get_or characters n character) ++ left =
    at_drop_more (flat_map encode_utf16) characters n character h.0 in
    append_assoc units (encode_utf16 character) left
    ∙ ap (λ (t : List ℕ). units ++ t) (ap (λ (c : ℕ). encode_utf16 c ++ left) h.1 ∙ sym next)

-- whole paths, and a rest in which no path begins, for this
pub bad_path : (list : List ℕ) (paths : List Path) (rest : List ℕ) (fault : PathFault) (place : ℕ) (failed : Failure) →
    HasPaths list paths rest → 0 < length rest → place ≡ length list - length rest
    → (fault ≢ path.OutOfMemory → IsFirstFault rest fault) → failed ≡ list_failure place (path_failure fault) → failed ≢ failure.Memory
    → (at : ℕ) × (why : PathFault) × HasBadPath list at why × (failed ≡ list_failure at (path_failure why))
bad_path list paths rest fault place failed has some at first is other =
    let size : length list ≡ length (list_bytes paths) + length rest = ap length has.parts ∙ length-append (list_bytes paths) rest in (
      place,
      fault,
      record {
        paths = paths;
        rest = rest;
        whole = has.whole;
        some = λ none. let len : length rest ≡ 0 = ap length none in omega (arith, len, some);
        parts = has.parts;
        at = omega (arith, at, size);
        first = first (λ memory. other (is ∙ ap (λ (f : PathFault). list_failure place (path_failure f)) memory));
      },
      is,
    )
