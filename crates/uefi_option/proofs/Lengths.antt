-- How many bytes a load option has.
use Rattle.std.proofs.Common.{◌≡◌, ◌+◌, ◌*◌, ◌++◌, length, arith}
use Rattle.std.specs.Int.{w16, to_le_bytes}
use Rattle.std.proofs.lemmas.List.{length-append}
use Rattle.uefi_path.specs.Units.{units_bytes}
use Rattle.uefi_option.specs.LoadOption.{OptionParts, description_bytes, header_bytes, list_bytes, option_bytes}
use Rattle.uefi_option.proofs.Units.{TwoBytesEach}

pub length-option_bytes : TwoBytesEach → (o : OptionParts) →
    length (option_bytes o) ≡ (length o.description + 1) * 2 + 6 + length (list_bytes o.paths) + length o.optional
length-option_bytes two o =
    omega (
      arith,
      length-append (header_bytes o.attributes (length (list_bytes o.paths))) (description_bytes o.description ++ (list_bytes o.paths ++ o.optional)),
      length-append (description_bytes o.description) (list_bytes o.paths ++ o.optional),
      length-append (list_bytes o.paths) o.optional,
      length-append (units_bytes o.description) (to_le_bytes w16 0),
      (two o.description).1,
    )
