use Rattle.std.proofs.Common.{◌≡◌, drop, map}
use Rattle.std.specs.List.{find}
use Rattle.uefi_names.specs.Spelled.{is_word}
use Rattle.uefi_names.specs.Reading.{profile_name}
use Rattle.uefi_names.proofs.reading.profile_name.Given as goal

abbrev pub invariant-loop-known : goal.invariant-loop-known
invariant-loop-known l = find (is_word l.name) (map (λ known. known.now) (drop l.known-index l.names)) ≡ profile_name l.name
