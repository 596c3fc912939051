use Rattle.std.proofs.Common.{◌≡◌, List, map, take}
use Rattle.std.specs.List.{AllByRecursion}
use Rattle.boot_requests.specs.declared.outcome.Code.{Code}
use Rattle.boot_requests.specs.Outcome.{without_entry, code_byte}
use Rattle.boot_requests.specs.StoredState.{IsFirstCode}
use Rattle.boot_requests.proofs.mark.read_codes.Given as goal

abbrev pub invariant-loop-byte : goal.invariant-loop-byte
invariant-loop-byte l = (known : List Code) × AllByRecursion IsFirstCode known
    × (map code_byte known ≡ take l.byte-index l.codes) × (l.kept.items ≡ map without_entry known)
