use Rattle.std.proofs.Common.{drop}
use Rattle.boot_profiles.specs.Applied.{IsAmong}
use Rattle.boot_profiles.proofs.entries.is_among.Given as goal

-- none of those so far has the description
abbrev pub invariant-loop-place : goal.invariant-loop-place
invariant-loop-place l = record {
  back : IsAmong (drop l.place l.entries) l.description → IsAmong l.entries l.description;
  forth : IsAmong l.entries l.description → IsAmong (drop l.place l.entries) l.description;
}
