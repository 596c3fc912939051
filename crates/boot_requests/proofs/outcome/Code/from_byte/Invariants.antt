use Rattle.std.proofs.Common.{◌≡◌, ◌≢◌, ℕ, ◌<◌, get_or}
use Rattle.boot_requests.specs.declared.outcome.TheConstants.{CODES}
use Rattle.boot_requests.specs.declared.outcome.Code.TheVariants.{Done}
use Rattle.boot_requests.specs.Outcome.{code_byte}
use Rattle.boot_requests.proofs.outcome.Code.from_byte.Given as goal

abbrev pub invariant-loop-code : goal.invariant-loop-code
invariant-loop-code l = record {
  all : l.code-items ≡ CODES;
  none : (k : ℕ) → k < l.code-index → code_byte (get_or l.code-items k Done) ≢ l.byte;
}
