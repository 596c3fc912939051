use Rattle.std.proofs.Common.{◌∙◌, ℕ, List, sym, ap, subst, length, ◌++◌, ◌-◌, arith}
use Rattle.std.proofs.lemmas.List.{length-append}
use Rattle.boot_requests.specs.Pieces.{IsMissing}
use Rattle.boot_requests.proofs.Streams.Headers.{missing_less}
use Rattle.boot_requests.proofs.inbox.still_missing.Goals as goal

pub returns-clause-count : goal.returns-clause-count
returns-clause-count c = λ before front parts taken missing.
    let len = ap length parts ∙ length-append before front in
    let few = c.requires.few in
    let whole = c.if-held-taken-lt-HEADER_LEN.false in
    let less = missing_less before front c.args.before (omega (arith, len, taken, whole)) (omega (arith, taken, few)) missing in
    subst (λ (t : List ℕ). IsMissing t (c.args.before - c.args.taken)) (sym parts)
    (subst (λ (n : ℕ). IsMissing (before ++ front) (c.args.before - n)) taken less)
