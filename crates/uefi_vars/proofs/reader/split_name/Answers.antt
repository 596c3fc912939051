use Rattle.std.proofs.Common.{◌∙◌, ℕ, ◌∷◌, ap, sym}
use Rattle.std.proofs.lemmas.Bool.{false≢true}
use Rattle.uefi_vars.proofs.Readings.{bad_character}
use Rattle.uefi_vars.proofs.reader.split_name.Goals as goal

pub returns-then-not-is_name-clause-fault : goal.returns-then-not-is_name-clause-fault
returns-then-not-is_name-clause-fault c =
    let front = c.in-Some.ensures.cases.0 ∙ ap (λ (n : ℕ). n ∷ c.in-Some.behind.now) (sym c.from-len.ensures) in
    bad_character c.args.bytes.now c.from-len.result c.in-Some.behind.now c.split_at.result.0.now c.split_at.result.1.now
    c.args.place front c.split_at.ensures.by_index.0 c.split_at.ensures.front_len c.if-len-eq0.false c.if-len-gt-NAME_MAX.false
    (λ is. false≢true (sym c.if-not-is_name.true ∙ c.is_name.ensures.1 is))
