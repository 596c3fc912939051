use Rattle.std.proofs.Common.{◌≡◌, ◌<◌, false, length, get_or, take, refl, sym, ◌∙◌, inl, ⊎_elim, below_more, arith}
use Rattle.std.proofs.lemmas.Bool.{false≢true, not-true, not-false}
use Rattle.std.proofs.lemmas.List.{take_more}
use Rattle.boot_requests.specs.Apply.{is_in}
use Rattle.boot_edits.proofs.listed.check_each.Goals as goal

pub returns-then-not-new-clause-refused : goal.returns-then-not-new-clause-refused
returns-then-not-new-clause-refused c = λ told.
    let i = c.loop-number.number-index in
    let numbers = c.args.numbers.now in
    let within : i < length numbers = omega arith in
    let met = c.in_ok-new.ensures (take i numbers) c.loop-number.invariant.met in
    record { place = i; within = within; here = inl (not-false _ (sym met.0 ∙ c.if-not-new.true), refl); first = c.loop-number.invariant.fine }

pub loop-number-preserved : goal.loop-number-preserved
loop-number-preserved c =
    let i = c.loop-number.number-index in
    let numbers = c.args.numbers.now in
    let within : i < length numbers = omega arith in
    let met = c.in_ok-new.ensures (take i numbers) c.loop-number.invariant.met in
    let new : is_in (take i numbers) (get_or numbers i 0) ≡ false = not-true _ (sym met.0 ∙ c.if-not-new.false) in
    record {
      met = rw (take_more numbers i 0 within) met.1;
      fine = below_more _ _ c.loop-number.invariant.fine
          (λ f fault. ⊎_elim (λ twice. false≢true (sym new ∙ twice.0)) (λ other. c.in_ok-check_one.ensures.fine f other.1) fault);
    }

pub returns-clause-fine : goal.returns-clause-fine
returns-clause-fine c = λ place within f fault. c.loop-number.invariant.fine place (omega arith) f fault
