-- Numbers are marked one after the other: one that is marked already is there twice.
use Rattle.std.proofs.Common.{◌≡◌, ◌<◌, ◌+◌, ℕ, true, false, length, get_or, take, refl, sym, subst, ◌∙◌, arith}
use Rattle.std.proofs.Math.ListN.{set, length-set}
use Rattle.boot_requests.specs.Apply.{is_in}
use Rattle.boot_requests.proofs.Variables.OrderLists.{twice, once_more, marks_more, was_there}
use Rattle.boot_requests.proofs.effect.has_repeat_of_many.Goals as goal

pub loop-number-init : goal.loop-number-init
loop-number-init c = record { len = c.in_ok-marked.ensures.len; marked = λ k h. c.in_ok-marked.ensures.unset k; once = refl }

pub returns-then-index : goal.returns-then-index
returns-then-index c =
    let i = c.loop-number.number-index in
    let numbers = c.args.numbers.now in
    let marked = c.loop-number.invariant in
    let within : i < length numbers = omega arith in
    let fits : c.from-place.result < 65536 = omega (arith, c.type_inv.numbers i, c.from-place.ensures) in
    let there =
    was_there numbers i within c.loop-number.marked.items marked.len marked.marked c.from-place.result c.index.result.now fits c.from-place.ensures
    c.index.ensures in
    sym (twice numbers i within (sym there ∙ c.if-index.true))

pub loop-number-preserved : goal.loop-number-preserved
loop-number-preserved c =
    let i = c.loop-number.number-index in
    let numbers = c.args.numbers.now in
    let marked = c.loop-number.invariant in
    let within : i < length numbers = omega arith in
    let fits : c.from-place.result < 65536 = omega (arith, c.type_inv.numbers i, c.from-place.ensures) in
    let small : get_or numbers i 0 < 65536 = omega (arith, c.type_inv.numbers i) in
    let there =
    was_there numbers i within c.loop-number.marked.items marked.len marked.marked c.from-place.result c.index.result.now fits c.from-place.ensures
    c.index.ensures in
    record {
      len = simp length-set marked.len;
      marked = λ k h. subst (λ (p : ℕ). get_or (set c.loop-number.marked.items p true) k false ≡ is_in (take (i + 1) numbers) k) (sym c.from-place.ensures)
          (marks_more numbers i within c.loop-number.marked.items marked.len small marked.marked k h);
      once = once_more numbers i within marked.once (sym there ∙ c.if-index.false);
    }
