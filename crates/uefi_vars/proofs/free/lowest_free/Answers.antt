use Rattle.std.proofs.Common.{Some, sym, ◌∙◌, arith}
use Rattle.std.proofs.lemmas.Bool.{false≢true}
use Rattle.std.proofs.lemmas.Bool.Decides.{Decides-eqb}
use Rattle.uefi_vars.proofs.LowestFree.{item_at, pass, taken_more, pass_next, none_stored}
use Rattle.uefi_vars.proofs.PlanComparison.{optional_Decides}
use Rattle.uefi_vars.proofs.free.lowest_free.Goals as goal
use Rattle.uefi_vars.proofs.free.lowest_free.Goals.{then-eq+in_ok-free, else-eq}

pub returns-in_err-free-clause-free : goal.returns-in_err-free-clause-free
returns-in_err-free-clause-free c =
    let vars = c.args.vars.now in
    let i = c.loop-variable.variable-index in
    let free = c.loop-variable.free in
    let items = c.variables-variable-items in
    let at = item_at vars items.result.now i c.variable-item.result items.ensures.pairs c.loop-variable-test.true c.variable-item.is in
    let same = (optional_Decides Decides-eqb c.entry_number.result (Some free)).0 (sym c.if-eq.ensures) in
    let named = sym c.as_str.ensures ∙ ((c.entry_number.ensures free).0 same).1 in
    rw c.from_residual.ensures (λ number fits. taken_more vars i _ at free named c.loop-variable.invariant.taken number (omega (arith, c.in_err-free.ensures)))

pub loop-variable-preserved : goal.loop-variable-preserved
loop-variable-preserved c =
    let vars = c.args.vars.now in
    let i = c.loop-variable.variable-index in
    let free = c.loop-variable.free in
    let items = c.variables-variable-items in
    let at = item_at vars items.result.now i c.variable-item.result items.ensures.pairs c.loop-variable-test.true c.variable-item.is in
    let before = c.loop-variable.invariant in
    let equal = optional_Decides Decides-eqb c.entry_number.result (Some free) in
    elim c.if-eq.branch [
      | then-eq+in_ok-free w ↦
          let named = sym c.as_str.ensures ∙ ((c.entry_number.ensures free).0 (equal.0 (sym w.if-eq.ensures))).1 in
          let more = w.in_ok-free.ensures in
          rw (w.free-is, more.1) (record {
            is = more.0;
            taken = taken_more vars i _ at free named before.taken;
            passed = pass_next vars i _ at free named more.0;
          })
      | else-eq w ↦
          rw w.free-is (record {
            is = before.is;
            taken = before.taken;
            passed = pass vars i _ at free before.passed (λ named.
                false≢true (w.if-eq.ensures ∙ equal.1 ((c.entry_number.ensures free).1 (before.is, c.as_str.ensures ∙ named))));
          })
    ]

pub returns-clause-free : goal.returns-clause-free
returns-clause-free c =
    let items = c.variables-variable-items in
    record {
      is = c.loop-variable.invariant.is;
      free = none_stored c.args.vars.now items.result.now c.loop-variable.variable-index c.loop-variable.free items.ensures.pairs
          c.loop-variable-test.false c.loop-variable.invariant.passed;
      taken = c.loop-variable.invariant.taken;
    }
