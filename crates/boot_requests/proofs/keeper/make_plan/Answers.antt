use Rattle.std.proofs.Common.{ℕ, List, Option, subst}
use Rattle.std.specs.FinMap.{get}
use Rattle.uefi_vars.specs.Vars.{entry_of}
use Rattle.uefi_vars.specs.Plan.{IsPlan}
use Rattle.boot_requests.proofs.keeper.make_plan.Goals as goal

pub returns-in-Ok : goal.returns-in-Ok
returns-in-Ok c = λ m h.
    let vars = c.args.vars.now in
    let plan = c.in-Ok.plan in
    let has = c.in-Ok.ensures.found in
    let order = c.variables_have_one_order.ensures vars has.order m.order has.has_order (record { is = h.is.order; stored = h.image.order }) in
    let next = c.variables_have_one_next.ensures vars has.next m.boot_next has.has_next (record { is = h.is.next; stored = h.image.next }) in
    let read = c.a_plan_reads_entries_alone.ensures (entry_of vars)
    (get m.entries) has.order has.next plan has.has_order.is.numbers has.has_next.is h.image.entry has.is in
    subst (λ (o : List ℕ). IsPlan (get m.entries) o m.boot_next plan) order (subst (λ (n : Option ℕ). IsPlan (get m.entries) has.order n plan) next read)
