-- Each update leaves a keeper that holds the plain state after it: its slots and its variables stand for the parts of that state.
use Rattle.std.proofs.Common.{Option, refl, sym, ap, subst, ◌∙◌, arith}
use Rattle.std.specs.FinMap.{empty}
use Rattle.uefi_vars.specs.Plan.{PlanParts}
use Rattle.uefi_vars.specs.Vars.{Variables}
use Rattle.uefi_vars.specs.NameChanges.{with_changes}
use Rattle.boot_requests.specs.declared.update.Update.{Update}
use Rattle.boot_requests.specs.declared.update.Update.TheVariants.{Waits, Applied, Prepared, Restarted}
use Rattle.boot_requests.specs.State.{State}
use Rattle.boot_requests.specs.Apply.{after_boot}
use Rattle.boot_requests.specs.Window.{Requests}
use Rattle.boot_requests.specs.Turn.{Plain}
use Rattle.boot_requests.specs.StateOf.{state_of, plain_of, image_of}
use Rattle.boot_requests.specs.Keeper.{IsStateOf}
use Rattle.boot_requests.specs.Slots.{waiting_of}
use Rattle.boot_requests.specs.Update.{after_update, Fits}
use Rattle.boot_requests.proofs.Variables.Images.{image_again}
use Rattle.boot_requests.proofs.Variables.StateOf.{stands_again, read_again}
use Rattle.boot_requests.proofs.Turn.Slots.{passed_between}
use Rattle.boot_requests.proofs.keeper.Keeper.update.Goals as goal

pub invariant_of-self : goal.invariant_of-self
invariant_of-self c =
    let fits = subst (λ (u : Update). Fits c.args.self.now u) c.in-Waits.is c.requires in
    let next_is = ap (λ (k : Plain). k.state.next_number) c.self.view_is in
    let kept = c.keep.ensures c.self.inside.mark.next_number c.self.invariant.waits (omega (arith, fits.0, next_is)) (omega (arith, fits.1, next_is)) fits.2 in
    record { stands = c.self.invariant.stands; waits = kept.0 }

pub returns-in-Waits : goal.returns-in-Waits
returns-in-Waits c =
    let inside = c.self.inside in
    let number = c.in-Waits.number in
    let request = c.in-Waits.request in
    let fits = subst (λ (u : Update). Fits c.args.self.now u) c.in-Waits.is c.requires in
    let next_is = ap (λ (k : Plain). k.state.next_number) c.self.view_is in
    let kept = c.keep.ensures inside.mark.next_number c.self.invariant.waits (omega (arith, fits.0, next_is)) (omega (arith, fits.1, next_is)) fits.2 in
    let after_update_is =
    ap (λ (requests : Requests). plain_of (state_of inside.vars inside.mark) requests inside.plan) kept.1
    ∙ ap (λ (k : Plain). after_update k (Waits number request)) c.self.view_is ∙ ap (after_update c.args.self.now) (sym c.in-Waits.is) in
    record { updated = after_update_is; unchanged = tt }

pub invariant_of-self-in-Applied : goal.invariant_of-self-in-Applied
invariant_of-self-in-Applied c =
    let inside = c.self.inside in
    let mark = c.in-Applied.mark in
    let changes = c.in-Applied.changes in
    let passed =
    passed_between c.next_number.result c.next_number-in-Applied.result inside.mark.next_number mark.next_number inside.window c.pass_to.new.self
    c.next_number.ensures c.next_number-in-Applied.ensures c.pass_to.ensures c.self.invariant.waits in
    let fits = subst (λ (u : Update). Fits c.args.self.now u) c.in-Applied.is c.requires in
    let image = ap (λ (k : Plain). image_of k.state) (sym c.self.view_is)
    ∙ image_again (state_of inside.vars inside.mark) inside.vars c.self.invariant.stands in
    let with_changes_is = ap (λ (v : Variables). with_changes v changes) image ∙ sym c.in_ok-make-in-Applied.ensures.made in
    record { stands = subst (λ (v : Variables). IsStateOf (state_of v mark) v) with_changes_is fits.1; waits = passed.0 }

pub returns-in_ok-make-in-Applied-clause-updated : goal.returns-in_ok-make-in-Applied-clause-updated
returns-in_ok-make-in-Applied-clause-updated c =
    let inside = c.self.inside in
    let mark = c.in-Applied.mark in
    let changes = c.in-Applied.changes in
    let passed =
    passed_between c.next_number.result c.next_number-in-Applied.result inside.mark.next_number mark.next_number inside.window c.pass_to.new.self
    c.next_number.ensures c.next_number-in-Applied.ensures c.pass_to.ensures c.self.invariant.waits in
    let image = image_again (state_of inside.vars inside.mark) inside.vars c.self.invariant.stands in
    let with_changes_is = c.in_ok-make-in-Applied.ensures.made ∙ ap (λ (v : Variables). with_changes v changes) (sym image) in
    ap (λ (v : Variables). plain_of (state_of v mark) (waiting_of mark.next_number c.pass_to.new.self) inside.plan) with_changes_is
    ∙ ap (λ (requests : Requests). plain_of (state_of (with_changes (image_of (state_of inside.vars inside.mark)) changes) mark) requests inside.plan) passed.1
    ∙ ap (λ (k : Plain). after_update k (Applied changes mark)) c.self.view_is ∙ ap (after_update c.args.self.now) (sym c.in-Applied.is)

pub invariant_of-self-in-Restarted : goal.invariant_of-self-in-Restarted
invariant_of-self-in-Restarted c = record { stands = c.self.invariant.stands; waits = (c.clear.ensures c.self.inside.mark.next_number).0 }

pub returns-in-Restarted : goal.returns-in-Restarted
returns-in-Restarted c =
    let inside = c.self.inside in
    let m = state_of inside.vars inside.mark in
    let after_update_is =
    ap (λ (requests : Requests). plain_of m requests c.set_plan-in-Restarted.new.plan) (c.clear.ensures inside.mark.next_number).1
    ∙ ap (λ (plan : Option PlanParts). plain_of m empty plan) c.set_plan-in-Restarted.ensures
    ∙ ap (λ (k : Plain). after_update k Restarted) c.self.view_is ∙ ap (after_update c.args.self.now) (sym c.in-Restarted.is) in
    record { updated = after_update_is; unchanged = tt }

pub invariant_of-self-in-Prepared : goal.invariant_of-self-in-Prepared
invariant_of-self-in-Prepared c = record { stands = stands_again _ _ _ refl (c.delete_next.ensures _ c.self.invariant.stands); waits = c.self.invariant.waits }

pub returns-in-Prepared : goal.returns-in-Prepared
returns-in-Prepared c =
    let inside = c.self.inside in
    let m = state_of inside.vars inside.mark in
    let waiting = waiting_of inside.mark.next_number inside.window in
    let after_update_is =
    ap (λ (s : State). plain_of s waiting c.set_plan.new.plan) (read_again _ _ _ refl (c.delete_next.ensures m c.self.invariant.stands))
    ∙ ap (λ (plan : Option PlanParts). plain_of (after_boot m) waiting plan) c.set_plan.ensures
    ∙ ap (λ (k : Plain). after_update k (Prepared c.in-Prepared.plan)) c.self.view_is ∙ ap (after_update c.args.self.now) (sym c.in-Prepared.is) in
    record { updated = after_update_is; unchanged = tt }
