use Rattle.std.proofs.Common.{◌≡◌, Option, None, refl, sym, ap, subst, inl, inr, ◌∙◌}
use Rattle.uefi_vars.specs.Plan.{PlanParts}
use Rattle.boot_requests.specs.declared.update.Update.{Update}
use Rattle.boot_requests.specs.Turn.{Plain}
use Rattle.boot_requests.specs.Update.{with_plan, after_update}
use Rattle.boot_requests.proofs.keeper.Keeper.plan_left.Goals as goal

pub returns-in_ok-plan-in-Nothing : goal.returns-in_ok-plan-in-Nothing
returns-in_ok-plan-in-Nothing c =
    ap (λ (plan : Option PlanParts). after_update (with_plan c.args.self.now plan) c.args.update.now)
    (c.in_ok-plan-in-Nothing.ensures ∙ ap (λ (k : Plain). k.plan) c.self.view_is)

-- the plan goes, whatever it is
abbrev Goes : Plain → Update → Type 0
Goes k update = after_update (with_plan k None) update ≡ after_update k update

pub returns-in-Prepared : goal.returns-in-Prepared
returns-in-Prepared c =
    let k = c.args.self.now in
    elim c.in-Prepared.is [
      | inl prepared ↦ subst (Goes k) (sym prepared.1) refl
      | inr (inl handed_out) ↦ subst (Goes k) (sym handed_out) refl
      | inr (inr restarted) ↦ subst (Goes k) (sym restarted) refl
    ]
