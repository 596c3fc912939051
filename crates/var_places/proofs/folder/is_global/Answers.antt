use Rattle.std.proofs.Common.{◌≡◌, List, ℕ, subst}
use Rattle.std.proofs.lemmas.Bool.Decides.{Decides-eqb}
use Rattle.std.proofs.lemmas.Slice.Eq.{slice_eq-Decides}
use Rattle.uefi_path.specs.declared.guid.Guid.{Guid}
use Rattle.uefi_text.specs.Guid.{IsGuid}
use Rattle.uefi_vars.specs.Name.{global_vendor}
use Rattle.var_places.proofs.folder.is_global.Goals as goal

global : Guid
global = record { 0 = global_vendor }

pub returns-in-Some : goal.returns-in-Some
unfolding global
returns-in-Some c =
    let decides = slice_eq-Decides Decides-eqb c.in-Some.guid.0 global_vendor c.eq.result c.eq.ensures in (
      λ yes. subst (λ (guid : List ℕ). IsGuid c.args.text.now guid) (decides.0 yes) c.in-Some.ensures.found,
      λ is. let same : c.in-Some.guid.0 ≡ global_vendor = cc (c.in-Some.ensures.only global is) in decides.1 same,
    )

pub returns-in-None : goal.returns-in-None
unfolding global
returns-in-None c = (λ no. absurd (cc no), λ is. cc (c.in-None.ensures.only global is))
