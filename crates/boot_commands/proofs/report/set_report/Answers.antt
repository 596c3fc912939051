use Rattle.std.proofs.Common.{rules, ℕ, List, Result, Ok, Err, IfErr, inr}
use Rattle.uefi_vars.specs.Set.{SpellsSet}
use Rattle.uefi_vars.specs.Vars.{Variables}
use Rattle.boot_commands.specs.declared.refusal.Refusal.{Refusal}
use Rattle.boot_commands.specs.declared.refusal.Refusal.TheVariants as refusal
use Rattle.boot_commands.specs.Report.{IfInput, TellsVarFault, TellsSetFault}
use Rattle.boot_commands.proofs.report.set_report.Goals as goal

-- what is wrong with the variables is wrong with the set file that spells them
of_set : {T : Type 0} (bytes : List ℕ) (vars : Variables) (result : Result T Refusal) → SpellsSet bytes vars →
    IfErr result (λ r. IfInput r (TellsVarFault vars)) → IfErr result (λ r. IfInput r (TellsSetFault bytes))
of_set bytes vars (Ok report) spelled told = tt
of_set bytes vars (Err (refusal.Input words)) spelled told = inr (vars, spelled, told)
of_set bytes vars (Err refusal.Memory) spelled told = told

pub returns : goal.returns
returns c =
    let spelled : SpellsSet c.args.bytes.now c.in_ok-vars.vars = search rules in
    of_set c.args.bytes.now c.in_ok-vars.vars c.variables_report.result spelled c.variables_report.ensures
