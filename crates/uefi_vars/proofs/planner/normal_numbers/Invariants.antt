use Rattle.std.proofs.Common.{take}
use Rattle.uefi_vars.specs.Vars.{entry_of}
use Rattle.uefi_vars.specs.ByNumber.{EachTells, HasMet}
use Rattle.uefi_vars.specs.NormalEntry.{TellsNormal, AreNormalNumbers}
use Rattle.uefi_vars.proofs.planner.normal_numbers.Given as goal

abbrev pub invariant-loop-place : goal.invariant-loop-place
invariant-loop-place l = record {
  tells : EachTells (TellsNormal (entry_of l.vars)) l.known;
  met : HasMet l.order l.place l.known;
  chosen : AreNormalNumbers (entry_of l.vars) (take l.place l.order) l.numbers.items;
}
