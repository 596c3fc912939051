-- What is there, with what is still to be set, is what is wanted, and what is still to come is there.
use Rattle.std.proofs.Common.{◌≡◌}
use Rattle.uefi_vars.specs.Iter.{variables_left}
use Rattle.uefi_vars.specs.NameChanges.{after_each}
use Rattle.boot_journal.specs.Attributes.{kept_with, with_attributes}
use Rattle.boot_journal.proofs.WithAttributes.{AreIn, rewritten}
use Rattle.boot_journal.proofs.attributes.with_attributes.Given as goal

abbrev pub invariant-loop-name : goal.invariant-loop-name
invariant-loop-name l = record {
  all : AreIn l.vars (variables_left l.name-iterator);
  is : after_each l.kept (rewritten (kept_with l.there) (variables_left l.name-iterator)) ≡ with_attributes l.there l.vars;
}
