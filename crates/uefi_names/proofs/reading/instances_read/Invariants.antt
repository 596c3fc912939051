use Rattle.std.proofs.Common.{◌≤◌, ◌-◌, length, map, drop}
use Rattle.uefi_names.specs.Reading.{IsNamedInstance}
use Rattle.uefi_names.proofs.Finds.{IsReadTo}
use Rattle.uefi_names.proofs.reading.instances_read.Given as goal

abbrev pub invariant-loop-text : goal.invariant-loop-text
invariant-loop-text l = record {
  read : IsReadTo (IsNamedInstance l.table) (map (λ text. text.now) l.texts) (drop l.index (map (λ text. text.now) l.texts)) (map (λ nodes. nodes.items) l.all.items);
  within : l.index ≤ length l.texts;
}

abbrev pub decreases-loop-text : goal.decreases-loop-text
decreases-loop-text l = length l.texts - l.index
