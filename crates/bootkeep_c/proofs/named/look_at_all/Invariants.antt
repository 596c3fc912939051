use Rattle.std.proofs.Common.{◌≡◌, ◌^◌, ◌++◌, length, map, take}
use Rattle.uefi_text.specs.Bytes.{Each}
use Rattle.uefi_vars.specs.Vars.{entry_of}
use Rattle.bootkeep_c.specs.Named.{TellsNamed, next_names, order_name, AreKnown}
use Rattle.bootkeep_c.proofs.named.look_at_all.Given as goal

abbrev pub invariant-loop-number : goal.invariant-loop-number
invariant-loop-number l = record {
  room : length l.known ≡ 2 ^ 16;
  known : AreKnown (entry_of l.vars) l.known;
  told : Each (TellsNamed (entry_of l.vars)) (next_names l.fn.next ++ map order_name (take l.number-index l.order)) l.named.items;
}
