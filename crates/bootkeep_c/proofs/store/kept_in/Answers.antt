use Rattle.var_stores.specs.Volume.{store_parts}
use Rattle.bootkeep_c.proofs.store.kept_in.Goals as goal

pub returns-clause-made : goal.returns-clause-made
returns-clause-made c = record {
  store = store_parts c.in_ok-store.store;
  kept = c.in_ok-kept.kept;
  spelled = c.in_ok-store.ensures.found;
  are = c.in_ok-kept.ensures.kept;
  is = c.in_ok-write_set.ensures.written;
}
