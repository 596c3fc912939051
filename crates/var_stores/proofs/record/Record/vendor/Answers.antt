use Rattle.std.proofs.Common.{sym, arith}
use Rattle.std.proofs.lemmas.List.{drop_all}
use Rattle.var_stores.proofs.record.Record.vendor.Goals as goal

pub returns-in-None : goal.returns-in-None
returns-in-None c = let few = c.in-None.ensures.cases in sym (drop_all 41 c.args.self.now.header.now (omega (arith, few)))
