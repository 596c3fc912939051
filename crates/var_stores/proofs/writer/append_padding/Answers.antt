use Rattle.std.proofs.Common.{◌++◌, ◌-◌, ◌+◌, ℕ, List, ap, ◌∙◌}
use Rattle.std.proofs.Math.ListN.{replicate}
use Rattle.var_stores.proofs.NewRecords.{one_more}
use Rattle.var_stores.proofs.writer.append_padding.Goals as goal

pub loop-preserved : goal.loop-preserved
loop-preserved c =
    let end = c.padding_len-end.result in
    ap (λ (bytes : List ℕ). bytes ++ replicate (end - (c.loop.counter + 1)) 0xFF) c.in_ok-push.ensures.items
    ∙ one_more c.loop.bytes.items c.loop.counter end c.loop-test.true ∙ c.loop.invariant
