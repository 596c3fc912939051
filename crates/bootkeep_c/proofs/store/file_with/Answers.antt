use Rattle.std.proofs.Common.{◌≢◌, inr}
use Rattle.std.proofs.lemmas.Result.{IfOk-weaker, IfErr-weaker}
use Rattle.boot_journal.specs.Attributes.{data_of}
use Rattle.var_stores.specs.Rewriting.{IsWritten}
use Rattle.bootkeep_c.specs.declared.failure.Failure.TheVariants.{Memory}
use Rattle.bootkeep_c.specs.Stores.{IsUnwritten, IsFileWith, IsNoFileWith}
use Rattle.bootkeep_c.proofs.store.file_with.Goals as goal

pub returns-clause-made : goal.returns-clause-made
returns-clause-made c =
    let file = c.args.file.now in
    let kept = c.in_ok-kept.kept in
    IfOk-weaker c.rewritten.result
    (λ bytes. IsWritten file (data_of kept) kept bytes.items)
    (λ bytes. IsFileWith file c.args.set.now bytes.items)
    (λ bytes written. (kept, c.in_ok-kept.ensures.found, written)) c.rewritten.ensures.made

pub returns-clause-fault : goal.returns-clause-fault
returns-clause-fault c =
    let file = c.args.file.now in
    let kept = c.in_ok-kept.kept in
    IfErr-weaker c.rewritten.result
    (λ failed. failed ≢ Memory → IsUnwritten file kept failed)
    (λ failed. failed ≢ Memory → IsNoFileWith file c.args.set.now failed)
    (λ failed why other. inr (kept, c.in_ok-kept.ensures.found, why other)) c.rewritten.ensures.fault
