use Rattle.partitions.proofs.Fronts.{no_front, with_front}
use Rattle.partitions.proofs.leading.behind.Goals as goal

pub returns-in_err-rest : goal.returns-in_err-rest
returns-in_err-rest c =
    rw c.from_residual.ensures (λ rest. no_front c.args.folder.now c.args.path.now rest (rw c.stem.ensures at c.in_err-rest.ensures.cases))

pub returns-then-is_behind_folder : goal.returns-then-is_behind_folder
returns-then-is_behind_folder c =
    let cases = rw c.stem.ensures at c.in_ok-rest.ensures.cases in
    record {
      parts = with_front c.args.folder.now c.args.path.now c.in_ok-rest.rest.now cases.0 cases.1;
      behind = c.is_behind_folder.ensures.0 c.if-is_behind_folder.true;
    }
