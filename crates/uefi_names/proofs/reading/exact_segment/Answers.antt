use Rattle.std.proofs.lemmas.Result.{IfOk-weaker}
use Rattle.uefi_names.specs.Reading.{IsAgain, IsExactSegment, respelled, Finds}
use Rattle.uefi_names.proofs.Finds.{exact_again}
use Rattle.uefi_names.proofs.reading.exact_segment.Goals as goal

pub returns-in-None : goal.returns-in-None
returns-in-None c =
    let text = c.args.text.now in
    IfOk-weaker c.exact_again.result (λ read. Finds (IsAgain (respelled text)) read) (λ read. Finds (IsExactSegment text) read)
    (λ read again. exact_again text read (rw c.in-None.is at c.in_ok-node.ensures) again) c.exact_again.ensures
