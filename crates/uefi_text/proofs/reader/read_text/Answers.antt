use Rattle.uefi_text.specs.Path.{IsPathText}
use Rattle.uefi_text.specs.Fault.{IsTextFault}
use Rattle.uefi_text.proofs.Read.Only.{only_answer}
use Rattle.uefi_text.proofs.reader.read_text.Goals as goal

pub returns-clause-only : goal.returns-clause-only
returns-clause-only c =
    let text = c.args.text.now in
    let read = c.path_of.ensures in
    only_answer (IsPathText text) (IsTextFault text) c.path_of.result
    (rw c.as_bytes.ensures.value at read.found) (rw c.as_bytes.ensures.value at read.fault)
    (c.a_text_stands_for_one_path.ensures text) (c.a_text_with_a_fault_stands_for_no_path.ensures text)
