use Rattle.command_words.proofs.Texts.{none_named}
use Rattle.command_words.proofs.option.read_path.Goals as goal

pub returns-in-Err : goal.returns-in-Err
returns-in-Err c = record {
  found = tt;
  fault = c.text_fault.ensures (λ other path named. none_named c.read_named_text.result path c.in-Err.fault c.in-Err.is other (c.read_named_text.ensures.only path named));
}
