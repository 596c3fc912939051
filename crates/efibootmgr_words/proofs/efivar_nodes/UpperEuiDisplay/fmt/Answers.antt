use Rattle.std.proofs.Output.{has_written_of_eq}
use Rattle.efibootmgr_words.proofs.Digits.{upper_eui_cells}
use Rattle.efibootmgr_words.proofs.efivar_nodes.UpperEuiDisplay.fmt.Goals as goal

pub returns-clause-writes : goal.returns-clause-writes
returns-clause-writes g c = λ plain ok.
    has_written_of_eq _ _ _ _ _ (upper_eui_cells c.args.self.now.0.now c.field.ensures.valid.0) (c.write.ensures.writes plain ok)
