use Rattle.boot_notes.proofs.Spellings.{once}
use Rattle.boot_notes.proofs.laws.bytes_spell_notes_once.Goals as goal

pub returns : goal.returns
returns c = once
