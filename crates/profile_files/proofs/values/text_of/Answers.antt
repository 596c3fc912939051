use Rattle.std.proofs.Common.{rules}
use Rattle.profile_files.proofs.values.text_of.Goals as goal

pub returns-in-Text : goal.returns-in-Text
returns-in-Text c = (c.in-Text.field-0, c.in-Text.text, c.in-Text.is, search rules)
