use Rattle.std.proofs.Common.{sym, ◌∙◌}
use Rattle.profile_files.proofs.values.some_text_of.Goals as goal

pub returns : goal.returns
returns c =
    let read = c.in_ok-text.ensures in
    (read.0, read.1, read.2, read.3 ∙ sym c.in_ok-from_str.ensures.ok)
