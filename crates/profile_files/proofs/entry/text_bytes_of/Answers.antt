use Rattle.profile_files.proofs.entry.text_bytes_of.Goals as goal

pub returns : goal.returns
returns c = (c.in_ok-text_of.field-0.now, c.in_ok-text_of.ensures, c.in_ok-bytes.ensures)
