use Rattle.place_edits.proofs.brought.brought.Goals as goal

pub returns : goal.returns
returns c = record { held = c.in_ok-held.held; kept = c.in_ok-held.ensures; taken = c.in_ok-brought.ensures }
