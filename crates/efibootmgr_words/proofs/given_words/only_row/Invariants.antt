use Rattle.efibootmgr_words.proofs.Rows.{IsSought}
use Rattle.efibootmgr_words.proofs.given_words.only_row.Given as goal

abbrev pub invariant-loop-row : goal.invariant-loop-row
invariant-loop-row l = IsSought l.name l.table l.row-index l.found
