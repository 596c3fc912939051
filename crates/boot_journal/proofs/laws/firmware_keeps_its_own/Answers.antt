-- By what is found under each name.
use Rattle.boot_journal.proofs.Firmware.{others_stay, made_over}
use Rattle.boot_journal.proofs.laws.firmware_keeps_its_own.Goals as goal

pub returns-clause-others : goal.returns-clause-others
returns-clause-others c = others_stay

pub returns-clause-over : goal.returns-clause-over
returns-clause-over c = made_over
