use Rattle.boot_requests.proofs.Frames.Readings.{bytes_end}
use Rattle.boot_requests.proofs.laws.bytes_spell_a_request_or_have_a_fault.Goals as goal

pub returns : goal.returns
returns c = bytes_end (c.bytes_are_written_again.ensures, c.two_bytes_are_a_unit.ensures) c.bytes_spell_an_option_or_have_a_fault.ensures
