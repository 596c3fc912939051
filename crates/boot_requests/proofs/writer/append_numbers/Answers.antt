use Rattle.std.proofs.Common.{arith}
use Rattle.boot_requests.proofs.Frames.TwoBytes.{numbers_from_fits}
use Rattle.boot_requests.proofs.writer.append_numbers.Goals as goal

pub returns-clause-valid : goal.returns-clause-valid
returns-clause-valid c = numbers_from_fits c.args.numbers.now (λ i. omega (arith, c.type_inv.numbers i))
