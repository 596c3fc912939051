-- The number is spelled by its bytes, and the digest is behind them.
use Rattle.std.proofs.Common.{arith}
use Rattle.boot_notes.proofs.Spellings.{digest_read}
use Rattle.boot_notes.proofs.reader.split_digest.Goals as goal

pub returns-clause-found : goal.returns-clause-found
returns-clause-found c =
    let number = c.in_ok-number.ensures.cases in
    let digest = c.in_ok-digest.ensures.cases in
    digest_read c.args.bytes.now c.in_ok-number.number.now c.in_ok-number.behind.now c.in_ok-digest.digest.now c.in_ok-digest.behind.now
    c.from_le_bytes.result (λ i. omega (arith, c.type_inv.bytes i)) (omega (arith, number.2)) number.0 number.1 digest.0 digest.1 c.from_le_bytes.ensures
