-- The length that was tested is that of the name.
use Rattle.std.proofs.Common.{◌≡◌, length, sym, ap, ◌∙◌, arith}
use Rattle.boot_journal.proofs.Fields.{first_fits}
use Rattle.boot_journal.proofs.reader.split_machine.Goals as goal

pub returns-clause-valid : goal.returns-clause-valid
returns-clause-valid c = record {
  some = λ none. let empty : length c.split_at.result.0.now ≡ 0 = ap length none in
      c.if-len-eq0.false (sym c.split_at.ensures.front_len ∙ empty);
  len = omega (arith, c.split_at.ensures.front_len, c.if-len-gt-MACHINE_NAME_MAX.false);
  bytes =
      first_fits c.args.bytes.now c.in_ok-len.behind.now c.split_at.result.0.now c.split_at.result.1.now
      (λ i. omega (arith, c.type_inv.bytes i)) c.in_ok-len.ensures.behind c.split_at.ensures.by_index.0;
}
