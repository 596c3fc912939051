-- The length that was tested is that of the identity, and its characters were tested.
use Rattle.std.proofs.Common.{◌≡◌, length, sym, ap, ◌∙◌, arith}
use Rattle.boot_journal.proofs.Fields.{printing_bytes}
use Rattle.boot_journal.proofs.reader.split_identity.Goals as goal

pub returns-clause-valid : goal.returns-clause-valid
returns-clause-valid c = record {
  some = λ none. let empty : length c.split_at.result.0.now ≡ 0 = ap length none in
      c.if-len-eq0.false (sym c.split_at.ensures.front_len ∙ empty);
  len = omega (arith, c.split_at.ensures.front_len, c.if-len-gt-NAME_MAX.false);
  printing = printing_bytes c.split_at.result.0.now (sym c.is_printing.ensures ∙ c.if-not-is_printing.false);
}
