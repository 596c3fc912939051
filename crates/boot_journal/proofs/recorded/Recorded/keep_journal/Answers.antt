-- What is kept is what the record with the journal leads to.
use Rattle.std.proofs.Common.{sym}
use Rattle.boot_journal.specs.declared.recorded.Move.TheVariants.{Replaced}
use Rattle.boot_journal.specs.RecordedValue.{store_of}
use Rattle.boot_journal.proofs.Records.{keeps}
use Rattle.boot_journal.proofs.recorded.Recorded.keep_journal.Goals as goal

pub invariant_of-self : goal.invariant_of-self
invariant_of-self g c =
    let s = c.args.self.now in
    let kept =
    keeps (store_of s.first) (store_of s.now) (record { variables = s.now.vars; journal = c.args.journal }) s.moves.items c.push_reserved.new.self.items
    (Replaced c.args.kept)
    s.vars_are s.journal_is c.push_reserved.ensures.items (λ i. record { variables = s.now.vars; journal = sym c.requires.same i }) in
    record { vars_are = kept.0; journal_is = kept.1 }
