-- What is kept is what the record with the change leads to.
use Rattle.boot_journal.specs.declared.recorded.Move.TheVariants.{Made}
use Rattle.boot_journal.specs.RecordedValue.{store_of}
use Rattle.boot_journal.proofs.Records.{keeps}
use Rattle.boot_journal.proofs.recorded.Recorded.keep_change.Goals as goal

pub invariant_of-self : goal.invariant_of-self
invariant_of-self g c =
    let s = c.args.self.now in
    let kept =
    keeps (store_of s.first) (store_of s.now) (record { variables = c.args.vars; journal = s.now.journal }) s.moves.items c.push_reserved.new.self.items
    (Made c.args.change)
    s.vars_are s.journal_is c.push_reserved.ensures.items (λ i. record { variables = c.requires.leads i; journal = s.now.journal }) in
    record { vars_are = kept.0; journal_is = kept.1 }
