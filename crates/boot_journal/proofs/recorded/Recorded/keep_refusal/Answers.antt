-- A refusal changes nothing.
use Rattle.std.proofs.Common.{refl}
use Rattle.boot_journal.specs.declared.recorded.Move.TheVariants.{Refused}
use Rattle.boot_journal.specs.RecordedValue.{store_of}
use Rattle.boot_journal.proofs.Records.{keeps}
use Rattle.boot_journal.proofs.recorded.Recorded.keep_refusal.Goals as goal

pub invariant_of-self : goal.invariant_of-self
invariant_of-self g c =
    let s = c.args.self.now in
    let kept = keeps (store_of s.first) (store_of s.now) (store_of s.now) s.moves.items c.push_reserved.new.self.items Refused
    s.vars_are s.journal_is c.push_reserved.ensures.items refl in
    record { vars_are = kept.0; journal_is = kept.1 }
