-- What the changes are for that a machine's storage is asked to make.
use Rattle.std.specs.Prelude.{Bool, true, false}
use Rattle.machine_storage.specs.declared.moves.Moves.{Moves}
use Rattle.machine_storage.specs.declared.moves.Moves.TheVariants.{Idle, Settling, First, Back}
use Rattle.machine_storage.specs.declared.moves.Way.{Way}
use Rattle.machine_storage.specs.declared.moves.Way.TheVariants.{Whatever, IfUnchanged, NotAtAll}

-- what is being done after this, once the journal is replaced by one that has nothing left to do, or has something: an update
-- of this run begins, or is taken back; what an earlier run left stays that
abbrev pub after_journal : Moves → Bool → Moves
after_journal moves true = Idle
after_journal Idle false = First
after_journal Settling false = Settling
after_journal First false = Back
after_journal Back false = Back

-- how a change is made then, of a variable that this run has begun to write, or hasn't
abbrev pub way_for : Moves → Bool → Way
way_for Idle begun = Whatever
way_for Settling begun = Whatever
way_for First begun = IfUnchanged
way_for Back true = Whatever
way_for Back false = NotAtAll
