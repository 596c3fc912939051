-- What contracts see of a command that is made move by move.
use Rattle.std.specs.Prelude.{ℕ, List, Option, None}
use Rattle.boot_journal.specs.Store.{Store}
use Rattle.boot_moves.specs.declared.parts.Answer.{Answer}
use Rattle.boot_moves.specs.Deeds.{Act, Deed, told_then}

-- where it begins: what the machine is called, what is there, under which identity of its start, and what is run
pub record Begun (R : Type 0) : Type 0 where
  pub machine : List ℕ
  pub first : Store
  pub boot : List ℕ
  pub run : R

-- where it began, the moves that were told with what became of each, and the one that is asked for
pub record MovesParts (R : Type 0) : Type 0 where
  pub begun : Begun R
  pub trace : List Deed
  pub asked : Option Act

-- the same once this was told of what is asked for, if something is
abbrev pub told_of : {R : Type 0} → Answer → MovesParts R → MovesParts R
told_of answer m = record { begun = m.begun; trace = told_then m.trace m.asked answer; asked = None }

-- ---- without what is run

-- what the machine is called, what was there, the identity of its start, the moves that were told, and the one that is asked for
pub record DialogueParts : Type 0 where
  pub machine : List ℕ
  pub first : Store
  pub boot : List ℕ
  pub trace : List Deed
  pub asked : Option Act

-- the same once this was told of what is asked for, if something is
abbrev pub heard : Answer → DialogueParts → DialogueParts
heard answer d = record {
  machine = d.machine;
  first = d.first;
  boot = d.boot;
  trace = told_then d.trace d.asked answer;
  asked = None;
}

-- the same with what is run
abbrev pub running : {R : Type 0} → R → DialogueParts → MovesParts R
running run d = record {
  begun = record { machine = d.machine; first = d.first; boot = d.boot; run = run };
  trace = d.trace;
  asked = d.asked;
}
