-- Commands over a machine whose moves C makes: what is run, where they begin, and what comes of each call.
use Rattle.std.specs.Prelude.{◌≡◌, ◌≢◌, ◌⊎◌, ◌==◌, if◌then◌else◌, ℕ, List, [], Option, Some, None, Result, Vec}
use Rattle.std.specs.Global.{Global}
use Rattle.uefi_vars.specs.Name.{IsName}
use Rattle.uefi_vars.specs.Vars.{Variables}
use Rattle.uefi_vars.specs.Set.{SpellsSet}
use Rattle.boot_requests.specs.declared.event.Event.{Event}
use Rattle.boot_requests.specs.EventStream.{IsStream}
use Rattle.boot_edits.specs.declared.edit.Edit.{Edit}
use Rattle.boot_journal.specs.declared.attributes.AttributesFault.TheVariants.{TooLong}
use Rattle.boot_journal.specs.declared.fault.JournalFault.{JournalFault}
use Rattle.boot_journal.specs.declared.journal_file.JournalFile.{JournalFile}
use Rattle.boot_journal.specs.declared.machine.CommandError.{CommandError}
use Rattle.boot_journal.specs.Attributes.{HasNoData}
use Rattle.boot_journal.specs.Bytes.{SpellsJournalFile, of_machine}
use Rattle.boot_journal.specs.Fault.{IsJournalFault}
use Rattle.boot_journal.specs.Journal.{JournalParts, idle}
use Rattle.boot_journal.specs.JournalAttributes.{journal_kept, IsFaultOfJournal}
use Rattle.machine_names.specs.MachineName.{IsMachineName}
use Rattle.boot_moves.specs.declared.parts.Answer.{Answer as Became}
use Rattle.boot_moves.specs.declared.parts.Answer.TheVariants.{Done, Refused, Perhaps}
use Rattle.boot_moves.specs.Deeds.{Act, Sets, Replaces}
use Rattle.boot_moves.specs.Exchanges.{Exchange, Asks, Ended, Tells as Hears, ExchangeLeads}
use Rattle.boot_moves.specs.Parts.{DialogueParts, running}
use Rattle.bootkeep_c.specs.declared.failure.Failure.{Failure}
use Rattle.bootkeep_c.specs.declared.refusal.Refusal.{Refusal}
use Rattle.bootkeep_c.specs.declared.edit.EditNumbers.{EditNumbers}
use Rattle.bootkeep_c.specs.declared.session.Session.{Session}
use Rattle.bootkeep_c.specs.declared.wanted_run.OwnedEdit.{OwnedEdit}
use Rattle.bootkeep_c.specs.declared.wanted_run.WantedRun.{WantedRun}
use Rattle.bootkeep_c.specs.declared.wanted_run.WantedRun.TheVariants as wanted
use Rattle.bootkeep_c.specs.declared.wanted_run.RunAnswer.{RunAnswer}
use Rattle.bootkeep_c.specs.declared.wanted_run.RunRefusal.{RunRefusal}
use Rattle.bootkeep_c.specs.Status.{done, absent, no_memory}
use Rattle.bootkeep_c.specs.Refusals.{bare, journal_failure, Tells}
use Rattle.bootkeep_c.specs.Buffer.{Gives, GivesUnless, IsKept}
use Rattle.bootkeep_c.specs.Runs.{IsStreamFailure}
use Rattle.bootkeep_c.specs.Sets.{IsSetFailure}
use Rattle.bootkeep_c.specs.Edits.{IsEditUnasked, IsEditAsked}
use Rattle.bootkeep_c.specs.Wanted.{RunLeads, RunRefuses}

-- ---- how it begins

-- The bytes of the journal's file are nothing, and the machine has no journal yet; or they spell the journal of the machine
-- of this name; or one of a file of version 1, which tells no name and has no attributes: those that are there are taken.
abbrev pub IsJournalOf : List ℕ → Variables → List ℕ → JournalParts → Type 0
IsJournalOf machine vars bytes journal =
    ((bytes ≡ []) × (journal ≡ idle None))
    ⊎ ((file : JournalFile) × SpellsJournalFile bytes file
    × (((file.machine ≡ Some machine) × (journal ≡ file.journal))
    ⊎ ((file.machine ≡ None) × (journal ≡ journal_kept vars file.journal))))

-- why bytes aren't the file of a journal that the machine of this name can go on with
abbrev pub IsJournalFailure : List ℕ → List ℕ → Failure → Type 0
IsJournalFailure machine bytes failed =
    ((fault : JournalFault) × IsJournalFault bytes fault × (failed ≡ journal_failure fault))
    ⊎ (((file : JournalFile) × (owner : List ℕ) × SpellsJournalFile bytes file × (file.machine ≡ Some owner) × (owner ≢ machine)
    × (failed ≡ bare 0x0C08))
    ⊎ ((file : JournalFile) × SpellsJournalFile bytes file × (file.machine ≡ None) × IsFaultOfJournal file.journal TooLong
    × (failed ≡ bare 0x0C09)))

-- the session begins a command that runs this over what was read of the machine of this name, under this identity of its start
pub record IsBegun (machine boot set journal : List ℕ) (run : WantedRun) (session : Session) : Type 0 where
  pub vars : Variables
  pub of : JournalParts
  pub spelled : SpellsSet set vars
  pub read : IsJournalOf machine vars journal of
  pub dialogue : session.dialogue ≡ record {
    machine = machine;
    first = record { variables = vars; journal = of };
    boot = boot;
    trace = [];
    asked = None;
  }
  pub wanted_is : session.wanted ≡ run
  pub going : session.ended ≡ None

-- why what was read of a machine isn't what a command begins with, after its name and the identity of its start
abbrev pub IsReadFailure : List ℕ → List ℕ → List ℕ → Failure → Type 0
IsReadFailure machine set journal failed =
    IsSetFailure set failed
    ⊎ ((vars : Variables) × SpellsSet set vars × IsJournalFailure machine journal failed)

-- why none is begun: of several reasons the first one, in this order
abbrev pub IsBeginFailure : List ℕ → List ℕ → List ℕ → List ℕ → Failure → Type 0
IsBeginFailure machine boot set journal failed =
    ((¬ IsMachineName machine) × (failed ≡ bare 0x0D01))
    ⊎ ((IsMachineName machine × (¬ IsName boot) × (failed ≡ bare 0x0D02))
    ⊎ (IsMachineName machine × IsName boot × IsReadFailure machine set journal failed))

-- why none is begun that runs a stream of frames: the stream isn't one, or, of one that is, as above
abbrev pub IsUnbegunBy : List ℕ → List ℕ → List ℕ → List ℕ → List ℕ → Failure → Type 0
IsUnbegunBy machine boot set journal stream failed =
    IsStreamFailure stream failed
    ⊎ ((events : List Event) × IsStream stream events × IsBeginFailure machine boot set journal failed)

-- why none is begun that makes an edit: no edit is asked for, or, of one that is, as above
abbrev pub IsUnbegunWith : List ℕ → List ℕ → List ℕ → List ℕ → EditNumbers → List ℕ → List ℕ → Failure → Type 0
IsUnbegunWith machine boot set journal asked numbers option failed =
    IsEditUnasked asked failed
    ⊎ ((edit : Edit) × IsEditAsked asked numbers option edit × IsBeginFailure machine boot set journal failed)

-- the session begins one that runs a stream of frames
abbrev pub IsBegunBy : List ℕ → List ℕ → List ℕ → List ℕ → List ℕ → Session → Type 0
IsBegunBy machine boot set journal stream session =
    (events : Vec Event Global) × IsStream stream events.items × IsBegun machine boot set journal (wanted.Frames events) session

-- the session begins one that makes an edit, with these numbers and these bytes
pub record IsBegunWith (machine boot set journal : List ℕ) (asked : EditNumbers) (numbers option : List ℕ) (session : Session) : Type 0 where
  pub owned : OwnedEdit
  pub asked_is : owned.asked ≡ asked
  pub numbers_are : owned.numbers.items ≡ numbers
  pub option_is : owned.option.items ≡ option
  pub edit : Edit
  pub asks : IsEditAsked asked numbers option edit
  pub begun : IsBegun machine boot set journal (wanted.Edit owned) session

-- the session begins one that brings back the boot manager's variables of a set with these bytes
abbrev pub IsBegunBack : List ℕ → List ℕ → List ℕ → List ℕ → List ℕ → Session → Type 0
IsBegunBack machine boot set journal bytes session =
    (back : Variables) × SpellsSet bytes back × IsBegun machine boot set journal (wanted.Restore back) session

-- why bytes aren't a set that is brought back: they are no set, or a variable of the boot manager has no data in it
abbrev pub IsBackFailure : List ℕ → Failure → Type 0
IsBackFailure bytes failed =
    IsSetFailure bytes failed
    ⊎ ((back : Variables) × SpellsSet bytes back × HasNoData back × (failed ≡ bare 0x0D03))

-- why none is begun that does: by such a set, or, of one that is brought back, as above
abbrev pub IsUnbegunBack : List ℕ → List ℕ → List ℕ → List ℕ → List ℕ → Failure → Type 0
IsUnbegunBack machine boot set journal bytes failed =
    IsBackFailure bytes failed
    ⊎ ((back : Variables) × SpellsSet bytes back × IsBeginFailure machine boot set journal failed)

-- What comes of a call that begins a command: the session is open, or it is closed and the failure is told, or memory was
-- refused.
abbrev pub Begins : (Session → Type 0) → (Failure → Type 0) → ℕ → Option Session → Refusal → Refusal → Type 0
Begins Is Fails status after old_why why =
    ((session : Session) × Is session × (status ≡ done) × (after ≡ Some session) × (why ≡ old_why))
    ⊎ (((failed : Failure) × Fails failed × Tells failed status old_why why × (after ≡ None))
    ⊎ ((status ≡ no_memory) × (after ≡ None) × (why ≡ old_why)))

-- ---- what is said

-- what an exchange is of such a command
abbrev pub Said : Type 0
Said = Exchange RunAnswer RunRefusal

-- from the one session to the other by what the contracts of boot_moves say of this exchange: the laws there speak of lists of
-- such exchanges
abbrev pub Leads : Session → Said → Session → Type 0
Leads from said to =
    (to.wanted ≡ from.wanted)
    × ExchangeLeads RunLeads RunRefuses (running from.wanted from.dialogue) said (running to.wanted to.dialogue)

-- the number of a move
abbrev pub act_number : Act → ℕ
act_number (Sets name (Some kept)) = 1
act_number (Sets name None) = 2
act_number (Replaces journal) = 3

-- a move comes next, and its number is told, or the command ended, and no number of one is
abbrev pub SaysMove : Session → Session → ℕ → Type 0
SaysMove from to kind =
    ((act : Act) × (to.dialogue.asked ≡ Some act) × (kind ≡ act_number act) × (to.ended ≡ None) × Leads from Asks to)
    ⊎ ((ended : Result RunAnswer (CommandError ℕ RunRefusal)) × (kind ≡ 0) × (to.ended ≡ Some ended) × Leads from (Ended ended) to)

-- the same, unless memory was refused, and nothing has happened
abbrev pub SaysNext : ℕ → Session → Session → ℕ → ℕ → Type 0
SaysNext status from to old_kind kind =
    ((status ≡ done) × SaysMove from to kind) ⊎ ((status ≡ no_memory) × (to ≡ from) × (kind ≡ old_kind))

-- what became of a move, by its number: one that isn't known is taken for a move that may have been made
abbrev pub became : ℕ → ℕ → Became
became what reason = if what == 0 then Done else (if what == 1 then Refused reason else Perhaps reason)

-- the status of a call that tells it
abbrev pub told_status : Option Act → ℕ
told_status None = absent
told_status (Some act) = done

-- what comes of a call that tells what became of the move that is asked for, if one is
pub record HearsOf (answer : Became) (status : ℕ) (from to : Session) : Type 0 where
  pub leads : Leads from (Hears answer) to
  pub status_is : status ≡ told_status from.dialogue.asked
  pub ended : to.ended ≡ from.ended

-- ---- the move that is asked for

-- its name is given, if it is of a variable
abbrev pub GivesName : Option Act → ℕ → List ℕ → List ℕ → ℕ → ℕ → Type 0
GivesName (Some (Sets name kept)) status old new old_len len = Gives status name old new len
GivesName _ status old new old_len len = (status ≡ absent) × IsKept old new old_len len

-- its bytes are given: those that the variable is set to, or those of the journal's file
abbrev pub GivesBytes : List ℕ → Option Act → ℕ → List ℕ → List ℕ → ℕ → ℕ → Type 0
GivesBytes machine (Some (Sets name (Some kept))) status old new old_len len = Gives status kept old new len
GivesBytes machine (Some (Replaces journal)) status old new old_len len =
    ((bytes : List ℕ) × SpellsJournalFile bytes (of_machine machine journal) × Gives status bytes old new len)
    ⊎ ((status ≡ no_memory) × IsKept old new old_len len)
GivesBytes machine _ status old new old_len len = (status ≡ absent) × IsKept old new old_len len
