-- What spells a journal is read as that, and what has a first fault stops being read there: field by field, by `Fields`, with what was
-- read before.
use Rattle.std.proofs.Common.{◌≡◌, ℕ, zero, suc, ◌+◌, ◌<◌, ◌≤◌, List, [], ◌∷◌, ◌++◌, length, Option, Some, None, IfSome, Result, Ok, Err, refl, sym, ap}
use Rattle.std.proofs.Common.{subst, ◌∙◌, inl, inr, arith, append_assoc}
use Rattle.std.specs.List.{AllByRecursion}
use Rattle.std.proofs.lemmas.List.{length-append, append-nil}
use Rattle.uefi_vars.specs.Name.{IsName}
use Rattle.uefi_vars.specs.Vars.{IsData}
use Rattle.uefi_vars.specs.Set.{name_bytes}
use Rattle.uefi_vars.specs.BootChange.{ChangeParts}
use Rattle.boot_journal.specs.declared.fault.JournalFault.{JournalFault}
use Rattle.boot_journal.specs.declared.fault.JournalFault.TheVariants as fault
use Rattle.boot_journal.specs.declared.journal_file.JournalFile.{JournalFile}
use Rattle.boot_journal.specs.Journal.{JournalParts, PendingParts, Makes, TakesBack}
use Rattle.boot_journal.specs.JournalValue.{IsPending}
use Rattle.boot_journal.specs.Values.{IsBootChange}
use Rattle.boot_journal.specs.Bytes.{making, taking_back, value_bytes, change_bytes, changes_bytes, pending_bytes, body_bytes, head_bytes, SpellsJournalFile}
use Rattle.boot_journal.specs.Fault.{Field, State, Course, Identity, Former, Name, Before, After, IsBegunJournal, IsBefore, HasAt, IsCut, IsTooLong}
use Rattle.boot_journal.specs.Fault.{HasBadCourse, IsBodyFault, IsJournalFault}
use Rattle.boot_journal.specs.Reader.{◌>>=◌, place_of, value_at, identity_at, name_at, change_at, changes_within, changes_at, making_at, taking_back_at}
use Rattle.boot_journal.specs.Reader.{pending_at, parts_at, file_at}
use Rattle.boot_journal.proofs.Fields.{value_again, cut_value_fails, long_value_fails, identity_again, cut_identity_fails, bad_identity_fails, name_again}
use Rattle.boot_journal.proofs.Fields.{cut_name_fails, bad_name_fails}
use Rattle.boot_journal.proofs.ChangeLoop.{with_front, whole_front, none_within, first_within, fault_within}
use Rattle.boot_journal.proofs.Readings.{end_of, more_of, begun_by, change_err_name, change_err_before, change_err_after, taking_back_err_boot}
use Rattle.boot_journal.proofs.Readings.{making_err_boot, making_err_former, pending_making, pending_taking_back, pending_bad, pending_none, parts_err_state}
use Rattle.boot_journal.proofs.Readings.{of_file, body_is, machine_fault_again, no_magic_fails}

-- ---- changes

change_of_reads : (end : ℕ) (bytes name first : List ℕ) (before : Option (List ℕ)) (second : List ℕ) (after : Option (List ℕ)) (third : List ℕ)
    → name_at end bytes ≡ Ok (name, first) → value_at end first ≡ Ok (before, second) → value_at end second ≡ Ok (after, third)
    → change_at end bytes ≡ Ok (record { name = name; before = before; after = after }, third)
unfolding change_at
change_of_reads end bytes name first before second after third p q r = rw (p, q, r) refl

change_again : (end : ℕ) (change : ChangeParts) (rest : List ℕ) → IsBootChange change → change_at end (change_bytes change ++ rest) ≡ Ok (change, rest)
change_again end change rest is =
    let behind_before = value_bytes change.after ++ rest in
    let behind_name = value_bytes change.before ++ behind_before in
    let regrouped : change_bytes change ++ rest ≡ name_bytes change.name ++ behind_name =
    append_assoc (name_bytes change.name) (value_bytes change.before ++ value_bytes change.after) rest
    ∙ ap (λ (t : List ℕ). name_bytes change.name ++ t) (append_assoc (value_bytes change.before) (value_bytes change.after) rest) in
    let p = name_again end change.name behind_name is.boot in
    let q = value_again end change.before behind_before is.before in
    let r = value_again end change.after rest is.after in
    ap (change_at end) regrouped
    ∙ change_of_reads end (name_bytes change.name ++ behind_name) change.name behind_name change.before behind_before change.after rest p q r

joined : (change : ChangeParts) (changes : List ChangeParts) (read : Result (List ChangeParts) JournalFault)
    → (with_front changes read >>= λ others. Ok (change ∷ others)) ≡ with_front (change ∷ changes) read
joined change changes (Ok more) = refl
joined change changes (Err f) = refl

-- what is read after changes, of which there are at most this many
abbrev GoesOn : ℕ → ℕ → List ChangeParts → List ℕ → List ℕ → Type 0
GoesOn count end changes bytes rest = (left : ℕ) × (length rest ≤ left) × (changes_within count end bytes ≡ with_front changes (changes_within left end rest))

one_again : (count end : ℕ) (change : ChangeParts) (changes : List ChangeParts) (behind rest : List ℕ)
    → IsBootChange change → GoesOn count end changes behind rest
    → GoesOn (suc count) end (change ∷ changes) (change_bytes change ++ behind) rest
one_again count end change changes behind rest is (left, few, read) =
    let tail = (change.name ++ (value_bytes change.before ++ value_bytes change.after)) ++ behind in (
      left,
      few,
      first_within count end (length change.name) tail change behind (change_again end change behind is)
          ∙ ap (λ (r : Result (List ChangeParts) JournalFault). r >>= λ others. Ok (change ∷ others)) read
          ∙ joined change changes (changes_within left end rest),
    )

changes_again : (count end : ℕ) (changes : List ChangeParts) (rest : List ℕ)
    → AllByRecursion IsBootChange changes → length (changes_bytes changes ++ rest) ≤ count
    → GoesOn count end changes (changes_bytes changes ++ rest) rest
changes_again count end [] rest all few = (count, few, whole_front (changes_within count end rest))
changes_again zero end (change ∷ changes) rest all few =
    absurd (omega (
      arith,
      few,
      length-append (change_bytes change) (changes_bytes changes),
      length-append (change_bytes change ++ changes_bytes changes) rest,
    ))
changes_again (suc count) end (change ∷ changes) rest all few =
    let regrouped : changes_bytes (change ∷ changes) ++ rest ≡ change_bytes change ++ (changes_bytes changes ++ rest) =
    append_assoc (change_bytes change) (changes_bytes changes) rest in
    let fewer : length (changes_bytes changes ++ rest) ≤ count =
    omega (arith, few, ap length regrouped, length-append (change_bytes change) (changes_bytes changes ++ rest)) in
    subst (λ (t : List ℕ). GoesOn (suc count) end (change ∷ changes) t rest) (sym regrouped)
    (one_again count end change changes (changes_bytes changes ++ rest) rest all.0 (changes_again count end changes rest all.1 fewer))

-- ---- the body, up to some field

-- the journal with this state, and with what is read to be done; begun, and with the changes that are read more
abbrev with_pending : Option (List ℕ) → Result (Option PendingParts) JournalFault → Result JournalParts JournalFault
with_pending state read = read >>= λ pending. Ok (record { state = state; pending = pending })

abbrev begun_with : Option (List ℕ) → Result PendingParts JournalFault → Result JournalParts JournalFault
begun_with state read = read >>= λ pending. Ok (begun_by state pending)

abbrev more_with : Option (List ℕ) → PendingParts → Result (List ChangeParts) JournalFault → Result JournalParts JournalFault
more_with state pending read = read >>= λ more. Ok (begun_by state (more_of pending more))

parts_of_read : (end : ℕ) (bytes : List ℕ) (state : Option (List ℕ)) (behind : List ℕ) → value_at end bytes ≡ Ok (state, behind)
    → parts_at end bytes ≡ with_pending state (pending_at end behind)
unfolding parts_at
parts_of_read end bytes state behind p = rw p refl

after_state : (end : ℕ) (body : List ℕ) (state : Option (List ℕ)) (behind : List ℕ) → IfSome state IsData → body ≡ value_bytes state ++ behind
    → parts_at end body ≡ with_pending state (pending_at end behind)
after_state end body state behind valid parts =
    ap (parts_at end) parts ∙ parts_of_read end (value_bytes state ++ behind) state behind (value_again end state behind valid)

at_some : (state : Option (List ℕ)) (read : Result PendingParts JournalFault)
    → with_pending state (read >>= λ pending. Ok (Some pending)) ≡ begun_with state read
at_some state (Ok pending) = refl
at_some state (Err f) = refl

-- the journal of what is read so behind the byte that says the course
abbrev BegunSo : ℕ → List ℕ → Option (List ℕ) → Result PendingParts JournalFault → Type 0
BegunSo end body state read = parts_at end body ≡ begun_with state read

after_making : (end : ℕ) (body : List ℕ) (state : Option (List ℕ)) (behind : List ℕ) → IfSome state IsData → body ≡ value_bytes state ++ making ∷ behind
    → BegunSo end body state (making_at end behind)
after_making end body state behind valid parts =
    after_state end body state (making ∷ behind) valid parts
    ∙ ap (with_pending state) (pending_making end behind)
    ∙ at_some state (making_at end behind)

after_taking_back : (end : ℕ) (body : List ℕ) (state : Option (List ℕ)) (behind : List ℕ)
    → IfSome state IsData → body ≡ value_bytes state ++ taking_back ∷ behind
    → BegunSo end body state (taking_back_at end behind)
after_taking_back end body state behind valid parts =
    after_state end body state (taking_back ∷ behind) valid parts
    ∙ ap (with_pending state) (pending_taking_back end behind)
    ∙ at_some state (taking_back_at end behind)

-- ---- begun journals

making_of_reads : (end : ℕ) (bytes boot first : List ℕ) (former : Option (List ℕ)) (second : List ℕ)
    → identity_at end bytes ≡ Ok (boot, first) → value_at end first ≡ Ok (former, second)
    → making_at end bytes ≡ (changes_at end second >>= λ changes. Ok (Makes former changes boot))
unfolding making_at
making_of_reads end bytes boot first former second p q = rw (p, q) refl

making_again : (end : ℕ) (boot : List ℕ) (former : Option (List ℕ)) (behind : List ℕ) → IsName boot → IfSome former IsData
    → making_at end (name_bytes boot ++ (value_bytes former ++ behind)) ≡ (changes_at end behind >>= λ changes. Ok (Makes former changes boot))
making_again end boot former behind named valid =
    making_of_reads end (name_bytes boot ++ (value_bytes former ++ behind)) boot (value_bytes former ++ behind) former behind
    (identity_again end boot (value_bytes former ++ behind) named) (value_again end former behind valid)

taking_back_of_read : (end : ℕ) (bytes boot first : List ℕ) → identity_at end bytes ≡ Ok (boot, first)
    → taking_back_at end bytes ≡ (changes_at end first >>= λ changes. Ok (TakesBack changes boot))
unfolding taking_back_at
taking_back_of_read end bytes boot first p = rw p refl

-- what is read after the bytes of a begun journal are more of its changes
abbrev IsBegunOn : ℕ → List ℕ → Option (List ℕ) → PendingParts → List ℕ → Type 0
IsBegunOn end body state pending rest = (left : ℕ) × (length rest ≤ left) × (parts_at end body ≡ more_with state pending (changes_within left end rest))

-- what goes on behind some of the changes has these and more
on_from : (state : Option (List ℕ)) (make : List ChangeParts → PendingParts) (changes : List ChangeParts) (read : Result (List ChangeParts) JournalFault)
    → begun_with state (with_front changes read >>= λ all. Ok (make all)) ≡ (read >>= λ more. Ok (begun_by state (make (changes ++ more))))
on_from state make changes (Ok more) = refl
on_from state make changes (Err f) = refl

making_bytes : (boot former changes rest : List ℕ) → (making ∷ (boot ++ (former ++ changes))) ++ rest ≡ making ∷ (boot ++ (former ++ (changes ++ rest)))
making_bytes boot former changes rest =
    ap (λ (t : List ℕ). making ∷ t) (append_assoc boot (former ++ changes) rest ∙ ap (λ (t : List ℕ). boot ++ t) (append_assoc former changes rest))

taking_back_bytes : (boot changes rest : List ℕ) → (taking_back ∷ (boot ++ changes)) ++ rest ≡ taking_back ∷ (boot ++ (changes ++ rest))
taking_back_bytes boot changes rest = ap (λ (t : List ℕ). taking_back ∷ t) (append_assoc boot changes rest)

-- the body, from the course on
begun_parts : (body : List ℕ) (state : Option (List ℕ)) (text rest : List ℕ) → body ≡ (value_bytes state ++ text) ++ rest
    → body ≡ value_bytes state ++ (text ++ rest)
begun_parts body state text rest parts = parts ∙ append_assoc (value_bytes state) text rest

begun_on : (end : ℕ) (body : List ℕ) (state : Option (List ℕ)) (pending : PendingParts) (rest : List ℕ)
    → IfSome state IsData → IsPending pending → body ≡ body_bytes (begun_by state pending) ++ rest
    → IsBegunOn end body state pending rest
begun_on end body state (Makes former changes boot) rest valid is parts =
    let behind = changes_bytes changes ++ rest in
    let on = changes_again (length behind) end changes rest is.2 (omega arith) in
    let split = begun_parts body state (pending_bytes (Some (Makes former changes boot))) rest parts
    ∙ ap (λ (t : List ℕ). value_bytes state ++ t) (making_bytes (name_bytes boot) (value_bytes former) (changes_bytes changes) rest) in (
      on.0,
      on.1,
      after_making end body state (name_bytes boot ++ (value_bytes former ++ behind)) valid split
          ∙ ap (begun_with state)
          (making_again end boot former behind is.0 is.1 ∙ ap (λ (r : Result (List ChangeParts) JournalFault). r >>= λ all. Ok (Makes former all boot)) on.2)
          ∙ on_from state (λ all. Makes former all boot) changes (changes_within on.0 end rest),
    )
begun_on end body state (TakesBack changes boot) rest valid is parts =
    let behind = changes_bytes changes ++ rest in
    let on = changes_again (length behind) end changes rest is.1 (omega arith) in
    let split = begun_parts body state (pending_bytes (Some (TakesBack changes boot))) rest parts
    ∙ ap (λ (t : List ℕ). value_bytes state ++ t) (taking_back_bytes (name_bytes boot) (changes_bytes changes) rest) in (
      on.0,
      on.1,
      after_taking_back end body state (name_bytes boot ++ behind) valid split
          ∙ ap (begun_with state)
          (taking_back_of_read end (name_bytes boot ++ behind) boot behind (identity_again end boot behind is.0)
          ∙ ap (λ (r : Result (List ChangeParts) JournalFault). r >>= λ all. Ok (TakesBack all boot)) on.2)
          ∙ on_from state (λ all. TakesBack all boot) changes (changes_within on.0 end rest),
    )

-- ---- a whole journal

no_more : (pending : PendingParts) → more_of pending [] ≡ pending
no_more (Makes former changes boot) = ap (λ (cs : List ChangeParts). Makes former cs boot) (append-nil changes)
no_more (TakesBack changes boot) = ap (λ (cs : List ChangeParts). TakesBack cs boot) (append-nil changes)

parts_again : (end : ℕ) (body : List ℕ) (state : Option (List ℕ)) (pending : Option PendingParts)
    → IfSome state IsData → IfSome pending IsPending → body ≡ body_bytes (record { state = state; pending = pending })
    → parts_at end body ≡ Ok (record { state = state; pending = pending })
parts_again end body state None valid is parts =
    after_state end body state [] valid parts ∙ ap (with_pending state) (pending_none end)
parts_again end body state (Some pending) valid is parts =
    let on = begun_on end body state pending [] valid is (parts ∙ sym (append-nil (body_bytes (begun_by state pending)))) in
    on.2 ∙ ap (more_with state pending) (none_within on.0 end)
    ∙ ap (λ (p : PendingParts). Ok (begun_by state p)) (no_more pending)

pub file_again : (bytes : List ℕ) (file : JournalFile) → SpellsJournalFile bytes file → file_at bytes ≡ Ok file
file_again bytes file spells =
    let body = body_bytes file.journal in
    body_is file.machine bytes body spells.0.machine spells.1
    ∙ ap (of_file file.machine)
    (parts_again (end_of (length
    (head_bytes file.machine)) body) body file.journal.state file.journal.pending spells.0.journal.state spells.0.journal.pending refl)

-- ---- a fault

more_fails : (end : ℕ) (body : List ℕ) (state : Option (List ℕ)) (pending : PendingParts) (rest : List ℕ) (f : JournalFault)
    → IsBegunOn end body state pending rest → 0 < length rest → change_at end rest ≡ Err f → parts_at end body ≡ Err f
more_fails end body state pending [] f on some failed = absurd (omega (arith, some))
more_fails end body state pending (byte ∷ bytes) f (zero, few, read) some failed = absurd (omega (arith, few))
more_fails end body state pending (byte ∷ bytes) f (suc left, few, read) some failed =
    read ∙ ap (more_with state pending) (fault_within left end byte bytes f failed)

begun_fails : (end : ℕ) (body : List ℕ) (state : Option (List ℕ)) (pending : Option PendingParts) (rest : List ℕ) (f : JournalFault)
    → IsBegunJournal (record { state = state; pending = pending }) → body ≡ body_bytes (record { state = state; pending = pending }) ++ rest → 0 < length rest
    → change_at end rest ≡ Err f → parts_at end body ≡ Err f
begun_fails end body state None rest f begun parts some failed = absurd (begun.1 refl)
begun_fails end body state (Some pending) rest f begun parts some failed =
    more_fails end body state pending rest f (begun_on end body state pending rest begun.0.state begun.0.pending parts) some failed

-- the field isn't read, by this fault
abbrev FailsAt : Field → ℕ → List ℕ → JournalFault → Type 0
FailsAt State end rest f = value_at end rest ≡ Err f
FailsAt Course end rest f = pending_at end rest ≡ Err f
FailsAt Identity end rest f = identity_at end rest ≡ Err f
FailsAt Former end rest f = value_at end rest ≡ Err f
FailsAt Name end rest f = (0 < length rest) × (name_at end rest ≡ Err f)
FailsAt Before end rest f = value_at end rest ≡ Err f
FailsAt After end rest f = value_at end rest ≡ Err f

begun_so_fails : (end : ℕ) (body : List ℕ) (state : Option (List ℕ)) (read : Result PendingParts JournalFault) (f : JournalFault)
    → BegunSo end body state read → read ≡ Err f → parts_at end body ≡ Err f
begun_so_fails end body state read f so failed = so ∙ ap (begun_with state) failed

carried : (field : Field) (end : ℕ) (body front rest : List ℕ) (f : JournalFault) → IsBefore field front → body ≡ front ++ rest → FailsAt field end rest f
    → parts_at end body ≡ Err f
carried State end body front rest f whole parts failed =
    ap (parts_at end) (parts ∙ ap (λ (t : List ℕ). t ++ rest) whole) ∙ parts_err_state end rest f failed
carried Course end body front rest f (state, valid, is) parts failed =
    after_state end body state rest valid (parts ∙ ap (λ (t : List ℕ). t ++ rest) is) ∙ ap (with_pending state) failed
carried Identity end body front rest f (state, valid, course, inl one, is) parts failed =
    let split =
    begun_parts body state (making ∷ []) rest (parts ∙ ap (λ (t : List ℕ). t ++ rest) is ∙ ap (λ (n : ℕ). (value_bytes state ++ n ∷ []) ++ rest) one) in
    begun_so_fails end body state (making_at end rest) f (after_making end body state rest valid split) (making_err_boot end rest f failed)
carried Identity end body front rest f (state, valid, course, inr two, is) parts failed =
    let split =
    begun_parts body state (taking_back ∷ []) rest
    (parts ∙ ap (λ (t : List ℕ). t ++ rest) is ∙ ap (λ (n : ℕ). (value_bytes state ++ n ∷ []) ++ rest) two) in
    begun_so_fails end body state (taking_back_at end rest) f (after_taking_back end body state rest valid split) (taking_back_err_boot end rest f failed)
carried Former end body front rest f (state, valid, boot, named, is) parts failed =
    let split = begun_parts body state (making ∷ name_bytes boot) rest (parts ∙ ap (λ (t : List ℕ). t ++ rest) is) in
    begun_so_fails end body state (making_at end (name_bytes boot ++ rest)) f (after_making end body state (name_bytes boot ++ rest) valid split)
    (making_err_former end (name_bytes boot ++ rest) boot rest f (identity_again end boot rest named) failed)
carried Name end body front rest f (journal, begun, is) parts (some, failed) =
    begun_fails end body journal.state journal.pending rest f begun (parts ∙ ap (λ (t : List ℕ). t ++ rest) is) some (change_err_name end rest f failed)
carried Before end body front rest f (journal, begun, name, boot, is) parts failed =
    let split = parts ∙ ap (λ (t : List ℕ). t ++ rest) is ∙ append_assoc (body_bytes journal) (name_bytes name) rest in
    begun_fails end body journal.state journal.pending (name_bytes name ++ rest) f begun split (omega arith)
    (change_err_before end (name_bytes name ++ rest) name rest f (name_again end name rest boot) failed)
carried After end body front rest f (journal, begun, name, boot, before, valid, is) parts failed =
    let text = name_bytes name ++ (value_bytes before ++ rest) in
    let split : body ≡ body_bytes journal ++ text =
    parts ∙ ap (λ (t : List ℕ). t ++ rest) is ∙ append_assoc (body_bytes journal) (name_bytes name ++ value_bytes before) rest
    ∙ ap (λ (t : List ℕ). body_bytes journal ++ t) (append_assoc (name_bytes name) (value_bytes before) rest) in
    begun_fails end body journal.state journal.pending text f begun split (omega arith)
    (change_err_after end text name (value_bytes before ++ rest) before rest f (name_again end name (value_bytes before ++ rest) boot)
    (value_again end before rest valid) failed)

cut_fails : (field : Field) (end : ℕ) (rest : List ℕ) → IsCut field rest → FailsAt field end rest (fault.Truncated (place_of end rest))
cut_fails State end rest h = cut_value_fails end rest h
cut_fails Course end rest h = absurd h
cut_fails Identity end rest h = cut_identity_fails end rest h
cut_fails Former end rest h = cut_value_fails end rest h
cut_fails Name end rest h = (omega (arith, ap length h.parts), cut_name_fails end rest h)
cut_fails Before end rest h = cut_value_fails end rest h
cut_fails After end rest h = cut_value_fails end rest h

long_fails : (field : Field) (end : ℕ) (rest : List ℕ) → IsTooLong field rest → FailsAt field end rest (fault.ValueTooLong (place_of end rest))
long_fails State end rest h = long_value_fails end rest h
long_fails Course end rest h = absurd h
long_fails Identity end rest h = absurd h
long_fails Former end rest h = long_value_fails end rest h
long_fails Name end rest h = absurd h
long_fails Before end rest h = long_value_fails end rest h
long_fails After end rest h = long_value_fails end rest h

bad_course_fails : (end : ℕ) (rest : List ℕ) → HasBadCourse rest → pending_at end rest ≡ Err (fault.BadCourse (place_of end rest))
bad_course_fails end rest h =
    subst (λ (t : List ℕ). pending_at end t ≡ Err (fault.BadCourse (place_of end t))) (sym h.parts) (pending_bad end h.course h.behind h.bad.0 h.bad.1)

place_at : (start : ℕ) (body front rest : List ℕ) (place : ℕ) → body ≡ front ++ rest → place ≡ start + length front
    → place_of (end_of start body) rest ≡ place
place_at start body front rest place parts at = omega (arith, ap length parts, length-append front rest, at)

-- what is at fault there isn't read, by a fault of that place
fails_there : (P : List ℕ → Type 0) (start : ℕ) (body : List ℕ) (place : ℕ) (field : Field) (f : ℕ → JournalFault) (at : HasAt start body place field P)
    → ((end : ℕ) → FailsAt field end at.rest (f (place_of end at.rest))) → parts_at (end_of start body) body ≡ Err (f place)
fails_there P start body place field f at failed =
    carried field (end_of start body) body at.front at.rest (f (place_of (end_of start body) at.rest)) at.whole at.parts (failed (end_of start body))
    ∙ ap (λ (n : ℕ). Err (f n)) (place_at start body at.front at.rest place at.parts at.at)

body_fault_again : (start : ℕ) (body : List ℕ) (f : JournalFault) → IsBodyFault start body f → parts_at (end_of start body) body ≡ Err f
body_fault_again start body fault.BadMagic h = absurd h
body_fault_again start body (fault.BadMachine place) h = absurd h
body_fault_again start body (fault.Truncated place) (field, at) =
    fails_there (IsCut field) start body place field (λ n. fault.Truncated n) at (λ end. cut_fails field end at.rest at.here)
body_fault_again start body (fault.ValueTooLong place) (field, at) =
    fails_there (IsTooLong field) start body place field (λ n. fault.ValueTooLong n) at (λ end. long_fails field end at.rest at.here)
body_fault_again start body (fault.BadCourse place) at =
    fails_there _ start body place Course (λ n. fault.BadCourse n) at (λ end. bad_course_fails end at.rest at.here)
body_fault_again start body (fault.BadIdentity place) at =
    fails_there _ start body place Identity (λ n. fault.BadIdentity n) at (λ end. bad_identity_fails end at.rest at.here)
body_fault_again start body (fault.BadName place) at =
    fails_there _ start body place Name (λ n. fault.BadName n) at
    (λ end. (let here = at.here in omega (arith, ap length here.parts), bad_name_fails end at.rest at.here))
body_fault_again start body fault.OutOfMemory h = absurd h

pub fault_again : (bytes : List ℕ) (f : JournalFault) → IsJournalFault bytes f → file_at bytes ≡ Err f
fault_again bytes f (inl h) = no_magic_fails bytes h.1 ∙ ap (λ (g : JournalFault). Err g) (sym h.0)
fault_again bytes f (inr (inl h)) = machine_fault_again bytes f h
fault_again bytes f (inr (inr h)) =
    body_is h.machine bytes h.body h.named h.parts ∙ ap (of_file h.machine) (body_fault_again (length (head_bytes h.machine)) h.body f h.here)
