-- What firmware did by itself stays, whatever is cut off when: a variable that no change is of, nor one that is to be done, is as it was
-- after each event (`Own`), and changes that were made in part before firmware's lead to the same as all of them over firmware's.
use Rattle.std.proofs.Common.{◌≡◌, ℕ, zero, suc, ◌||◌, Bool, true, false, cond, List, [], ◌∷◌, ◌++◌, map, reverse, take, Option, Some, None, refl}
use Rattle.std.proofs.Common.{sym, ap, ◌∙◌}
use Rattle.std.specs.FinMap.{get}
use Rattle.std.proofs.lemmas.List.{reverse-append}
use Rattle.std.proofs.lemmas.List.Folds.{list_any-append}
use Rattle.std.proofs.lemmas.Bool.{or_parts}
use Rattle.uefi_vars.specs.Vars.{Variables}
use Rattle.uefi_vars.specs.NameChanges.{after_each}
use Rattle.uefi_vars.specs.BootChange.{ChangeParts, same_name, new_data, changes_from}
use Rattle.boot_journal.specs.Changes.{made, undone, taken_back, spent, LeaveAlone}
use Rattle.boot_journal.specs.Journal.{JournalParts, PendingParts, Makes, TakesBack, due, turned, turned_by, changes_of}
use Rattle.boot_journal.specs.Store.{Store, with_state, seen, stands_for, falls_back_to, journal_to}
use Rattle.boot_journal.specs.Moves.{cut_carrying, cut_settling, cut_undoing, settled, settled_by}
use Rattle.boot_journal.specs.Events.{Event, Settles, Undoes, Updates, Fails, Starts, Firmware, World, happens, all_happen, with_variables, updating, failing}
use Rattle.boot_journal.specs.Events.{firmware_in, by_firmware, UpdatesLeaveAlone}
use Rattle.boot_journal.proofs.Single.{Single, over, over-append, same_variables, get-each}
use Rattle.boot_journal.proofs.Firmware.{is_in, same_either_way, out_keeps, in_forgets}
use Rattle.boot_journal.proofs.Throughout.{Holds, settling_holds, carrying_holds, undoing_holds}

-- ---- the names of what is due

spent_in : (cs : List ChangeParts) (q : List ℕ) → is_in (map spent cs) q ≡ is_in cs q
spent_in [] q = refl
spent_in (c ∷ cs) q = ap (λ b. same_name c.name q || b) (spent_in cs q)

undone_in : (cs : List ChangeParts) (q : List ℕ) → is_in (map undone cs) q ≡ is_in cs q
undone_in [] q = refl
undone_in (c ∷ cs) q = ap (λ b. same_name c.name q || b) (undone_in cs q)

or_swap : (a b : Bool) → (b || (a || false)) ≡ (a || b)
or_swap true true = refl
or_swap true false = refl
or_swap false true = refl
or_swap false false = refl

reverse_in : (cs : List ChangeParts) (q : List ℕ) → is_in (reverse cs) q ≡ is_in cs q
reverse_in [] q = refl
reverse_in (c ∷ cs) q =
    ap (λ (l : List ChangeParts). is_in l q) (reverse-append (c ∷ []) cs)
    ∙ list_any-append (λ (c : ChangeParts). same_name c.name q) (reverse cs) (c ∷ [])
    ∙ ap (λ b. b || (same_name c.name q || false)) (reverse_in cs q)
    ∙ or_swap (same_name c.name q) (is_in cs q)

pub back_in : (cs : List ChangeParts) (q : List ℕ) → is_in (taken_back cs) q ≡ is_in cs q
back_in cs q = reverse_in (map undone cs) q ∙ undone_in cs q

or_spent_in : (same : Bool) (cs : List ChangeParts) (q : List ℕ) → is_in (cond same cs (map spent cs)) q ≡ is_in cs q
or_spent_in true cs q = refl
or_spent_in false cs q = spent_in cs q

-- what is due has the names of the changes that are made or taken back
pub due_in : (boot : List ℕ) (p : Option PendingParts) (q : List ℕ) → is_in (due boot p) q ≡ is_in (changes_of p) q
due_in boot None q = refl
due_in boot (Some (Makes former changes began)) q = or_spent_in (same_name boot began) changes q
due_in boot (Some (TakesBack changes began)) q = or_spent_in (same_name boot began) (taken_back changes) q ∙ back_in changes q

-- they are the same when what is to be done is turned
pub turned_changes : (state : Option (List ℕ)) (p : Option PendingParts) → changes_of (turned_by state p).pending ≡ changes_of p
turned_changes state None = refl
turned_changes state (Some (Makes former changes began)) = refl
turned_changes state (Some (TakesBack changes began)) = refl

take_out : (k : ℕ) (cs : List ChangeParts) (q : List ℕ) → is_in cs q ≡ false → is_in (take k cs) q ≡ false
take_out zero cs q out = refl
take_out (suc k) [] q out = refl
take_out (suc k) (c ∷ cs) q out =
    let apart = or_parts (same_name c.name q) (is_in cs q) out in
    λ i. apart.0 i || take_out k cs q apart.1 i

pub alone_out : (q : List ℕ) (cs : List ChangeParts) → LeaveAlone q cs → is_in cs q ≡ false
alone_out q [] alone = refl
alone_out q (c ∷ cs) alone = λ i. same_either_way q c.name false alone.0 i || alone_out q cs alone.1 i

pub made_out : (cs : List ChangeParts) (m : Variables) (q : List ℕ) → is_in cs q ≡ false → get (made cs m) q ≡ get m q
made_out cs m q out = get-each (new_data cs) m q ∙ out_keeps cs q (get m q) out

-- ---- what is due, made over firmware's

-- changes of the same names, of which the first ones were made in part before firmware's
module _ (cs ds : List ChangeParts) (same : (q : List ℕ) → is_in cs q ≡ is_in ds q) (fs : List Single) where
  over_between : (k : ℕ) (q : List ℕ) (x : Option (List ℕ))
      → over (new_data ds) q (over fs q (over (new_data (take k cs)) q x)) ≡ over (new_data ds) q (over fs q x)
  over_between k q x = by (is_in ds q) refl
    where
      by : (b : Bool) → is_in ds q ≡ b → over (new_data ds) q (over fs q (over (new_data (take k cs)) q x)) ≡ over (new_data ds) q (over fs q x)
      by true is = in_forgets ds q is _ _
      by false out = ap (λ y. over (new_data ds) q (over fs q y)) (out_keeps (take k cs) q x (take_out k cs q (same q ∙ out)))

  made_between : (k : ℕ) (m : Variables) → made ds (after_each (made (take k cs) m) fs) ≡ made ds (after_each m fs)
  made_between k m = same_variables _ _ (λ q.
      get-each (new_data ds) (after_each (made (take k cs) m) fs) q
      ∙ ap (over (new_data ds) q) (get-each fs (made (take k cs) m) q ∙ ap (over fs q) (get-each (new_data (take k cs)) m q))
      ∙ over_between k q (get m q)
      ∙ sym (get-each (new_data ds) (after_each m fs) q ∙ ap (over (new_data ds) q) (get-each fs m q)))

pub due_over : (boot later : List ℕ) (s : Store) (fs : List Single) (k : ℕ) →
    stands_for later (with_variables (after_each (made (take k (due boot s.journal.pending)) s.variables) fs) s)
    ≡ stands_for later (with_variables (after_each s.variables fs) s)
due_over boot later s fs k =
    let p = s.journal.pending in
    ap (with_state s.journal.state)
    (made_between (due boot p) (due later p) (λ q. due_in boot p q ∙ sym (due_in later p q)) fs k s.variables)

pub back_over : (boot later : List ℕ) (s : Store) (fs : List Single) (k : ℕ) →
    falls_back_to later (with_variables (after_each (made (take k (due boot s.journal.pending)) s.variables) fs) s)
    ≡ falls_back_to later (with_variables (after_each s.variables fs) s)
back_over boot later s fs k =
    let p = s.journal.pending in
    let t = turned s.journal in
    ap (with_state t.state)
    (made_between (due boot p) (due later t.pending)
    (λ q. due_in boot p q ∙ sym (due_in later t.pending q ∙ ap (λ (l : List ChangeParts). is_in l q) (turned_changes s.journal.state p)))
    fs k s.variables)

-- ---- a variable that no change is of

-- it is this, and no change that is to be done is of it
abbrev pub IsThis : List ℕ → Option (List ℕ) → Variables → Type 0
IsThis q x m = get m q ≡ x

abbrev pub IsOut : List ℕ → Option PendingParts → Type 0
IsOut q p = is_in (changes_of p) q ≡ false

abbrev pub Own : List ℕ → Option (List ℕ) → Store → Type 0
Own q x s = Holds (IsThis q x) (IsOut q) s

module _ (q : List ℕ) (x : Option (List ℕ)) where
  due_own : (boot : List ℕ) (p : Option PendingParts) → IsOut q p → (m : Variables) (j : ℕ) → IsThis q x m → IsThis q x (made (take j (due boot p)) m)
  due_own boot p out m j own = made_out (take j (due boot p)) m q (take_out j (due boot p) q (due_in boot p q ∙ out)) ∙ own

  turned_out : (state : Option (List ℕ)) (p : Option PendingParts) → IsOut q p → IsOut q (turned_by state p).pending
  turned_out state p out = ap (λ (l : List ChangeParts). is_in l q) (turned_changes state p) ∙ out

  settling_own : (boot : List ℕ) (k : ℕ) (s : Store) → Own q x s → Own q x (cut_settling boot k s)
  settling_own boot k s own = settling_holds boot (IsThis q x) (IsOut q) refl turned_out (due_own boot) k s own

  carrying_own : (boot : List ℕ) (journal : JournalParts) (k : ℕ) (s : Store) → IsOut q journal.pending → Own q x s → Own q x (cut_carrying boot journal k s)
  carrying_own boot journal k s out own = carrying_holds boot (IsThis q x) (IsOut q) refl turned_out (due_own boot) journal k s out own

  pub undoing_own : (boot : List ℕ) (k back : ℕ) (s : Store) → Own q x s → Own q x (cut_undoing boot k back s)
  undoing_own boot k back s own = undoing_holds boot (IsThis q x) (IsOut q) refl turned_out (due_own boot) k back s own

  settled_own_by : (p : Option PendingParts) (boot : List ℕ) (s : Store) → IsOut q p → Own q x s → Own q x (settled_by p boot s)
  settled_own_by None boot s out own = own
  settled_own_by (Some pending) boot s out own =
      record { variables = made_out (due boot (Some pending)) s.variables q (due_in boot (Some pending) q ∙ out) ∙ own.variables; journal = refl }

  updating_own : (boot : List ℕ) (to : Variables) (k : ℕ) (s : Store) → LeaveAlone q (changes_from (seen (settled boot s)) to) → Own q x s
      → Own q x (updating boot to k (settled boot s))
  updating_own boot to k s alone own =
      carrying_own boot (journal_to boot (settled boot s) to) k (settled boot s) (alone_out q _ alone)
      (settled_own_by s.journal.pending boot s own.journal own)

  pub failing_own : (boot : List ℕ) (to : Variables) (k back : ℕ) (s : Store) → LeaveAlone q (changes_from (seen (settled boot s)) to) → Own q x s
      → Own q x (failing boot to k back (settled boot s))
  failing_own boot to k back s alone own =
      let journal = journal_to boot (settled boot s) to in
      carrying_own boot (turned journal) back (updating boot to k (settled boot s)) (turned_out journal.state journal.pending (alone_out q _ alone))
      (updating_own boot to k s alone own)

-- ---- over lists of events

-- it is as an event of firmware's leaves it, and then as all later ones do
pub then : (m n : Variables) (fs gs : List Single) (q : List ℕ) → get n q ≡ get (after_each m fs) q
    → get (after_each n gs) q ≡ get (after_each m (fs ++ gs)) q
then m n fs gs q is =
    get-each gs n q ∙ ap (over gs q) (is ∙ get-each fs m q) ∙ sym (over-append fs gs q (get m q)) ∙ sym (get-each (fs ++ gs) m q)

as_it_was : (w : World) (q : List ℕ) → IsOut q w.store.journal.pending → Own q (get w.store.variables q) w.store
as_it_was w q out = record { variables = refl; journal = out }

own_then : {x : Option (List ℕ)} (q : List ℕ) (w v : World) (fs : List Single) → Own q (get w.store.variables q) v.store
    → x ≡ get (after_each v.store.variables fs) q → x ≡ get (after_each w.store.variables fs) q
own_then q w v fs own later = later ∙ then w.store.variables v.store.variables [] fs q own.variables

all_own : (q : List ℕ) (w : World) (events : List Event) → IsOut q w.store.journal.pending → UpdatesLeaveAlone q w events →
    get (all_happen w events).store.variables q ≡ get (after_each w.store.variables (by_firmware events)) q
all_own q w [] out alone = refl
all_own q w (Settles k ∷ events) out alone =
    let own = settling_own q (get w.store.variables q) w.boot k w.store (as_it_was w q out) in
    own_then q w (happens w (Settles k)) (by_firmware events) own (all_own q (happens w (Settles k)) events own.journal alone.1)
all_own q w (Undoes k back ∷ events) out alone =
    let own = undoing_own q (get w.store.variables q) w.boot k back w.store (as_it_was w q out) in
    own_then q w (happens w (Undoes k back)) (by_firmware events) own (all_own q (happens w (Undoes k back)) events own.journal alone.1)
all_own q w (Updates to k ∷ events) out alone =
    let own = updating_own q (get w.store.variables q) w.boot to k w.store alone.0 (as_it_was w q out) in
    own_then q w (happens w (Updates to k)) (by_firmware events) own (all_own q (happens w (Updates to k)) events own.journal alone.1)
all_own q w (Fails to k back ∷ events) out alone =
    let own = failing_own q (get w.store.variables q) w.boot to k back w.store alone.0 (as_it_was w q out) in
    own_then q w (happens w (Fails to k back)) (by_firmware events) own (all_own q (happens w (Fails to k back)) events own.journal alone.1)
all_own q w (Starts boot true ∷ events) out alone =
    let v = happens w (Starts boot true) in
    all_own q v events out alone.1 ∙ then w.store.variables v.store.variables (firmware_in (Starts boot true)) (by_firmware events) q refl
all_own q w (Starts boot false ∷ events) out alone =
    let v = happens w (Starts boot false) in
    all_own q v events out alone.1 ∙ then w.store.variables v.store.variables [] (by_firmware events) q refl
all_own q w (Firmware changes ∷ events) out alone =
    let v = happens w (Firmware changes) in
    all_own q v events out alone.1 ∙ then w.store.variables v.store.variables changes (by_firmware events) q refl

pub owned : (w : World) (events : List Event) (q : List ℕ) → LeaveAlone q (changes_of w.store.journal.pending) → UpdatesLeaveAlone q w events →
    get (all_happen w events).store.variables q ≡ get (after_each w.store.variables (by_firmware events)) q
owned w events q alone updates = all_own q w events (alone_out q (changes_of w.store.journal.pending) alone) updates
