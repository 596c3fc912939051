-- Where a cut comes as changes are made, and what that stands for: changes that are made again, or taken back, lead to the same.
use Rattle.std.proofs.Common.{◌≡◌, ◌⊎◌, inl, inr, ⊎_elim, ℕ, zero, suc, Bool, true, false, cond, List, [], ◌∷◌, map, take, length, Option, Some, None, refl}
use Rattle.std.proofs.Common.{sym, ap, ◌∙◌}
use Rattle.std.proofs.Math.Seq.{take-length}
use Rattle.std.specs.FinMap.{get}
use Rattle.std.proofs.lemmas.Bool.{true≢false}
use Rattle.std.proofs.lemmas.Cmp.{nat_list_cmp_total, eq_by_cmp_equiv}
use Rattle.std.proofs.lemmas.List.{take-map}
use Rattle.uefi_vars.specs.Vars.{Variables}
use Rattle.uefi_vars.specs.NameChanges.{after_each}
use Rattle.uefi_vars.specs.BootChange.{ChangeParts, same_name, is_boot_name, new_data}
use Rattle.uefi_vars.specs.Name.{keep_text}
use Rattle.boot_journal.specs.Changes.{made, taken_back, spent, TellWhatIsThere}
use Rattle.boot_journal.specs.Journal.{JournalParts, PendingParts, Makes, TakesBack, idle, due, due_by, turned_by, is_making}
use Rattle.boot_journal.specs.Store.{Store, with_made, with_journal, with_state, seen, stands_for, falls_back_to}
use Rattle.boot_journal.specs.Moves.{cut_making, cut_carrying, cut_settling, cut_settling_by, settled, settled_by}
use Rattle.boot_journal.proofs.Single.{Single, over, unlike, same_variables, get-with_data, get-each, each_again, back, taken_back as back_leads}
use Rattle.boot_journal.proofs.Parts.{due_covers, new-back}

pub same_self : (name : List ℕ) → same_name name name ≡ true
same_self name = (eq_by_cmp_equiv nat_list_cmp_total).refl name

-- ---- making changes

-- the cut is after some changes, or after all moves
pub making_is : (k : ℕ) (cs : List ChangeParts) (last : JournalParts) (s : Store) →
    (cut_making k cs last s ≡ with_made (take k cs) s) ⊎ (cut_making k cs last s ≡ with_journal last (with_made cs s))
making_is zero cs last s = inl refl
making_is (suc k) [] last s = inr refl
making_is (suc k) (c ∷ cs) last s = making_is k cs last (with_made (c ∷ []) s)

-- changes that are made again after some of them
pub made_again : (cs : List ChangeParts) (m : Variables) (k : ℕ) → made cs (made (take k cs) m) ≡ made cs m
made_again cs m k =
    ap (λ (l : List Single). after_each (after_each m l) (new_data cs)) (sym (take-map _ k cs)) ∙ each_again (new_data cs) m k

-- a cut while what is due is made stands for what was there
pub making_stands : (boot : List ℕ) (k : ℕ) (s : Store) →
    stands_for boot (cut_making k (due boot s.journal.pending) (idle s.journal.state) s) ≡ stands_for boot s
making_stands boot k s = ⊎_elim
    (λ amid. ap (stands_for boot) amid ∙ ap (with_state s.journal.state) (made_again (due boot s.journal.pending) s.variables k))
    (λ done. ap (stands_for boot) done)
    (making_is k (due boot s.journal.pending) (idle s.journal.state) s)

settling_by : (boot : List ℕ) (k : ℕ) (s : Store) (p : Option PendingParts) → p ≡ s.journal.pending
    → stands_for boot (cut_settling_by p boot k s) ≡ stands_for boot s
settling_by boot k s None is = refl
settling_by boot k s (Some pending) is =
    ap (λ (p : Option PendingParts). stands_for boot (cut_making k (due boot p) (idle s.journal.state) s)) is ∙ making_stands boot k s

pub settling_stands : (boot : List ℕ) (k : ℕ) (s : Store) → stands_for boot (cut_settling boot k s) ≡ stands_for boot s
settling_stands boot k s = settling_by boot k s s.journal.pending refl

settled_stands_by : (boot : List ℕ) (s : Store) (p : Option PendingParts) → p ≡ s.journal.pending → stands_for boot (settled_by p boot s) ≡ stands_for boot s
settled_stands_by boot s None is = refl
settled_stands_by boot s (Some pending) is = ap (λ (p : Option PendingParts). with_state s.journal.state (made (due boot p) s.variables)) is

pub settled_stands : (boot : List ℕ) (s : Store) → stands_for boot (settled boot s) ≡ stands_for boot s
settled_stands boot s = settled_stands_by boot s s.journal.pending refl

settled_idle_by : (boot : List ℕ) (s : Store) (p : Option PendingParts) → p ≡ s.journal.pending → (settled_by p boot s).journal.pending ≡ None
settled_idle_by boot s None is = sym is
settled_idle_by boot s (Some pending) is = refl

pub settled_idle : (boot : List ℕ) (s : Store) → (settled boot s).journal.pending ≡ None
settled_idle boot s = settled_idle_by boot s s.journal.pending refl

-- with nothing to be done, a store stands for what is read
pub idle_stands : (boot : List ℕ) (s : Store) → s.journal.pending ≡ None → stands_for boot s ≡ seen s
idle_stands boot s none = ap (λ (p : Option PendingParts). with_state s.journal.state (made (due boot p) s.variables)) none

-- ---- carrying a journal out

-- from the first move on the store stands for what the journal leads to
pub carrying_after : (boot : List ℕ) (journal : JournalParts) (k : ℕ) (s : Store) →
    stands_for boot (cut_carrying boot journal (suc k) s) ≡ stands_for boot (with_journal journal s)
carrying_after boot journal k s = making_stands boot k (with_journal journal s)

-- what began under the same identity is due as it is
pub own_due : (boot : List ℕ) (cs : List ChangeParts) → due_by boot boot cs ≡ cs
own_due boot cs = ap (λ b. cond b cs (map spent cs)) (same_self boot)

-- while a journal is carried out, the variables are those after some of what it has due
pub carrying_variables : (boot : List ℕ) (journal : JournalParts) (k : ℕ) (s : Store) →
    (j : ℕ) × ((cut_carrying boot journal k s).variables ≡ made (take j (due boot journal.pending)) s.variables)
carrying_variables boot journal zero s = (0, refl)
carrying_variables boot journal (suc k) s = ⊎_elim
    (λ amid. (k, λ i. (amid i).variables))
    (λ done. (
      length (due boot journal.pending),
      (λ i. (done i).variables)
          ∙ ap (λ (l : List ChangeParts). made l s.variables) (sym (take-length (due boot journal.pending))),
    ))
    (making_is k (due boot journal.pending) (idle journal.state) (with_journal journal s))

-- ---- taking back

-- changes that tell what was there are taken back after any of them
pub back_again : (cs : List ChangeParts) (m : Variables) (k : ℕ) → TellWhatIsThere m cs → made (taken_back cs) (made (take k cs) m) ≡ m
back_again cs m k told =
    ap (λ (l : List Single). after_each (made (take k cs) m) l) (new-back m cs told)
    ∙ ap (λ (l : List Single). after_each (after_each m l) (back (new_data cs) m)) (sym (take-map _ k cs))
    ∙ back_leads (new_data cs) m k

-- whatever of what is due is made, taking it back leads to the same
pub falls_back_after : (boot : List ℕ) (j : ℕ) (s : Store) → is_making s.journal.pending ≡ true →
    falls_back_to boot (with_made (take j (due boot s.journal.pending)) s) ≡ falls_back_to boot s
falls_back_after boot j s making = by s.journal.pending making
  where
    by : (p : Option PendingParts) → is_making p ≡ true →
        with_state (turned_by s.journal.state p).state (made (due boot (turned_by s.journal.state p).pending) (made (take j (due boot p)) s.variables))
        ≡ with_state (turned_by s.journal.state p).state (made (due boot (turned_by s.journal.state p).pending) s.variables)
    by None making = absurd (true≢false (sym making))
    by (Some (TakesBack changes began)) making = absurd (true≢false (sym making))
    by (Some (Makes former changes began)) making = ap (with_state former) (due_covers (same_name boot began) changes j s.variables)

-- ---- BootKeepState over the variables

pub get-state : (state : Option (List ℕ)) (m : Variables) (q : List ℕ) → get (with_state state m) q ≡ cond (same_name q keep_text) state (get m q)
get-state state m q = get-with_data m keep_text state q

-- under another name it is what is there
pub beside_state : (state : Option (List ℕ)) (m : Variables) (q : List ℕ) → same_name q keep_text ≡ false → get (with_state state m) q ≡ get m q
beside_state state m q other = get-state state m q ∙ ap (λ b. cond b state (get m q)) other

-- as under the boot manager's
pub not_keep : is_boot_name keep_text ≡ false → (name : List ℕ) → is_boot_name name ≡ true → same_name name keep_text ≡ false
not_keep no_keep name boot = unlike name keep_text (λ e. true≢false (sym boot ∙ ap is_boot_name e ∙ no_keep))

pub state_of_seen : (state : Option (List ℕ)) (m : Variables) → get (with_state state m) keep_text ≡ state
state_of_seen state m = get-state state m keep_text ∙ ap (λ b. cond b state (get m keep_text)) (same_self keep_text)

laid_over : (n : Bool) (cs : List Single) (q : List ℕ) (x y : Option (List ℕ)) (old : Option (List ℕ)) →
    cond n x (over cs q (cond n y old)) ≡ cond n x (over cs q old)
laid_over true cs q x y old = refl
laid_over false cs q x y old = refl

-- what was BootKeepState doesn't matter once it is another
pub state_over : (x y : Option (List ℕ)) (cs : List ChangeParts) (m : Variables) → with_state x (made cs (with_state y m)) ≡ with_state x (made cs m)
state_over x y cs m = same_variables _ _ (λ q.
    get-state x (made cs (with_state y m)) q
    ∙ ap (cond (same_name q keep_text) x) (get-each (new_data cs) (with_state y m) q ∙ ap (over (new_data cs) q) (get-state y m q))
    ∙ laid_over (same_name q keep_text) (new_data cs) q x y (get m q)
    ∙ sym (get-state x (made cs m) q ∙ ap (cond (same_name q keep_text) x) (get-each (new_data cs) m q)))
