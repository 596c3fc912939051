-- Updates that change nothing, and only they, lead to what is there: the first of some changes would show.
use Rattle.std.proofs.Common.{◌≡◌, ℕ, false, cond, List, [], ◌∷◌, map, refl, sym, ap, subst, ◌∙◌}
use Rattle.std.specs.List.{AllByRecursion, IsDistinct}
use Rattle.std.specs.FinMap.{get}
use Rattle.uefi_vars.specs.Vars.{Variables}
use Rattle.uefi_vars.specs.NameChanges.{with_data}
use Rattle.uefi_vars.specs.BootChange.{ChangeParts, same_name, new_data, is_boot_name, changes_from, IsNeeded}
use Rattle.uefi_vars.specs.Name.{keep_text}
use Rattle.boot_journal.specs.Changes.{made, TellWhatIsThere}
use Rattle.boot_journal.specs.Journal.{JournalParts, ChangesNothing}
use Rattle.boot_journal.specs.Store.{Store, IsIdle, seen, journal_to, updated}
use Rattle.boot_journal.proofs.Single.{get-with_data}
use Rattle.boot_journal.proofs.Fronts.{AreApart, others_stay}
use Rattle.boot_journal.proofs.Making.{same_self}
use Rattle.boot_journal.proofs.Between.{apart}
use Rattle.boot_journal.proofs.Updates.{tells_there}

-- the store is what the update leads to
pub unchanged : (boot : List ℕ) (to : Variables) (s : Store) (journal : JournalParts) → IsIdle s → journal ≡ journal_to boot s to → ChangesNothing journal
    → s ≡ updated s to
unchanged boot to s journal none is nothing =
    let at : ChangesNothing (journal_to boot s to) = subst ChangesNothing is nothing in
    λ i. record { variables = made (sym at.0 i) s.variables; journal = record { state = at.1 i; pending = none i } }

-- the first of the changes shows
first_shows : (c : ChangeParts) (cs : List ChangeParts) (m : Variables) → AreApart (new_data (c ∷ cs)) → get (made (c ∷ cs) m) c.name ≡ c.after
first_shows c cs m distinct =
    others_stay (new_data cs) (with_data m c.name c.after) c.name distinct.0
    ∙ get-with_data m c.name c.after c.name
    ∙ ap (λ b. cond b c.after (get m c.name)) (same_self c.name)

none_left : (from to : Variables) (cs : List ChangeParts) (m : Variables)
    → AllByRecursion (IsNeeded from to) cs → TellWhatIsThere m cs → AreApart (new_data cs) → made cs m ≡ m → cs ≡ []
none_left from to [] m needed told distinct same = refl
none_left from to (c ∷ cs) m needed told distinct same =
    absurd (needed.0.differ (told.0 ∙ ap (λ (v : Variables). get v c.name) (sym same) ∙ first_shows c cs m distinct))

module _ (needed : (from to : Variables) → AllByRecursion (IsNeeded from to) (changes_from from to)) (no_keep : is_boot_name keep_text ≡ false)
    (distinct : (from to : Variables) → IsDistinct same_name (map (λ (c : ChangeParts). c.name) (changes_from from to))) where
  -- an update to what is there already changes nothing
  pub nothing_changes : (boot : List ℕ) (to : Variables) (s : Store) (journal : JournalParts) → journal ≡ journal_to boot s to → updated s to ≡ s
      → ChangesNothing journal
  nothing_changes boot to s journal is same =
      let cs = changes_from (seen s) to in
      subst ChangesNothing (sym is) (
        none_left (seen s) to cs s.variables (needed (seen s) to) (tells_there needed no_keep s to) (apart cs (distinct (seen s) to))
            (ap (λ (t : Store). t.variables) same),
        sym (ap (λ (t : Store). t.journal.state) same),
      )
