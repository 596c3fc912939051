-- Attributes outlive updates by requests: of each turn, and so of all of them, under a name that stays there.
use Rattle.std.proofs.Common.{◌≡◌, ℕ, ◌&&◌, Bool, true, false, cond, List, [], ◌∷◌, take, Option, Some, None, IfSome, refl, sym, ap, subst, ◌∙◌}
use Rattle.std.specs.Option.{IsSome}
use Rattle.std.specs.FinMap.{get}
use Rattle.std.proofs.lemmas.Bool.{true≢false}
use Rattle.uefi_vars.specs.Name.{next_text, keep_text}
use Rattle.uefi_vars.specs.Vars.{Variables}
use Rattle.uefi_vars.specs.NameChanges.{after_each}
use Rattle.uefi_vars.specs.BootChange.{same_name, is_boot_name, changes_from}
use Rattle.uefi_vars.specs.Attributes.{attributes_len}
use Rattle.boot_journal.specs.Attributes.{attributes_in, KeepAttributes}
use Rattle.boot_journal.specs.Changes.{made}
use Rattle.journaled_requests.specs.Once.{Update, AreUpdatesIn}
use Rattle.journaled_requests.specs.Requests.{StaysThere}
use Rattle.boot_journal.specs.Store.{brought}
use Rattle.boot_journal.specs.Turns.{Turn, Brings, Boots, Meddles, after_turns}
use Rattle.boot_journal.proofs.WithAttributes.{attributes_are}
use Rattle.boot_journal.proofs.Boot.{get-without_next}
use Rattle.boot_journal.proofs.Making.{beside_state, not_keep}
use Rattle.boot_journal.proofs.Single.{get-each, passed_by}

-- attributes that are kept are those that were there, if something is there
same_if_there : (x y : Option (List ℕ)) → IsSome x → IfSome x (λ kept. take attributes_len kept ≡ attributes_in y) → attributes_in x ≡ attributes_in y
same_if_there None y there keeps = absurd (true≢false (sym there))
same_if_there (Some kept) y there keeps = attributes_are kept y keeps

same_unless_gone : (b : Bool) (x : Option (List ℕ)) → IsSome (cond b None x) → cond b None x ≡ x
same_unless_gone true x there = absurd (true≢false (sym there))
same_unless_gone false x there = refl

module _ (boot : (from to : Variables) (name : List ℕ) → is_boot_name name ≡ true → get (made (changes_from from to) from) name ≡ get to name)
    (no_keep : is_boot_name keep_text ≡ false) where
  pub brought_keeps : (from to : Variables) → KeepAttributes from to → KeepAttributes from (brought from to)
  brought_keeps from to keeps name is =
      subst (λ (x : Option (List ℕ)). IfSome x (λ kept. take attributes_len kept ≡ attributes_in (get from name)))
      (sym (beside_state (get to keep_text) (made (changes_from from to) from) name (not_keep no_keep name is) ∙ boot from to name is)) (keeps name is)

  pub through : (start : Variables) (turns : List Turn) (updates : List Update) (name : List ℕ)
      → is_boot_name name ≡ true → AreUpdatesIn start turns updates → StaysThere name start turns
      → attributes_in (get (after_turns start turns) name) ≡ attributes_in (get start name)
  through start [] updates name is are there = refl
  through start (Brings to ∷ before) [] name is are there = elim are [ ]
  through start (Brings to ∷ before) (update ∷ earlier) name is are there =
      let was = after_turns start before in
      same_if_there (get (brought was to) name) (get was name) there.0 (brought_keeps was to are.0.by.attributes name is)
      ∙ through start before earlier name is are.1 there.1
  through start (Boots deletes ∷ before) updates name is are there =
      let was = after_turns start before in
      let gone = get-without_next deletes was name in
      ap attributes_in (gone ∙ same_unless_gone (deletes && same_name name next_text) (get was name) (subst (λ (x : Option (List ℕ)). IsSome x) gone there.0))
      ∙ through start before updates name is are there.1
  through start (Meddles changes ∷ before) updates name is are there =
      let was = after_turns start before in
      ap attributes_in
      (beside_state (get was keep_text) (after_each was changes) name (not_keep no_keep name is) ∙ get-each changes was name
      ∙ passed_by (λ c. same_name name c.0 ≡ false) changes name (get was name) there.0 (λ c other. other))
      ∙ through start before updates name is are there.1
