-- What is left of variables when some are taken out, one after the other.
use Rattle.std.proofs.Common.{◌≡◌, ◌≢◌, ◌⊎◌, ℕ, Bool, true, false, cond, List, [], ◌∷◌, ◌++◌, Some, None, Contains, inl, inr, refl, ap, ◌∙◌}
use Rattle.std.specs.FinMap.{get, get-insert, get-remove, insert, remove}
use Rattle.std.specs.List.{AllByRecursion}
use Rattle.std.specs.Ordering.{eq_by_cmp}
use Rattle.std.proofs.lemmas.Cmp.{nat_list_cmp_total}
use Rattle.std.proofs.lemmas.Map.Lookups.{exact_bytes}
use Rattle.std.proofs.lemmas.Map.Views.{tells_apart}
use Rattle.uefi_vars.specs.Name.{entry_text, order_text, next_text}
use Rattle.uefi_vars.specs.Vars.{Variables, name_cmp}
use Rattle.place_edits.specs.Takeable.{IsOut, IsNamed, AreOut, IsChangedAt, IsNumbered, IsWithout}

-- under the name that is taken out there is nothing, and under each other one what was there
pub removed_at : (vars new : Variables) (gone : List ℕ) → new ≡ remove vars gone
    → (name : List ℕ) → ((name ≡ gone) × (get new name ≡ None)) ⊎ (get new name ≡ get vars name)
removed_at vars new gone is name =
    let test : Bool = eq_by_cmp name_cmp name gone in
    let found : get new name ≡ cond test None (get vars name) =
    ap (λ (m : Variables). get m name) is ∙ get-remove nat_list_cmp_total vars gone name in
    elim test as (λ (b : Bool). test ≡ b → ((name ≡ gone) × (get new name ≡ None)) ⊎ (get new name ≡ get vars name)) [
      | true ↦ λ ties. inl (tells_apart exact_bytes name gone ties, found ∙ ap (λ b. cond b None (get vars name)) ties)
      | false ↦ λ differ. inr (found ∙ ap (λ b. cond b None (get vars name)) differ)
    ] refl

-- under the name that is put there is something, and under each other one what was there
pub put_at : (vars new : Variables) (changed bytes : List ℕ) → new ≡ insert vars changed bytes → IsChangedAt changed vars new
put_at vars new changed bytes is name =
    let test : Bool = eq_by_cmp name_cmp name changed in
    let found : get new name ≡ cond test (Some bytes) (get vars name) =
    ap (λ (m : Variables). get m name) is ∙ get-insert nat_list_cmp_total vars changed bytes name in
    elim test as (λ (b : Bool). test ≡ b → (name ≡ changed) ⊎ (get new name ≡ get vars name)) [
      | true ↦ λ ties. inl (tells_apart exact_bytes name changed ties)
      | false ↦ λ differ. inr (found ∙ ap (λ b. cond b (Some bytes) (get vars name)) differ)
    ] refl

-- the one alternative, weakened
gone_at : (vars new : Variables) (gone name : List ℕ) → ((name ≡ gone) × (get new name ≡ None)) ⊎ (get new name ≡ get vars name)
    → (name ≡ gone) ⊎ (get new name ≡ get vars name)
gone_at vars new gone name (inl is) = inl is.0
gone_at vars new gone name (inr same) = inr same

pub changed_by_removal : (vars new : Variables) (gone : List ℕ) → new ≡ remove vars gone → IsChangedAt gone vars new
changed_by_removal vars new gone is name = gone_at vars new gone name (removed_at vars new gone is name)

swapped : (vars new : Variables) (gone name : List ℕ) → ((name ≡ gone) × (get new name ≡ None)) ⊎ (get new name ≡ get vars name)
    → (get new name ≡ get vars name) ⊎ ((name ≡ gone) × (get new name ≡ None))
swapped vars new gone name (inl is) = inr is
swapped vars new gone name (inr same) = inl same

-- an entry that is taken out
pub one_out : (vars new : Variables) (entry : ℕ) → new ≡ remove vars (entry_text entry) → IsOut entry vars new
one_out vars new entry is name = swapped vars new (entry_text entry) name (removed_at vars new (entry_text entry) is name)

-- one more of these entries is taken out
next_out : (entries : List ℕ) (old vars new : Variables) (entry : ℕ) (name : List ℕ) → Contains entries entry
    → (get vars name ≡ get old name) ⊎ (IsNamed entries name × (get vars name ≡ None))
    → (get new name ≡ get vars name) ⊎ ((name ≡ entry_text entry) × (get new name ≡ None))
    → (get new name ≡ get old name) ⊎ (IsNamed entries name × (get new name ≡ None))
next_out entries old vars new entry name among before (inr is) = inr ((entry, among, is.0), is.1)
next_out entries old vars new entry name among (inl same) (inl kept) = inl (kept ∙ same)
next_out entries old vars new entry name among (inr is) (inl kept) = inr (is.0, kept ∙ is.1)

pub more_out : (entries : List ℕ) (old vars new : Variables) (entry : ℕ) → Contains entries entry
    → AreOut entries old vars → IsOut entry vars new → AreOut entries old new
more_out entries old vars new entry among so_far one name = next_out entries old vars new entry name among (so_far name) (one name)

-- entries are taken out, and their numbers out of BootNext and of BootOrder
by_parts : (entries : List ℕ) (a b c d : Variables) (name : List ℕ) → entries ≢ []
    → (get b name ≡ get a name) ⊎ (IsNamed entries name × (get b name ≡ None))
    → (name ≡ next_text) ⊎ (get c name ≡ get b name) → (name ≡ order_text) ⊎ (get d name ≡ get c name)
    → (get d name ≡ get a name) ⊎ ((IsNamed entries name × (get d name ≡ None)) ⊎ IsNumbered entries name)
by_parts entries a b c d name some out next (inl is) = inr (inr (some, inl is))
by_parts entries a b c d name some out (inl is) (inr same) = inr (inr (some, inr is))
by_parts entries a b c d name some (inl same) (inr next) (inr order) = inl (order ∙ next ∙ same)
by_parts entries a b c d name some (inr is) (inr next) (inr order) = inr (inl (is.0, order ∙ next ∙ is.1))

pub left_without : (entries : List ℕ) (a b c d : Variables) → entries ≢ [] → AreOut entries a b
    → IsChangedAt next_text b c → IsChangedAt order_text c d → IsWithout entries a d
left_without entries a b c d some out next order name = by_parts entries a b c d name some (out name) (next name) (order name)

-- one more with a property
pub all_push : {X : Type 0} (P : X → Type 0) (xs : List X) (x : X) → AllByRecursion P xs → P x → AllByRecursion P (xs ++ x ∷ [])
all_push P [] x all one = (one, tt)
all_push P (y ∷ xs) x all one = (all.0, all_push P xs x all.1 one)
