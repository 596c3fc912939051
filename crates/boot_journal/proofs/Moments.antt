-- How a run of moves goes on: the moments of one run, and then those of the next, are such moments.
use Rattle.std.proofs.Common.{◌≡◌, ◌⊎◌, ◌<◌, ◌+◌, ⊎_elim, ℕ, List, [], ◌∷◌, ◌++◌, length, take, get_or, refl, sym, ap, ◌∙◌, append_assoc}
use Rattle.std.specs.List.{AllByRecursion}
use Rattle.std.proofs.lemmas.List.{append-nil, take_more}
use Rattle.uefi_vars.specs.Vars.{Variables}
use Rattle.uefi_vars.specs.NameChanges.{with_data}
use Rattle.uefi_vars.proofs.Bytes.{AllByRecursion-append}
use Rattle.uefi_vars.specs.BootChange.{ChangeParts}
use Rattle.boot_journal.specs.Changes.{made}
use Rattle.boot_journal.specs.Moments.{Leaves}
use Rattle.boot_journal.specs.Store.{Store, with_made, IsFrontStore}

made-append : (cs ds : List ChangeParts) (m : Variables) → made (cs ++ ds) m ≡ made ds (made cs m)
made-append [] ds m = refl
made-append (c ∷ cs) ds m = made-append cs ds (with_data m c.name c.after)

all-weaker : (P Q : Store → Type 0) (ss : List Store) → ((s : Store) → P s → Q s) → AllByRecursion P ss → AllByRecursion Q ss
all-weaker P Q [] f h = tt
all-weaker P Q (s ∷ ss) f h = (f s h.0, all-weaker P Q ss f h.1)

-- no move
pub stays : (P : Store → Type 0) (old : List Store) → Leaves P old old
stays P old = record { since = []; is = sym (append-nil old); each = tt }

-- a run of moves more
pub then : (P : Store → Type 0) (old mid new : List Store) → Leaves P old mid → Leaves P mid new → Leaves P old new
then P old mid new a b = record {
  since = a.since ++ b.since;
  is = b.is ∙ ap (λ (l : List Store). l ++ b.since) a.is ∙ append_assoc old a.since b.since;
  each = AllByRecursion-append P a.since b.since a.each b.each;
}

pub weaker : (P Q : Store → Type 0) (old new : List Store) → ((s : Store) → P s → Q s) → Leaves P old new → Leaves Q old new
weaker P Q old new f a = record { since = a.since; is = a.is; each = all-weaker P Q a.since f a.each }

-- one change more
pub one_more : (xs : List ChangeParts) (i : ℕ) (x : ChangeParts) (s : Store) → i < length xs → x ≡ get_or xs i x →
    with_made (x ∷ []) (with_made (take i xs) s) ≡ with_made (take (i + 1) xs) s
one_more xs i x s within is =
    let taken : take (i + 1) xs ≡ take i xs ++ x ∷ [] = take_more xs i x within ∙ ap (λ (y : ChangeParts). take i xs ++ y ∷ []) (sym is) in
    let is_made : made (x ∷ []) (made (take i xs) s.variables) ≡ made (take (i + 1) xs) s.variables =
    sym (made-append (take i xs) (x ∷ []) s.variables) ∙ ap (λ (l : List ChangeParts). made l s.variables) (sym taken) in
    λ j. record { variables = is_made j; journal = s.journal }

-- what the next change leaves
pub reached : (xs : List ChangeParts) (i : ℕ) (x : ChangeParts) (s mid new : Store)
    → mid ≡ with_made (take i xs) s → i < length xs → x ≡ get_or xs i x → new ≡ with_made (x ∷ []) mid
    → new ≡ with_made (take (i + 1) xs) s
reached xs i x s mid new so_far within is made_it = made_it ∙ ap (with_made (x ∷ [])) so_far ∙ one_more xs i x s within is

-- or leaves it as it was, if it fails
pub reached_or_not : (xs : List ChangeParts) (i : ℕ) (x : ChangeParts) (s mid new : Store) → mid ≡ with_made (take i xs) s → i < length xs
    → x ≡ get_or xs i x →
    (new ≡ mid) ⊎ (new ≡ with_made (x ∷ []) mid) → IsFrontStore xs s new
reached_or_not xs i x s mid new so_far within is r =
    ⊎_elim (λ same. (i, same ∙ so_far)) (λ made_it. (i + 1, reached xs i x s mid new so_far within is made_it)) r
