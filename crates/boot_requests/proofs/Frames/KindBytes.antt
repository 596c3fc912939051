-- Kinds: a byte stands for one at most, and each is in the table that the code goes through.
use Rattle.std.proofs.Common.{◌≡◌, ◌↔◌, ◌⊎◌, ℕ, ◌<◌, ◌&&◌, Bool, true, false, cond, eqb, List, [], ◌∷◌, Option, Some, None, IfSome, IfNone, refl, sym, subst}
use Rattle.std.proofs.Common.{◌∙◌, inl, inr, lit<, arith}
use Rattle.std.specs.List.{AllByRecursion, find, list_any}
use Rattle.std.specs.Option.{option_map}
use Rattle.std.proofs.lemmas.Bool.{false≢true, cases_Bool, eqb-true, eqb-false, and_parts, and_cases, or_cases, or_parts}
use Rattle.std.proofs.lemmas.Iterator.Adapters.{option_map_id}
use Rattle.boot_requests.specs.declared.frame.Kind.{Kind}
use Rattle.boot_requests.specs.declared.frame.Kind.TheVariants as kinds
use Rattle.boot_requests.specs.declared.frame.TheConstants.Kind.{ALL}
use Rattle.boot_requests.specs.Kind.{version_of, byte_of, IsVersion, IsKind}
use Rattle.boot_requests.specs.FrameFault.{IsKindWith}

pub version_fits : (k : Kind) → version_of k < 256
version_fits kinds.Add = lit< tt
version_fits _ = lit< tt

pub byte_fits : (k : Kind) → byte_of k < 256
byte_fits kinds.Add = lit< tt
byte_fits _ = lit< tt

pub one_kind : (k l : Kind) → byte_of k ≡ byte_of l → k ≡ l
one_kind kinds.Add kinds.Add e = refl
one_kind _ _ e = grind arith

-- what holds of the kind of a version and a byte
pub of_kind : (k : Kind) (P : Kind → Type 0) → IsKindWith (version_of k) (byte_of k) P → P k
of_kind k P h = subst P (one_kind h.kind k h.is) h.here

pub of_one : (version byte : ℕ) (P Q : Kind → Type 0) → IsKindWith version byte P → IsKindWith version byte Q → (k : Kind) × P k × Q k
of_one version byte P Q x y = (y.kind, subst P (one_kind x.kind y.kind (x.is ∙ sym y.is)) x.here, y.here)

-- what holds of each kind in the table holds of every kind
every : (P : Kind → Type 0) → AllByRecursion P ALL → (k : Kind) → P k
every P h kinds.Add = h.0
every P h _ = assumption

-- ---- what a search of the table finds

abbrev pub has_version : ℕ → Kind → Bool
has_version version k = eqb (version_of k) version

some_version : (version : ℕ) (list : List Kind) → list_any (has_version version) list ≡ true → IsVersion version
some_version version [] e = absurd (false≢true e)
some_version version (k ∷ rest) e =
    elim (or_cases (has_version version k) (list_any (has_version version) rest) e) [
      | inl here ↦ (k, eqb-true (version_of k) version here)
      | inr later ↦ some_version version rest later
    ]

no_version : (version : ℕ) (list : List Kind) → list_any (has_version version) list ≡ false → AllByRecursion (λ k. ¬ (version_of k ≡ version)) list
no_version version [] e = tt
no_version version (k ∷ rest) e =
    let parts = or_parts (has_version version k) (list_any (has_version version) rest) e in
    (eqb-false (version_of k) version parts.0, no_version version rest parts.1)

pub version_found : (version : ℕ) (r : Bool) → r ≡ list_any (has_version version) ALL → (r ≡ true) ↔ IsVersion version
version_found version true e = (λ t. some_version version ALL (sym e), λ is. refl)
version_found version false e =
    (λ t. absurd (false≢true t), λ is. absurd (every (λ k. ¬ (version_of k ≡ version)) (no_version version ALL (sym e)) is.0 is.1))

pub version_or_not : (version : ℕ) → IsVersion version ⊎ (¬ IsVersion version)
version_or_not version =
    let told = version_found version (list_any (has_version version) ALL) refl in
    elim (cases_Bool (list_any (has_version version) ALL)) [ inl t ↦ inl (told.0 t) | inr f ↦ inr (λ is. false≢true (sym f ∙ told.1 is)) ]

-- the kind has the version and the byte
abbrev Has : ℕ → ℕ → Kind → Type 0
Has version byte k = (version_of k ≡ version) × (byte_of k ≡ byte)

abbrev pub has_both : ℕ → ℕ → Kind → Bool
has_both version byte k = eqb (version_of k) version && eqb (byte_of k) byte

has : (version byte : ℕ) (k : Kind) → has_both version byte k ≡ true → Has version byte k
has version byte k e =
    let parts = and_parts (eqb (version_of k) version) (eqb (byte_of k) byte) e in
    (eqb-true (version_of k) version parts.0, eqb-true (byte_of k) byte parts.1)

has_not : (version byte : ℕ) (k : Kind) → has_both version byte k ≡ false → ¬ Has version byte k
has_not version byte k e is =
    elim (and_cases (eqb (version_of k) version) (eqb (byte_of k) byte) e) [
      | inl first ↦ eqb-false (version_of k) version first is.0
      | inr second ↦ eqb-false (byte_of k) byte second is.1
    ]

-- what is found has both, or none in the list has them
abbrev Finds : ℕ → ℕ → List Kind → Option Kind → Type 0
Finds version byte list r = IfSome r (λ k. Has version byte k) × IfNone r (AllByRecursion (λ k. ¬ Has version byte k) list)

one_more : (version byte : ℕ) (k : Kind) (rest : List Kind) (r : Option Kind) → ¬ Has version byte k → Finds version byte rest r →
    Finds version byte (k ∷ rest) r
one_more version byte k rest None other h = (tt, (other, h.1))
one_more version byte k rest (Some l) other h = (h.0, tt)

finds : (version byte : ℕ) (list : List Kind) → Finds version byte list (find (has_both version byte) list)
finds version byte [] = (tt, tt)
finds version byte (k ∷ rest) =
    elim (has_both version byte k) as (λ b. has_both version byte k ≡ b → Finds version byte (k ∷ rest) (cond b (Some k) (find (has_both version byte) rest))) [
      | true ↦ λ t. (has version byte k t, tt)
      | false ↦ λ f. one_more version byte k rest (find (has_both version byte) rest) (has_not version byte k f) (finds version byte rest)
    ] refl

abbrev FindsKind : ℕ → ℕ → Option Kind → Type 0
FindsKind version byte r = IfSome r (Has version byte) × IfNone r (¬ IsKind version byte)

found_kind : (version byte : ℕ) (r : Option Kind) → Finds version byte ALL r → FindsKind version byte r
found_kind version byte None h = (tt, λ is. every (λ k. ¬ Has version byte k) h.1 is.0 (is.1, is.2))
found_kind version byte (Some k) h = (h.0, tt)

pub kind_found : (version byte : ℕ) (r : Option Kind) → option_map (λ k. k) r ≡ find (has_both version byte) ALL →
    IfSome r (λ k. (version_of k ≡ version) × (byte_of k ≡ byte)) × IfNone r (¬ IsKind version byte)
kind_found version byte r e = found_kind version byte r (subst (Finds version byte ALL) (sym e ∙ option_map_id r) (finds version byte ALL))

pub kind_or_not : (version byte : ℕ) → IsKind version byte ⊎ (¬ IsKind version byte)
kind_or_not version byte = decided (find (has_both version byte) ALL) (found_kind version byte _ (finds version byte ALL))
  where
    decided : (r : Option Kind) → FindsKind version byte r → IsKind version byte ⊎ (¬ IsKind version byte)
    decided None h = inr h.1
    decided (Some k) h = inl (k, h.0.0, h.0.1)
