-- The bytes of outcomes and of codes: that they are bytes, how many, and which outcomes and codes they are of.
use Rattle.std.proofs.Common.{◌≡◌, ◌≢◌, ℕ, zero, suc, ◌+◌, ◌*◌, ◌<◌, List, [], ◌∷◌, ◌++◌, length, map, take, drop, get_or, Option, Some, None, IfSome, refl}
use Rattle.std.proofs.Common.{sym, ap, subst, ◌∙◌, arith}
use Rattle.std.specs.Int.{w16, from_le_bytes, to_le_bytes}
use Rattle.std.specs.List.{AllByRecursion, flat_map}
use Rattle.std.proofs.lemmas.Grind.{common_steps}
use Rattle.std.proofs.lemmas.List.{length-append, take_at, drop_at, map-append}
use Rattle.std.proofs.lemmas.Nat.{from_le_bytes-to_le_bytes_2}
use Rattle.uefi_path.specs.Row.{IsByte}
use Rattle.uefi_vars.specs.Order.{IsEntryNumber}
use Rattle.uefi_vars.proofs.Bytes.{AllByRecursion-append}
use Rattle.boot_requests.specs.declared.outcome.Code.{Code}
use Rattle.boot_requests.specs.declared.outcome.Code.TheVariants.{Done}
use Rattle.boot_requests.specs.declared.outcome.Outcome.{Outcome}
use Rattle.boot_requests.specs.Outcome.{IsOutcome, without_entry, code_byte, entry_bytes, outcome_bytes}
use Rattle.boot_requests.specs.StoredState.{IsFirstCode}

-- ---- codes

pub same_code : (a b : Code) → code_byte a ≡ code_byte b → a ≡ b
same_code Done b e = grind arith
same_code _ b e = grind arith

code_is_byte : (code : Code) → code_byte code < 256
code_is_byte Done = omega arith
code_is_byte _ = omega arith

pub same_codes : (a b : List Code) → map code_byte a ≡ map code_byte b → a ≡ b
same_codes [] [] e = refl
same_codes [] (p ∷ b) e = cc
same_codes (o ∷ a) [] e = cc
same_codes (o ∷ a) (p ∷ b) e =
    let first : code_byte o ≡ code_byte p = cc in
    let rest : map code_byte a ≡ map code_byte b = cc in
    let same : o ≡ p = same_code o p first in
    let others : a ≡ b = same_codes a b rest in
    cc

code_at : (codes : List Code) (i : ℕ) → AllByRecursion IsFirstCode codes → i < length (map code_byte codes) →
    (o : Code) × IsFirstCode o × (code_byte o ≡ get_or (map code_byte codes) i 0)
code_at [] i known l = absurd (omega (arith, l))
code_at (o ∷ codes) zero known l = (o, known.0, refl)
code_at (o ∷ codes) (suc i) known l = code_at codes i known.1 (omega (arith, l))

-- a byte that no code of version 1 has is among no codes' bytes
pub no_codes : (bytes : List ℕ) (i : ℕ) → i < length bytes → ((o : Code) → IsFirstCode o → code_byte o ≢ get_or bytes i 0) → (codes : List Code) →
    AllByRecursion IsFirstCode codes → map code_byte codes ≢ bytes
no_codes bytes i l none codes known e =
    let at = code_at codes i known (subst (λ (b : List ℕ). i < length b) (sym e) l) in
    none at.0 at.1 (at.2 ∙ ap (λ (b : List ℕ). get_or b i 0) e)

-- one more code is read
pub codes_more : (codes : List Code) (bytes : List ℕ) (i : ℕ) (o : Code) → map code_byte codes ≡ take i bytes → i < length bytes →
    code_byte o ≡ get_or bytes i 0 → map code_byte (codes ++ o ∷ []) ≡ take (i + 1) bytes
codes_more codes bytes i o e l is = grind (arith, common_steps)

without_more : (codes : List Code) (o : Code) → map without_entry (codes ++ o ∷ []) ≡ map without_entry codes ++ without_entry o ∷ []
without_more codes o = map-append without_entry codes (o ∷ [])

pub kept_more : (all kept : List Outcome) (item : Outcome) (codes : List Code) (o : Code) → all ≡ kept ++ item ∷ [] → kept ≡ map without_entry codes →
    item ≡ without_entry o → all ≡ map without_entry (codes ++ o ∷ [])
kept_more all kept item codes o pushed e is = let more = without_more codes o in cc

-- ---- entries

same_entry : (a b : Option ℕ) → IfSome a IsEntryNumber → IfSome b IsEntryNumber → entry_bytes a ≡ entry_bytes b → a ≡ b
same_entry None None p q e = refl
same_entry None (Some n) p q e = let clash : ◌≡◌ {A = ℕ} 0 1 = cc in absurd (omega (arith, clash))
same_entry (Some m) None p q e = let clash : ◌≡◌ {A = ℕ} 1 0 = cc in absurd (omega (arith, clash))
same_entry (Some m) (Some n) p q e =
    let two : to_le_bytes w16 m ≡ to_le_bytes w16 n = cc in
    ap (λ (k : ℕ). Some k) (sym (from_le_bytes-to_le_bytes_2 m p) ∙ ap (from_le_bytes w16) two ∙ from_le_bytes-to_le_bytes_2 n q)

pub entry_of_outcome : (code : Code) (entry : Option ℕ) → IfSome entry (λ n. (code ≡ Done) × IsEntryNumber n) → IfSome entry IsEntryNumber
entry_of_outcome code None is = tt
entry_of_outcome code (Some n) is = is.1

entry_are_bytes : (entry : Option ℕ) → AllByRecursion IsByte (entry_bytes entry)
entry_are_bytes None = (omega arith, (omega arith, (omega arith, tt)))
entry_are_bytes (Some n) = (omega arith, (omega arith, (omega arith, tt)))

length-entry : (entry : Option ℕ) → length (entry_bytes entry) ≡ 3
length-entry None = refl
length-entry (Some n) = refl

-- ---- outcomes

same_outcome : (a b : Outcome) → IsOutcome a → IsOutcome b → outcome_bytes a ≡ outcome_bytes b → a ≡ b
same_outcome a b p q e =
    let first : code_byte a.code ≡ code_byte b.code = cc in
    let rest : entry_bytes a.entry ≡ entry_bytes b.entry = cc in
    let code : a.code ≡ b.code = same_code a.code b.code first in
    let entry : a.entry ≡ b.entry = same_entry a.entry b.entry (entry_of_outcome a.code a.entry p) (entry_of_outcome b.code b.entry q) rest in
    λ i. record { code = code i; entry = entry i }

length-outcome : (o : Outcome) → length (outcome_bytes o) ≡ 4
length-outcome o = ap suc (length-entry o.entry)

-- the four bytes at the start, and those after them
front_outcome : (o : Outcome) (rest : List ℕ) → take 4 (outcome_bytes o ++ rest) ≡ outcome_bytes o
front_outcome o rest = take_at (outcome_bytes o) rest 4 (length-outcome o)

pub after_outcome : (o : Outcome) (rest : List ℕ) → drop 4 (outcome_bytes o ++ rest) ≡ rest
after_outcome o rest = drop_at (outcome_bytes o) rest 4 (length-outcome o)

four_of : (code : Code) (entry : Option ℕ) (rest : List ℕ) → let t = code_byte code ∷ (entry_bytes entry ++ rest) in
    code_byte code ∷ entry_bytes entry ≡ get_or t 0 0 ∷ get_or t 1 0 ∷ get_or t 2 0 ∷ get_or t 3 0 ∷ []
four_of code None rest = refl
four_of code (Some n) rest = refl

pub first_four : (o : Outcome) (rest : List ℕ) → let t = outcome_bytes o ++ rest in
    outcome_bytes o ≡ get_or t 0 0 ∷ get_or t 1 0 ∷ get_or t 2 0 ∷ get_or t 3 0 ∷ []
first_four o rest = four_of o.code o.entry rest

outcome_are_bytes : (o : Outcome) → AllByRecursion IsByte (outcome_bytes o)
outcome_are_bytes o = (code_is_byte o.code, entry_are_bytes o.entry)

pub same_outcomes : (a b : List Outcome) → AllByRecursion IsOutcome a → AllByRecursion IsOutcome b → flat_map outcome_bytes a ≡ flat_map outcome_bytes b → a ≡ b
same_outcomes [] [] p q e = refl
same_outcomes [] (o ∷ b) p q e = cc
same_outcomes (o ∷ a) [] p q e = cc
same_outcomes (o ∷ a) (r ∷ b) p q e =
    let first : outcome_bytes o ≡ outcome_bytes r =
    sym (front_outcome o (flat_map outcome_bytes a)) ∙ ap (take 4) e ∙ front_outcome r (flat_map outcome_bytes b) in
    let rest : flat_map outcome_bytes a ≡ flat_map outcome_bytes b =
    sym (after_outcome o (flat_map outcome_bytes a)) ∙ ap (drop 4) e ∙ after_outcome r (flat_map outcome_bytes b) in
    let same : o ≡ r = same_outcome o r p.0 q.0 first in
    let others : a ≡ b = same_outcomes a b p.1 q.1 rest in
    cc

pub length-outcomes : (kept : List Outcome) → length (flat_map outcome_bytes kept) ≡ 4 * length kept
length-outcomes [] = refl
length-outcomes (o ∷ kept) = omega (arith, length-append (outcome_bytes o) (flat_map outcome_bytes kept), length-outcome o, length-outcomes kept)

pub outcomes_are_bytes : (kept : List Outcome) → AllByRecursion IsByte (flat_map outcome_bytes kept)
outcomes_are_bytes [] = tt
outcomes_are_bytes (o ∷ kept) = AllByRecursion-append IsByte (outcome_bytes o) (flat_map outcome_bytes kept) (outcome_are_bytes o) (outcomes_are_bytes kept)

-- codes alone are outcomes
pub without_entries : (codes : List Code) → AllByRecursion IsOutcome (map without_entry codes)
without_entries [] = tt
without_entries (o ∷ codes) = (tt, without_entries codes)
