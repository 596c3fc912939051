-- The last digests of the last of some and of the last behind them are the last of all (`last_behind`), so notes have the
-- last ones whatever becomes of a run (`lasts_kept`).
use Rattle.std.proofs.Common.{◌≡◌, ℕ, zero, suc, ltb, ◌+◌, ◌-◌, ◌<◌, ◌≤◌, true, false, cond, List, [], ◌∷◌, ◌++◌, length, drop}
use Rattle.std.proofs.Common.{refl, sym, ap, ◌∙◌, arith, inl, inr, length-append, length-drop}
use Rattle.std.specs.List.{AllByRecursion}
use Rattle.std.proofs.lemmas.Bool.{cases_lt}
use Rattle.std.proofs.lemmas.Bool.Decides.{nat_tests}
use Rattle.std.proofs.lemmas.List.{drop-append-le, drop-drop, append-nil}
use Rattle.std.proofs.lemmas.List.Elements.{filter-append}
use Rattle.std.proofs.Math.Seq.{drop-append-add}
use Rattle.boot_notes.specs.declared.digest.FrameDigest.{FrameDigest}
use Rattle.boot_notes.specs.Notes.{NotesParts, HaveLast, last_of, below, after_run}

abbrev Digests : Type 0
Digests = List FrameDigest

-- ---- the last of all

last_short : (xs : Digests) → length xs ≤ 64 → last_of xs ≡ xs
last_short xs few = let none : length xs - 64 ≡ 0 = omega (arith, few) in ap (λ (n : ℕ). drop n xs) none

last_len : (xs : Digests) → length (last_of xs) ≡ length xs - (length xs - 64)
last_len xs = length-drop (length xs - 64) xs

-- behind others, the last of these
last_at : (xs ys : Digests) → 64 ≤ length ys → last_of (xs ++ ys) ≡ last_of ys
last_at xs ys many =
    let size = length-append xs ys in
    let at : length (xs ++ ys) - 64 ≡ length xs + (length ys - 64) = omega (arith, size, many) in
    ap (λ (n : ℕ). drop n (xs ++ ys)) at ∙ drop-append-add xs ys (length ys - 64)

-- the same of the last of both
many_behind : (xs ys : Digests) → 64 ≤ length ys → last_of (last_of xs ++ last_of ys) ≡ last_of (xs ++ ys)
many_behind xs ys many =
    let size = last_len ys in
    last_at (last_of xs) (last_of ys) (omega (arith, size, many)) ∙ last_short (last_of ys) (omega (arith, size, many)) ∙ sym (last_at xs ys many)

few_behind : (xs ys : Digests) → length ys ≤ 64 → last_of (last_of xs ++ ys) ≡ last_of (xs ++ ys)
few_behind xs ys few =
    let all = length-append xs ys in
    let some = length-append (last_of xs) ys in
    let size = last_len xs in
    let skipped : ℕ = length xs - 64 in
    let more : ℕ = length (last_of xs ++ ys) - 64 in
    let within : more ≤ length (last_of xs) = omega (arith, some, few) in
    let at : skipped + more ≡ length (xs ++ ys) - 64 = omega (arith, all, some, size, few) in
    let inside : length (xs ++ ys) - 64 ≤ length xs = omega (arith, all, few) in
    drop-append-le more (last_of xs) ys within ∙ ap (λ (t : Digests). t ++ ys) (drop-drop more skipped xs ∙ ap (λ (n : ℕ). drop n xs) at)
    ∙ sym (drop-append-le (length (xs ++ ys) - 64) xs ys inside)

pub last_behind : (xs ys : Digests) → last_of (last_of xs ++ last_of ys) ≡ last_of (xs ++ ys)
last_behind xs ys = elim (cases_lt (length ys) 64) [
  | inl few ↦
      let least : length ys ≤ 64 = omega (arith, few) in
      ap (λ (t : Digests). last_of (last_of xs ++ t)) (last_short ys least) ∙ few_behind xs ys least
  | inr many ↦ many_behind xs ys many
]

last_again : (xs : Digests) → last_of (last_of xs) ≡ last_of xs
last_again xs = let size = last_len xs in last_short (last_of xs) (omega (arith, size))

-- ---- those below a number

module _ (P : FrameDigest → Type 0) where
  all_dropped : (n : ℕ) (xs : Digests) → AllByRecursion P xs → AllByRecursion P (drop n xs)
  all_dropped zero xs h = h
  all_dropped (suc n) [] h = tt
  all_dropped (suc n) (x ∷ xs) h = all_dropped n xs h.1

abbrev IsBelow : ℕ → FrameDigest → Type 0
IsBelow n kept = kept.number < n

below_all : (n : ℕ) (xs : Digests) → AllByRecursion (IsBelow n) xs → below n xs ≡ xs
below_all n [] h = refl
below_all n (x ∷ xs) h =
    let yes : ltb x.number n ≡ true = grind (arith, nat_tests, h.0) in
    ap (λ b. cond b (x ∷ below n xs) (below n xs)) yes ∙ ap (λ (t : Digests). x ∷ t) (below_all n xs h.1)

below_none : (n : ℕ) (xs : Digests) → AllByRecursion (λ (kept : FrameDigest). n ≤ kept.number) xs → below n xs ≡ []
below_none n [] h = refl
below_none n (x ∷ xs) h =
    let no : ltb x.number n ≡ false = grind (arith, nat_tests, h.0) in
    ap (λ b. cond b (x ∷ below n xs) (below n xs)) no ∙ below_none n xs h.1

less : (m n : ℕ) (xs : Digests) → m ≤ n → AllByRecursion (IsBelow m) xs → AllByRecursion (IsBelow n) xs
less m n [] l h = tt
less m n (x ∷ xs) l h = (omega (arith, l, h.0), less m n xs l h.1)

-- ---- a run

abbrev IsBetween : ℕ → ℕ → FrameDigest → Type 0
IsBetween first next kept = (first ≤ kept.number) × (kept.number < next)

froms : (first next : ℕ) (xs : Digests) → AllByRecursion (IsBetween first next) xs → AllByRecursion (λ (kept : FrameDigest). first ≤ kept.number) xs
froms first next [] h = tt
froms first next (x ∷ xs) h = (h.0.0, froms first next xs h.1)

belows : (first next : ℕ) (xs : Digests) → AllByRecursion (IsBetween first next) xs → AllByRecursion (IsBelow next) xs
belows first next [] h = tt
belows first next (x ∷ xs) h = (h.0.1, belows first next xs h.1)

-- of the last of both, below a number that is above the first ones, those and what is below it of the others
module _ (digests applied : Digests) (first : ℕ) (old : AllByRecursion (IsBelow first) digests) where
  last_old : AllByRecursion (IsBelow first) (last_of digests)
  last_old = all_dropped (IsBelow first) (length digests - 64) digests old

  both_below : (next : ℕ) → first ≤ next → below next (last_of digests ++ last_of applied) ≡ last_of digests ++ below next (last_of applied)
  both_below next rises =
      filter-append (λ (kept : FrameDigest). ltb kept.number next) (last_of digests) (last_of applied)
      ∙ ap (λ (t : Digests). t ++ below next (last_of applied)) (below_all next (last_of digests) (less first next (last_of digests) rises last_old))

  made : (next : ℕ) → first ≤ next → AllByRecursion (IsBetween first next) applied →
      last_of (below next (last_of digests ++ last_of applied)) ≡ last_of (digests ++ applied)
  made next rises new =
      let all = all_dropped (IsBelow next) (length applied - 64) applied (belows first next applied new) in
      ap last_of (both_below next rises ∙ ap (λ (t : Digests). last_of digests ++ t) (below_all next (last_of applied) all))
      ∙ last_behind digests applied

  taken_back : (next : ℕ) → AllByRecursion (IsBetween first next) applied →
      last_of (below first (last_of digests ++ last_of applied)) ≡ last_of digests
  taken_back next new =
      let none = all_dropped (λ (kept : FrameDigest). first ≤ kept.number) (length applied - 64) applied (froms first next applied new) in
      ap last_of (both_below first (omega arith) ∙ ap (λ (t : Digests). last_of digests ++ t) (below_none first (last_of applied) none)
      ∙ append-nil (last_of digests))
      ∙ last_again digests

pub lasts_kept : (notes : NotesParts) (first next : ℕ) (digests applied : Digests) → first ≤ next → HaveLast notes first digests →
    AllByRecursion (IsBelow first) digests → AllByRecursion (IsBetween first next) applied →
    HaveLast (after_run notes first applied) next (digests ++ applied) × HaveLast (after_run notes first applied) first digests
lasts_kept notes first next digests applied rises have old new = (
  ap (λ (t : Digests). last_of (below next (t ++ last_of applied))) have ∙ made digests applied first old next rises new,
  ap (λ (t : Digests). last_of (below first (t ++ last_of applied))) have ∙ taken_back digests applied first old next new,
)
