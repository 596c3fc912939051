-- Lists of digests: what is found in the first of two lists or else in the second, and followers, one after the other.
use Rattle.std.proofs.Common.{◌≡◌, ℕ, suc, eqb, true, false, cond, ◌+◌, ◌-◌, ◌<◌, List, [], ◌∷◌, ◌++◌, Option, Some, None}
use Rattle.std.proofs.Common.{refl, sym, ap, ◌∙◌, arith, append_assoc}
use Rattle.std.specs.List.{find}
use Rattle.std.specs.Option.{option_map}
use Rattle.boot_notes.specs.declared.digest.FrameDigest.{FrameDigest}
use Rattle.boot_notes.specs.Digest.{digest_under}
use Rattle.journaled_requests.specs.Applied.{followers_of, found_under}

-- ---- two lists

-- what is found, or else the other
or_else : Option (List ℕ) → Option (List ℕ) → Option (List ℕ)
or_else None other = other
or_else (Some digest) other = Some digest

digest_of_found : Option FrameDigest → Option (List ℕ)
digest_of_found found = option_map (λ (kept : FrameDigest). kept.digest) found

under_append : (xs ys : List FrameDigest) (q : ℕ) → digest_under (xs ++ ys) q ≡ or_else (digest_under xs q) (digest_under ys q)
unfolding or_else digest_of_found
under_append [] ys q = refl
under_append (x ∷ xs) ys q =
    elim (eqb x.number q) as (λ b.
    digest_of_found (cond b (Some x) (found (xs ++ ys))) ≡ or_else (digest_of_found (cond b (Some x) (found xs))) (digest_under ys q)) [
      | true ↦ refl
      | false ↦ under_append xs ys q
    ]
  where
    found : List FrameDigest → Option FrameDigest
    found digests = find (λ (kept : FrameDigest). eqb kept.number q) digests

pub found_first : (xs ys : List FrameDigest) (q : ℕ) (digest : List ℕ) → digest_under xs q ≡ Some digest → digest_under (xs ++ ys) q ≡ Some digest
unfolding or_else
found_first xs ys q digest here = under_append xs ys q ∙ ap (λ (o : Option (List ℕ)). or_else o (digest_under ys q)) here

pub found_behind : (xs ys : List FrameDigest) (q : ℕ) → digest_under xs q ≡ None → digest_under (xs ++ ys) q ≡ digest_under ys q
unfolding or_else
found_behind xs ys q none = under_append xs ys q ∙ ap (λ (o : Option (List ℕ)). or_else o (digest_under ys q)) none

-- ---- followers

-- one more follower
one_follower : (waiting : List FrameDigest) (first next : ℕ) → first < next →
    followers_of waiting first (next - first) ≡ found_under first (digest_under waiting first) ++ followers_of waiting (first + 1) (next - (first + 1))
one_follower waiting first next below =
    let count : next - first ≡ suc (next - suc first) = omega (arith, below) in
    let at : suc first ≡ first + 1 = omega arith in
    ap (followers_of waiting first) count
    ∙ ap (λ n. found_under first (digest_under waiting first) ++ followers_of waiting n (next - n)) at

-- the followers so far, with what was before them, lead to all of them
pub followed_by_one : (applied after waiting : List FrameDigest) (first next : ℕ) (digest : List ℕ) → first < next → digest_under waiting first ≡ Some digest →
    after ≡ applied ++ record { number = first; digest = digest } ∷ [] →
    after ++ followers_of waiting (first + 1) (next - (first + 1)) ≡ applied ++ followers_of waiting first (next - first)
followed_by_one applied after waiting first next digest below here is =
    let rest : List FrameDigest = followers_of waiting (first + 1) (next - (first + 1)) in
    let one : List FrameDigest = record { number = first; digest = digest } ∷ [] in
    ap (λ (t : List FrameDigest). t ++ rest) is ∙ append_assoc applied one rest
    ∙ sym (ap (λ (t : List FrameDigest). applied ++ t) (one_follower waiting first next below
    ∙ ap (λ (o : Option (List ℕ)). found_under first o ++ rest) here))

pub followed_by_none : (applied waiting : List FrameDigest) (first next : ℕ) → first < next → digest_under waiting first ≡ None →
    applied ++ followers_of waiting (first + 1) (next - (first + 1)) ≡ applied ++ followers_of waiting first (next - first)
followed_by_none applied waiting first next below none =
    let rest : List FrameDigest = followers_of waiting (first + 1) (next - (first + 1)) in
    sym (ap (λ (t : List FrameDigest). applied ++ t) (one_follower waiting first next below
    ∙ ap (λ (o : Option (List ℕ)). found_under first o ++ rest) none))
