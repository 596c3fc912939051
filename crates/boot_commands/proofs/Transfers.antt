-- What reads and writes do to known bytes, one after the other.
use Rattle.std.proofs.Common.{◌≡◌, ℕ, ◌+◌, ◌≤◌, List, ◌++◌, length, take, drop, Option, Some, None, Result, Ok, Err, sym, ap, ◌∙◌, arith}
use Rattle.std.proofs.Common.{append_assoc, append-nil, length-append, take-append-drop}
use Rattle.std.specs.Prelude.{IfSome, OnErr}
use Rattle.std.specs.Io.KnownBytes.{Appends, Consumes}
use Rattle.boot_commands.specs.Source.{ReadsAll, TakesAtMost}

pub appends_more : (a b c : Option (List ℕ)) (xs ys : List ℕ) → Appends a b xs → Appends b c ys → Appends a c (xs ++ ys)
appends_more None b c xs ys p q = tt
appends_more (Some x) None c xs ys p q = absurd p
appends_more (Some x) (Some y) None xs ys p q = absurd q
appends_more (Some x) (Some y) (Some z) xs ys p q = q ∙ ap (λ (l : List ℕ). l ++ ys) p ∙ append_assoc x xs ys

pub consumes_more : (a b c : Option (List ℕ)) (xs ys : List ℕ) → Consumes a b xs → Consumes b c ys → Consumes a c (xs ++ ys)
consumes_more None b c xs ys p q = tt
consumes_more (Some x) None c xs ys p q = absurd p
consumes_more (Some x) (Some y) None xs ys p q = absurd q
consumes_more (Some x) (Some y) (Some z) xs ys p q = p ∙ ap (λ (l : List ℕ). xs ++ l) q ∙ sym (append_assoc xs ys z)

-- what is read to its end is all that there was
pub all_of : (a b : Option (List ℕ)) (bytes : List ℕ) → ReadsAll a b bytes → IfSome a (λ text. text ≡ bytes)
all_of None b bytes p = tt
all_of (Some text) None bytes p = absurd p.0
all_of (Some text) (Some left) bytes p = p.0 ∙ ap (λ (l : List ℕ). bytes ++ l) p.1 ∙ append-nil bytes

pub takes_more : (a b c : Option (List ℕ)) (xs : List ℕ) (count most : ℕ) → Consumes a b xs → TakesAtMost b c count →
    length xs + count ≤ most → TakesAtMost a c most
takes_more a b c xs count most p q len =
    let all = length-append xs q.0 in
    (xs ++ q.0, consumes_more a b c xs q.0 p q.1, omega (arith, all, q.2, len))

-- what was read whole was taken
pub takes_all : (a b : Option (List ℕ)) (bytes : List ℕ) (most : ℕ) → ReadsAll a b bytes → length bytes ≤ most → TakesAtMost a b (most + 1)
takes_all a b bytes most p len = (bytes, p.0, omega (arith, len))

pub takes_all_on_err : {T E : Type 0} (r : Result T E) (a b : Option (List ℕ)) (bytes : List ℕ) (most : ℕ) → ReadsAll a b bytes →
    length bytes ≤ most → OnErr r (TakesAtMost a b (most + 1))
takes_all_on_err (Ok _) a b bytes most p len = tt
takes_all_on_err (Err _) a b bytes most p len = takes_all a b bytes most p len

-- some more of the bytes is written
pub wrote_more : (all front rest : List ℕ) (count : ℕ) → all ≡ front ++ rest → all ≡ (front ++ take count rest) ++ drop count rest
wrote_more all front rest count is =
    is ∙ ap (λ (l : List ℕ). front ++ l) (sym (take-append-drop count rest)) ∙ sym (append_assoc front (take count rest) (drop count rest))
