-- Lists are cut at a mark in one way.
use Rattle.std.proofs.Common.{◌≡◌, ◌≢◌, ℕ, List, [], ◌∷◌, ◌++◌, refl, sym, ap, ◌∙◌, append-nil, subst}
use Rattle.std.specs.List.{AllByRecursion, join_with_byte}
use Rattle.uefi_text.specs.Within.{Lacks}

-- the list ends here, or goes on with what the property does not hold of
abbrev pub StopsAt : {X : Type 0} → (X → Type 0) → List X → Type 0
StopsAt P [] = Unit {0}
StopsAt P (x ∷ _) = P x → ⊥

-- lists of what the property holds of, before what it does not hold of
pub same_fronts : {X : Type 0} (P : X → Type 0) (a b x y : List X) → AllByRecursion P a → AllByRecursion P b →
    StopsAt P x → StopsAt P y → a ++ x ≡ b ++ y → (a ≡ b) × (x ≡ y)
same_fronts P [] [] x y all-a all-b stops-x stops-y e = (refl, e)
same_fronts P [] (b ∷ bs) [] y all-a all-b stops-x stops-y e = absurd (cc)
same_fronts P [] (b ∷ bs) (c ∷ x) y all-a all-b stops-x stops-y e =
    let head : b ≡ c = cc in absurd (stops-x (subst P head all-b.0))
same_fronts P (a ∷ as') [] x [] all-a all-b stops-x stops-y e = absurd (cc)
same_fronts P (a ∷ as') [] x (c ∷ y) all-a all-b stops-x stops-y e =
    let head : a ≡ c = cc in absurd (stops-y (subst P head all-a.0))
same_fronts P (a ∷ as') (b ∷ bs) x y all-a all-b stops-x stops-y e =
    let head : a ≡ b = cc in
    let tail : as' ++ x ≡ bs ++ y = cc in
    let parts = same_fronts P as' bs x y all-a.1 all-b.1 stops-x stops-y tail in
    (cc, parts.1)

-- what comes before the first mark
pub same_before_mark : (mark : ℕ) (a b x y : List ℕ) → Lacks mark a → Lacks mark b → a ++ (mark ∷ x) ≡ b ++ (mark ∷ y) → (a ≡ b) × (x ≡ y)
same_before_mark mark a b x y lacks-a lacks-b e =
    let parts = same_fronts (λ c. c ≢ mark) a b (mark ∷ x) (mark ∷ y) lacks-a lacks-b (λ no. no refl) (λ no. no refl) e in
    let tails : mark ∷ x ≡ mark ∷ y = parts.1 in
    (parts.0, cc)

-- a list without the mark isn't a list with one
no_mark : (mark : ℕ) (a b x : List ℕ) → Lacks mark a → Lacks mark b → a ≡ b ++ (mark ∷ x) → ⊥
no_mark mark a b x lacks-a lacks-b e =
    let parts = same_fronts (λ c. c ≢ mark) a b [] (mark ∷ x) lacks-a lacks-b tt (λ no. no refl) (append-nil a ∙ e) in
    let tails : [] ≡ mark ∷ x = parts.1 in
    cc

-- lists that are joined by a mark, if none has the mark
pub same_joined : (mark : ℕ) (as' bs : List (List ℕ)) → AllByRecursion (Lacks mark) as' →
    AllByRecursion (Lacks mark) bs → as' ≢ [] → bs ≢ [] → join_with_byte mark as' ≡ join_with_byte mark bs → as' ≡ bs
same_joined mark [] bs lacks-a lacks-b some-a some-b e = absurd (some-a refl)
same_joined mark (a ∷ as') [] lacks-a lacks-b some-a some-b e = absurd (some-b refl)
same_joined mark (a ∷ []) (b ∷ []) lacks-a lacks-b some-a some-b e = ap (λ (x : List ℕ). x ∷ []) e
same_joined mark (a ∷ []) (b ∷ c ∷ bs) lacks-a lacks-b some-a some-b e =
    absurd (no_mark mark a b (join_with_byte mark (c ∷ bs)) lacks-a.0 lacks-b.0 e)
same_joined mark (a ∷ c ∷ as') (b ∷ []) lacks-a lacks-b some-a some-b e =
    absurd (no_mark mark b a (join_with_byte mark (c ∷ as')) lacks-b.0 lacks-a.0 (sym e))
same_joined mark (a ∷ c ∷ as') (b ∷ d ∷ bs) lacks-a lacks-b some-a some-b e =
    let parts = same_before_mark mark a b (join_with_byte mark (c ∷ as')) (join_with_byte mark (d ∷ bs)) lacks-a.0 lacks-b.0 e in
    let others = same_joined mark (c ∷ as') (d ∷ bs) lacks-a.1 lacks-b.1 (λ no. cc) (λ no. cc) parts.1 in
    let head : a ≡ b = parts.0 in
    cc

-- the parts of a joined list are not empty, so neither is it
joined_some : (mark : ℕ) (b : List ℕ) (bs : List (List ℕ)) → b ≢ [] → join_with_byte mark (b ∷ bs) ≡ [] → ⊥
joined_some mark [] bs some e = some refl
joined_some mark (c ∷ b) [] some e = cc
joined_some mark (c ∷ b) (d ∷ bs) some e = cc

-- lists that are joined by a mark, if none has the mark or is empty
pub same_parted : (mark : ℕ) (as' bs : List (List ℕ)) → AllByRecursion (Lacks mark) as' →
    AllByRecursion (Lacks mark) bs → AllByRecursion (λ part. part ≢ []) as' → AllByRecursion (λ part. part ≢ []) bs →
    join_with_byte mark as' ≡ join_with_byte mark bs → as' ≡ bs
same_parted mark [] [] lacks-a lacks-b some-a some-b e = refl
same_parted mark [] (b ∷ bs) lacks-a lacks-b some-a some-b e = absurd (joined_some mark b bs some-b.0 (sym e))
same_parted mark (a ∷ as') [] lacks-a lacks-b some-a some-b e = absurd (joined_some mark a as' some-a.0 e)
same_parted mark (a ∷ as') (b ∷ bs) lacks-a lacks-b some-a some-b e =
    same_joined mark (a ∷ as') (b ∷ bs) lacks-a lacks-b (λ no. cc) (λ no. cc) e
