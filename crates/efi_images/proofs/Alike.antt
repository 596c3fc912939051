-- Names that may be one, attribute by attribute.
use Rattle.std.proofs.Common.{◌≡◌, refl, ℕ, suc, ◌+◌, ◌-◌, ◌<◌, ◌≤◌, ◌&&◌, Bool, true, false, List, Option, Some, None, ◌∙◌, ap, sym, arith}
use Rattle.efi_images.specs.Names.{AttributeParts, attribute_of, is_same_attribute, may_end_alike, by_firsts, is_alike_for}

step : (one other : List ℕ) (counter : ℕ) → counter < 64
    → is_alike_for (64 - counter) one other
    ≡ by_firsts (is_alike_for (64 - (counter + 1))) one other (attribute_of one) (attribute_of other)
unfolding is_alike_for
step one other counter below =
    let e : 64 - counter ≡ suc (64 - (counter + 1)) = omega arith in
    rw e refl

pub no_first : (one other : List ℕ) (counter : ℕ) → counter < 64 → None ≡ attribute_of one
    → is_alike_for (64 - counter) one other ≡ may_end_alike one other
no_first one other counter below none =
    step one other counter below
    ∙ ap (λ it. by_firsts (is_alike_for (64 - (counter + 1))) one other it (attribute_of other)) (sym none)

ended : (more : List ℕ → List ℕ → Bool) (one other : List ℕ) (first : Option AttributeParts)
    → by_firsts more one other first None ≡ may_end_alike one other
ended more one other None = refl
ended more one other (Some a) = refl

pub no_second : (one other : List ℕ) (counter : ℕ) → counter < 64 → None ≡ attribute_of other
    → is_alike_for (64 - counter) one other ≡ may_end_alike one other
no_second one other counter below none =
    step one other counter below
    ∙ ap (λ it. by_firsts (is_alike_for (64 - (counter + 1))) one other (attribute_of one) it) (sym none)
    ∙ ended _ one other (attribute_of one)

both : (one other : List ℕ) (counter : ℕ) (a b : AttributeParts) → counter < 64 → Some a ≡ attribute_of one → Some b ≡ attribute_of other
    → is_alike_for (64 - counter) one other ≡ (is_same_attribute a b && is_alike_for (64 - (counter + 1)) a.rest b.rest)
both one other counter a b below is also =
    step one other counter below
    ∙ ap (λ it. by_firsts (is_alike_for (64 - (counter + 1))) one other it (attribute_of other)) (sym is)
    ∙ ap (λ it. by_firsts (is_alike_for (64 - (counter + 1))) one other (Some a) it) (sym also)

pub differ : (one other : List ℕ) (counter : ℕ) (a b : AttributeParts) → counter < 64 → Some a ≡ attribute_of one → Some b ≡ attribute_of other
    → is_same_attribute a b ≡ false → is_alike_for (64 - counter) one other ≡ false
differ one other counter a b below is also not =
    both one other counter a b below is also ∙ ap (λ it. it && is_alike_for (64 - (counter + 1)) a.rest b.rest) not

pub go_on : (one other : List ℕ) (counter : ℕ) (a b : AttributeParts) → counter < 64 → Some a ≡ attribute_of one → Some b ≡ attribute_of other
    → is_same_attribute a b ≡ true → is_alike_for (64 - counter) one other ≡ is_alike_for (64 - (counter + 1)) a.rest b.rest
go_on one other counter a b below is also same =
    both one other counter a b below is also ∙ ap (λ it. it && is_alike_for (64 - (counter + 1)) a.rest b.rest) same

pub none_left : (one other : List ℕ) (counter : ℕ) → 64 ≤ counter → is_alike_for (64 - counter) one other ≡ true
unfolding is_alike_for
none_left one other counter most =
    let e : 64 - counter ≡ 0 = omega arith in
    rw e refl
