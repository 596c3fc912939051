-- Changes of different names, made again or taken back in part, leave what some of them lead to, from the first on: by what is found
-- under each name.
use Rattle.std.proofs.Common.{◌≡◌, inl, inr, ℕ, zero, suc, Bool, true, false, cond, List, [], ◌∷◌, reverse, length, take, drop, Option, refl, sym, ap, subst}
use Rattle.std.proofs.Common.{◌∙◌, arith}
use Rattle.std.specs.Cmp.{Equal-is}
use Rattle.std.proofs.lemmas.Cmp.{nat_list_cmp_total, eq_by_cmp_equiv}
use Rattle.std.specs.FinMap.{get}
use Rattle.std.proofs.Math.Seq.{take-length}
use Rattle.std.proofs.lemmas.Bool.{cases_lt}
use Rattle.std.proofs.lemmas.List.{take-append-le, take_all, length-append}
use Rattle.uefi_vars.specs.Vars.{Variables}
use Rattle.uefi_vars.specs.NameChanges.{with_data, after_each}
use Rattle.uefi_vars.specs.BootChange.{same_name}
use Rattle.boot_journal.proofs.Single.{Single, over, as_they_were, back, back-cons, one_name, same_variables, get-each, get-with_data, taken_back}

-- no change is of this name
abbrev pub IsNotIn : List ℕ → List Single → Type 0
IsNotIn name [] = Unit {0}
IsNotIn name (c ∷ cs) = (same_name c.0 name ≡ false) × IsNotIn name cs

-- each change is of another name
abbrev pub AreApart : List Single → Type 0
AreApart [] = Unit {0}
AreApart (c ∷ cs) = IsNotIn c.0 cs × AreApart cs

-- the variables are those after some of the changes, from the first on
abbrev pub IsFrontOf : List Single → Variables → Variables → Type 0
IsFrontOf cs m n = (k : ℕ) × (n ≡ after_each m (take k cs))

pub over_not_in : (cs : List Single) (q : List ℕ) (k : ℕ) (x : Option (List ℕ)) → IsNotIn q cs → over (take k cs) q x ≡ x
over_not_in cs q zero x out = refl
over_not_in [] q (suc k) x out = refl
over_not_in (c ∷ cs) q (suc k) x out =
    ap (λ b. over (take k cs) q (cond b c.1 x)) ((eq_by_cmp_equiv nat_list_cmp_total).symm q c.0 ∙ out.0) ∙ over_not_in cs q k x out.1

-- the greater number
abbrev pub later : ℕ → ℕ → ℕ
later zero k = k
later (suc j) zero = suc j
later (suc j) (suc k) = suc (later j k)

over_fronts : (cs : List Single) (q : List ℕ) (j k : ℕ) (x : Option (List ℕ)) → AreApart cs
    → over (take j cs) q (over (take k cs) q x) ≡ over (take (later j k) cs) q x
over_fronts cs q zero k x apart = refl
over_fronts cs q (suc j) zero x apart = refl
over_fronts [] q (suc j) (suc k) x apart = refl
over_fronts (c ∷ cs) q (suc j) (suc k) x apart =
    at_first (same_name q c.0) (over_fronts cs q j k x apart.1) (λ at_c. subst (λ p. IsNotIn p cs) (sym (one_name q c.0 ((Equal-is _).0 at_c))) apart.0)
  where
    -- the first change may be of the name
    at_first : (b : Bool) → over (take j cs) q (over (take k cs) q x) ≡ over (take (later j k) cs) q x → (b ≡ true → IsNotIn q cs)
        → over (take j cs) q (cond b c.1 (over (take k cs) q (cond b c.1 x))) ≡ over (take (later j k) cs) q (cond b c.1 x)
    at_first true rest out = over_not_in cs q j c.1 (out refl) ∙ sym (over_not_in cs q (later j k) c.1 (out refl))
    at_first false rest out = rest

pub made_fronts : (cs : List Single) (m : Variables) (j k : ℕ) → AreApart cs
    → after_each (after_each m (take k cs)) (take j cs) ≡ after_each m (take (later j k) cs)
made_fronts cs m j k apart = same_variables _ _ (λ q.
    get-each (take j cs) _ q ∙ ap (over (take j cs) q) (get-each (take k cs) m q) ∙ over_fronts cs q j k (get m q) apart
    ∙ sym (get-each (take (later j k) cs) m q))

not_in_drop : (name : List ℕ) (i : ℕ) (cs : List Single) → IsNotIn name cs → IsNotIn name (drop i cs)
not_in_drop name zero cs out = out
not_in_drop name (suc i) [] out = tt
not_in_drop name (suc i) (c ∷ cs) out = not_in_drop name i cs out.1

untouched : (c : Single) (ds : List Single) (m : Variables) → IsNotIn c.0 ds → as_they_were (with_data m c.0 c.1) ds ≡ as_they_were m ds
untouched c [] m out = refl
untouched c (d ∷ ds) m out = λ i. (d.0, (get-with_data m c.0 c.1 d.0 ∙ ap (λ b. cond b c.1 (get m d.0)) out.0) i) ∷ untouched c ds m out.1 i

back_front : (cs : List Single) (m : Variables) (i k : ℕ) → AreApart cs → IsFrontOf cs m (after_each (after_each m (take k cs)) (back (drop i cs) m))
back_front cs m zero k apart = (0, taken_back cs m k)
back_front cs m (suc i) zero apart = (0, taken_back (drop (suc i) cs) m 0)
back_front [] m (suc i) (suc k) apart = (0, refl)
back_front (c ∷ cs) m (suc i) (suc k) apart =
    let rest = back_front cs (with_data m c.0 c.1) i k apart.1 in
    let same = untouched c (drop i cs) m (not_in_drop c.0 i cs apart.0) in
    (suc rest.0, (λ t. after_each (after_each (with_data m c.0 c.1) (take k cs)) (reverse (sym same t))) ∙ rest.1)

take_back : (cs : List Single) (m : Variables) (j : ℕ) → (i : ℕ) × (take j (back cs m) ≡ back (drop i cs) m)
take_back [] m zero = (0, refl)
take_back [] m (suc j) = (0, refl)
take_back (c ∷ cs) m j = elim (cases_lt (length (back cs m)) j) [
  | inr within ↦ let rest =
      take_back cs m j in (suc rest.0, ap (take j) (back-cons c cs m) ∙ take-append-le j (back cs m) ((c.0, get m c.0) ∷ []) within ∙ rest.1)
  | inl past ↦ (0, take_all j (back (c ∷ cs) m) (omega (arith, ap length (back-cons c cs m), length-append (back cs m) ((c.0, get m c.0) ∷ []))))
]

pub again_front : (cs : List Single) (m n : Variables) (j : ℕ) → AreApart cs → IsFrontOf cs m n → IsFrontOf cs m (after_each n (take j cs))
again_front cs m n j apart front = (later j front.0, ap (λ (v : Variables). after_each v (take j cs)) front.1 ∙ made_fronts cs m j front.0 apart)

pub back_fronts : (cs : List Single) (m n : Variables) (j : ℕ) → AreApart cs → IsFrontOf cs m n → IsFrontOf cs m (after_each n (take j (back cs m)))
back_fronts cs m n j apart front =
    let some = take_back cs m j in
    let at = back_front cs m some.0 front.0 apart in
    (at.0, (λ t. after_each (front.1 t) (some.1 t)) ∙ at.1)

-- what no change is of stays
pub others_stay : (cs : List Single) (m : Variables) (q : List ℕ) → IsNotIn q cs → get (after_each m cs) q ≡ get m q
others_stay cs m q out =
    get-each cs m q ∙ ap (λ (l : List Single). over l q (get m q)) (sym (take-length cs))
    ∙ over_not_in cs q (length cs) (get m q) out
