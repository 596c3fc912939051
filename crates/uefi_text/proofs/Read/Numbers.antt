-- The numbers that the reader's functions read are those of the definitions.
use Rattle.std.proofs.Common.{◌≡◌, ◌≤◌, inl, inr, ℕ, Bool, true, false, eqb, ltb, leb, ◌&&◌, List, [], ◌∷◌, ◌++◌, length, drop, refl, ap, sym, subst, arith}
use Rattle.std.specs.Prelude.{Option, Some, None, codes, if◌then◌else◌}
use Rattle.std.specs.Char.{digit_value}
use Rattle.std.specs.List.{list_all}
use Rattle.std.specs.Str.Parse.{AllDigits, digits_value}
use Rattle.std.proofs.lemmas.Bool.{and_parts, ltb-true, leb-true, eqb-true, lt-ltb, le-leb}
use Rattle.std.proofs.lemmas.Bool.Decides.{nat_tests}
use Rattle.uefi_text.specs.Number.{AreDigits, IsNumber}
use Rattle.uefi_text.specs.Reader.{◌>>=◌, is_numeral, numeral_of, begins_hexadecimal, number_of, number_up_to}

-- what a step reads after another
pub bind_some : {A B : Type 0} (o : Option A) (f : A → Option B) (y : B) → (o >>= f) ≡ Some y → (x : A) × (o ≡ Some x) × (f x ≡ Some y)
bind_some None f y e = cc
bind_some (Some x) f y e = (x, refl, e)

pub chosen_some : {A : Type 0} (b : Bool) (x : Option A) (y : A) → (if b then x else None) ≡ Some y → (b ≡ true) × (x ≡ Some y)
chosen_some true x y e = (refl, e)
chosen_some false x y e = cc

pub some_same : {A : Type 0} (x y : A) → Some x ≡ Some y → x ≡ y
some_same x y e = cc

pub all_digits : (base : ℕ) (text : List ℕ) → list_all (λ digit. ltb (digit_value digit) base) text ≡ true → AllDigits base text
all_digits base [] h = tt
all_digits base (c ∷ cs) h =
    let both = and_parts (ltb (digit_value c) base) (list_all (λ digit. ltb (digit_value digit) base) cs) h in
    (ltb-true (digit_value c) base both.0, all_digits base cs both.1)

pub digits_all : (base : ℕ) (text : List ℕ) → AllDigits base text → list_all (λ digit. ltb (digit_value digit) base) text ≡ true
digits_all base [] h = refl
digits_all base (c ∷ cs) h = rw (lt-ltb (digit_value c) base h.0, digits_all base cs h.1) refl

pub numeral_found : (base most : ℕ) (text : List ℕ) (n : ℕ) → numeral_of base most text ≡ Some n → AreDigits base most text n
unfolding numeral_of
numeral_found base most text n e =
    let all = list_all (λ digit. ltb (digit_value digit) base) text in
    let read = chosen_some (is_numeral base most text) (Some (digits_value base text)) n e in
    let first = and_parts (ltb 0 (length text)) (leb (length text) most && all) read.0 in
    let second = and_parts (leb (length text) most) all first.1 in
    record {
      numeral = (ltb-true 0 (length text) first.0, all_digits base text second.1);
      len = leb-true (length text) most second.0;
      value = sym (some_same (digits_value base text) n read.1);
    }

pub numeral_again : (base most : ℕ) (text : List ℕ) (n : ℕ) → AreDigits base most text n → numeral_of base most text ≡ Some n
unfolding numeral_of
numeral_again base most text n is =
    rw (lt-ltb 0 (length text) is.numeral.0, le-leb (length text) most is.len, digits_all base text is.numeral.1) (ap (λ (x : ℕ). Some x) (sym is.value))

-- the text begins with `0x`
begins : (text : List ℕ) → begins_hexadecimal text ≡ true → text ≡ codes "0x" ++ drop 2 text
begins [] h = cc
begins (a ∷ []) h = let both = and_parts (eqb a 48) (eqb 0 120) h in absurd (omega (arith, eqb-true 0 120 both.1))
begins (a ∷ b ∷ cs) h =
    let both = and_parts (eqb a 48) (eqb b 120) h in
    let first = eqb-true a 48 both.0 in
    let second = eqb-true b 120 both.1 in
    cc

decimal_begins : (text : List ℕ) → AllDigits 10 text → begins_hexadecimal text ≡ false
decimal_begins [] h = refl
decimal_begins (a ∷ []) h = elim (eqb a 48) as (λ b. (b && eqb 0 120) ≡ false) [ true ↦ refl | false ↦ refl ]
decimal_begins (a ∷ b ∷ cs) h =
    let other : eqb b 120 ≡ false = grind (arith, nat_tests, h.1.0) in
    rw other (elim (eqb a 48) as (λ b. (b && false) ≡ false) [ true ↦ refl | false ↦ refl ])

by_start : (b : Bool) (text : List ℕ) (n : ℕ) → begins_hexadecimal text ≡ b
    → (if b then numeral_of 16 16 (drop 2 text) else numeral_of 10 20 text) ≡ Some n → IsNumber text n
by_start true text n starts e = inl (drop 2 text, begins text starts, numeral_found 16 16 (drop 2 text) n e)
by_start false text n starts e = inr (numeral_found 10 20 text n e)

pub number_found : (text : List ℕ) (n : ℕ) → number_of text ≡ Some n → IsNumber text n
unfolding number_of
number_found text n e = by_start (begins_hexadecimal text) text n refl e

pub number_again : (text : List ℕ) (n : ℕ) → IsNumber text n → number_of text ≡ Some n
unfolding number_of
number_again text n (inl hex) = rw hex.1 (numeral_again 16 16 hex.0 n hex.2)
number_again text n (inr decimal) = rw (decimal_begins text decimal.numeral.1) (numeral_again 10 20 text n decimal)

pub up_to_found : (most : ℕ) (text : List ℕ) (n : ℕ) → number_up_to most text ≡ Some n → IsNumber text n × (n ≤ most)
unfolding number_up_to
up_to_found most text n e =
    let first = bind_some (number_of text) _ n e in
    let second = chosen_some (leb first.0 most) (Some first.0) n first.2 in
    let same = some_same first.0 n second.1 in
    let under = leb-true first.0 most second.0 in
    (subst (IsNumber text) same (number_found text first.0 first.1), omega arith)

pub up_to_again : (most : ℕ) (text : List ℕ) (n : ℕ) → IsNumber text n → n ≤ most → number_up_to most text ≡ Some n
unfolding number_up_to
up_to_again most text n is under = rw (number_again text n is, le-leb n most under) refl
