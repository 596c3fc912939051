-- Texts that stand for descriptions.
use Rattle.std.proofs.Common.{◌≡◌, ℕ, zero, suc, List, [], ◌++◌, take, refl, sym, ap, subst, ◌∙◌, append_assoc}
use Rattle.std.specs.Str.Parse.{AllDigits}
use Rattle.std.proofs.lemmas.List.{append-nil}
use Rattle.std.proofs.Math.Seq.{take-append_seam}
use Rattle.value_texts.specs.Description.{HasNoUnit, IsFront, AreFronts}

-- one more front at the end
pub one_more : (n : ℕ) (text units middle here left : List ℕ) → AreFronts n text units middle → IsFront middle here left
    → AreFronts (suc n) text (units ++ here) left
one_more zero text units middle here left none front =
    let at : IsFront text here left = subst (λ (t : List ℕ). IsFront t here left) (sym none.0) front in
    let same : units ++ here ≡ here ++ [] = ap (λ us. us ++ here) none.1 ∙ sym (append-nil here) in
    (here, left, [], at, same, (refl, refl))
one_more (suc n) text units middle here left some front =
    let rest = one_more n some.1 some.2 middle here left some.5 front in
    let same : units ++ here ≡ some.0 ++ (some.2 ++ here) = ap (λ us. us ++ here) some.4 ∙ append_assoc some.0 some.2 here in
    (some.0, some.1, some.2 ++ here, some.3, same, rest)

-- if the first four aren't digits, no unit is at the front
pub no_unit : (text digits : List ℕ) → digits ≡ take 4 text → ¬ AllDigits 16 digits → HasNoUnit text
no_unit text digits is not unit behind begins =
    let front : take 4 text ≡ begins.digits =
    ap (take 4) begins.parts ∙ (ap (λ n. take n (begins.digits ++ behind)) (sym begins.four) ∙ take-append_seam begins.digits behind) in
    not (subst (AllDigits 16) (sym (is ∙ front)) begins.hexadecimal)
