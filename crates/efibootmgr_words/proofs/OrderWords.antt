-- The words of an order, one number after the other, and the lines of numbers.
use Rattle.std.proofs.Common.{◌≡◌, ℕ, List, [], ◌∷◌, ◌++◌, Option, subst, ap, ◌∙◌, refl}
use Rattle.std.proofs.Common.{cond, Result, Ok, Err, OnOk}
use Rattle.std.proofs.lemmas.List.{append_assoc}
use Rattle.std.specs.Result.{is_ok}
use Rattle.std.specs.Prelude.{codes}
use Rattle.std.specs.Int.{w16, from_le_bytes}
use Rattle.std.specs.FinMap.{get}
use Rattle.uefi_vars.specs.Name.{four_digits, next_text, timeout_text}
use Rattle.uefi_vars.specs.Vars.{Variables}
use Rattle.efibootmgr_words.specs.Lines.{number_in, digits_line, seconds_line, number_lines, order_words}

-- what is appended one after the other is appended together
two_joined : (a b c d x y : List ℕ) → x ≡ a ++ b → y ≡ x ++ c → y ++ d ≡ a ++ (b ++ (c ++ d))
two_joined a b c d x y e f =
    ap (λ (t : List ℕ). t ++ d) f ∙ ap (λ (t : List ℕ). (t ++ c) ++ d) e ∙ append_assoc (a ++ b) c d ∙ append_assoc a b (c ++ d)

three_joined : (a b c d x y z : List ℕ) → x ≡ a ++ b → y ≡ x ++ c → z ≡ y ++ d → z ≡ a ++ (b ++ (c ++ d))
three_joined a b c d x y z e f g = g ∙ ap (λ (t : List ℕ). t ++ d) f ∙ two_joined a b c d x (x ++ c) e refl

-- one more number is written
pub one_more : (text before rest start after new behind : List ℕ) (low high number : ℕ) → text ++ order_words before rest ≡ start →
    rest ≡ low ∷ high ∷ behind → number ≡ from_le_bytes w16 (low ∷ high ∷ []) → after ≡ text ++ before → new ≡ after ++ four_digits number →
    new ++ order_words (codes ",") behind ≡ start
one_more text before rest start after new behind low high number was is of_two first second =
    let words = order_words (codes ",") behind in
    let digits = four_digits number in
    let whole : text ++ (before ++ (digits ++ words)) ≡ start =
    ap (λ n. text ++ (before ++ (four_digits n ++ words))) of_two
    ∙ subst (λ (r : List ℕ). text ++ order_words before r ≡ start) is was in
    let parts : new ++ words ≡ text ++ (before ++ (digits ++ words)) = two_joined text before digits words after new first second in
    parts ∙ whole

-- the lines of three numbers, one behind the other
pub three_lines : (vars : Variables) (next current seconds : Option ℕ) (start one two last : List ℕ) →
    next ≡ number_in (get vars next_text) → current ≡ number_in (get vars (codes "BootCurrent")) → seconds ≡ number_in (get vars timeout_text) →
    one ≡ start ++ digits_line (codes "BootNext") next → two ≡ one ++ digits_line (codes "BootCurrent") current →
    last ≡ two ++ seconds_line seconds → last ≡ start ++ number_lines vars
three_lines vars next current seconds start one two last of_next of_current of_seconds first second third =
    three_joined start (digits_line (codes "BootNext") next) (digits_line (codes "BootCurrent") current) (seconds_line seconds) one two last first second third
    ∙ ap (λ n. start ++ (digits_line (codes "BootNext") n ++ (digits_line (codes "BootCurrent") current ++ seconds_line seconds))) of_next
    ∙ ap (λ n. start ++ (digits_line (codes "BootNext") (number_in (get vars next_text)) ++ (digits_line (codes "BootCurrent") n ++ seconds_line seconds))) of_current
    ∙ ap (λ n. start ++ (digits_line (codes "BootNext") (number_in (get vars next_text))
    ++ (digits_line (codes "BootCurrent") (number_in (get vars (codes "BootCurrent"))) ++ seconds_line n))) of_seconds

-- a line that is closed by a line feed
pub line_closed : {V E : Type 0} (r : Result V E) (start title words one two new : List ℕ) → one ≡ start ++ title → two ≡ one ++ words →
    new ≡ cond (is_ok r) (two ++ 10 ∷ []) two → OnOk r (new ≡ start ++ (title ++ (words ++ 10 ∷ [])))
line_closed (Ok v) start title words one two new first second third = three_joined start title words (10 ∷ []) one two new first second third
line_closed (Err e) start title words one two new first second third = tt
