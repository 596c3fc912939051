-- The digits of a number, written from the last one on.
use Rattle.std.proofs.Common.{
  ◌≡◌,
  ◌≢◌,
  ◌+◌,
  ◌-◌,
  ◌*◌,
  ◌/◌,
  ◌%◌,
  ◌^◌,
  ◌<◌,
  ◌≤◌,
  ℕ,
  suc,
  false,
  List,
  [],
  ◌∷◌,
  length,
  drop,
  slice_set,
  refl,
  ap,
  sym,
  subst,
  ◌∙◌,
  arith,
}
use Rattle.std.specs.Fmt.{digits, digits_onto, digit_glyph}
use Rattle.std.proofs.lemmas.Bool.{eq-eqb, ne_eqb}
use Rattle.std.proofs.lemmas.List.{drop-set, length-set, drop_all}
use Rattle.std.proofs.Math.Nat.{pow-suc}

last_onto : (k rest : ℕ) (behind : List ℕ) → rest / 16 ≡ 0 → digits_onto (suc k) 16 false rest behind ≡ digit_glyph false (rest % 16) ∷ behind
last_onto k rest behind none = rw (eq-eqb (rest / 16) 0 none) refl

more_onto : (k rest : ℕ) (behind : List ℕ) → rest / 16 ≢ 0 →
    digits_onto (suc k) 16 false rest behind ≡ digits_onto k 16 false (rest / 16) (digit_glyph false (rest % 16) ∷ behind)
more_onto k rest behind some = rw (ne_eqb (rest / 16) 0 some) refl

-- The digits from here on are written, and those of the rest are left, for which there is room.
pub record AreWritten (number start rest : ℕ) (text : List ℕ) : Type 0 where
  pub room : 2 < start
  pub within : start ≤ 18
  pub fits : rest < 16 ^ (start - 2)
  pub len : length text ≡ 18
  pub is : digits_onto (start + 46) 16 false rest (drop start text) ≡ digits 16 false number

pub none_written : (number : ℕ) (text : List ℕ) → number < 2 ^ 64 → length text ≡ 18 → AreWritten number 18 number text
unfolding digits
none_written number text fits len =
    let none : drop 18 text ≡ [] = drop_all 18 text (omega (arith, len)) in
    record {
      room = omega arith;
      within = omega arith;
      fits = omega (arith, fits);
      len = len;
      is = ap (λ (behind : List ℕ). digits_onto 64 16 false number behind) none;
    }

written_before : (number start rest : ℕ) (text : List ℕ) (digit : ℕ) → AreWritten number start rest text →
    digit ≡ digit_glyph false (rest % 16) → drop (start - 1) (slice_set text (start - 1) digit) ≡ digit_glyph false
    (rest % 16) ∷ drop start text
written_before number start rest text digit h is =
    let place : start - 1 + 1 ≡ start = omega (arith, h.room) in
    ap (λ (d : ℕ). drop (start - 1) (slice_set text (start - 1) d)) is ∙ drop-set text (start - 1)
    (digit_glyph false (rest % 16)) (omega (arith, h.room, h.within, h.len))
    ∙ ap (λ (at : ℕ). digit_glyph false (rest % 16) ∷ drop at text) place

-- how many are left
left_of : (number start rest : ℕ) (text : List ℕ) → AreWritten number start rest text → start + 46 ≡ suc (start - 1 + 46)
left_of number start rest text h = omega (arith, h.room)

less : (k rest : ℕ) → rest < 16 ^ suc k → rest / 16 < 16 ^ k
less k rest fits = let power : 16 ^ suc k ≡ 16 ^ k * 16 = pow-suc 16 k in omega (arith, fits, power)

pub last_written : (number start rest : ℕ) (text : List ℕ) (digit : ℕ) → AreWritten number start rest text →
    digit ≡ digit_glyph false (rest % 16) → rest / 16 ≡ 0 → drop (start - 1) (slice_set text (start - 1) digit)
    ≡ digits 16 false number
last_written number start rest text digit h is none =
    written_before number start rest text digit h is ∙ sym (last_onto (start - 1 + 46) rest (drop start text) none)
    ∙ ap (λ (k : ℕ). digits_onto k 16 false rest (drop start text)) (sym (left_of number start rest text h)) ∙ h.is

pub one_written : (number start rest : ℕ) (text : List ℕ) (digit : ℕ) → AreWritten number start rest text →
    digit ≡ digit_glyph false (rest % 16) → rest / 16 ≢ 0 → AreWritten number (start - 1) (rest / 16)
    (slice_set text (start - 1) digit)
one_written number start rest text digit h is some =
    let power : 16 ^ (start - 2) ≡ 16 ^ suc (start - 3) = ap (λ (k : ℕ). 16 ^ k) (omega (arith, h.room)) in
    let fits : rest / 16 < 16 ^ (start - 3) = less (start - 3) rest (subst (λ (n : ℕ). rest < n) power h.fits) in
    let three : start ≡ 3 → rest / 16 ≡ 0 = λ e. let one : 16 ^ (start - 3) ≡ 1 = ap (λ (n : ℕ). 16 ^ (n - 3)) e in omega (arith, fits, one) in
    let not_three : start ≢ 3 = λ e. some (three e) in
    record {
      room = omega (arith, h.room, not_three);
      within = omega (arith, h.within);
      fits = subst (λ (k : ℕ). rest / 16 < 16 ^ k) (omega (arith, h.room)) fits;
      len = length-set text (start - 1) digit ∙ h.len;
      is = ap (λ (behind : List ℕ). digits_onto (start - 1 + 46) 16 false (rest / 16) behind) (written_before number start rest text digit h is)
          ∙ sym (more_onto (start - 1 + 46) rest (drop start text) some)
          ∙ ap (λ (k : ℕ). digits_onto k 16 false rest (drop start text)) (sym (left_of number start rest text h)) ∙ h.is;
    }
