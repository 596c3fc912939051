-- Numbers of two bytes, one after the other.
use Rattle.std.proofs.Common.{◌≡◌, ℕ, ◌+◌, ◌-◌, ◌*◌, ◌/◌, ◌%◌, List, [], ◌∷◌, ◌++◌, length, take, drop, refl, sym, ap, ◌∙◌, arith, replicate}
use Rattle.std.specs.Int.{w16, to_le_bytes, from_le_bytes}
use Rattle.std.specs.List.{AllByRecursion}
use Rattle.std.proofs.lemmas.List.{take_all, take_at, drop_at, drop-replicate, length-append, length-replicate}
use Rattle.uefi_path.specs.Row.{IsByte, AreBytes}
use Rattle.uefi_path.specs.Units.{IsTwoByte, units_bytes, units_of}
use Rattle.uefi_path.proofs.Numbers.{wide_16}

pub units_again : (units : List ℕ) → AllByRecursion IsTwoByte units → units_of (units_bytes units) ≡ units
units_again [] valid = refl
units_again (n ∷ units) valid =
    let here : from_le_bytes w16 (to_le_bytes w16 n) ≡ n = wide_16.again n valid.0 in
    ap (λ (m : ℕ). m ∷ units_of (units_bytes units)) here ∙ ap (λ (t : List ℕ). n ∷ t) (units_again units valid.1)

pub bytes_again : (bytes : List ℕ) → AllByRecursion IsByte bytes → length bytes % 2 ≡ 0 → units_bytes (units_of bytes) ≡ bytes
bytes_again [] valid even = refl
bytes_again (low ∷ []) valid even = absurd (omega arith)
bytes_again (low ∷ high ∷ rest) valid even =
    let pair : AreBytes 2 (low ∷ high ∷ []) = (refl, (valid.0, (valid.1.0, tt))) in
    ap (λ (t : List ℕ). t ++ units_bytes (units_of rest)) (wide_16.same (low ∷ high ∷ []) pair)
    ∙ ap (λ (t : List ℕ). low ∷ high ∷ t) (bytes_again rest valid.1.1 (omega arith))

pub units_length : (units : List ℕ) → length (units_bytes units) ≡ 2 * length units
units_length [] = refl
units_length (n ∷ units) = omega (arith, units_length units)

pub units_are_bytes : (units : List ℕ) → AllByRecursion IsByte (units_bytes units)
units_are_bytes [] = tt
units_are_bytes (n ∷ units) = ((wide_16.bytes n).0, ((wide_16.bytes n).1.0, units_are_bytes units))

pub are_two_bytes : (bytes : List ℕ) → AllByRecursion IsByte bytes → AllByRecursion IsTwoByte (units_of bytes)
are_two_bytes [] valid = tt
are_two_bytes (low ∷ []) valid = tt
are_two_bytes (low ∷ high ∷ rest) valid = (omega (arith, valid.0, valid.1.0), are_two_bytes rest valid.1.1)

pub half_as_long : (bytes : List ℕ) → length (units_of bytes) ≡ length bytes / 2
half_as_long [] = refl
half_as_long (low ∷ []) = refl
half_as_long (low ∷ high ∷ rest) = omega (arith, half_as_long rest)

-- ---- numbers over the zeros that were made for them

-- `count` bytes written after what was there, over zeros, with `behind` zeros after them
pub record IsOver (old bytes room : List ℕ) (start count behind : ℕ) : Type 0 where
  pub zeros : ℕ
  pub zeros-is : zeros ≡ count + behind
  pub start-is : start ≡ length old
  pub room-is : room ≡ take (start + count + behind) old ++ replicate zeros 0
  pub len : length bytes ≡ count

-- what the whole is once these bytes are there
abbrev written_over : List ℕ → List ℕ → ℕ → ℕ → List ℕ
written_over bytes room start count = take start room ++ (bytes ++ drop count (drop start room))

over_zeros : (old bytes room : List ℕ) (start count behind : ℕ) → IsOver old bytes room start count behind →
    written_over bytes room start count ≡ old ++ (bytes ++ replicate behind 0)
over_zeros old bytes room start count behind over =
    let zeros = replicate {A = ℕ} (count + behind) 0 in
    let whole : room ≡ old ++ zeros = over.room-is
    ∙ ap (λ (n : ℕ). take (start + count + behind) old ++ replicate n 0) over.zeros-is
    ∙ ap (λ (t : List ℕ). t ++ zeros) (take_all (start + count + behind) old (omega (arith, over.start-is))) in
    let front : take start room ≡ old = ap (take start) whole ∙ take_at old zeros start (sym over.start-is) in
    let left : count + behind - count ≡ behind = omega arith in
    let back : drop count (drop start room) ≡ replicate behind 0 =
    ap (λ (t : List ℕ). drop count (drop start t)) whole ∙ ap (drop count)
    (drop_at old zeros start (sym over.start-is)) ∙ drop-replicate count (count + behind) 0
    ∙ ap (λ (n : ℕ). replicate {A = ℕ} n 0) left in
    rw (front, back) refl

-- the same, if a list of that length is cut out of it and what follows it
pub over_zeros_whole : (old bytes room : List ℕ) (start count behind len : ℕ) → IsOver old bytes room start count behind → len ≡ start + count + behind
    → take len (written_over bytes room start count ++ drop (length (written_over bytes room start count)) room) ≡ old ++ (bytes ++ replicate behind 0)
over_zeros_whole old bytes room start count behind len over long =
    let is = over_zeros old bytes room start count behind over in
    let here = old ++ (bytes ++ replicate {A = ℕ} behind 0) in
    let size : length here ≡ len = omega (
      arith,
      long,
      over.len,
      over.start-is,
      length-append old (bytes ++ replicate {A = ℕ} behind 0),
      length-append bytes (replicate {A = ℕ} behind 0),
      length-replicate {A = ℕ} behind 0,
    ) in
    rw is (ap (λ (n : ℕ). take n (here ++ drop (length here) room)) (sym size) ∙ take_at here (drop (length here) room) (length here) refl)
