-- Hexadecimal digits that the reader's functions read are those of the definitions.
use Rattle.std.proofs.Common.{
  ◌≡◌,
  ◌<◌,
  ◌≤◌,
  ◌+◌,
  ◌*◌,
  ◌/◌,
  ◌%◌,
  ◌==◌,
  ◌&&◌,
  ℕ,
  suc,
  Bool,
  true,
  false,
  ltb,
  leb,
  true≢false,
  eq-eqb,
  List,
  [],
  ◌∷◌,
  ◌++◌,
  length,
  refl,
  sym,
  ap,
  subst,
  ◌∙◌,
  inl,
  inr,
  arith,
}
use Rattle.std.specs.Prelude.{Option, Some, None, Result, Ok, Err, replicate, if◌then◌else◌}
use Rattle.std.proofs.lemmas.Bool.{and_parts, cases_lt, eqb-true, ltb-true, lt-ltb, leb-true, le-leb, lt-leb}
use Rattle.std.specs.List.{list_all}
use Rattle.std.proofs.lemmas.Bool.Decides.{nat_tests}
use Rattle.std.specs.Char.{digit_value}
use Rattle.std.specs.Option.{option_map}
use Rattle.std.specs.Result.{result_ok}
use Rattle.hex.specs.declared.error.FromHexError.{FromHexError}
use Rattle.hex.specs.declared.error.FromHexError.TheVariants.{InvalidHexCharacter, OddLength}
use Rattle.hex.specs.Hex.{hex_digit_value, value_at, pair_value, ◌>>=◌, decode_pairs, decode_of, decode_sized}
use Rattle.hex.proofs.HexLemmas.{decode_of-even, decode_of-ok, decode_sized-twice, decode_sized-ok}
use Rattle.uefi_text.specs.Bytes.{IsPair, IsHexData}
use Rattle.uefi_text.specs.Node.{IsMacAddress}
use Rattle.uefi_text.specs.Reader.{is_data, data_bytes, data_of, mac_of}
use Rattle.uefi_text.proofs.Bytes.Guids.{hex_length}
use Rattle.uefi_text.proofs.Read.Numbers.{chosen_some, some_same}

hex_value : (c : ℕ) → digit_value c < 16 → hex_digit_value c ≡ Some (digit_value c)
hex_value c h = grind (arith, nat_tests)

hex_none : (c : ℕ) → 16 ≤ digit_value c → hex_digit_value c ≡ None
hex_none c h = grind (arith, nat_tests)

-- what a digit is worth
value_found : (c i v : ℕ) → value_at c i ≡ Ok v → (digit_value c < 16) × (v ≡ digit_value c)
value_found c i v e =
    elim (cases_lt (digit_value c) 16) [
      | inl low ↦ let is : Ok (digit_value c) ≡ Ok v = sym (rw (hex_value c low) refl) ∙ e in (low, cc)
      | inr high ↦ let none : value_at c i ≡ Err (InvalidHexCharacter c i) = rw (hex_none c high) refl in absurd (cc)
    ]

value_again : (c i : ℕ) → digit_value c < 16 → value_at c i ≡ Ok (digit_value c)
value_again c i low = rw (hex_value c low) refl

-- the second step, if both gave a value
then_ok : {A B : Type 0} (r : Result A FromHexError) (f : A → Result B FromHexError) (y : B) → (r >>= f) ≡ Ok y → (x : A) × (r ≡ Ok x) × (f x ≡ Ok y)
then_ok (Ok x) f y e = (x, refl, e)
then_ok (Err e') f y e = cc

pair_found : (high low i byte : ℕ) → pair_value high low i ≡ Ok byte → IsPair high low byte
pair_found high low i byte e =
    let first = then_ok (value_at high i) (λ h. value_at low (i + 1) >>= (λ l. Ok (h * 16 + l))) byte e in
    let second = then_ok (value_at low (i + 1)) (λ l. Ok (first.0 * 16 + l)) byte first.2 in
    let h = value_found high i first.0 first.1 in
    let l = value_found low (i + 1) second.0 second.1 in
    let last : Ok (first.0 * 16 + second.0) ≡ Ok byte = second.2 in
    let sum : first.0 * 16 + second.0 ≡ byte = cc in
    record { high_digit = h.0; low_digit = l.0; value = sym sum ∙ ap (λ x. x * 16 + second.0) h.1 ∙ ap (λ x. digit_value high * 16 + x) l.1 }

after : {A B : Type 0} (r : Result A FromHexError) (f : A → Result B FromHexError) (x : A) → r ≡ Ok x → (r >>= f) ≡ f x
after r f x e = ap (λ q. q >>= f) e

pair_again : (high low i byte : ℕ) → IsPair high low byte → pair_value high low i ≡ Ok byte
pair_again high low i byte is =
    after (value_at high i) (λ h. value_at low (i + 1) >>= (λ l. Ok (h * 16 + l))) (digit_value high) (value_again high i is.high_digit)
    ∙ after (value_at low (i + 1)) (λ l. Ok (digit_value high * 16 + l)) (digit_value low) (value_again low (i + 1) is.low_digit)
    ∙ ap (λ x. Ok x) (sym is.value)

pairs_found : (i : ℕ) (text bytes : List ℕ) → decode_pairs i text ≡ Ok bytes → IsHexData text bytes
unfolding decode_pairs
pairs_found i [] [] e = tt
pairs_found i [] (b ∷ bytes) e = let no : Ok [] ≡ Ok (b ∷ bytes) = e in absurd (cc)
pairs_found i (c ∷ []) bytes e = let no : Err OddLength ≡ Ok bytes = e in absurd (cc)
pairs_found i (high ∷ low ∷ text) bytes e =
    let first = then_ok (pair_value high low i) (λ byte. decode_pairs (i + 2) text >>= (λ rest. Ok (byte ∷ rest))) bytes e in
    let second = then_ok (decode_pairs (i + 2) text) (λ rest. Ok (first.0 ∷ rest)) bytes first.2 in
    let last : Ok (first.0 ∷ second.0) ≡ Ok bytes = second.2 in
    let cells : first.0 ∷ second.0 ≡ bytes = cc in
    subst (IsHexData (high ∷ low ∷ text)) cells (pair_found high low i first.0 first.1, pairs_found (i + 2) text second.0 second.1)

pairs_again : (i : ℕ) (text bytes : List ℕ) → IsHexData text bytes → decode_pairs i text ≡ Ok bytes
unfolding decode_pairs
pairs_again i [] [] h = refl
pairs_again i [] (_ ∷ _) h = absurd h
pairs_again i (_ ∷ []) bytes h = absurd h
pairs_again i (_ ∷ _ ∷ _) [] h = absurd h
pairs_again i (high ∷ low ∷ text) (byte ∷ bytes) h =
    after (pair_value high low i) (λ b. decode_pairs (i + 2) text >>= (λ rest. Ok (b ∷ rest))) byte (pair_again high low i byte h.0)
    ∙ after (decode_pairs (i + 2) text) (λ rest. Ok (byte ∷ rest)) bytes (pairs_again (i + 2) text bytes h.1)

decode_found : (text bytes : List ℕ) → decode_of text ≡ Ok bytes → IsHexData text bytes
decode_found text bytes e =
    let parts = decode_of-ok text bytes e in
    pairs_found 0 text bytes (sym (decode_of-even text parts.0) ∙ e)

decode_again : (text bytes : List ℕ) → IsHexData text bytes → decode_of text ≡ Ok bytes
decode_again text bytes is =
    decode_of-even text (omega (arith, hex_length text bytes is)) ∙ pairs_again 0 text bytes is

ok_of : {A : Type 0} (r : Result A FromHexError) (x : A) → result_ok r ≡ Some x → r ≡ Ok x
ok_of (Ok y) x e = cc
ok_of (Err e') x e = cc

-- data is what its digits are read as
even_up : (n : ℕ) → (suc (suc n) % 2 == 0) ≡ true → (n % 2 == 0) ≡ true
even_up n h = let two : suc (suc n) % 2 ≡ 0 = eqb-true _ 0 h in eq-eqb (n % 2) 0 (omega arith)

even_down : (n : ℕ) → (n % 2 == 0) ≡ true → (suc (suc n) % 2 == 0) ≡ true
even_down n h = let two : n % 2 ≡ 0 = eqb-true _ 0 h in eq-eqb (suc (suc n) % 2) 0 (omega arith)

-- a pair of digits before data
pub data_pair : (high low : ℕ) (text : List ℕ) → is_data (high ∷ low ∷ text) ≡ true → (digit_value high < 16) × (digit_value low < 16) × (is_data text ≡ true)
data_pair high low text h =
    let both = and_parts (suc (suc (length text)) % 2 == 0) (list_all (λ d. ltb (digit_value d) 16) (high ∷ low ∷ text)) h in
    let first = and_parts (ltb (digit_value high) 16) (list_all (λ d. ltb (digit_value d) 16) (low ∷ text)) both.1 in
    let second = and_parts (ltb (digit_value low) 16) (list_all (λ d. ltb (digit_value d) 16) text) first.1 in
    (ltb-true (digit_value high) 16 first.0, ltb-true (digit_value low) 16 second.0, rw (even_up (length text) both.0, second.1) refl)

no_single : (c : ℕ) → is_data (c ∷ []) ≡ true → ⊥
no_single c h = true≢false (sym h)

pub data_read : (text : List ℕ) → is_data text ≡ true → IsHexData text (data_bytes text)
data_read [] h = tt
data_read (c ∷ []) h = no_single c h
data_read (high ∷ low ∷ text) h =
    let p = data_pair high low text h in
    (record { high_digit = p.0; low_digit = p.1; value = refl }, data_read text p.2)

data_is : (text bytes : List ℕ) → IsHexData text bytes → (is_data text ≡ true) × (data_bytes text ≡ bytes)
data_is [] [] h = (refl, refl)
data_is [] (_ ∷ _) h = absurd h
data_is (_ ∷ []) bytes h = absurd h
data_is (_ ∷ _ ∷ _) [] h = absurd h
data_is (high ∷ low ∷ text) (byte ∷ bytes) h =
    let rest = data_is text bytes h.1 in
    let both = and_parts (length text % 2 == 0) (list_all (λ d. ltb (digit_value d) 16) text) rest.0 in (
      rw (even_down (length text) both.0, lt-ltb (digit_value high) 16 h.0.high_digit, lt-ltb (digit_value low) 16 h.0.low_digit, both.1) refl,
      rw (sym h.0.value, rest.1) refl,
    )

pub data_found : (most : ℕ) (text bytes : List ℕ) → data_of most text ≡ Some bytes → IsHexData text bytes × (length bytes ≤ most)
data_found most text bytes e =
    let read = chosen_some (is_data text && leb (length (data_bytes text)) most) (Some (data_bytes text)) bytes e in
    let both = and_parts (is_data text) (leb (length (data_bytes text)) most) read.0 in
    let same = some_same (data_bytes text) bytes read.1 in
    (subst (IsHexData text) same (data_read text both.0), subst (λ (b : List ℕ). length b ≤ most) same (leb-true (length (data_bytes text)) most both.1))

pub data_again : (most : ℕ) (text bytes : List ℕ) → IsHexData text bytes → length bytes ≤ most → data_of most text ≡ Some bytes
data_again most text bytes is len =
    let read = data_is text bytes is in
    rw (read.0, read.1, le-leb (length bytes) most len) refl

-- data has half as many bytes as digits
pub data_length : (text : List ℕ) → length (data_bytes text) ≡ length text / 2
data_length [] = refl
data_length (c ∷ []) = refl
data_length (high ∷ low ∷ text) = let rest = data_length text in omega arith

and_none : (b : Bool) (x : Option (List ℕ)) → (if b && false then x else None) ≡ None
and_none true x = refl
and_none false x = refl

-- too many digits for this many bytes
pub data_long : (most : ℕ) (text : List ℕ) → most < length text / 2 → data_of most text ≡ None
data_long most text long =
    let over : leb (length (data_bytes text)) most ≡ false = lt-leb (length (data_bytes text)) most (omega (arith, data_length text)) in
    rw over (and_none (is_data text) (Some (data_bytes text)))

pub mapped : (f : List ℕ → List ℕ) (o : Option (List ℕ)) (y : List ℕ) → option_map f o ≡ Some y → (x : List ℕ) × (o ≡ Some x) × (f x ≡ y)
mapped f None y e = cc
mapped f (Some x) y e = (x, refl, cc)

-- an address of six bytes
pub mac_found : (text address : List ℕ) → mac_of text ≡ Some address → IsMacAddress text address
mac_found text address e =
    let six = mapped (λ x. x ++ replicate 26 0) (result_ok (decode_sized text 6)) address e in
    let sized = ok_of (decode_sized text 6) six.0 six.1 in
    let len = decode_sized-ok text 6 six.0 sized in
    let read = decode_found text six.0 (sym (decode_sized-twice text 6 len) ∙ sized) in
    record { six = six.0; read = read; len = omega (arith, len, hex_length text six.0 read); value = sym six.2 }

pub mac_again : (text address : List ℕ) → IsMacAddress text address → mac_of text ≡ Some address
mac_again text address is =
    let len : length text ≡ 2 * 6 = omega (arith, hex_length text is.six is.read, is.len) in
    ap (λ r. option_map (λ x. x ++ replicate 26 0) (result_ok r)) (decode_sized-twice text 6 len ∙ decode_again text is.six is.read)
    ∙ ap (λ (x : List ℕ). Some x) (sym is.value)
