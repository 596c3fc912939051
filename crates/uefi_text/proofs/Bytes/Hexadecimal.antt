-- The digits of bytes, in the words of the crate `hex` and of std.
use Rattle.std.proofs.Common.{
  ◌≡◌,
  ◌<◌,
  ◌≤◌,
  ◌/◌,
  ◌%◌,
  ℕ,
  zero,
  suc,
  false,
  List,
  [],
  ◌∷◌,
  ◌++◌,
  length,
  append_assoc,
  get_or,
  take,
  drop,
  refl,
  ap,
  sym,
  ◌∙◌,
  arith,
}
use Rattle.std.proofs.lemmas.Grind.{flat_map-append}
use Rattle.std.proofs.lemmas.List.{take-append-drop, take_all}
use Rattle.std.specs.List.{AllByRecursion, flat_map}
use Rattle.std.specs.Fmt.{digit_glyph}
use Rattle.hex.specs.Hex.{encode_with, encode_lower, lower_digits}
use Rattle.uefi_path.specs.Row.{IsByte}
use Rattle.std.specs.Fmt.{decimal}
use Rattle.uefi_text.specs.Bytes.{hex_text, pair_text, address_text, eui_text}

table_digit : (d : ℕ) → d < 16 → get_or lower_digits d 0 ≡ digit_glyph false d
table_digit zero h = refl
table_digit (suc zero) h = refl
table_digit (suc (suc zero)) h = refl
table_digit (suc (suc (suc zero))) h = refl
table_digit (suc (suc (suc (suc zero)))) h = refl
table_digit (suc (suc (suc (suc (suc zero))))) h = refl
table_digit (suc (suc (suc (suc (suc (suc zero)))))) h = refl
table_digit (suc (suc (suc (suc (suc (suc (suc zero))))))) h = refl
table_digit (suc (suc (suc (suc (suc (suc (suc (suc zero)))))))) h = refl
table_digit (suc (suc (suc (suc (suc (suc (suc (suc (suc zero))))))))) h = refl
table_digit (suc (suc (suc (suc (suc (suc (suc (suc (suc (suc zero)))))))))) h = refl
table_digit (suc (suc (suc (suc (suc (suc (suc (suc (suc (suc (suc zero))))))))))) h = refl
table_digit (suc (suc (suc (suc (suc (suc (suc (suc (suc (suc (suc (suc zero)))))))))))) h = refl
table_digit (suc (suc (suc (suc (suc (suc (suc (suc (suc (suc (suc (suc (suc zero))))))))))))) h = refl
table_digit (suc (suc (suc (suc (suc (suc (suc (suc (suc (suc (suc (suc (suc (suc zero)))))))))))))) h = refl
table_digit (suc (suc (suc (suc (suc (suc (suc (suc (suc (suc (suc (suc (suc (suc (suc zero))))))))))))))) h = refl
table_digit (suc (suc (suc (suc (suc (suc (suc (suc (suc (suc (suc (suc (suc (suc (suc (suc n)))))))))))))))) h = absurd (omega arith)

-- what the crate writes is the printed text
pub hex_encoded : (bytes : List ℕ) → AllByRecursion IsByte bytes → encode_lower bytes ≡ hex_text bytes
unfolding encode_with
hex_encoded [] h = refl
hex_encoded (b ∷ bytes) h =
    let small : b < 256 = h.0 in
    let high = table_digit (b / 16) (omega arith) in
    let low = table_digit (b % 16) (omega arith) in
    let rest = hex_encoded bytes h.1 in
    cc

-- the text of a prefix, and of what follows it
pub hex_text-split : (i : ℕ) (bytes : List ℕ) → hex_text (take i bytes) ++ hex_text (drop i bytes) ≡ hex_text bytes
hex_text-split i bytes = sym (flat_map-append (pair_text false) (take i bytes) (drop i bytes)) ∙ ap hex_text (take-append-drop i bytes)

-- a prefix that is written, after what is written so far
pub hex_text-more : (done : List ℕ) (i : ℕ) (rest front behind all : List ℕ) → front ≡ take i rest → behind ≡ drop i rest
    → done ++ hex_text rest ≡ all → (done ++ hex_text front) ++ hex_text behind ≡ all
hex_text-more done i rest front behind all f b e =
    rw (f, b) (append_assoc done (hex_text (take i rest)) (hex_text (drop i rest)) ∙ ap (λ text. done ++ text) (hex_text-split i rest) ∙ e)

-- the printed text of an address, by its bytes
pub address_cells : (bytes : List ℕ) → length bytes ≡ 4
    → decimal (get_or bytes 0 0) ++
    (46 ∷ (decimal (get_or bytes 1 0)
    ++ (46 ∷ (decimal (get_or bytes 2 0) ++ (46 ∷ (decimal (get_or bytes 3 0))))))) ≡ address_text bytes
address_cells (a ∷ b ∷ c ∷ d ∷ []) len = refl
address_cells [] len = absurd (omega (arith, len))
address_cells (_ ∷ []) len = absurd (omega (arith, len))
address_cells (_ ∷ _ ∷ []) len = absurd (omega (arith, len))
address_cells (_ ∷ _ ∷ _ ∷ []) len = absurd (omega (arith, len))
address_cells (_ ∷ _ ∷ _ ∷ _ ∷ _ ∷ more) len = absurd (omega (arith, len))

-- and of an EUI-64
pub eui_cells : (bytes : List ℕ) → length bytes ≡ 8
    → pair_text false (get_or bytes 0 0)
    ++ (45 ∷ (pair_text false (get_or bytes 1 0)
    ++ (45 ∷ (pair_text false (get_or bytes 2 0)
    ++ (45 ∷ (pair_text false (get_or bytes 3 0)
    ++ (45 ∷ (pair_text false (get_or bytes 4 0)
    ++ (45 ∷ (pair_text false (get_or bytes 5 0)
    ++ (45 ∷ (pair_text false (get_or bytes 6 0) ++ (45 ∷ (pair_text false (get_or bytes 7 0))))))))))))))) ≡ eui_text bytes
eui_cells (a ∷ b ∷ c ∷ d ∷ e ∷ f ∷ g ∷ h ∷ []) len = refl
eui_cells [] len = absurd (omega (arith, len))
eui_cells (_ ∷ []) len = absurd (omega (arith, len))
eui_cells (_ ∷ _ ∷ []) len = absurd (omega (arith, len))
eui_cells (_ ∷ _ ∷ _ ∷ []) len = absurd (omega (arith, len))
eui_cells (_ ∷ _ ∷ _ ∷ _ ∷ []) len = absurd (omega (arith, len))
eui_cells (_ ∷ _ ∷ _ ∷ _ ∷ _ ∷ []) len = absurd (omega (arith, len))
eui_cells (_ ∷ _ ∷ _ ∷ _ ∷ _ ∷ _ ∷ []) len = absurd (omega (arith, len))
eui_cells (_ ∷ _ ∷ _ ∷ _ ∷ _ ∷ _ ∷ _ ∷ []) len = absurd (omega (arith, len))
eui_cells (_ ∷ _ ∷ _ ∷ _ ∷ _ ∷ _ ∷ _ ∷ _ ∷ _ ∷ more) len = absurd (omega (arith, len))

-- the digits of lists one after the other are those of the lists joined
hex_text-flat_map : {X : Type 0} (f : X → List ℕ) (xs : List X) → flat_map (λ x. hex_text (f x)) xs ≡ hex_text (flat_map f xs)
hex_text-flat_map f [] = refl
hex_text-flat_map f (x ∷ xs) =
    ap (λ text. hex_text (f x) ++ text) (hex_text-flat_map f xs) ∙ sym (flat_map-append (pair_text false) (f x) (flat_map f xs))

pub hex_text-whole : {X : Type 0} (f : X → List ℕ) (xs : List X) (i : ℕ) → length xs ≤ i
    → flat_map (λ x. hex_text (f x)) (take i xs) ≡ hex_text (flat_map f xs)
hex_text-whole f xs i past = rw (take_all i xs past) (hex_text-flat_map f xs)

-- and with something after them
pub hex_text-behind : (f : ℕ → List ℕ) (xs behind : List ℕ) (i : ℕ) → length xs ≤ i
    → flat_map (λ x. hex_text (f x)) (take i xs) ++ hex_text behind ≡ hex_text (flat_map f xs ++ behind)
hex_text-behind f xs behind i past =
    ap (λ text. text ++ hex_text behind) (hex_text-whole f xs i past) ∙ sym (flat_map-append (pair_text false) (flat_map f xs) behind)
