-- Numbers as bytes, and the fields of a node's data one after the other.
use Rattle.std.proofs.Common.{◌≡◌, ℕ, ◌+◌, ◌<◌, ◌≤◌, ◌^◌, List, [], ◌∷◌, length, take, drop, refl, sym, ap, ◌∙◌, arith, inl, inr, ◌%◌}
use Rattle.std.specs.Int.{Width, w8, w16, w32, w64, byte_len, to_le_bytes, from_le_bytes}
use Rattle.std.specs.List.{concat, AllByRecursion}
use Rattle.std.proofs.lemmas.List.{
  take-append-drop,
  take_at,
  drop_at,
  length-append,
  drop-drop,
  drop_all,
  get_or-drop,
  get_or-take,
  get_or_past,
  length-drop,
  length-take,
}
use Rattle.std.proofs.lemmas.Bool.{cases_lt}
use Rattle.std.proofs.lemmas.Nat.{le_bytes_2, le_bytes_4, le_bytes_8, from_le_bytes-to_le_bytes_2, from_le_bytes-to_le_bytes_4, from_le_bytes-to_le_bytes_8}
use Rattle.uefi_path.specs.Row.{IsByte, AreBytes}
use Rattle.uefi_path.specs.Reader.{number_at, bytes_at}
use Rattle.uefi_path.proofs.Bytes.{IsBytes, bytes_from_recursion, recursion_from_bytes, AllByRecursion-append}

-- numbers of this width are those below the limit, and each is its bytes
pub record IsWide (w : Width) (limit : ℕ) : Type 0 where
  pub again : (n : ℕ) → n < limit → from_le_bytes w (to_le_bytes w n) ≡ n
  pub same : (bytes : List ℕ) → AreBytes (byte_len w) bytes → to_le_bytes w (from_le_bytes w bytes) ≡ bytes
  pub below : (bytes : List ℕ) → AreBytes (byte_len w) bytes → from_le_bytes w bytes < limit
  pub len : (n : ℕ) → length (to_le_bytes w n) ≡ byte_len w
  pub bytes : (n : ℕ) → AllByRecursion IsByte (to_le_bytes w n)

pub IsBytes-drop : (at : ℕ) (bytes : List ℕ) → IsBytes bytes → IsBytes (drop at bytes)
IsBytes-drop at bytes fits i = rw get_or-drop (fits (at + i))

IsBytes-take : (n : ℕ) (bytes : List ℕ) → IsBytes bytes → IsBytes (take n bytes)
IsBytes-take n bytes fits i =
    elim (cases_lt i n) [
      | inl lt ↦ rw (get_or-take n bytes i 0 lt) (fits i)
      | inr le ↦ rw (get_or_past (take n bytes) i 0 (omega (arith, length-take n bytes))) (omega arith)
    ]

same_8 : (bytes : List ℕ) → AreBytes 1 bytes → to_le_bytes w8 (from_le_bytes w8 bytes) ≡ bytes
same_8 (a ∷ []) are = let small : a % 256 ≡ a = omega (arith, are.1.0) in ap (λ (n : ℕ). n ∷ []) small
same_8 [] are = absurd (omega (arith, are.0))
same_8 (a ∷ b ∷ bytes) are = absurd (omega (arith, are.0))

below_8 : (bytes : List ℕ) → AreBytes 1 bytes → from_le_bytes w8 bytes < 2 ^ 8
below_8 bytes are = let fits = bytes_from_recursion bytes are.1 in omega (arith, fits 0)

pub wide_8 : IsWide w8 (2 ^ 8)
wide_8 = record {
  again = λ n lt. omega arith;
  same = same_8;
  below = below_8;
  len = λ n. refl;
  bytes = λ n. (omega arith, tt);
}

pub wide_16 : IsWide w16 (2 ^ 16)
wide_16 = record {
  again = λ n lt. from_le_bytes-to_le_bytes_2 n lt;
  same = λ bytes are. le_bytes_2 bytes _ are.0 (bytes_from_recursion bytes are.1) refl;
  below = λ bytes are. let fits = bytes_from_recursion bytes are.1 in omega (arith, fits 0, fits 1);
  len = λ n. refl;
  bytes = λ n. (omega arith, (omega arith, tt));
}

pub wide_32 : IsWide w32 (2 ^ 32)
wide_32 = record {
  again = λ n lt. from_le_bytes-to_le_bytes_4 n lt;
  same = λ bytes are. le_bytes_4 bytes _ are.0 (bytes_from_recursion bytes are.1) refl;
  below = λ bytes are. let fits = bytes_from_recursion bytes are.1 in omega (arith, fits 0, fits 1, fits 2, fits 3);
  len = λ n. refl;
  bytes = λ n. (omega arith, (omega arith, (omega arith, (omega arith, tt))));
}

pub wide_64 : IsWide w64 (2 ^ 64)
wide_64 = record {
  again = λ n lt. from_le_bytes-to_le_bytes_8 n lt;
  same = λ bytes are. le_bytes_8 bytes _ are.0 (bytes_from_recursion bytes are.1) refl;
  below = λ bytes are. let fits = bytes_from_recursion bytes are.1 in omega (arith, fits 0, fits 1, fits 2, fits 3, fits 4, fits 5, fits 6, fits 7);
  len = λ n. refl;
  bytes = λ n. (omega arith, (omega arith, (omega arith, (omega arith, (omega arith, (omega arith, (omega arith, (omega arith, tt))))))));
}

pub byte_alone : (n : ℕ) → n < 2 ^ 8 → to_le_bytes w8 n ≡ n ∷ []
byte_alone n lt =
    let small : n % 256 ≡ n = omega arith in
    ap (λ (b : ℕ). b ∷ []) small

-- the data from an offset on is these fields
pub record FieldsFrom (at : ℕ) (body : List ℕ) (fields : List (List ℕ)) : Type 0 where
  pub are : drop at body ≡ concat fields

pub no_field : (at : ℕ) (body : List ℕ) → length body ≤ at → FieldsFrom at body []
no_field at body past = record { are = drop_all at body past }

pub then_array : (count at : ℕ) (body : List ℕ) {fields : List (List ℕ)} → FieldsFrom (at + count) body fields →
    FieldsFrom at body (bytes_at at count body ∷ fields)
then_array count at body {fields} others =
    let behind : drop count (drop at body) ≡ concat fields = drop-drop count at body ∙ others.are in
    record { are = rw (← behind) (sym (take-append-drop count (drop at body))) }

-- the bytes of an array of the data
pub array_bytes : (count at : ℕ) (body : List ℕ) → IsBytes body → at + count ≤ length body → AreBytes count (bytes_at at count body)
array_bytes count at body fits within = (
  omega (arith, length-take count (drop at body), length-drop at body),
  recursion_from_bytes (bytes_at at count body) (IsBytes-take count (drop at body) (IsBytes-drop at body fits)),
)

pub then_field : (w : Width) (limit : ℕ) → IsWide w limit → (at : ℕ) (body : List ℕ) {fields : List (List ℕ)} → IsBytes body → at + byte_len w ≤ length body
    → FieldsFrom (at + byte_len w) body fields → FieldsFrom at body (to_le_bytes w (number_at w at body) ∷ fields)
then_field w limit wide at body {fields} fits within others =
    let here : to_le_bytes w (number_at w at body) ≡ bytes_at at (byte_len w) body =
    wide.same (bytes_at at (byte_len w) body) (array_bytes (byte_len w) at body fits within) in
    rw here (then_array (byte_len w) at body others)

-- the number of a field is below its width's limit
pub number_below : (w : Width) (limit : ℕ) → IsWide w limit → (at : ℕ) (body : List ℕ) → IsBytes body →
    at + byte_len w ≤ length body → number_at w at body < limit
number_below w limit wide at body fits within = wide.below (bytes_at at (byte_len w) body) (array_bytes (byte_len w) at body fits within)

-- fields of bytes alone
pub record AreByteFields (fields : List (List ℕ)) : Type 0 where
  pub bytes : AllByRecursion IsByte (concat fields)

pub no_bytes : AreByteFields []
no_bytes = record { bytes = tt }

pub then_bytes : (w : Width) (limit : ℕ) → IsWide w limit → (n : ℕ) {fields : List (List ℕ)} → AreByteFields fields → AreByteFields (to_le_bytes w n ∷ fields)
then_bytes w limit wide n {fields} h = record { bytes = AllByRecursion-append IsByte (to_le_bytes w n) (concat fields) (wide.bytes n) h.bytes }

pub then_octets : (count : ℕ) (octets : List ℕ) {fields : List (List ℕ)} → AreBytes count octets → AreByteFields fields → AreByteFields (octets ∷ fields)
then_octets count octets {fields} are h = record { bytes = AllByRecursion-append IsByte octets (concat fields) are.1 h.bytes }

-- ---- what was written is read again

pub behind : (count at : ℕ) (body : List ℕ) {field : List ℕ} {fields : List (List ℕ)} → length field ≡ count →
    FieldsFrom at body (field ∷ fields) → FieldsFrom (at + count) body fields
behind count at body {field} {fields} long all =
    record { are = sym (drop-drop count at body) ∙ ap (λ (t : List ℕ). drop count t) all.are ∙ drop_at field (concat fields) count long }

pub array_again : (count at : ℕ) (body : List ℕ) {octets : List ℕ} {fields : List (List ℕ)} → length octets ≡ count →
    FieldsFrom at body (octets ∷ fields) → bytes_at at count body ≡ octets
array_again count at body {octets} {fields} long all = ap (λ (t : List ℕ). take count t) all.are ∙ take_at octets (concat fields) count long

pub number_again : (w : Width) (limit : ℕ) → IsWide w limit →
    (at : ℕ) (body : List ℕ) {n : ℕ} {fields : List (List ℕ)} → n < limit →
    FieldsFrom at body (to_le_bytes w n ∷ fields) → number_at w at body ≡ n
number_again w limit wide at body {n} {fields} lt all = ap (λ (t : List ℕ). from_le_bytes w t)
    (array_again (byte_len w) at body (wide.len n) all) ∙ wide.again n lt

-- how many bytes fields take
pub record HasLength (fields : List (List ℕ)) (total : ℕ) : Type 0 where
  pub is : length (concat fields) ≡ total

pub no_length : HasLength [] 0
no_length = record { is = refl }

pub then_length : (count : ℕ) (field : List ℕ) {fields : List (List ℕ)} {total : ℕ} → length field ≡ count →
    HasLength fields total → HasLength (field ∷ fields) (count + total)
then_length count field {fields} long others = record { is = omega (arith, long, others.is, length-append field (concat fields)) }
