-- What the reader's functions read as an identifier of eight bytes is what the definitions say.
use Rattle.std.proofs.Common.{◌≡◌, ◌+◌, ◌*◌, ◌&&◌, ℕ, ltb, List, [], ◌∷◌, length, refl, sym, ap, subst, ◌∙◌, arith}
use Rattle.std.specs.Prelude.{Some}
use Rattle.std.proofs.lemmas.Bool.{and_parts, ltb-true, lt-ltb}
use Rattle.std.specs.Char.{digit_value}
use Rattle.uefi_text.specs.Bytes.{Each, IsPair, IsByteText, IsEui, hyphen}
use Rattle.uefi_text.specs.Reader.{parts_of, pair_of, byte_of, two_bytes_of, two_of, first_two_of, eui_of}
use Rattle.uefi_text.specs.Within.{Lacks}
use Rattle.uefi_text.proofs.Means.Texts.{all_from_each, hex_lacks}
use Rattle.uefi_text.proofs.Read.Numbers.{bind_some, chosen_some, some_same}
use Rattle.uefi_text.proofs.Read.Arguments.{after_some, each_length, each_not_empty, split_joined, joined_split}

pair_of_found : (high low n : ℕ) → pair_of high low ≡ Some n → IsPair high low n
pair_of_found high low n e =
    let read = chosen_some (ltb (digit_value high) 16 && ltb (digit_value low) 16) (Some (digit_value high * 16 + digit_value low)) n e in
    let both = and_parts (ltb (digit_value high) 16) (ltb (digit_value low) 16) read.0 in
    record {
      high_digit = ltb-true (digit_value high) 16 both.0;
      low_digit = ltb-true (digit_value low) 16 both.1;
      value = sym (some_same (digit_value high * 16 + digit_value low) n read.1);
    }

pair_of_again : (high low n : ℕ) → IsPair high low n → pair_of high low ≡ Some n
pair_of_again high low n is = rw (lt-ltb (digit_value high) 16 is.high_digit, lt-ltb (digit_value low) 16 is.low_digit) (ap (λ x. Some x) (sym is.value))

byte_found : (part : List ℕ) (n : ℕ) → byte_of part ≡ Some n → IsByteText part n
byte_found [] n e = cc
byte_found (_ ∷ []) n e = cc
byte_found (high ∷ low ∷ []) n e = (pair_of_found high low n e, tt)
byte_found (_ ∷ _ ∷ _ ∷ _) n e = cc

byte_again : (part : List ℕ) (n : ℕ) → IsByteText part n → byte_of part ≡ Some n
byte_again [] n h = absurd h
byte_again (_ ∷ []) n h = absurd h
byte_again (high ∷ low ∷ []) n h = pair_of_again high low n h.0
byte_again (_ ∷ _ ∷ _ ∷ []) n h = absurd h.1
byte_again (_ ∷ _ ∷ _ ∷ _ ∷ _) n h = absurd h.1

two_bytes_found : (p q : List ℕ) (r : ℕ × ℕ) → two_bytes_of p q ≡ Some r → IsByteText p r.0 × IsByteText q r.1
unfolding two_bytes_of
two_bytes_found p q r e =
    let a = bind_some (byte_of p) _ r e in
    let b = bind_some (byte_of q) _ r a.2 in
    let same = some_same {A = ℕ × ℕ} (a.0, b.0) r b.2 in
    subst (λ (x : ℕ × ℕ). IsByteText p x.0 × IsByteText q x.1) same (byte_found p a.0 a.1, byte_found q b.0 b.1)

two_bytes_again : (p q : List ℕ) (a b : ℕ) → IsByteText p a → IsByteText q b → two_bytes_of p q ≡ Some (a, b)
unfolding two_bytes_of
two_bytes_again p q a b is also = after_some (byte_of p) _ a (byte_again p a is) ∙ after_some (byte_of q) _ b (byte_again q b also)

eui_parts_found : (parts : List (List ℕ)) (bytes : List ℕ) → eui_of parts ≡ Some bytes → Each IsByteText parts bytes × (length bytes ≡ 8)
unfolding eui_of two_of first_two_of
eui_parts_found [] bytes e = cc
eui_parts_found (_ ∷ []) bytes e = cc
eui_parts_found (_ ∷ _ ∷ []) bytes e = cc
eui_parts_found (_ ∷ _ ∷ _ ∷ []) bytes e = cc
eui_parts_found (_ ∷ _ ∷ _ ∷ _ ∷ []) bytes e = cc
eui_parts_found (_ ∷ _ ∷ _ ∷ _ ∷ _ ∷ []) bytes e = cc
eui_parts_found (_ ∷ _ ∷ _ ∷ _ ∷ _ ∷ _ ∷ []) bytes e = cc
eui_parts_found (_ ∷ _ ∷ _ ∷ _ ∷ _ ∷ _ ∷ _ ∷ []) bytes e = cc
eui_parts_found (p0 ∷ p1 ∷ p2 ∷ p3 ∷ p4 ∷ p5 ∷ p6 ∷ p7 ∷ []) bytes e =
    let a = bind_some (two_bytes_of p0 p1) _ bytes e in
    let b = bind_some (two_bytes_of p2 p3) _ bytes a.2 in
    let c = bind_some (two_bytes_of p4 p5) _ bytes b.2 in
    let d = bind_some (two_bytes_of p6 p7) _ bytes c.2 in
    let f = two_bytes_found p0 p1 a.0 a.1 in
    let g = two_bytes_found p2 p3 b.0 b.1 in
    let h = two_bytes_found p4 p5 c.0 c.1 in
    let i = two_bytes_found p6 p7 d.0 d.1 in
    let read = a.0.0 ∷ a.0.1 ∷ b.0.0 ∷ b.0.1 ∷ c.0.0 ∷ c.0.1 ∷ d.0.0 ∷ d.0.1 ∷ [] in
    let same : read ≡ bytes = some_same read bytes d.2 in
    subst (λ (x : List ℕ). Each IsByteText (p0 ∷ p1 ∷ p2 ∷ p3 ∷ p4 ∷ p5 ∷ p6 ∷ p7 ∷ []) x × (length x ≡ 8)) same
    ((f.0, (f.1, (g.0, (g.1, (h.0, (h.1, (i.0, (i.1, tt)))))))), refl)
eui_parts_found (_ ∷ _ ∷ _ ∷ _ ∷ _ ∷ _ ∷ _ ∷ _ ∷ _ ∷ _) bytes e = cc

eight_pairs : (p0 p1 p2 p3 p4 p5 p6 p7 : List ℕ) (b0 b1 b2 b3 b4 b5 b6 b7 : ℕ) →
    Each IsByteText (p0 ∷ p1 ∷ p2 ∷ p3 ∷ p4 ∷ p5 ∷ p6 ∷ p7 ∷ []) (b0 ∷ b1 ∷ b2 ∷ b3 ∷ b4 ∷ b5 ∷ b6 ∷ b7 ∷ [])
    → eui_of (p0 ∷ p1 ∷ p2 ∷ p3 ∷ p4 ∷ p5 ∷ p6 ∷ p7 ∷ []) ≡ Some (b0 ∷ b1 ∷ b2 ∷ b3 ∷ b4 ∷ b5 ∷ b6 ∷ b7 ∷ [])
unfolding eui_of two_of first_two_of
eight_pairs p0 p1 p2 p3 p4 p5 p6 p7 b0 b1 b2 b3 b4 b5 b6 b7 h =
    after_some {A = ℕ × ℕ} (two_bytes_of p0 p1) _ (b0, b1) (two_bytes_again p0 p1 b0 b1 h.0 h.1.0)
    ∙ after_some {A = ℕ × ℕ} (two_bytes_of p2 p3) _ (b2, b3) (two_bytes_again p2 p3 b2 b3 h.1.1.0 h.1.1.1.0)
    ∙ after_some {A = ℕ × ℕ} (two_bytes_of p4 p5) _ (b4, b5) (two_bytes_again p4 p5 b4 b5 h.1.1.1.1.0 h.1.1.1.1.1.0)
    ∙ after_some {A = ℕ × ℕ} (two_bytes_of p6 p7) _ (b6, b7) (two_bytes_again p6 p7 b6 b7 h.1.1.1.1.1.1.0 h.1.1.1.1.1.1.1.0)

eight_cells : {X : Type 0} (P : List X → Type 0) → ((a b c d e f g h : X) → P (a ∷ b ∷ c ∷ d ∷ e ∷ f ∷ g ∷ h ∷ [])) → (xs : List X) → length xs ≡ 8 → P xs
eight_cells P p [] len = absurd (omega (arith, len))
eight_cells P p (_ ∷ []) len = absurd (omega (arith, len))
eight_cells P p (_ ∷ _ ∷ []) len = absurd (omega (arith, len))
eight_cells P p (_ ∷ _ ∷ _ ∷ []) len = absurd (omega (arith, len))
eight_cells P p (_ ∷ _ ∷ _ ∷ _ ∷ []) len = absurd (omega (arith, len))
eight_cells P p (_ ∷ _ ∷ _ ∷ _ ∷ _ ∷ []) len = absurd (omega (arith, len))
eight_cells P p (_ ∷ _ ∷ _ ∷ _ ∷ _ ∷ _ ∷ []) len = absurd (omega (arith, len))
eight_cells P p (_ ∷ _ ∷ _ ∷ _ ∷ _ ∷ _ ∷ _ ∷ []) len = absurd (omega (arith, len))
eight_cells P p (a ∷ b ∷ c ∷ d ∷ e ∷ f ∷ g ∷ h ∷ []) len = p a b c d e f g h
eight_cells P p (_ ∷ _ ∷ _ ∷ _ ∷ _ ∷ _ ∷ _ ∷ _ ∷ _ ∷ _) len = absurd (omega (arith, len))

eui_parts_again : (parts : List (List ℕ)) (bytes : List ℕ) → Each IsByteText parts bytes → length bytes ≡ 8 → eui_of parts ≡ Some bytes
eui_parts_again parts bytes h len =
    eight_cells (λ ps. Each IsByteText ps bytes → eui_of ps ≡ Some bytes)
    (λ p0 p1 p2 p3 p4 p5 p6 p7. eight_cells (λ bs. Each IsByteText (p0 ∷ p1 ∷ p2 ∷ p3 ∷ p4 ∷ p5 ∷ p6 ∷ p7 ∷ []) bs →
    eui_of (p0 ∷ p1 ∷ p2 ∷ p3 ∷ p4 ∷ p5 ∷ p6 ∷ p7 ∷ []) ≡ Some bs)
    (λ b0 b1 b2 b3 b4 b5 b6 b7 is. eight_pairs p0 p1 p2 p3 p4 p5 p6 p7 b0 b1 b2 b3 b4 b5 b6 b7 is) bytes len)
    parts (each_length IsByteText parts bytes h ∙ len) h

-- eight pairs of digits, joined by hyphens
pub eui_found : (text bytes : List ℕ) → eui_of (parts_of hyphen text) ≡ Some bytes → IsEui text bytes × (length bytes ≡ 8)
eui_found text bytes e =
    let read = eui_parts_found (parts_of hyphen text) bytes e in
    ((parts_of hyphen text, joined_split hyphen text, read.0), read.1)

pub eui_again : (text bytes : List ℕ) → IsEui text bytes → length bytes ≡ 8 → eui_of (parts_of hyphen text) ≡ Some bytes
eui_again text bytes (parts, is, read) len =
    let lacks = all_from_each IsByteText (Lacks hyphen) (λ x y pair. hex_lacks hyphen x (y ∷ []) (omega arith) pair) parts bytes read in
    let cut : parts_of hyphen text ≡ parts = ap (parts_of hyphen) is ∙ split_joined hyphen parts lacks
    (each_not_empty IsByteText parts bytes read (omega arith)) in
    ap eui_of cut ∙ eui_parts_again parts bytes read len
