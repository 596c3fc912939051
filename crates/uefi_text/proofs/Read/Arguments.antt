-- What the reader's functions read of an argument is what the definitions say.
use Rattle.std.proofs.Common.{
  ◌≡◌,
  ◌≢◌,
  ◌<◌,
  ◌≤◌,
  ◌^◌,
  ◌==◌,
  ◌&&◌,
  ℕ,
  Bool,
  true,
  false,
  eqb,
  leb,
  List,
  [],
  ◌∷◌,
  ◌++◌,
  length,
  drop,
  refl,
  sym,
  ap,
  subst,
  ◌∙◌,
  inl,
  inr,
  codes,
  arith,
  eq-eqb,
  ne_eqb,
}
use Rattle.std.specs.Prelude.{Option, Some, None, if◌then◌else◌, slice_index, replicate}
use Rattle.std.proofs.lemmas.Bool.{and_parts, leb-true, le-leb, eqb-true}
use Rattle.std.proofs.lemmas.Int.Digits.{digits_value-lt}
use Rattle.std.proofs.lemmas.List.Splits.{join_with_byte-slice_split}
use Rattle.std.specs.Char.{digit_value}
use Rattle.std.specs.Int.{w32, to_le_bytes}
use Rattle.std.specs.List.{AllByRecursion, join_with_byte}
use Rattle.std.specs.Option.{option_map}
use Rattle.std.specs.Str.Parse.{AllDigits, digits_value}
use Rattle.uuid.specs.Parts.{swap_fields}
use Rattle.uuid.specs.Text.{parsed}
use Rattle.uuid.proofs.RoundTrips.{swap_twice}
use Rattle.uefi_text.specs.Number.{AreDigits, IsNumber}
use Rattle.uefi_text.specs.Bytes.{Each, IsOctet, IsAddress, dot}
use Rattle.uefi_text.specs.Guid.{IsGuid}
use Rattle.uefi_text.specs.Node.{IsOrigin, pnp_hid}
use Rattle.uefi_text.specs.Reader.{
  ◌>>=◌,
  numeral_of,
  number_up_to,
  parts_of,
  octet_of,
  address_of,
  two_of,
  first_two_of,
  guid_read,
  pnp_of,
  begins_pnp,
  hid_of,
  is_text,
  origin_of,
  signature_of,
}
use Rattle.uefi_text.specs.Within.{Lacks}
use Rattle.uefi_text.proofs.Bytes.Guids.{guid_found, guid_again, guid_length}
use Rattle.uefi_text.proofs.Read.Hex.{mapped}
use Rattle.uefi_text.proofs.Read.Marks.{arguments_one, arguments_more}
use Rattle.uefi_text.proofs.Means.Reads.{IsHid, IsSignature}
use Rattle.uefi_text.proofs.Means.Texts.{all_from_each, digits_lack}
use Rattle.uefi_text.proofs.Read.Numbers.{bind_some, chosen_some, some_same, numeral_found, numeral_again, up_to_found, up_to_again}

pub chosen_again : {A : Type 0} (b : Bool) (x : Option A) (y : A) → b ≡ true → x ≡ Some y → (if b then x else None) ≡ Some y
chosen_again true x y is e = e
chosen_again false x y is e = cc

-- the first step, if it gave a value
pub after_some : {A B : Type 0} (o : Option A) (f : A → Option B) (x : A) → o ≡ Some x → (o >>= f) ≡ f x
after_some o f x e = ap (λ q. q >>= f) e

same_text : (xs ys : List ℕ) → is_text xs ys ≡ true → xs ≡ ys
same_text [] [] e = refl
same_text [] (_ ∷ _) e = cc
same_text (_ ∷ _) [] e = cc
same_text (x ∷ xs) (y ∷ ys) e =
    let both = and_parts (x == y) (is_text xs ys) e in
    let head : x ≡ y = eqb-true x y both.0 in
    let tail : xs ≡ ys = same_text xs ys both.1 in
    cc

-- a GUID
pub guid_read_found : (text guid : List ℕ) → guid_read text ≡ Some guid → IsGuid text guid
guid_read_found text guid e =
    let read = chosen_some (length text == 36) (option_map swap_fields (parsed text)) guid e in
    let stored = mapped swap_fields (parsed text) guid read.1 in
    subst (IsGuid text) stored.2 (guid_found text stored.0 (eqb-true (length text) 36 read.0) stored.1)

pub guid_read_again : (text guid : List ℕ) → IsGuid text guid → guid_read text ≡ Some guid
guid_read_again text guid is =
    chosen_again (length text == 36) (option_map swap_fields (parsed text)) guid (eq-eqb (length text) 36 (guid_length text guid is))
    (ap (λ o. option_map swap_fields o) (guid_again text guid is) ∙ ap (λ (x : List ℕ). Some x) (swap_twice guid is.len))

-- how an address was got
by_word : (text : List ℕ) (fixed : ℕ) (b c : Bool) → is_text text (codes "DHCP") ≡ b →
    is_text text (codes "Static") ≡ c → (if b then Some 0 else (if c then Some 1 else None)) ≡ Some fixed → IsOrigin text fixed
by_word text fixed true c is also e = inl (same_text text (codes "DHCP") is, sym (some_same 0 fixed e))
by_word text fixed false true is also e = inr (same_text text (codes "Static") also, sym (some_same 1 fixed e))
by_word text fixed false false is also e = cc

pub origin_found : (text : List ℕ) (fixed : ℕ) → origin_of text ≡ Some fixed → IsOrigin text fixed
origin_found text fixed e = by_word text fixed (is_text text (codes "DHCP")) (is_text text (codes "Static")) refl refl e

pub origin_again : (text : List ℕ) (fixed : ℕ) → IsOrigin text fixed → origin_of text ≡ Some fixed
origin_again text fixed (inl (is, flag)) = rw (is, flag) refl
origin_again text fixed (inr (is, flag)) = rw (is, flag) refl

-- a hardware identifier
pub pnp_found : (four : List ℕ) (hid : ℕ) → pnp_of four ≡ Some hid → AllDigits 16 four × (length four ≡ 4) × (hid ≡ pnp_hid (digits_value 16 four))
unfolding pnp_of
pnp_found four hid e =
    let sized = chosen_some (length four == 4) _ hid e in
    let high = bind_some (numeral_of 16 4 four) _ hid sized.1 in
    let last = chosen_some (leb high.0 0xFFFF) (Some (pnp_hid high.0)) hid high.2 in
    let digits = numeral_found 16 4 four high.0 high.1 in
    (digits.numeral.1, eqb-true (length four) 4 sized.0, sym (some_same (pnp_hid high.0) hid last.1) ∙ ap pnp_hid digits.value)

pub pnp_again : (four : List ℕ) (hid : ℕ) → AllDigits 16 four → length four ≡ 4 → hid ≡ pnp_hid (digits_value 16 four) → pnp_of four ≡ Some hid
unfolding pnp_of
pnp_again four hid all len value =
    let digits : AreDigits 16 4 four (digits_value 16 four) = record { numeral = (omega arith, all); len = omega arith; value = refl } in
    let below : digits_value 16 four < 16 ^ 4 = subst (λ k. digits_value 16 four < 16 ^ k) len (digits_value-lt 16 four all) in
    let low : digits_value 16 four ≤ 0xFFFF = omega arith in
    chosen_again (length four == 4) _ hid (eq-eqb (length four) 4 len)
    (after_some (numeral_of 16 4 four) _ (digits_value 16 four) (numeral_again 16 4 four (digits_value 16 four) digits)
    ∙ chosen_again (leb (digits_value 16 four) 0xFFFF) (Some (pnp_hid (digits_value 16 four))) hid
    (le-leb (digits_value 16 four) 0xFFFF low) (ap (λ x. Some x) (sym value)))

-- parts that are joined by a mark are those that a text is cut into at it
pub split_joined : (mark : ℕ) (parts : List (List ℕ)) → AllByRecursion (Lacks mark) parts → parts ≢ [] → parts_of mark (join_with_byte mark parts) ≡ parts
split_joined mark [] lacks some = absurd (some refl)
split_joined mark (a ∷ []) lacks some = arguments_one mark a lacks.0
split_joined mark (a ∷ b ∷ parts) lacks some =
    arguments_more mark a (join_with_byte mark (b ∷ parts)) lacks.0
    ∙ ap (λ (rest : List (List ℕ)). a ∷ rest) (split_joined mark (b ∷ parts) lacks.1 (λ no. cc))

pub joined_split : (mark : ℕ) (text : List ℕ) → text ≡ join_with_byte mark (parts_of mark text)
joined_split mark text = sym (join_with_byte-slice_split mark text)

pub octet_found : (text : List ℕ) (n : ℕ) → octet_of text ≡ Some n → IsOctet text n
unfolding octet_of
octet_found text n e =
    let first = bind_some (numeral_of 10 3 text) _ n e in
    let second = chosen_some (leb first.0 255) (Some first.0) n first.2 in
    let same = some_same first.0 n second.1 in
    let low = leb-true first.0 255 second.0 in
    (subst (AreDigits 10 3 text) same (numeral_found 10 3 text first.0 first.1), omega arith)

pub octet_again : (text : List ℕ) (n : ℕ) → IsOctet text n → octet_of text ≡ Some n
unfolding octet_of
octet_again text n is = rw (numeral_again 10 3 text n is.0, le-leb n 255 is.1) refl

-- lists of four and of eight
four_cells : {X : Type 0} (P : List X → Type 0) → ((a b c d : X) → P (a ∷ b ∷ c ∷ d ∷ [])) → (xs : List X) → length xs ≡ 4 → P xs
four_cells P p [] len = absurd (omega (arith, len))
four_cells P p (_ ∷ []) len = absurd (omega (arith, len))
four_cells P p (_ ∷ _ ∷ []) len = absurd (omega (arith, len))
four_cells P p (_ ∷ _ ∷ _ ∷ []) len = absurd (omega (arith, len))
four_cells P p (a ∷ b ∷ c ∷ d ∷ []) len = p a b c d
four_cells P p (_ ∷ _ ∷ _ ∷ _ ∷ _ ∷ _) len = absurd (omega (arith, len))

pub each_length : {X Y : Type 0} (R : X → Y → Type 0) (xs : List X) (ys : List Y) → Each R xs ys → length xs ≡ length ys
each_length R [] [] h = refl
each_length R [] (_ ∷ _) h = absurd h
each_length R (_ ∷ _) [] h = absurd h
each_length R (x ∷ xs) (y ∷ ys) h = omega (arith, each_length R xs ys h.1)

pub each_not_empty : {X Y : Type 0} (R : X → Y → Type 0) (xs : List X) (ys : List Y) → Each R xs ys → 0 < length ys → xs ≢ []
each_not_empty R xs ys h some e = omega (arith, each_length R xs ys h, ap length e)

-- the four numbers of an address
address_parts_found : (parts : List (List ℕ)) (bytes : List ℕ) → address_of parts ≡ Some bytes → Each IsOctet parts bytes × (length bytes ≡ 4)
unfolding address_of two_of first_two_of
address_parts_found [] bytes e = cc
address_parts_found (_ ∷ []) bytes e = cc
address_parts_found (_ ∷ _ ∷ []) bytes e = cc
address_parts_found (_ ∷ _ ∷ _ ∷ []) bytes e = cc
address_parts_found (p ∷ q ∷ r ∷ s ∷ []) bytes e =
    let a = bind_some (octet_of p) _ bytes e in
    let b = bind_some (octet_of q) _ bytes a.2 in
    let c = bind_some (octet_of r) _ bytes b.2 in
    let d = bind_some (octet_of s) _ bytes c.2 in
    let same : a.0 ∷ b.0 ∷ c.0 ∷ d.0 ∷ [] ≡ bytes = some_same (a.0 ∷ b.0 ∷ c.0 ∷ d.0 ∷ []) bytes d.2 in
    subst (λ (x : List ℕ). Each IsOctet (p ∷ q ∷ r ∷ s ∷ []) x × (length x ≡ 4)) same
    ((octet_found p a.0 a.1, (octet_found q b.0 b.1, (octet_found r c.0 c.1, (octet_found s d.0 d.1, tt)))), refl)
address_parts_found (_ ∷ _ ∷ _ ∷ _ ∷ _ ∷ _) bytes e = cc

four_octets : (p q r s : List ℕ) (a b c d : ℕ) → Each IsOctet (p ∷ q ∷ r ∷ s ∷ []) (a ∷ b ∷ c ∷ d ∷ []) →
    address_of (p ∷ q ∷ r ∷ s ∷ []) ≡ Some (a ∷ b ∷ c ∷ d ∷ [])
unfolding address_of two_of first_two_of
four_octets p q r s a b c d h =
    after_some (octet_of p) _ a (octet_again p a h.0)
    ∙ after_some (octet_of q) _ b (octet_again q b h.1.0)
    ∙ after_some (octet_of r) _ c (octet_again r c h.1.1.0)
    ∙ after_some (octet_of s) _ d (octet_again s d h.1.1.1.0)

address_parts_again : (parts : List (List ℕ)) (bytes : List ℕ) → Each IsOctet parts bytes → length bytes ≡ 4 → address_of parts ≡ Some bytes
address_parts_again parts bytes h len =
    four_cells (λ ps. Each IsOctet ps bytes → address_of ps ≡ Some bytes)
    (λ p q r s. four_cells (λ bs. Each IsOctet (p ∷ q ∷ r ∷ s ∷ []) bs → address_of (p ∷ q ∷ r ∷ s ∷ []) ≡ Some bs)
    (λ a b c d is. four_octets p q r s a b c d is) bytes len)
    parts (each_length IsOctet parts bytes h ∙ len) h

pub address_found : (text bytes : List ℕ) → address_of (parts_of dot text) ≡ Some bytes → IsAddress text bytes × (length bytes ≡ 4)
address_found text bytes e =
    let read = address_parts_found (parts_of dot text) bytes e in
    ((parts_of dot text, joined_split dot text, read.0), read.1)

pub address_again : (text bytes : List ℕ) → IsAddress text bytes → length bytes ≡ 4 → address_of (parts_of dot text) ≡ Some bytes
address_again text bytes (parts, is, read) len =
    let lacks = all_from_each IsOctet (Lacks dot) (λ x y octet. digits_lack 10 dot x (omega arith) octet.0.numeral.1) parts bytes read in
    let cut : parts_of dot text ≡ parts = ap (parts_of dot) is ∙ split_joined dot parts lacks (each_not_empty IsOctet parts bytes read (omega arith)) in
    ap address_of cut ∙ address_parts_again parts bytes read len

-- the text begins with `PNP`
begins_with_pnp : (text : List ℕ) → begins_pnp text ≡ true → text ≡ codes "PNP" ++ drop 3 text
begins_with_pnp [] h = cc
begins_with_pnp (a ∷ []) h =
    let outer = and_parts (eqb a 80) (eqb 0 78 && eqb 0 80) h in
    let inner = and_parts (eqb 0 78) (eqb 0 80) outer.1 in
    absurd (omega (arith, eqb-true 0 78 inner.0))
begins_with_pnp (a ∷ b ∷ []) h =
    let outer = and_parts (eqb a 80) (eqb b 78 && eqb 0 80) h in
    let inner = and_parts (eqb b 78) (eqb 0 80) outer.1 in
    absurd (omega (arith, eqb-true 0 80 inner.1))
begins_with_pnp (a ∷ b ∷ c ∷ cs) h =
    let outer = and_parts (eqb a 80) (eqb b 78 && eqb c 80) h in
    let inner = and_parts (eqb b 78) (eqb c 80) outer.1 in
    ap (λ x. x ∷ b ∷ c ∷ cs) (eqb-true a 80 outer.0) ∙ ap (λ x. 80 ∷ x ∷ c ∷ cs) (eqb-true b 78 inner.0) ∙ ap (λ x. 80 ∷ 78 ∷ x ∷ cs) (eqb-true c 80 inner.1)

-- no number begins so
number_begins : (text : List ℕ) (n : ℕ) → IsNumber text n → slice_index text 0 ≢ 80
number_begins text n (inl (tail, is, digits)) e = let first : 48 ≡ 80 = sym (ap (λ t. slice_index t 0) is) ∙ e in omega (arith, first)
number_begins [] n (inr digits) e = omega (arith, digits.numeral.0)
number_begins (c ∷ cs) n (inr digits) e =
    let same : digit_value c ≡ digit_value 80 = ap digit_value e in
    let low : digit_value c < 10 = digits.numeral.1.0 in
    omega arith

number_begins_no_pnp : (text : List ℕ) (n : ℕ) → IsNumber text n → begins_pnp text ≡ false
number_begins_no_pnp text n is = rw (ne_eqb (slice_index text 0) 80 (number_begins text n is)) refl

either_is : (text : List ℕ) (hid : ℕ) (b : Bool) → begins_pnp text ≡ b →
    (if b then pnp_of (drop 3 text) else number_up_to 0xFFFFFFFF text) ≡ Some hid → IsHid text hid × (hid ≤ 0xFFFFFFFF)
either_is text hid true starts e =
    let read = pnp_found (drop 3 text) hid e in
    let below : digits_value 16 (drop 3 text) < 16 ^ 4 = subst (λ k. digits_value 16 (drop 3 text) < 16 ^ k) read.1 (digits_value-lt 16 (drop 3 text) read.0) in
    (inl (record { four = drop 3 text; is = begins_with_pnp text starts; all = read.0; len = read.1; value = read.2 }), omega (arith, read.2))
either_is text hid false starts e = let read = up_to_found 0xFFFFFFFF text hid e in (inr read.0, read.1)

-- a hardware identifier in any form
pub hid_found : (text : List ℕ) (hid : ℕ) → hid_of text ≡ Some hid → IsHid text hid × (hid ≤ 0xFFFFFFFF)
unfolding hid_of
hid_found text hid e = either_is text hid (begins_pnp text) refl e

pub hid_again : (text : List ℕ) (hid : ℕ) → IsHid text hid → hid ≤ 0xFFFFFFFF → hid_of text ≡ Some hid
unfolding hid_of
hid_again text hid (inl is) low = rw is.is (pnp_again is.four hid is.all is.len is.value)
hid_again text hid (inr is) low = rw (number_begins_no_pnp text hid is) (up_to_again 0xFFFFFFFF text hid is low)

abbrev bytes_in : Option (List ℕ × ℕ) → List ℕ
bytes_in None = []
bytes_in (Some pair) = pair.0

abbrev kind_in : Option (List ℕ × ℕ) → ℕ
kind_in None = 0
kind_in (Some pair) = pair.1

-- a signature, and its kind
by_format : (format text g : List ℕ) (kind : ℕ) (b c : Bool) → is_text format (codes "GPT") ≡ b → is_text format (codes "MBR") ≡ c
    → (if b then ◌>>=◌ {B = List ℕ × ℕ} (guid_read text) (λ guid. Some (guid, 2)) else
    (if c then ◌>>=◌ {B = List ℕ × ℕ} (number_up_to 0xFFFFFFFF text)
    (λ number. Some (to_le_bytes w32 number ++ replicate 12 0, 1)) else None)) ≡ Some (g, kind)
    → IsSignature format text kind g
by_format format text g kind true c is also e =
    let read = bind_some {B = List ℕ × ℕ} (guid_read text) (λ guid. Some (guid, 2)) (g, kind) e in
    let pair : read.0 ≡ g = ap (λ (o : Option (List ℕ × ℕ)). bytes_in o) read.2 in
    let two : 2 ≡ kind = ap (λ (o : Option (List ℕ × ℕ)). kind_in o) read.2 in
    inl (same_text format (codes "GPT") is, subst (IsGuid text) pair (guid_read_found text read.0 read.1), sym two)
by_format format text g kind false true is also e =
    let read = bind_some {B = List ℕ × ℕ} (number_up_to 0xFFFFFFFF text) (λ number. Some (to_le_bytes w32 number ++ replicate 12 0, 1)) (g, kind) e in
    let number = up_to_found 0xFFFFFFFF text read.0 read.1 in
    let bytes : to_le_bytes w32 read.0 ++ replicate 12 0 ≡ g = ap (λ (o : Option (List ℕ × ℕ)). bytes_in o) read.2 in
    let one : 1 ≡ kind = ap (λ (o : Option (List ℕ × ℕ)). kind_in o) read.2 in
    inr (same_text format (codes "MBR") also, record { number = read.0; read = number.0; range = omega (arith, number.1); value = sym bytes }, sym one)
by_format format text g kind false false is also e = cc

pub signature_found : (format text g : List ℕ) (kind : ℕ) → signature_of format text ≡ Some (g, kind) → IsSignature format text kind g
unfolding signature_of
signature_found format text g kind e = by_format format text g kind (is_text format (codes "GPT")) (is_text format (codes "MBR")) refl refl e

pub signature_again : (format text g : List ℕ) (kind : ℕ) → IsSignature format text kind g → signature_of format text ≡ Some (g, kind)
unfolding signature_of
signature_again format text g kind (inl (is, guid, two)) =
    rw (is, two) (after_some (guid_read text) (λ x. Some (x, 2)) g (guid_read_again text g guid))
signature_again format text g kind (inr (is, number, one)) =
    let below : number.number ≤ 0xFFFFFFFF = omega (arith, number.range) in
    rw (is, one) (after_some (number_up_to 0xFFFFFFFF text) (λ x. Some (to_le_bytes w32 x ++ replicate 12 0, 1))
    number.number (up_to_again 0xFFFFFFFF text number.number number.read below)
    ∙ ap (λ (x : List ℕ). Some (x, 1)) (sym number.value))
