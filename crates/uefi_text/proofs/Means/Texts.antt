-- What the text of an argument is read as is one.
use Rattle.std.proofs.Common.{◌≡◌, ◌≢◌, ◌<◌, ◌≤◌, ℕ, List, [], ◌∷◌, ◌++◌, length, refl, sym, ap, subst, ◌∙◌, inl, inr, codes, arith}
use Rattle.std.specs.Char.{digit_value}
use Rattle.std.specs.List.{AllByRecursion}
use Rattle.std.specs.Str.Parse.{AllDigits, digits_value}
use Rattle.std.specs.Prelude.{replicate}
use Rattle.std.specs.Int.{w32, to_le_bytes}
use Rattle.uuid.specs.Parts.{swap_fields}
use Rattle.uuid.specs.Text.{parsed}
use Rattle.uuid.proofs.RoundTrips.{swap_twice}
use Rattle.uefi_text.specs.Number.{AreDigits, IsHexadecimal, IsNumber}
use Rattle.uefi_text.specs.Bytes.{Each, IsPair, IsHexData, IsOctet, IsAddress, IsByteText, IsEui, dot, hyphen}
use Rattle.uefi_text.specs.Guid.{IsGuid}
use Rattle.uefi_text.specs.Node.{IsPnp, IsMacAddress, IsMbrSignature, IsOrigin, pnp_hid}
use Rattle.uefi_text.proofs.Cut.Marks.{same_parted}
use Rattle.uefi_text.specs.Within.{Lacks}
use Rattle.uefi_text.proofs.Bytes.Guids.{guid_again, guid_only}

-- the first code of a text, or 0 of the empty one
abbrev pub first_code : List ℕ → ℕ
first_code [] = 0
first_code (c ∷ _) = c

-- a digit is none of the codes that have no value in its base
pub digit_is_not : (base mark c : ℕ) → base ≤ digit_value mark → digit_value c < base → c ≢ mark
digit_is_not base mark c high low e = let same : digit_value c ≡ digit_value mark = ap digit_value e in omega arith

pub hexadecimal_is_not_decimal : (text : List ℕ) (most m n : ℕ) → IsHexadecimal text m → AreDigits 10 most text n → ⊥
hexadecimal_is_not_decimal text most m n hex decimal =
    let all : AllDigits 10 (codes "0x" ++ hex.0) = subst (AllDigits 10) hex.1 decimal.numeral.1 in
    let x : digit_value 0x78 < 10 = all.1.0 in
    omega (arith, x)

-- one number, if the two texts are one
pub number_one : (s t : List ℕ) (m n : ℕ) → s ≡ t → IsNumber s m → IsNumber t n → m ≡ n
number_one s t m n same (inl (tail, is, digits)) (inl (tail', is', digits')) =
    let cells : codes "0x" ++ tail ≡ codes "0x" ++ tail' = sym is ∙ same ∙ is' in
    let tails : tail ≡ tail' = cc in
    digits.value ∙ ap (digits_value 16) tails ∙ sym digits'.value
number_one s t m n same (inl hex) (inr decimal) =
    absurd (hexadecimal_is_not_decimal t 20 m n (subst (λ x. IsHexadecimal x m) same hex) decimal)
number_one s t m n same (inr decimal) (inl hex) =
    absurd (hexadecimal_is_not_decimal s 20 n m (subst (λ x. IsHexadecimal x n) (sym same) hex) decimal)
number_one s t m n same (inr digits) (inr digits') = digits.value ∙ ap (digits_value 10) same ∙ sym digits'.value

pub pair_one : (high low a b : ℕ) → IsPair high low a → IsPair high low b → a ≡ b
pair_one high low a b p q = p.value ∙ sym q.value

hex_same : (text a b : List ℕ) → IsHexData text a → IsHexData text b → a ≡ b
hex_same [] [] [] p q = refl
hex_same [] [] (_ ∷ _) p q = absurd q
hex_same [] (_ ∷ _) b p q = absurd p
hex_same (_ ∷ []) a b p q = absurd p
hex_same (_ ∷ _ ∷ _) [] b p q = absurd p
hex_same (_ ∷ _ ∷ _) (_ ∷ _) [] p q = absurd q
hex_same (high ∷ low ∷ text) (x ∷ a) (y ∷ b) p q =
    let head : x ≡ y = pair_one high low x y p.0 q.0 in
    let tail : a ≡ b = hex_same text a b p.1 q.1 in
    cc

pub hex_one : (s t a b : List ℕ) → s ≡ t → IsHexData s a → IsHexData t b → a ≡ b
hex_one s t a b same p q = hex_same t a b (subst (λ x. IsHexData x a) same p) q

-- as many of one on either side
pub each_one : {X Y : Type 0} (R : X → Y → Type 0) → ((x : X) (y z : Y) → R x y → R x z → y ≡ z) →
    (xs : List X) (ys zs : List Y) → Each R xs ys → Each R xs zs → ys ≡ zs
each_one R one [] [] [] p q = refl
each_one R one [] [] (_ ∷ _) p q = absurd q
each_one R one [] (_ ∷ _) zs p q = absurd p
each_one R one (_ ∷ _) [] zs p q = absurd p
each_one R one (_ ∷ _) (_ ∷ _) [] p q = absurd q
each_one R one (x ∷ xs) (y ∷ ys) (z ∷ zs) p q =
    let head : y ≡ z = one x y z p.0 q.0 in
    let tail : ys ≡ zs = each_one R one xs ys zs p.1 q.1 in
    cc

-- a property of those on the left side
pub all_from_each : {X Y : Type 0} (R : X → Y → Type 0) (P : X → Type 0) → ((x : X) (y : Y) → R x y → P x) →
    (xs : List X) (ys : List Y) → Each R xs ys → AllByRecursion P xs
all_from_each R P f [] ys h = tt
all_from_each R P f (x ∷ xs) [] h = absurd h
all_from_each R P f (x ∷ xs) (y ∷ ys) h = (f x y h.0, all_from_each R P f xs ys h.1)

pub digits_lack : (base mark : ℕ) (text : List ℕ) → base ≤ digit_value mark → AllDigits base text → Lacks mark text
digits_lack base mark [] high h = tt
digits_lack base mark (c ∷ text) high h = (digit_is_not base mark c high h.0, digits_lack base mark text high h.1)

pub hex_lacks : (mark : ℕ) (text bytes : List ℕ) → 16 ≤ digit_value mark → IsHexData text bytes → Lacks mark text
hex_lacks mark [] bytes high h = tt
hex_lacks mark (_ ∷ []) bytes high h = absurd h
hex_lacks mark (_ ∷ _ ∷ _) [] high h = absurd h
hex_lacks mark (a ∷ b ∷ text) (byte ∷ bytes) high h =
    (digit_is_not 16 mark a high h.0.high_digit, (digit_is_not 16 mark b high h.0.low_digit, hex_lacks mark text bytes high h.1))

not_empty : (text : List ℕ) → 0 < length text → text ≢ []
not_empty text long e = omega (arith, ap length e)

octet_one : (text : List ℕ) (m n : ℕ) → IsOctet text m → IsOctet text n → m ≡ n
octet_one text m n p q = p.0.value ∙ sym q.0.value

pub address_one : (s t a b : List ℕ) → s ≡ t → IsAddress s a → IsAddress t b → a ≡ b
address_one s t a b same (parts, is, read) (parts', is', read') =
    let lacks = all_from_each IsOctet (Lacks dot) (λ x y octet. digits_lack 10 dot x (omega arith) octet.0.numeral.1) in
    let some = all_from_each IsOctet (λ x. x ≢ []) (λ x y octet. not_empty x octet.0.numeral.0) in
    let one = same_parted dot parts parts' (lacks parts a read) (lacks parts' b read') (some parts a read) (some parts' b read') (sym is ∙ same ∙ is') in
    each_one IsOctet octet_one parts' a b (subst (λ (x : List (List ℕ)). Each IsOctet x a) one read) read'

byte_text_one : (text : List ℕ) (m n : ℕ) → IsByteText text m → IsByteText text n → m ≡ n
byte_text_one text m n p q = let lists : m ∷ [] ≡ n ∷ [] = hex_same text (m ∷ []) (n ∷ []) p q in cc

byte_text_some : (text : List ℕ) (n : ℕ) → IsByteText text n → text ≢ []
byte_text_some [] n h e = h
byte_text_some (c ∷ text) n h e = cc

pub eui_one : (s t a b : List ℕ) → s ≡ t → IsEui s a → IsEui t b → a ≡ b
eui_one s t a b same (pairs, is, read) (pairs', is', read') =
    let lacks = all_from_each IsByteText (Lacks hyphen) (λ x y pair. hex_lacks hyphen x (y ∷ []) (omega arith) pair) in
    let some = all_from_each IsByteText (λ x. x ≢ []) byte_text_some in
    let one = same_parted hyphen pairs pairs' (lacks pairs a read) (lacks pairs' b read') (some pairs a read) (some pairs' b read') (sym is ∙ same ∙ is') in
    each_one IsByteText byte_text_one pairs' a b (subst (λ (x : List (List ℕ)). Each IsByteText x a) one read) read'

pub guid_one : (s t g h : List ℕ) → s ≡ t → IsGuid s g → IsGuid t h → g ≡ h
guid_one s t g h same first second =
    sym (swap_twice g first.len) ∙ guid_only t (swap_fields g) h (sym (ap parsed (sym same) ∙ guid_again s g first)) second

pub pnp_one : (s t : List ℕ) (m n : ℕ) → s ≡ t → IsPnp s m → IsPnp t n → m ≡ n
pnp_one s t m n same p q =
    let cells : codes "PNP" ++ p.four ≡ codes "PNP" ++ q.four = sym p.is ∙ same ∙ q.is in
    let fours : p.four ≡ q.four = cc in
    p.value ∙ ap (λ four. pnp_hid (digits_value 16 four)) fours ∙ sym q.value

pub pnp_is_no_number : (s t : List ℕ) (m n : ℕ) → s ≡ t → IsPnp s m → IsNumber t n → ⊥
pnp_is_no_number s t m n same p (inl (tail, is, digits)) =
    let first : 0x50 ≡ 0x30 = ap first_code (sym p.is ∙ same ∙ is) in
    omega (arith, first)
pnp_is_no_number s t m n same p (inr digits) =
    let all : AllDigits 10 (codes "PNP" ++ p.four) = subst (AllDigits 10) (sym same ∙ p.is) digits.numeral.1 in
    let letter : digit_value 0x50 < 10 = all.0 in
    omega (arith, letter)

pub mac_address_one : (s t a b : List ℕ) → s ≡ t → IsMacAddress s a → IsMacAddress t b → a ≡ b
mac_address_one s t a b same p q =
    let sixes : p.six ≡ q.six = hex_one s t p.six q.six same p.read q.read in
    p.value ∙ ap (λ six. six ++ replicate 26 0) sixes ∙ sym q.value

pub mbr_signature_one : (s t a b : List ℕ) → s ≡ t → IsMbrSignature s a → IsMbrSignature t b → a ≡ b
mbr_signature_one s t a b same p q =
    let numbers : p.number ≡ q.number = number_one s t p.number q.number same p.read q.read in
    p.value ∙ ap (λ number. to_le_bytes w32 number ++ replicate 12 0) numbers ∙ sym q.value

pub origin_one : (s t : List ℕ) (m n : ℕ) → s ≡ t → IsOrigin s m → IsOrigin t n → m ≡ n
origin_one s t m n same (inl (p, is)) (inl (q, is')) = is ∙ sym is'
origin_one s t m n same (inl (p, is)) (inr (q, is')) = let first : 0x44 ≡ 0x53 = ap first_code (sym p ∙ same ∙ q) in absurd (omega (arith, first))
origin_one s t m n same (inr (p, is)) (inl (q, is')) = let first : 0x53 ≡ 0x44 = ap first_code (sym p ∙ same ∙ q) in absurd (omega (arith, first))
origin_one s t m n same (inr (p, is)) (inr (q, is')) = is ∙ sym is'
