-- Records: bytes are cut into them in one way.
use Rattle.std.proofs.Common.{◌≡◌, ℕ, ◌+◌, ◌<◌, List, [], ◌∷◌, ◌++◌, length, take, drop, refl, sym, ap, subst, ◌∙◌, append_assoc, arith}
use Rattle.std.proofs.lemmas.List.{take_at, drop_at, length-append}
use Rattle.var_stores.specs.Record.{RecordParts, header_len, name_len, value_len, padding_len, IsRecord, record_bytes, BeginsRecord, IsCutRecord}

pub same_size : (a b x y : List ℕ) → length a ≡ length b → a ++ x ≡ b ++ y → (a ≡ b) × (x ≡ y)
same_size a b x y len e = (
  sym (take_at a x (length a) refl) ∙ ap (take (length a)) e ∙ take_at b y (length a) (sym len),
  sym (drop_at a x (length a) refl) ∙ ap (drop (length a)) e ∙ drop_at b y (length a) (sym len),
)

-- a record's bytes with others after them, field by field
regroup : (r : RecordParts) (rest : List ℕ) → record_bytes r ++ rest ≡ 0xAA ∷ 0x55 ∷ r.state ∷ (r.header ++ (r.name ++ (r.value ++ (r.padding ++ rest))))
regroup r rest =
    ap (λ (t : List ℕ). 0xAA ∷ 0x55 ∷ r.state ∷ t)
    (append_assoc r.header (r.name ++ (r.value ++ r.padding)) rest
    ∙ ap (λ (t : List ℕ). r.header ++ t) (append_assoc r.name (r.value ++ r.padding) rest
    ∙ ap (λ (t : List ℕ). r.name ++ t) (append_assoc r.value r.padding rest)))

-- ---- the header is read in one way

-- bytes begin with this state and this header, and these follow
abbrev pub HasHeader : List ℕ → ℕ → List ℕ → List ℕ → Type 0
HasHeader bytes state header after = (length header ≡ header_len) × (bytes ≡ 0xAA ∷ 0x55 ∷ state ∷ (header ++ after))

same_three : (a b c x y z : ℕ) (s t : List ℕ) → a ∷ b ∷ c ∷ s ≡ x ∷ y ∷ z ∷ t → (c ≡ z) × (s ≡ t)
same_three a b c x y z s t e = (cc, cc)

pub same_header : (bytes : List ℕ) (s t : ℕ) (g h x y : List ℕ) → HasHeader bytes s g x → HasHeader bytes t h y → (s ≡ t) × (g ≡ h) × (x ≡ y)
same_header bytes s t g h x y p q =
    let three = same_three _ _ s _ _ t (g ++ x) (h ++ y) (sym p.1 ∙ q.1) in
    let parts = same_size g h x y (p.0 ∙ sym q.0) three.1 in
    (three.0, parts.0, parts.1)

pub record_header : (bytes : List ℕ) (r : RecordParts) (rest : List ℕ) → IsRecord r → bytes ≡ record_bytes r ++ rest →
    HasHeader bytes r.state r.header (r.name ++ (r.value ++ (r.padding ++ rest)))
record_header bytes r rest is e = (is.header, e ∙ regroup r rest)

-- ---- where the bytes end in the record

-- the bytes after the header are fewer than this, or the record has a header of another kind
module _ (bytes : List ℕ) (state : ℕ) (header after : List ℕ) (begins : BeginsRecord bytes) (has : HasHeader bytes state header after) where
  pub cut_there : ((r : RecordParts) (rest : List ℕ) → IsRecord r → state ≡ r.state → header ≡ r.header →
      after ≡ r.name ++ (r.value ++ (r.padding ++ rest)) → ⊥) → IsCutRecord bytes
  cut_there none = record {
    begins = begins;
    cut = λ r rest is e.
        let same = same_header bytes state r.state header r.header after _ has (record_header bytes r rest is e) in
        none r rest is same.0 same.1 same.2;
  }

  len_of : (r : RecordParts) → IsRecord r → state ≡ r.state → header ≡ r.header →
      (length r.name ≡ name_len state header) × (length r.value ≡ value_len state header)
  len_of r is s h = (
    is.name ∙ ap (λ (t : ℕ). name_len t r.header) (sym s) ∙ ap (name_len state) (sym h),
    is.value ∙ ap (λ (t : ℕ). value_len t r.header) (sym s) ∙ ap (value_len state) (sym h),
  )

  pub cut_in_name : length after < name_len state header → IsCutRecord bytes
  cut_in_name few = cut_there (λ r rest is s h e.
      let lens = len_of r is s h in
      let whole : length after ≡ length r.name + length (r.value ++ (r.padding ++ rest)) =
      ap length e ∙ length-append r.name (r.value ++ (r.padding ++ rest)) in
      omega (arith, few, lens.0, whole))

  pub cut_in_value : (name more : List ℕ) → length name ≡ name_len state header → after ≡ name ++ more →
      length more < value_len state header → IsCutRecord bytes
  cut_in_value name more len split few = cut_there (λ r rest is s h e.
      let lens = len_of r is s h in
      let parts = same_size name r.name more (r.value ++ (r.padding ++ rest)) (len ∙ sym lens.0) (sym split ∙ e) in
      let whole : length more ≡ length r.value + length (r.padding ++ rest) = ap length parts.1 ∙ length-append r.value (r.padding ++ rest) in
      omega (arith, few, lens.1, whole))

  pub cut_in_padding : (name value more : List ℕ) → length name ≡ name_len state header → length value ≡ value_len state header →
      after ≡ name ++ (value ++ more) →
      length more < padding_len (length name + length value) → IsCutRecord bytes
  cut_in_padding name value more name_is value_is split few = cut_there (λ r rest is s h e.
      let lens = len_of r is s h in
      let first = same_size name r.name (value ++ more) (r.value ++ (r.padding ++ rest)) (name_is ∙ sym lens.0) (sym split ∙ e) in
      let second = same_size value r.value more (r.padding ++ rest) (value_is ∙ sym lens.1) first.1 in
      let whole : length more ≡ length r.padding + length rest = ap length second.1 ∙ length-append r.padding rest in
      let padding : length r.padding ≡ padding_len (length name + length value) =
      is.padding ∙ ap (λ (n : ℕ). padding_len (n + length r.value)) (lens.0 ∙ sym name_is)
      ∙ ap (λ (n : ℕ). padding_len (length name + n)) (lens.1 ∙ sym value_is) in
      omega (arith, few, padding, whole))

-- the header that was cut off piece by piece
pub header_found : (bytes start first second header after : List ℕ) (state : ℕ) → BeginsRecord bytes → length start ≡ 2 →
    bytes ≡ start ++ first → first ≡ state ∷ second →
    length header ≡ header_len → second ≡ header ++ after → HasHeader bytes state header after
header_found bytes [] first second header after state begins two is more len rest = absurd (omega (arith, two))
header_found bytes (a ∷ []) first second header after state begins two is more len rest = absurd (omega (arith, two))
header_found bytes (a ∷ b ∷ c ∷ start) first second header after state begins two is more len rest = absurd (omega (arith, two))
header_found bytes (a ∷ b ∷ []) first second header after state begins two is more len rest =
    let start : BeginsRecord (a ∷ b ∷ first) = subst BeginsRecord is begins in (
      len,
      is ∙ ap (λ (t : List ℕ). a ∷ b ∷ t) (more ∙ ap (λ (t : List ℕ). state ∷ t) rest)
          ∙ ap (λ (n : ℕ). n ∷ b ∷ state ∷ (header ++ after)) start.0 ∙ ap (λ (n : ℕ). 0xAA ∷ n ∷ state ∷ (header ++ after)) start.1,
    )

-- a record that was cut off piece by piece
pub record_found : (bytes header after name behind value rest padding more : List ℕ) (state : ℕ) →
    HasHeader bytes state header after → length name ≡ name_len state header → after ≡ name ++ behind →
    length value ≡ value_len state header → behind ≡ value ++ rest → length padding ≡ padding_len (length name + length value) → rest ≡ padding ++ more →
    let r : RecordParts = record { state = state; header = header; name = name; value = value; padding = padding } in
    IsRecord r × (bytes ≡ record_bytes r ++ more)
record_found bytes header after name behind value rest padding more state has name_is first value_is second padding_is third = (
  record { header = has.0; name = name_is; value = value_is; padding = padding_is },
  has.1 ∙ ap (λ (t : List ℕ). 0xAA ∷ 0x55 ∷ state ∷ (header ++ t)) (first ∙ ap (λ (t : List ℕ). name ++ t) (second ∙ ap (λ (t : List ℕ). value ++ t) third))
      ∙ sym (regroup (record { state = state; header = header; name = name; value = value; padding = padding }) more),
)
