-- Fields one after the other: bytes have one list of them at most, and none if one is cut.
use Rattle.std.proofs.Common.{◌≡◌, ◌≢◌, ◌⊎◌, ℕ, ◌-◌, ◌≤◌, Bool, true, eqb, List, [], ◌∷◌, ◌++◌, length, take, drop}
use Rattle.std.proofs.Common.{refl, sym, ap, ◌∙◌, inl, inr, arith, append_assoc}
use Rattle.std.specs.Int.{w32, to_le_bytes, from_le_bytes}
use Rattle.std.specs.List.{AllByRecursion, starts_with}
use Rattle.std.proofs.lemmas.Bool.Decides.{Decides-eqb}
use Rattle.std.proofs.lemmas.Grind.{flat_map-append}
use Rattle.std.proofs.lemmas.List.{length-append, append-nil, take-append-drop, length-take-le}
use Rattle.std.proofs.lemmas.Slice.Eq.{starts_is}
use Rattle.uefi_vars.specs.Set.{data_bytes}
use Rattle.uefi_vars.specs.Fault.{StatesLength}
use Rattle.uefi_vars.proofs.Bytes.{IsBytes, recursion_from_bytes, AllByRecursion-append, same_size}
use Rattle.uefi_vars.proofs.Faults.{four_state}
use Rattle.uefi_vars.proofs.Records.{same_len}
use Rattle.change_records.specs.Fields.{magic, IsShort, fields_bytes, HasFields, HasNoMagic, IsCut, HasCut, SplitsField}

-- ---- one field

pub same_field : (a b x y : List ℕ) → IsShort a → IsShort b → data_bytes a ++ x ≡ data_bytes b ++ y → (a ≡ b) × (x ≡ y)
same_field a b x y short-a short-b e =
    let len =
    same_len (length a) (length b) (a ++ x) (b ++ y) short-a short-b
    (sym (append_assoc (to_le_bytes w32 (length a)) a x) ∙ e ∙ append_assoc (to_le_bytes w32 (length b)) b y) in
    same_size a b x y len.0 len.1

-- what is cut has no field at its start
pub cut_or_field : (rest field behind : List ℕ) → IsCut rest → IsShort field → rest ≡ data_bytes field ++ behind → ⊥
cut_or_field rest field behind (inl short) is e =
    omega (arith, short, ap length e, length-append (data_bytes field) behind, length-append (to_le_bytes w32 (length field)) field)
cut_or_field rest field behind (inr h) is e =
    let len =
    same_len h.len (length field) h.behind (field ++ behind) h.stated.four_bytes is
    (sym h.stated.parts ∙ e ∙ append_assoc (to_le_bytes w32 (length field)) field behind) in
    let cut = h.cut in
    omega (arith, cut, len.0, ap length len.1, length-append field behind)

-- four bytes state a length
pub states : (bytes : List ℕ) → IsBytes bytes → 4 ≤ length bytes → StatesLength bytes (from_le_bytes w32 (take 4 bytes)) (drop 4 bytes)
states [] fits enough = absurd (omega (arith, enough))
states (a ∷ []) fits enough = absurd (omega (arith, enough))
states (a ∷ b ∷ []) fits enough = absurd (omega (arith, enough))
states (a ∷ b ∷ c ∷ []) fits enough = absurd (omega (arith, enough))
states (a ∷ b ∷ c ∷ d ∷ rest) fits enough = four_state a b c d rest (recursion_from_bytes (a ∷ b ∷ c ∷ d ∷ rest) fits)

pub stated_len : (bytes four behind : List ℕ) (len : ℕ) → IsBytes bytes → 4 ≤ length bytes → four ≡ take 4 bytes → behind ≡ drop 4 bytes
    → len ≡ from_le_bytes w32 four → StatesLength bytes len behind
stated_len bytes four behind len fits enough front back is =
    let e : len ≡ from_le_bytes w32 (take 4 bytes) = is ∙ ap (from_le_bytes w32) front in
    rw (e, back) (states bytes fits enough)

pub splits : (bytes behind : List ℕ) (len : ℕ) (field rest : List ℕ) → StatesLength bytes len behind → len ≤ length behind
    → field ≡ take len behind → rest ≡ drop len behind → SplitsField bytes field rest
splits bytes behind len field rest stated within front back =
    let size : length field ≡ len = ap length front ∙ length-take-le len behind within in
    let four = stated.four_bytes in
    record {
      short = omega (arith, size, four);
      parts =
          stated.parts ∙ ap (λ (t : List ℕ). to_le_bytes w32 len ++ t) (sym (take-append-drop len behind))
          ∙ sym (append_assoc (to_le_bytes w32 len) (take len behind) (drop len behind))
          ∙ ap (λ (t : List ℕ). (to_le_bytes w32 len ++ t) ++ drop len behind) (sym front)
          ∙ ap (λ (n : ℕ). (to_le_bytes w32 n ++ field) ++ drop len behind) (sym size)
          ∙ ap (λ (t : List ℕ). data_bytes field ++ t) (sym back);
    }

-- ---- all fields

-- nothing has no field at its start, nor has what is cut
no_first : (rest field behind : List ℕ) → (rest ≡ []) ⊎ IsCut rest → IsShort field → rest ≡ data_bytes field ++ behind → ⊥
no_first rest field behind (inl none) is e =
    omega (arith, ap length (sym none ∙ e), length-append (data_bytes field) behind, length-append (to_le_bytes w32 (length field)) field)
no_first rest field behind (inr cut) is e = cut_or_field rest field behind cut is e

-- fields before nothing, or before bytes of one that is cut, are the same
same_fields : (these those : List (List ℕ)) (x y : List ℕ) → AllByRecursion IsShort these → AllByRecursion IsShort those
    → (x ≡ []) ⊎ IsCut x → (y ≡ []) ⊎ IsCut y → fields_bytes these ++ x ≡ fields_bytes those ++ y → (these ≡ those) × (x ≡ y)
same_fields [] [] x y short-a short-b end-x end-y e = (refl, e)
same_fields [] (b ∷ bs) x y short-a short-b end-x end-y e =
    absurd (no_first x b (fields_bytes bs ++ y) end-x short-b.0 (e ∙ append_assoc (data_bytes b) (fields_bytes bs) y))
same_fields (a ∷ more) [] x y short-a short-b end-x end-y e =
    absurd (no_first y a (fields_bytes more ++ x) end-y short-a.0 (sym e ∙ append_assoc (data_bytes a) (fields_bytes more) x))
same_fields (a ∷ more) (b ∷ bs) x y short-a short-b end-x end-y e =
    let here =
    same_field a b (fields_bytes more ++ x) (fields_bytes bs ++ y) short-a.0 short-b.0
    (sym (append_assoc (data_bytes a) (fields_bytes more) x) ∙ e ∙ append_assoc (data_bytes b) (fields_bytes bs) y) in
    let others = same_fields more bs x y short-a.1 short-b.1 end-x end-y here.1 in
    (ap (λ (f : List ℕ). f ∷ more) here.0 ∙ ap (λ (fs : List (List ℕ)). b ∷ fs) others.0, others.1)

behind_magic : (x y : List ℕ) → magic ++ x ≡ magic ++ y → x ≡ y
behind_magic x y e = cc

pub one_list : (bytes : List ℕ) (these those : List (List ℕ)) → HasFields bytes these → HasFields bytes those → these ≡ those
one_list bytes these those p q =
    (same_fields these those [] [] p.short q.short (inl refl) (inl refl)
    (ap (λ (t : List ℕ). t ++ []) (behind_magic (fields_bytes these) (fields_bytes those) (sym p.parts ∙ q.parts)))).0

pub cut_has_none : (bytes : List ℕ) (place : ℕ) (fields : List (List ℕ)) → HasCut bytes place → HasFields bytes fields → ⊥
cut_has_none bytes place fields h q =
    let e : fields_bytes h.fields ++ h.rest ≡ fields_bytes fields ++ [] =
    behind_magic (fields_bytes h.fields ++ h.rest) (fields_bytes fields) (sym (append_assoc magic (fields_bytes h.fields) h.rest) ∙ sym h.parts ∙ q.parts)
    ∙ sym (append-nil (fields_bytes fields)) in
    h.some (same_fields h.fields fields h.rest [] h.short q.short (inr h.cut) (inl refl) e).1

pub no_magic_has_none : (bytes : List ℕ) (fields : List (List ℕ)) → HasNoMagic bytes → HasFields bytes fields → ⊥
no_magic_has_none bytes fields none q = none (fields_bytes fields) q.parts

-- ---- the loop

-- the magic and these fields, and then what is left
pub record IsOnTheWay (bytes : List ℕ) (fields : List (List ℕ)) (rest : List ℕ) : Type 0 where
  pub short : AllByRecursion IsShort fields
  pub parts : bytes ≡ (magic ++ fields_bytes fields) ++ rest

pub begins_so : (bytes : List ℕ) (r : Bool) → r ≡ starts_with eqb bytes magic → r ≡ true → bytes ≡ magic ++ drop 4 bytes
begins_so bytes r is h = (starts_is Decides-eqb bytes magic r is).0 h

pub begins_not : (bytes : List ℕ) (r : Bool) → r ≡ starts_with eqb bytes magic → (r ≡ true → ⊥) → HasNoMagic bytes
begins_not bytes r is not = λ rest e. not ((starts_is Decides-eqb bytes magic r is).1 rest e)

pub goes_on : (bytes : List ℕ) (fields : List (List ℕ)) (rest field behind : List ℕ) → IsOnTheWay bytes fields rest → SplitsField rest field behind
    → IsOnTheWay bytes (fields ++ field ∷ []) behind
goes_on bytes fields rest field behind on split = record {
  short = AllByRecursion-append IsShort fields (field ∷ []) on.short (split.short, tt);
  parts =
      on.parts ∙ ap (λ (t : List ℕ). (magic ++ fields_bytes fields) ++ t) split.parts
      ∙ sym (append_assoc (magic ++ fields_bytes fields) (data_bytes field) behind)
      ∙ ap (λ (t : List ℕ). t ++ behind) (append_assoc magic (fields_bytes fields) (data_bytes field))
      ∙ ap (λ (t : List ℕ). (magic ++ (fields_bytes fields ++ t)) ++ behind) (sym (append-nil (data_bytes field)))
      ∙ ap (λ (t : List ℕ). (magic ++ t) ++ behind) (sym (flat_map-append data_bytes fields (field ∷ [])));
}

pub is_done : (bytes : List ℕ) (fields : List (List ℕ)) (rest : List ℕ) → IsOnTheWay bytes fields rest → rest ≡ [] → HasFields bytes fields
is_done bytes fields rest on none = record {
  short = on.short;
  parts = on.parts ∙ ap (λ (t : List ℕ). (magic ++ fields_bytes fields) ++ t) none ∙ append-nil (magic ++ fields_bytes fields);
}

pub is_cut : (bytes : List ℕ) (fields : List (List ℕ)) (rest : List ℕ) → IsOnTheWay bytes fields rest → rest ≢ [] → IsCut rest
    → HasCut bytes (length bytes - length rest)
is_cut bytes fields rest on some cut = record {
  fields = fields;
  rest = rest;
  short = on.short;
  some = some;
  cut = cut;
  parts = on.parts;
  at = omega (arith, ap length on.parts, length-append (magic ++ fields_bytes fields) rest);
}
