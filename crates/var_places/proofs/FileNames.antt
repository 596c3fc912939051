-- Names of the files of variables: the name, a hyphen and the text of a GUID, which has 36 bytes.
use Rattle.std.proofs.Common.{◌≡◌, ℕ, ◌+◌, ◌*◌, List, [], ◌∷◌, ◌++◌, length, get_or, take, drop, refl, sym, ap, subst, ◌∙◌, arith, length-append, length-take, length-drop}
use Rattle.std.specs.List.{join_with_byte}
use Rattle.std.specs.Str.{IsCharBoundary}
use Rattle.std.proofs.lemmas.List.{length-reverse, take-append-drop}
use Rattle.std.proofs.lemmas.Str.{IsCharBoundary-before_ascii}
use Rattle.std.proofs.Math.Seq.{drop-append_seam, get_or-append_seam}
use Rattle.uefi_text.specs.Bytes.{Each, IsHexData, hyphen}
use Rattle.uefi_text.specs.Guid.{IsGuid}
use Rattle.uefi_vars.specs.Name.{global_vendor}
use Rattle.var_places.specs.Folder.{IsFileName, IsVendorText}

-- a pair of digits for each byte
hex_length : (text bytes : List ℕ) → IsHexData text bytes → length text ≡ 2 * length bytes
hex_length [] [] are = refl
hex_length [] (byte ∷ bytes) are = absurd are
hex_length (high ∷ []) bytes are = absurd are
hex_length (high ∷ low ∷ text) [] are = absurd are
hex_length (high ∷ low ∷ text) (byte ∷ bytes) are = omega (arith, hex_length text bytes are.1)

-- five groups, joined by four hyphens
joined_length : (groups : List (List ℕ)) (a b c d e : List ℕ) → Each IsHexData groups (a ∷ b ∷ c ∷ d ∷ e ∷ [])
    → length (join_with_byte hyphen groups) ≡ 2 * (length a + length b + length c + length d + length e) + 4
joined_length [] a b c d e are = absurd are
joined_length (u ∷ []) a b c d e are = absurd are.1
joined_length (u ∷ v ∷ []) a b c d e are = absurd are.1.1
joined_length (u ∷ v ∷ w ∷ []) a b c d e are = absurd are.1.1.1
joined_length (u ∷ v ∷ w ∷ x ∷ []) a b c d e are = absurd are.1.1.1.1
joined_length (u ∷ v ∷ w ∷ x ∷ y ∷ []) a b c d e are =
    omega (
      arith,
      length-append {A = ℕ},
      hex_length u a are.0,
      hex_length v b are.1.0,
      hex_length w c are.1.1.0,
      hex_length x d are.1.1.1.0,
      hex_length y e are.1.1.1.1.0,
    )
joined_length (u ∷ v ∷ w ∷ x ∷ y ∷ z ∷ zs) a b c d e are = absurd are.1.1.1.1.1

guid_length : (text guid : List ℕ) → IsGuid text guid → length text ≡ 36
guid_length text guid is =
    let groups = joined_length is.groups _ _ _ _ _ is.read in
    omega (arith, ap length is.joined, groups, is.len, length-take {A = ℕ}, length-drop {A = ℕ}, length-reverse {A = ℕ})

-- what is cut at a place is its two parts, one after the other
pub joined : (whole front back : List ℕ) (n : ℕ) → front ≡ take n whole → back ≡ drop n whole → whole ≡ front ++ back
joined whole front back n is_front is_back =
    subst (λ (x : List ℕ). whole ≡ x ++ back) (sym is_front)
    (subst (λ (x : List ℕ). whole ≡ take n whole ++ x) (sym is_back) (sym (take-append-drop n whole)))

pub file_length : (file name : List ℕ) → IsFileName file name → length file ≡ length name + 37
file_length file name is =
    omega (arith, ap length is.1, length-append name is.0, ap length is.2.1, guid_length is.2.0 global_vendor is.2.2)

-- what is behind the name
pub rest_at : (file name : List ℕ) (n : ℕ) → IsFileName file name → n + 37 ≡ length file → IsVendorText (drop n file)
rest_at file name n is at =
    let same : n ≡ length name = omega (arith, file_length file name is) in
    let rest : drop n file ≡ is.0 = ap (λ m. drop m file) same ∙ (ap (drop (length name)) is.1 ∙ drop-append_seam name is.0) in
    subst IsVendorText (sym rest) is.2

-- the name may be cut off
pub boundary : (file name : List ℕ) (n : ℕ) → IsFileName file name → n + 37 ≡ length file → IsCharBoundary file n
boundary file name n is at =
    let same : n ≡ length name = omega (arith, file_length file name is) in
    let whole : file ≡ name ++ 0x2D ∷ is.2.0 = is.1 ∙ ap (λ rest. name ++ rest) is.2.1 in
    let hyphen_at : get_or file n 0 ≡ 0x2D =
    ap (λ m. get_or file m 0) same ∙ (ap (λ it. get_or it (length name) 0) whole ∙ get_or-append_seam name 0x2D is.2.0 0) in
    IsCharBoundary-before_ascii file n (omega arith) (omega (arith, hyphen_at))
