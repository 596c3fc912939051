-- What is said of an image, if no list has digests: its own doesn't matter.
use Rattle.std.proofs.Common.{◌≡◌, refl, ℕ, ◌+◌, Bool, true, false, ◌||◌, IsTrue, IsFalse, List, [], ◌∷◌, Option, Ok, sym, ◌∙◌, subst, arith}
use Rattle.std.specs.List.{list_any}
use Rattle.efi_images.specs.Signatures.{ListParts, HasLists, at_end, one_more, HasListFault, here, behind, list_at}
use Rattle.efi_images.specs.X509.{CertificateParts}
use Rattle.efi_images.specs.SecureBoot.{has_digest, has_digests, is_in_dbx, db_answer, IsDbAnswer, damaged, whole, damaged_dbx, in_dbx, by_db, HaveDigests, AnswersAlike}
use Rattle.efi_images.specs.declared.certificates.Signing.{Signing}
use Rattle.efi_images.specs.declared.certificates.Signing.TheVariants as signing
use Rattle.efi_images.specs.declared.signatures.ListFault.{ListFault}
use Rattle.efi_images.specs.declared.answer.SecureBootAnswer.{SecureBootAnswer}

-- ---- lists

first_same : (bytes : List ℕ) (place : ℕ) (one other : ListParts) → list_at bytes place ≡ Ok one → list_at bytes place ≡ Ok other → one ≡ other
first_same bytes place one other a b = cc

rows_same : (bytes : List ℕ) (place at : ℕ) (one other : List ListParts) → HasLists bytes place one → HasLists bytes at other
    → place ≡ at → one ≡ other
rows_same bytes _ _ _ _ at_end at_end e = refl
rows_same bytes _ _ _ _ at_end (one_more b found more) e = absurd (omega (arith, b, e))
rows_same bytes _ _ _ _ (one_more b found more) at_end e = absurd (omega (arith, b, e))
rows_same bytes place at _ _ (one_more {first = first} {others = others} b found more) (one_more {first = second} {others = rest} b' found' more') e =
    let s : first ≡ second = cc in
    let o = rows_same bytes (place + first.len) (at + second.len) others rest more more' (cc) in
    rw (s, o) refl

-- bytes are no more than one row of lists
pub only : (bytes : List ℕ) (place : ℕ) (one other : List ListParts) → HasLists bytes place one → HasLists bytes place other → one ≡ other
only bytes place one other a b = rows_same bytes place place one other a b refl

-- bytes that are lists have no fault
pub unharmed : (bytes : List ℕ) (place : ℕ) (lists : List ListParts) (f : ListFault) → HasLists bytes place lists → HasListFault bytes place f → ⊥
unharmed bytes _ _ f at_end (here b e) = omega (arith, b)
unharmed bytes _ _ f at_end (behind b e more) = omega (arith, b)
unharmed bytes _ _ f (one_more b e more) (here b' e') = cc
unharmed bytes place _ f (one_more {first = first} {others = others} b e more) (behind {first = second} b' e' more') =
    let s = first_same bytes place second first e' e in
    unharmed bytes (place + first.len) others f more (subst (λ (l : ListParts). HasListFault bytes (place + l.len) f) s more')

-- ---- a digest that is compared with none

unlike : (digest : List ℕ) (l : ListParts) → has_digests l ≡ false → has_digest digest l ≡ false
unfolding has_digest has_digests
unlike digest l e = grind arith

neither : (one other : Bool) → (one || other) ≡ false → (one ≡ false) × (other ≡ false)
neither true other e = grind arith
neither false other e = (refl, e)

none_like : (digest : List ℕ) (lists : List ListParts) → list_any has_digests lists ≡ false → list_any (has_digest digest) lists ≡ false
none_like digest [] e = refl
none_like digest (first ∷ others) e =
    let p = neither (has_digests first) (list_any has_digests others) e in
    let a = unlike digest first p.0 in
    let b = none_like digest others p.1 in
    rw (a, b) refl

in_dbx_alike : (one other : List ℕ) (signed : Signing) (dbx : List ListParts) → list_any has_digests dbx ≡ false
    → is_in_dbx one signed dbx ≡ is_in_dbx other signed dbx
unfolding is_in_dbx
in_dbx_alike one other signing.Other dbx e = refl
in_dbx_alike one other signing.Unsigned dbx e = none_like one dbx e ∙ sym (none_like other dbx e)
in_dbx_alike one other signing.Unknown dbx e = none_like one dbx e ∙ sym (none_like other dbx e)
in_dbx_alike one other signing.Sha256 dbx e = none_like one dbx e ∙ sym (none_like other dbx e)

db_alike : (one other : List ℕ) (signed : Signing) (signers : Option (List CertificateParts)) (dbx db : List ListParts)
    → list_any has_digests db ≡ false → db_answer one signed signers dbx db ≡ db_answer other signed signers dbx db
unfolding db_answer
db_alike one other signing.Unsigned signers dbx db e = let a = none_like one db e in let b = none_like other db e in rw (a, b) refl
db_alike one other signing.Unknown signers dbx db e = let a = none_like one db e in let b = none_like other db e in rw (a, b) refl
db_alike one other signing.Other signers dbx db e = let a = none_like one db e in let b = none_like other db e in rw (a, b) refl
db_alike one other signing.Sha256 signers dbx db e = let a = none_like one db e in let b = none_like other db e in rw (a, b) refl

by_db_alike : (one other : List ℕ) (signed : Signing) (signers : Option (List CertificateParts)) (dbx : List ListParts) (db : List ℕ)
    (told : SecureBootAnswer) → HaveDigests db false → IsDbAnswer one signed signers dbx db told → IsDbAnswer other signed signers dbx db told
by_db_alike one other kind signers dbx db _ none (damaged f) = damaged f
by_db_alike one other kind signers dbx db _ none (whole {allowed = allowed} h) =
    subst (λ told. IsDbAnswer other kind signers dbx db told) (sym (db_alike one other kind signers dbx allowed (none allowed h))) (whole h)

pub alike : (one other db dbx : List ℕ) → HaveDigests db false → HaveDigests dbx false → AnswersAlike one other db dbx
alike one other db dbx allowed denied kind signers _ (damaged_dbx f) = damaged_dbx f
alike one other db dbx allowed denied kind signers _ (in_dbx {denied = lists} h is) =
    in_dbx h (subst IsTrue (in_dbx_alike one other kind lists (denied lists h)) is)
alike one other db dbx allowed denied kind signers told (by_db {denied = lists} h not_in a) =
    by_db h (subst IsFalse (in_dbx_alike one other kind lists (denied lists h)) not_in) (by_db_alike one other kind signers lists db told allowed a)
