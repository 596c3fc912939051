-- Bytes spell notes, and a file behind them, in one way at most (`once`), and not if they have a fault (`no_notes`), of which
-- they have one at most (`one_fault`): each digest has twelve bytes, so the count says where the file begins.
use Rattle.std.proofs.Common.{◌≡◌, ◌≢◌, inl, inr, ℕ, eqb, true, ◌+◌, ◌*◌, ◌^◌, ◌<◌, ◌≤◌, List, [], ◌∷◌, ◌++◌, length, take, drop}
use Rattle.std.proofs.Common.{refl, sym, ap, subst, ◌∙◌, arith, append_assoc, length-append}
use Rattle.std.specs.Int.{w32, to_le_bytes, from_le_bytes}
use Rattle.std.specs.List.{AllByRecursion, flat_map}
use Rattle.std.specs.Cmp.Lexicographic.{pointwise}
use Rattle.std.proofs.lemmas.List.{length-take-le, take-append-drop}
use Rattle.std.proofs.lemmas.Bool.Decides.{Decides-eqb}
use Rattle.std.proofs.lemmas.Nat.{le_bytes_4, from_le_bytes-to_le_bytes_4}
use Rattle.std.proofs.lemmas.Slice.Eq.{slice_eq-Decides}
use Rattle.uefi_vars.proofs.Bytes.{IsBytes, bytes_from_recursion, same_size}
use Rattle.boot_notes.specs.declared.digest.FrameDigest.{FrameDigest}
use Rattle.boot_notes.specs.declared.fault.NotesFault.{NotesFault}
use Rattle.boot_notes.specs.declared.fault.NotesFault.TheVariants as fault
use Rattle.boot_notes.specs.Digest.{IsFrameDigest}
use Rattle.boot_notes.specs.Notes.{NotesParts, notes_of, IsNotes, digests_max}
use Rattle.boot_notes.specs.Bytes.{magic_3, digest_bytes, body_bytes, SpellsNotes}
use Rattle.boot_notes.specs.Fault.{StatesCount, EndsInDigest, HasCutDigest, HasTooMany, IsBodyFault, IsNotesFault, IsCutAfter, digest_at}

-- ---- digests

number_len : (n : ℕ) → length (to_le_bytes w32 n) ≡ 4
number_len n = refl

pub digest_len : (kept : FrameDigest) → IsFrameDigest kept → length (digest_bytes kept) ≡ 12
digest_len kept h = omega (arith, length-append (to_le_bytes w32 kept.number) kept.digest, number_len kept.number, h.len)

pub digests_len : (digests : List FrameDigest) → AllByRecursion IsFrameDigest digests → length (flat_map digest_bytes digests) ≡ 12 * length digests
digests_len [] h = refl
digests_len (kept ∷ digests) h =
    omega (arith, length-append (digest_bytes kept) (flat_map digest_bytes digests), digest_len kept h.0, digests_len digests h.1)

same_number : (m n : ℕ) → m < 2 ^ 32 → n < 2 ^ 32 → to_le_bytes w32 m ≡ to_le_bytes w32 n → m ≡ n
same_number m n fits-m fits-n e =
    sym (from_le_bytes-to_le_bytes_4 m fits-m) ∙ ap (from_le_bytes w32) e ∙ from_le_bytes-to_le_bytes_4 n fits-n

same_parts : (a b : FrameDigest) → a.number ≡ b.number → a.digest ≡ b.digest → a ≡ b
same_parts a b number digest =
    ap (λ (n : ℕ). let made : FrameDigest = record { number = n; digest = a.digest } in made) number
    ∙ ap (λ (d : List ℕ). let made : FrameDigest = record { number = b.number; digest = d } in made) digest

same_digest : (a b : FrameDigest) → IsFrameDigest a → IsFrameDigest b → digest_bytes a ≡ digest_bytes b → a ≡ b
same_digest a b h k e =
    let parts = same_size (to_le_bytes w32 a.number) (to_le_bytes w32 b.number) a.digest b.digest refl e in
    same_parts a b (same_number a.number b.number h.four_bytes k.four_bytes parts.0) parts.1

-- as many digests at the start of bytes are the same ones
same_digests : (a b : List FrameDigest) (x y : List ℕ) → AllByRecursion IsFrameDigest a → AllByRecursion IsFrameDigest b → length a ≡ length b →
    flat_map digest_bytes a ++ x ≡ flat_map digest_bytes b ++ y → (a ≡ b) × (x ≡ y)
same_digests [] [] x y h k size e = (refl, e)
same_digests [] (d ∷ b) x y h k size e = absurd (omega (arith, size))
same_digests (c ∷ a) [] x y h k size e = absurd (omega (arith, size))
same_digests (c ∷ a) (d ∷ b) x y h k size e =
    let parts = same_size (digest_bytes c) (digest_bytes d) (flat_map digest_bytes a ++ x) (flat_map digest_bytes b ++ y)
    (digest_len c h.0 ∙ sym (digest_len d k.0))
    (sym (append_assoc (digest_bytes c) (flat_map digest_bytes a) x) ∙ e ∙ append_assoc (digest_bytes d) (flat_map digest_bytes b) y) in
    let one = same_digest c d h.0 k.0 parts.0 in
    let rest = same_digests a b x y h.1 k.1 (omega (arith, size)) parts.1 in
    (cc, rest.1)

-- ---- notes

-- what is behind the magic states the count of the digests, behind which these are and the file
pub states_count : (body : List ℕ) (notes : NotesParts) (file : List ℕ) → IsNotes notes → body ≡ body_bytes notes ++ file →
    StatesCount body (length notes.digests) (flat_map digest_bytes notes.digests ++ file)
states_count body notes file valid is = record {
  identity = notes.identity;
  len = valid.identity;
  parts = is ∙ append_assoc notes.identity (length notes.digests ∷ flat_map digest_bytes notes.digests) file;
}

-- what is stated
record SameCount (a b : ℕ) (x y i j : List ℕ) : Type 0 where
  identity : i ≡ j
  count : a ≡ b
  behind : x ≡ y

one_count : (body : List ℕ) (a b : ℕ) (x y : List ℕ) (p : StatesCount body a x) (q : StatesCount body b y) → SameCount a b x y p.identity q.identity
one_count body a b x y p q =
    let parts = same_size p.identity q.identity (a ∷ x) (b ∷ y) (p.len ∙ sym q.len) (sym p.parts ∙ q.parts) in
    let rest : a ∷ x ≡ b ∷ y = parts.1 in
    record { identity = parts.0; count = cc; behind = cc }

-- what is behind the magic is the same in each way to spell the bytes
one_body : (a b : List ℕ) → magic_3 ++ a ≡ magic_3 ++ b → a ≡ b
one_body a b e = (same_size magic_3 magic_3 a b refl e).1

same_notes : (a b : NotesParts) → a.identity ≡ b.identity → a.digests ≡ b.digests → a ≡ b
same_notes a b identity digests =
    ap (λ (i : List ℕ). notes_of i a.digests) identity ∙ ap (λ (d : List FrameDigest). notes_of b.identity d) digests

pub once : (bytes : List ℕ) (a b : NotesParts) (c d : List ℕ) → SpellsNotes bytes a c → SpellsNotes bytes b d → (a ≡ b) × (c ≡ d)
unfolding states_count
once bytes a b c d p q =
    let body = body_bytes a ++ c in
    let same : body ≡ body_bytes b ++ d = one_body body (body_bytes b ++ d) (sym p.is ∙ q.is) in
    let e = one_count body _ _ _ _ (states_count body a c p.valid refl) (states_count body b d q.valid same) in
    let rest = same_digests a.digests b.digests c d p.valid.digests q.valid.digests e.count e.behind in
    (same_notes a b e.identity rest.0, rest.1)

-- ---- a fault leaves none

record IsSpelled (body : List ℕ) : Type 0 where
  notes : NotesParts
  file : List ℕ
  valid : IsNotes notes
  is : body ≡ body_bytes notes ++ file

stated_by : (body : List ℕ) (h : IsSpelled body) → StatesCount body (length h.notes.digests) (flat_map digest_bytes h.notes.digests ++ h.file)
stated_by body h = states_count body h.notes h.file h.valid h.is

stated_len : (body : List ℕ) (count : ℕ) (behind : List ℕ) → StatesCount body count behind → length body ≡ 17 + length behind
stated_len body count behind h = omega (arith, ap length h.parts, length-append h.identity (count ∷ behind), h.len)

cut_is_none : (body : List ℕ) (place : ℕ) → IsSpelled body → HasCutDigest body place → ⊥
cut_is_none body place h cut =
    let e = one_count body _ _ _ _ cut.stated (stated_by body h) in
    let whole = digests_len h.notes.digests h.valid.digests in
    let parts = length-append (flat_map digest_bytes h.notes.digests) h.file in
    let size : length cut.behind ≡ 12 * length h.notes.digests + length h.file = omega (arith, ap length e.behind, whole, parts) in
    omega (arith, size, e.count, cut.ends.below, cut.ends.cut)

many_is_none : (body : List ℕ) (place : ℕ) → IsSpelled body → HasTooMany body place → ⊥
many_is_none body place h many =
    let e = one_count body _ _ _ _ many.stated (stated_by body h) in
    omega (arith, e.count, many.many, h.valid.count)

body_fault_is_none : (body : List ℕ) (f : NotesFault) → IsSpelled body → IsBodyFault body f → ⊥
body_fault_is_none body (fault.Truncated place) h (inl cut) = omega (arith, cut.1, stated_len body _ _ (stated_by body h))
body_fault_is_none body (fault.Truncated place) h (inr (inl cut)) = omega (arith, cut.1, stated_len body _ _ (stated_by body h))
body_fault_is_none body (fault.Truncated place) h (inr (inr cut)) = cut_is_none body place h cut
body_fault_is_none body (fault.TooMany place) h many = many_is_none body place h many
body_fault_is_none body fault.OutOfMemory h none = none

pub no_notes : (bytes : List ℕ) (f : NotesFault) (notes : NotesParts) (file : List ℕ) → IsNotesFault bytes f → SpellsNotes bytes notes file → ⊥
no_notes bytes f notes file h q =
    body_fault_is_none h.body f (record {
      notes = notes;
      file = file;
      valid = q.valid;
      is = one_body h.body (body_bytes notes ++ file) (sym h.magic ∙ q.is);
    }) h.here

-- ---- one fault

same_index : (count : ℕ) (bytes : List ℕ) (i j : ℕ) → EndsInDigest count bytes i → EndsInDigest count bytes j → i ≡ j
same_index count bytes i j p q = omega (arith, p.from, p.cut, q.from, q.cut)

one_cut : (body : List ℕ) (a b : ℕ) → HasCutDigest body a → HasCutDigest body b → a ≡ b
one_cut body a b p q =
    let e = one_count body _ _ _ _ p.stated q.stated in
    let ends : EndsInDigest q.count q.behind p.index = subst (λ (bytes : List ℕ). EndsInDigest q.count bytes p.index) e.behind
    (subst (λ (count : ℕ). EndsInDigest count p.behind p.index) e.count p.ends) in
    p.at ∙ ap digest_at (same_index q.count q.behind p.index q.index ends q.ends) ∙ sym q.at

truncated_once : (body : List ℕ) (a b : ℕ) → IsBodyFault body (fault.Truncated a) → IsBodyFault body (fault.Truncated b) → a ≡ b
truncated_once body a b (inl p) (inl q) = p.0 ∙ sym q.0
truncated_once body a b (inl p) (inr (inl q)) = absurd (omega (arith, p.1, q.1))
truncated_once body a b (inl p) (inr (inr q)) = absurd (omega (arith, p.1, stated_len body _ _ q.stated))
truncated_once body a b (inr (inl p)) (inl q) = absurd (omega (arith, p.1, q.1))
truncated_once body a b (inr (inl p)) (inr (inl q)) = p.0 ∙ sym q.0
truncated_once body a b (inr (inl p)) (inr (inr q)) = absurd (omega (arith, p.1, stated_len body _ _ q.stated))
truncated_once body a b (inr (inr p)) (inl q) = absurd (omega (arith, q.1, stated_len body _ _ p.stated))
truncated_once body a b (inr (inr p)) (inr (inl q)) = absurd (omega (arith, q.1, stated_len body _ _ p.stated))
truncated_once body a b (inr (inr p)) (inr (inr q)) = one_cut body a b p q

not_both : (body : List ℕ) (a b : ℕ) → IsBodyFault body (fault.Truncated a) → HasTooMany body b → ⊥
not_both body a b (inl p) q = omega (arith, p.1, stated_len body _ _ q.stated)
not_both body a b (inr (inl p)) q = omega (arith, p.1, stated_len body _ _ q.stated)
not_both body a b (inr (inr p)) q = let e = one_count body _ _ _ _ p.stated q.stated in omega (arith, e.count, p.few, q.many)

one_body_fault : (body : List ℕ) (f g : NotesFault) → IsBodyFault body f → IsBodyFault body g → f ≡ g
one_body_fault body (fault.Truncated a) (fault.Truncated b) p q = ap (λ (n : ℕ). fault.Truncated n) (truncated_once body a b p q)
one_body_fault body (fault.Truncated a) (fault.TooMany b) p q = absurd (not_both body a b p q)
one_body_fault body (fault.TooMany a) (fault.Truncated b) p q = absurd (not_both body b a q p)
one_body_fault body (fault.TooMany a) (fault.TooMany b) p q = ap (λ (n : ℕ). fault.TooMany n) (p.at ∙ sym q.at)
one_body_fault body fault.OutOfMemory g p q = absurd p
one_body_fault body f fault.OutOfMemory p q = absurd q

pub one_fault : (bytes : List ℕ) (f g : NotesFault) → IsNotesFault bytes f → IsNotesFault bytes g → f ≡ g
one_fault bytes f g p q =
    one_body_fault q.body f g (subst (λ (body : List ℕ). IsBodyFault body f) (one_body p.body q.body (sym p.magic ∙ q.magic)) p.here) q.here

-- ---- reading

-- the magic at the start
pub magic_read : (bytes body : List ℕ) → pointwise eqb (take 4 bytes) magic_3 ≡ true → body ≡ drop 4 bytes → bytes ≡ magic_3 ++ body
magic_read bytes body same back =
    let front : take 4 bytes ≡ magic_3 = (slice_eq-Decides Decides-eqb (take 4 bytes) magic_3 (pointwise eqb (take 4 bytes) magic_3) refl).0 same in
    sym (take-append-drop 4 bytes) ∙ ap (λ (t : List ℕ). t ++ drop 4 bytes) front ∙ ap (λ (t : List ℕ). magic_3 ++ t) (sym back)

-- a number of four bytes at the start
pub number_read : (bytes number behind : List ℕ) (n : ℕ) → IsBytes bytes → 4 ≤ length bytes → number ≡ take 4 bytes → behind ≡ drop 4 bytes →
    n ≡ from_le_bytes w32 number → bytes ≡ to_le_bytes w32 n ++ behind
number_read [] number behind n fits enough front back is = absurd (omega (arith, enough))
number_read (a ∷ []) number behind n fits enough front back is = absurd (omega (arith, enough))
number_read (a ∷ b ∷ []) number behind n fits enough front back is = absurd (omega (arith, enough))
number_read (a ∷ b ∷ c ∷ []) number behind n fits enough front back is = absurd (omega (arith, enough))
number_read (a ∷ b ∷ c ∷ d ∷ rest) number behind n fits enough front back is =
    let four : List ℕ = a ∷ b ∷ c ∷ d ∷ [] in
    let bytes : IsBytes four = bytes_from_recursion four (fits 0, (fits 1, (fits 2, (fits 3, tt)))) in
    sym (ap (λ (t : List ℕ). t ++ behind) (le_bytes_4 four n refl bytes (is ∙ ap (from_le_bytes w32) front)) ∙ ap (λ (t : List ℕ). four ++ t) back)

-- and a digest behind it
pub digest_read : (bytes number behind digest rest : List ℕ) (n : ℕ) → IsBytes bytes → 4 ≤ length bytes → number ≡ take 4 bytes → behind ≡ drop 4 bytes →
    digest ≡ take 8 behind → rest ≡ drop 8 behind → n ≡ from_le_bytes w32 number → bytes ≡ to_le_bytes w32 n ++ (digest ++ rest)
digest_read bytes number behind digest rest n fits enough front back first last is =
    let whole : behind ≡ digest ++ rest = sym (take-append-drop 8 behind) ∙ ap (λ (t : List ℕ). t ++ drop 8 behind) (sym first)
    ∙ ap (λ (t : List ℕ). digest ++ t) (sym last) in
    number_read bytes number behind n fits enough front back is ∙ ap (λ (t : List ℕ). to_le_bytes w32 n ++ t) whole

-- an identity, and a count behind it
pub counted : (body identity behind rest : List ℕ) (count : ℕ) → identity ≡ take 16 body → behind ≡ drop 16 body → 16 ≤ length body →
    behind ≡ count ∷ rest → StatesCount body count rest
counted body identity behind rest count front back enough first = record {
  identity = identity;
  len = ap length front ∙ length-take-le 16 body enough;
  parts =
      sym (take-append-drop 16 body) ∙ ap (λ (t : List ℕ). t ++ drop 16 body) (sym front)
      ∙ ap (λ (t : List ℕ). identity ++ t) (sym back ∙ first);
}

-- digests that are cut behind the count are cut behind the magic
pub cut_behind : (body : List ℕ) (count : ℕ) (behind : List ℕ) (f : NotesFault) → StatesCount body count behind → count ≤ digests_max →
    IsCutAfter count behind f → IsBodyFault body f
cut_behind body count behind (fault.Truncated place) stated few cut =
    inr (inr (record { count = count; behind = behind; index = cut.0; stated = stated; few = few; ends = cut.1; at = cut.2 }))
cut_behind body count behind (fault.TooMany place) stated few cut = absurd cut
cut_behind body count behind fault.OutOfMemory stated few cut = absurd cut

-- what is spelled is refused for want of memory alone
pub only_memory : (bytes body : List ℕ) (f : NotesFault) (notes : NotesParts) (file : List ℕ) → bytes ≡ magic_3 ++ body →
    (f ≢ fault.OutOfMemory → IsBodyFault body f) → SpellsNotes bytes notes file → f ≡ fault.OutOfMemory
only_memory bytes body fault.OutOfMemory notes file magic faulty spelled = refl
only_memory bytes body (fault.Truncated place) notes file magic faulty spelled =
    absurd (no_notes bytes (fault.Truncated place) notes file (record { body = body; magic = magic; here = faulty (λ e. cc) }) spelled)
only_memory bytes body (fault.TooMany place) notes file magic faulty spelled =
    absurd (no_notes bytes (fault.TooMany place) notes file (record { body = body; magic = magic; here = faulty (λ e. cc) }) spelled)
