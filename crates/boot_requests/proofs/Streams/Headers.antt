-- The header at the start of bytes: what is after it doesn't matter, and it is good or has one fault.
use Rattle.std.proofs.Common.{◌≡◌, ◌⊎◌, ℕ, ◌+◌, ◌-◌, ◌<◌, ◌≤◌, List, [], ◌∷◌, ◌++◌, length, take, drop, refl, sym, ap, subst, ◌∙◌, inl, inr, arith}
use Rattle.std.proofs.Common.{append_assoc}
use Rattle.std.specs.Int.{w32, to_le_bytes}
use Rattle.std.specs.List.{AllByRecursion}
use Rattle.std.proofs.lemmas.Bool.{cases_lt}
use Rattle.std.proofs.lemmas.List.{length-append, take-append-drop, length-take}
use Rattle.uefi_path.specs.Row.{IsByte}
use Rattle.boot_requests.specs.declared.fault.FeedFault.{FeedFault}
use Rattle.boot_requests.specs.declared.fault.FeedFault.TheVariants as fault
use Rattle.boot_requests.specs.Limits.{payload_max}
use Rattle.boot_requests.specs.FrameFault.{Raw, IsRaw, IsRawWith}
use Rattle.boot_requests.specs.Stream.{IsDelivery, HasNoDelivery, IsHeaderFault}
use Rattle.boot_requests.specs.Reader.{raw_of, PassesLength, FailsHeader}
use Rattle.boot_requests.specs.Pieces.{IsMissing, IsOpen}
use Rattle.boot_requests.proofs.Frames.KindBytes.{version_or_not}
use Rattle.boot_requests.proofs.Frames.Raws.{same_raw, raw_size}
use Rattle.boot_requests.proofs.Frames.Readings.{HasHeader, heads}

-- ---- a header, with more after it

abbrev pub with_more : Raw → List ℕ → Raw
with_more raw more = raw_of raw.magic raw.version raw.kind raw.number raw.len (raw.payload ++ more)

pub more_raw : (bytes more : List ℕ) (raw : Raw) → IsRaw bytes raw → IsRaw (bytes ++ more) (with_more raw more)
more_raw bytes more raw is =
    let front = raw.magic ++ (raw.version ∷ raw.kind ∷ []) ++ to_le_bytes w32 raw.number ++ to_le_bytes w32 raw.len in
    record { two_bytes = is.two_bytes; number = is.number; len = is.len; parts = ap (λ (t : List ℕ). t ++ more) is.parts ∙ append_assoc front raw.payload more }

pub raw_len : (bytes : List ℕ) (raw : Raw) → IsRaw bytes raw → length bytes ≡ 12 + length raw.payload
raw_len bytes raw is =
    let two = is.two_bytes in
    ap length is.parts ∙ (simp length-append (omega arith))

-- the header of a prefix is that of the whole
pub front_raw : (front behind : List ℕ) (d c : Raw) → IsRaw front d → IsRaw (front ++ behind) c → with_more d behind ≡ c
front_raw front behind d c first whole = same_raw (front ++ behind) (with_more d behind) c (more_raw front behind d first) whole

-- ---- the fault of a header

abbrev pub FaultOf : List ℕ → FeedFault → Type 0
FaultOf bytes f = IsRawWith bytes (λ raw. FailsHeader raw f)

pub fault_of : (bytes : List ℕ) (f : FeedFault) → IsHeaderFault bytes f → FaultOf bytes f
fault_of bytes fault.OutOfMemory h = absurd h
fault_of bytes _ h = record { raw = h.raw; is = h.is; here = h.here }

pub is_fault : (bytes : List ℕ) (f : FeedFault) → FaultOf bytes f → IsHeaderFault bytes f
is_fault bytes fault.OutOfMemory h = h.here
is_fault bytes _ h = record { raw = h.raw; is = h.is; here = h.here }

fails_more : (raw : Raw) (more : List ℕ) (f : FeedFault) → FailsHeader raw f → FailsHeader (with_more raw more) f
fails_more raw more fault.BadMagic h = h
fails_more raw more _ h = h

pub fault_more : (bytes more : List ℕ) (f : FeedFault) → IsHeaderFault bytes f → IsHeaderFault (bytes ++ more) f
fault_more bytes more f h =
    let first = fault_of bytes f h in
    is_fault (bytes ++ more) f
    (record { raw = with_more first.raw more; is = more_raw bytes more first.raw first.is; here = fails_more first.raw more f first.here })

one_fails : (raw : Raw) (f g : FeedFault) → FailsHeader raw f → FailsHeader raw g → f ≡ g
one_fails raw fault.BadMagic fault.BadMagic x y = refl
one_fails raw fault.BadMagic fault.BadVersion x y = absurd (x y.0)
one_fails raw fault.BadMagic fault.TooLong x y = absurd (x y.0.0)
one_fails raw fault.BadVersion fault.BadMagic x y = absurd (y x.0)
one_fails raw fault.BadVersion fault.BadVersion x y = refl
one_fails raw fault.BadVersion fault.TooLong x y = absurd (x.1 y.0.1)
one_fails raw fault.TooLong fault.BadMagic x y = absurd (y x.0.0)
one_fails raw fault.TooLong fault.BadVersion x y = absurd (y.1 x.0.1)
one_fails raw fault.TooLong fault.TooLong x y = refl
one_fails raw fault.OutOfMemory g x y = absurd x
one_fails raw f fault.OutOfMemory x y = absurd y

pub one_header_fault : (bytes : List ℕ) (f g : FeedFault) → IsHeaderFault bytes f → IsHeaderFault bytes g → f ≡ g
one_header_fault bytes f g x y =
    let a = fault_of bytes f x in
    let b = fault_of bytes g y in
    one_fails b.raw f g (subst (λ (raw : Raw). FailsHeader raw f) (same_raw bytes a.raw b.raw a.is b.is) a.here) b.here

passes_or_fails : (raw : Raw) (f : FeedFault) → PassesLength raw → FailsHeader raw f → ⊥
passes_or_fails raw fault.BadMagic good bad = bad good.0.0
passes_or_fails raw fault.BadVersion good bad = bad.1 good.0.1
passes_or_fails raw fault.TooLong good bad = omega (arith, good.1, bad.1)
passes_or_fails raw fault.OutOfMemory good bad = bad

-- a prefix with a good header has no fault, whatever is after it
good_or_fault : (front behind : List ℕ) (f : FeedFault) → IsRawWith front PassesLength → IsHeaderFault (front ++ behind) f → ⊥
good_or_fault front behind f good h =
    let bad = fault_of (front ++ behind) f h in
    let same = front_raw front behind good.raw bad.raw good.is bad.is in
    passes_or_fails (with_more good.raw behind) f good.here (subst (λ (raw : Raw). FailsHeader raw f) (sym same) bad.here)

pub fault_has_none : (bytes : List ℕ) (f : FeedFault) → IsHeaderFault bytes f → HasNoDelivery bytes
fault_has_none bytes f h = λ front behind e d. good_or_fault front behind f (record { raw = d.raw; is = d.is; here = (d.here.0, d.here.1) }) (rw e at h)

-- ---- open bytes

open_front : (bytes front behind : List ℕ) → bytes ≡ front ++ behind → IsDelivery front → IsOpen bytes → ⊥
open_front bytes front behind e d (inl short) = omega (arith, short, raw_size front d.raw d.is, ap length e, length-append front behind)
open_front bytes front behind e d (inr part) =
    let same = front_raw front behind d.raw part.raw d.is (subst (λ (t : List ℕ). IsRaw t part.raw) e part.is) in
    let len : d.raw.len ≡ part.raw.len = ap (λ (raw : Raw). raw.len) same in
    let payload : length (d.raw.payload ++ behind) ≡ length part.raw.payload = ap (λ (raw : Raw). length raw.payload) same in
    omega (arith, len, payload, length-append d.raw.payload behind, d.here.2, part.here.1)

pub open_has_none : (bytes : List ℕ) → IsOpen bytes → HasNoDelivery bytes
open_has_none bytes h = λ front behind e d. open_front bytes front behind e d h

pub open_is_good : (bytes : List ℕ) (f : FeedFault) → IsOpen bytes → IsHeaderFault bytes f → ⊥
open_is_good bytes f (inl short) h =
    let bad = fault_of bytes f h in omega (arith, short, raw_size bytes bad.raw bad.is)
open_is_good bytes f (inr part) h =
    let bad = fault_of bytes f h in
    passes_or_fails bad.raw f (subst (λ (raw : Raw). PassesLength raw) (same_raw bytes part.raw bad.raw part.is bad.is) part.here.0) bad.here

pub open_len : (bytes : List ℕ) → IsOpen bytes → length bytes < 12 + payload_max
open_len bytes (inl short) = omega (arith, short)
open_len bytes (inr part) = omega (arith, raw_len bytes part.raw part.is, part.here.0.1, part.here.1)

-- ---- all bytes are open, or begin with a fault or a delivery

-- a delivery at the start, and what is after it
pub record HasDelivery (bytes : List ℕ) : Type 0 where
  pub front : List ℕ
  pub behind : List ℕ
  pub is : IsDelivery front
  pub parts : bytes ≡ front ++ behind

abbrev pub Found : List ℕ → Type 0
Found bytes = IsOpen bytes ⊎ (((f : FeedFault) × IsHeaderFault bytes f) ⊎ HasDelivery bytes)

cut_payload : (bytes : List ℕ) (raw : Raw) → IsRaw bytes raw → PassesLength raw → raw.len ≤ length raw.payload → HasDelivery bytes
cut_payload bytes raw is good whole =
    let head = raw.magic ++ (raw.version ∷ raw.kind ∷ []) ++ to_le_bytes w32 raw.number ++ to_le_bytes w32 raw.len in
    let payload = take raw.len raw.payload in
    record {
      front = head ++ payload;
      behind = drop raw.len raw.payload;
      is = record {
        raw = raw_of raw.magic raw.version raw.kind raw.number raw.len payload;
        is = record { two_bytes = is.two_bytes; number = is.number; len = is.len; parts = refl };
        here = (good.0, good.1, length-take raw.len raw.payload ∙ omega (arith, whole));
      };
      parts = is.parts ∙ ap (λ (t : List ℕ). head ++ t) (sym (take-append-drop raw.len raw.payload))
          ∙ sym (append_assoc head payload (drop raw.len raw.payload));
    }

header_found : (bytes : List ℕ) (raw : Raw) → HasHeader bytes raw → Found bytes
header_found bytes raw h =
    elim h.decided [
      | inr other ↦ inr (inl (fault.BadMagic, record { raw = raw; is = h.is; here = other }))
      | inl magic_is ↦ elim (version_or_not raw.version) [
        | inr other ↦ inr (inl (fault.BadVersion, record { raw = raw; is = h.is; here = (magic_is, other) }))
        | inl version_is ↦ elim (cases_lt payload_max raw.len) [
          | inl long ↦ inr (inl (fault.TooLong, record { raw = raw; is = h.is; here = ((magic_is, version_is), long) }))
          | inr within ↦ elim (cases_lt (length raw.payload) raw.len) [
            | inl part ↦ inl (inr (record { raw = raw; is = h.is; here = (((magic_is, version_is), within), part) }))
            | inr whole ↦ inr (inr (cut_payload bytes raw h.is ((magic_is, version_is), within) whole))
          ]
        ]
      ]
    ]

pub found : (bytes : List ℕ) → AllByRecursion IsByte bytes → Found bytes
found bytes fits = elim (heads bytes fits) [ inl short ↦ inl (inl short) | inr header ↦ header_found bytes header.0 header.1 ]

-- ---- what is missing

pub open_of_missing : (bytes : List ℕ) (count : ℕ) → IsMissing bytes count → 0 < count → IsOpen bytes
open_of_missing bytes count (inl short) some = inl short.0
open_of_missing bytes count (inr part) some = inr (record { raw = part.raw; is = part.is; here = (part.here.0, omega (arith, part.here.1)) })

-- what is taken after a whole header is no longer missing
pub missing_less : (before front : List ℕ) (count : ℕ) → 12 ≤ length before → length front ≤ count → IsMissing before count →
    IsMissing (before ++ front) (count - length front)
missing_less before front count whole few (inl short) = absurd (omega (arith, whole, short.0))
missing_less before front count whole few (inr part) =
    inr (record {
      raw = with_more part.raw front;
      is = more_raw before front part.raw part.is;
      here = (part.here.0, omega (arith, part.here.1, length-append part.raw.payload front));
    })

-- with at most as many bytes as were missing, at most as many follow the header as it states
no_more : (held front : List ℕ) (count : ℕ) (raw : Raw) → IsOpen held → IsMissing held count → length front ≤ count → IsRaw (held ++ front) raw →
    length raw.payload ≤ raw.len
no_more held front count raw (inl short) (inl missing) few is =
    omega (arith, missing.1, raw_len (held ++ front) raw is, length-append held front)
no_more held front count raw (inl short) (inr missing) few is = absurd (omega (arith, short, raw_size held missing.raw missing.is))
no_more held front count raw (inr part) (inl missing) few is = absurd (omega (arith, missing.0, raw_size held part.raw part.is))
no_more held front count raw (inr part) (inr missing) few is =
    let same = same_raw held missing.raw part.raw missing.is part.is in
    let len : missing.raw.len ≡ part.raw.len = ap (λ (r : Raw). r.len) same in
    let payload : length missing.raw.payload ≡ length part.raw.payload = ap (λ (r : Raw). length r.payload) same in
    let more = front_raw held front part.raw raw part.is is in
    let more_len : part.raw.len ≡ raw.len = ap (λ (r : Raw). r.len) more in
    let more_payload : length (part.raw.payload ++ front) ≡ length raw.payload = ap (λ (r : Raw). length r.payload) more in
    omega (arith, len, payload, more_len, more_payload, length-append part.raw.payload front, missing.here.1, part.here.1)

whole_raw : (held front : List ℕ) (count : ℕ) → IsOpen held → IsMissing held count → length front ≤ count → IsMissing (held ++ front) 0 →
    IsDelivery (held ++ front)
whole_raw held front count h missing few (inl short) = absurd (omega (arith, short.0, short.1))
whole_raw held front count h missing few (inr none) =
    let most = no_more held front count none.raw h missing few none.is in
    record { raw = none.raw; is = none.is; here = (none.here.0.0, none.here.0.1, omega (arith, most, none.here.1)) }

pub delivery_is : (held front : List ℕ) (count left : ℕ) → IsOpen held → IsMissing held count → length front ≤ count → IsMissing (held ++ front) left →
    left ≡ 0 → IsDelivery (held ++ front)
delivery_is held front count left h missing few now none =
    whole_raw held front count h missing few (subst (λ (n : ℕ). IsMissing (held ++ front) n) none now)
