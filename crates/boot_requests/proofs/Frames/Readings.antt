-- What the reader finds: a request with its number, or the first fault, and every input's.
use Rattle.std.proofs.Common.{◌≡◌, ◌≢◌, ◌⊎◌, ℕ, ◌%◌, ◌<◌, ◌≤◌, ◌^◌, List, [], ◌∷◌, ◌++◌, length, get_or, Result, Ok, Err, IfOk, IfErr, refl, sym, ap, subst}
use Rattle.std.proofs.Common.{◌∙◌, inl, inr, arith}
use Rattle.std.specs.Int.{w16, w32, from_le_bytes, to_le_bytes}
use Rattle.std.specs.List.{AllByRecursion}
use Rattle.std.proofs.lemmas.Bool.{cases_eq, cases_lt}
use Rattle.uefi_path.specs.Answer.{IsUnless}
use Rattle.uefi_path.specs.Row.{IsByte}
use Rattle.uefi_path.specs.Units.{units_of, units_bytes}
use Rattle.uefi_option.specs.declared.fault.OptionFault.{OptionFault}
use Rattle.uefi_option.specs.LoadOption.{OptionParts, SpellsOption, option_bytes}
use Rattle.uefi_option.specs.Fault.{IsFirstFault as IsFirstOptionFault}
use Rattle.uefi_vars.specs.Order.{IsEntryNumber}
use Rattle.uefi_vars.proofs.Numbers.{AreWrittenAgain, AreTwoBytes}
use Rattle.uefi_path.proofs.Numbers.{wide_32}
use Rattle.boot_requests.specs.declared.frame.Kind.{Kind}
use Rattle.boot_requests.specs.declared.frame.Kind.TheVariants as kinds
use Rattle.boot_requests.specs.declared.fault.FrameFault.{FrameFault}
use Rattle.boot_requests.specs.declared.fault.FrameFault.TheVariants as fault
use Rattle.boot_requests.specs.declared.request.Request.{Request}
use Rattle.boot_requests.specs.declared.request.Request.TheVariants.{Add, Replace, Remove, Order, Next, AddFree, AddFirst, First}
use Rattle.boot_requests.specs.Limits.{payload_max, no_number}
use Rattle.boot_requests.specs.Kind.{version_of, byte_of, Layout, EntryAndOption, Entry, Numbers, OptionAlone, layout_of}
use Rattle.boot_requests.specs.Request.{kind_of}
use Rattle.boot_requests.specs.Frame.{magic, header_bytes, SpellsFrame}
use Rattle.boot_requests.specs.FrameFault.{Raw, IsRaw, IsBadPayload, IsBadOption, PassesNumber, IsFirstFault}
use Rattle.boot_requests.specs.Reader.{raw_of, SplitsFrame, SpellsPayload, SpellsEntry, IsPayloadFault}
use Rattle.boot_requests.proofs.Frames.TwoBytes.{two_bytes}
use Rattle.boot_requests.proofs.Frames.KindBytes.{version_or_not, kind_or_not}

-- ---- a frame that was split

abbrev raw_for : ℕ → Kind → List ℕ → Raw
raw_for number kind payload = raw_of magic (version_of kind) (byte_of kind) number (length payload) payload

split_raw : (bytes : List ℕ) (number : ℕ) (kind : Kind) (payload : List ℕ) → SplitsFrame bytes number kind payload → IsRaw bytes (raw_for number kind payload)
split_raw bytes number kind payload split = record {
  two_bytes = refl;
  number = let below = split.below in omega (arith, below);
  len = let len = split.len in omega (arith, len);
  parts = split.parts;
}

split_passes : (bytes : List ℕ) (number : ℕ) (kind : Kind) (payload : List ℕ) → SplitsFrame bytes number kind payload →
    PassesNumber (raw_for number kind payload)
split_passes bytes number kind payload split =
    (((refl, (kind, refl)), split.len, refl), (kind, refl, refl), λ e. let below = split.below in omega (arith, below, e))

pub frame_read : (bytes : List ℕ) (number : ℕ) (kind : Kind) (payload : List ℕ) (request : Request) → SplitsFrame bytes number kind payload →
    SpellsPayload kind payload request → SpellsFrame bytes number request
frame_read bytes number kind payload request split spelled = record {
  below = split.below;
  valid = spelled.valid;
  len = subst (λ (t : List ℕ). length t ≤ payload_max) spelled.is split.len;
  is = split.parts ∙ ap (λ (k : Kind). header_bytes k number (length payload) ++ payload) spelled.same_kind
      ∙ ap (λ (t : List ℕ). header_bytes (kind_of request) number (length t) ++ t) spelled.is;
}

pub payload_fault_is : (bytes : List ℕ) (number : ℕ) (kind : Kind) (payload : List ℕ) (f : FrameFault) → SplitsFrame bytes number kind payload →
    IsPayloadFault kind payload f → f ≢ fault.OutOfMemory → IsFirstFault bytes f
payload_fault_is bytes number kind payload fault.BadPayload split h cause =
    record {
      raw = raw_for number kind payload;
      is = split_raw bytes number kind payload split;
      here = (split_passes bytes number kind payload split, record { kind = kind; version_is = refl; is = refl; here = h });
    }
payload_fault_is bytes number kind payload (fault.Option x) split h cause =
    record {
      raw = raw_for number kind payload;
      is = split_raw bytes number kind payload split;
      here = (split_passes bytes number kind payload split, record { kind = kind; version_is = refl; is = refl; here = h });
    }
payload_fault_is bytes number kind payload fault.OutOfMemory split h cause = absurd (cause refl)
payload_fault_is bytes number kind payload _ split h cause = absurd h

-- ---- every payload is that of a request, or has a fault

abbrev pub OptionEnds : Type 0
OptionEnds =
    (bytes : List ℕ) → AllByRecursion IsByte bytes → ((option : OptionParts) × SpellsOption bytes option) ⊎ ((f : OptionFault) × IsFirstOptionFault bytes f)

-- even bytes are numbers, and are those of these numbers
abbrev pub NumbersEnd : Type 0
NumbersEnd = AreWrittenAgain × AreTwoBytes

-- the payload spells what is laid out so
abbrev HasParts : Layout → List ℕ → Type 0
HasParts EntryAndOption payload = (entry : ℕ) × (option : OptionParts) × IsEntryNumber entry × SpellsEntry payload entry option
HasParts Entry payload = (entry : ℕ) × IsEntryNumber entry × (payload ≡ to_le_bytes w16 entry)
HasParts Numbers payload = (numbers : List ℕ) × AllByRecursion IsEntryNumber numbers × (payload ≡ units_bytes numbers)
HasParts OptionAlone payload = (option : OptionParts) × SpellsOption payload option

-- it does, or has a fault
abbrev LayoutEnds : Layout → List ℕ → Type 0
LayoutEnds layout payload = HasParts layout payload ⊎ (IsBadPayload layout payload ⊎ ((f : OptionFault) × IsBadOption layout payload f))

-- two bytes are those of the number of an entry
entry_fits : (low high : ℕ) → low < 256 → high < 256 → from_le_bytes w16 (low ∷ high ∷ []) < 2 ^ 16
entry_fits low high p q = omega (arith, p, q)

option_behind : (low high : ℕ) (rest : List ℕ) (option : OptionParts) → low < 256 → high < 256 → rest ≡ option_bytes option →
    low ∷ high ∷ rest ≡ to_le_bytes w16 (from_le_bytes w16 (low ∷ high ∷ [])) ++ option_bytes option
option_behind low high rest option p q is =
    ap (λ (t : List ℕ). low ∷ high ∷ t) is ∙ ap (λ (t : List ℕ). t ++ option_bytes option) (sym (two_bytes low high p q))

layout_ends : NumbersEnd → OptionEnds → (layout : Layout) (payload : List ℕ) → AllByRecursion IsByte payload → LayoutEnds layout payload
layout_ends numbers ends EntryAndOption (low ∷ high ∷ rest) fits = elim (ends rest fits.1.1) [
  | inl read ↦ inl (
    from_le_bytes w16 (low ∷ high ∷ []),
    read.0,
    entry_fits low high fits.0 fits.1.0,
    record { valid = read.1.0; is = option_behind low high rest read.0 fits.0 fits.1.0 read.1.1 },
  )
  | inr stop ↦ inr (inr (stop.0, (omega arith, stop.1)))
]
layout_ends numbers ends EntryAndOption _ fits = inr (inl (omega arith))
layout_ends numbers ends Entry (low ∷ high ∷ []) fits =
    inl (from_le_bytes w16 (low ∷ high ∷ []), entry_fits low high fits.0 fits.1.0, sym (two_bytes low high fits.0 fits.1.0))
layout_ends numbers ends Entry _ fits = inr (inl (λ e. omega arith))
layout_ends numbers ends Numbers payload fits =
    elim (cases_eq (length payload % 2) 0)
    [ inl even ↦ inl (units_of payload, (numbers.1 payload fits).0, sym (numbers.0 payload fits even)) | inr odd ↦ inr (inl odd) ]
layout_ends numbers ends OptionAlone payload fits = elim (ends payload fits) [ inl read ↦ inl read | inr stop ↦ inr (inr stop) ]

-- the request of the kind that has these parts
with_parts : (kind : Kind) (payload : List ℕ) → HasParts (layout_of kind) payload → (request : Request) × SpellsPayload kind payload request
with_parts kinds.Add payload p = (Add p.0 p.1, record { valid = (p.2, p.3.valid); same_kind = refl; is = p.3.is })
with_parts kinds.Replace payload p = (Replace p.0 p.1, record { valid = (p.2, p.3.valid); same_kind = refl; is = p.3.is })
with_parts kinds.Remove payload p = (Remove p.0, record { valid = p.1; same_kind = refl; is = p.2 })
with_parts kinds.Order payload p = (Order p.0, record { valid = p.1; same_kind = refl; is = p.2 })
with_parts kinds.Next payload p = (Next p.0, record { valid = p.1; same_kind = refl; is = p.2 })
with_parts kinds.AddFree payload p = (AddFree p.0, record { valid = p.1.0; same_kind = refl; is = p.1.1 })
with_parts kinds.AddFirst payload p = (AddFirst p.0, record { valid = p.1.0; same_kind = refl; is = p.1.1 })
with_parts kinds.First payload p = (First p.0, record { valid = p.1; same_kind = refl; is = p.2 })

-- the payload is that of a request of the kind, or has a fault
abbrev PayloadEnds : Kind → List ℕ → Type 0
PayloadEnds kind payload =
    ((request : Request) × SpellsPayload kind payload request) ⊎ ((f : FrameFault) × IsPayloadFault kind payload f × (f ≢ fault.OutOfMemory))

payload_ends : NumbersEnd → OptionEnds → (kind : Kind) (payload : List ℕ) → AllByRecursion IsByte payload → PayloadEnds kind payload
payload_ends numbers ends kind payload fits =
    elim (layout_ends numbers ends (layout_of kind) payload fits) [
      | inl parts ↦ inl (with_parts kind payload parts)
      | inr (inl bad) ↦ inr (fault.BadPayload, bad, λ e. cc)
      | inr (inr (x, bad)) ↦ inr (fault.Option x, bad, λ e. cc)
    ]

-- ---- every input is a frame, or has a first fault

abbrev pub Ends : List ℕ → Type 0
Ends bytes = ((number : ℕ) × (request : Request) × SpellsFrame bytes number request) ⊎ ((f : FrameFault) × IsFirstFault bytes f)

-- the input has a header, whose magic is right or isn't
pub record HasHeader (bytes : List ℕ) (raw : Raw) : Type 0 where
  pub is : IsRaw bytes raw
  pub decided : (raw.magic ≡ magic) ⊎ (raw.magic ≢ magic)
  pub payload : AllByRecursion IsByte raw.payload

magic_or_not : (a b : ℕ) → ((a ∷ b ∷ []) ≡ magic) ⊎ ((a ∷ b ∷ []) ≢ magic)
magic_or_not a b =
    elim (cases_eq a 0x42) [
      | inl first ↦ elim (cases_eq b 0x51) [ inl second ↦ inl cc | inr other ↦ inr (λ e. other (ap (λ (t : List ℕ). get_or t 1 0) e)) ]
      | inr other ↦ inr (λ e. other (ap (λ (t : List ℕ). get_or t 0 0) e))
    ]

-- any four bytes are those of a number
four_bytes : (a b c d : ℕ) → a < 256 → b < 256 → c < 256 → d < 256 → to_le_bytes w32 (from_le_bytes w32 (a ∷ b ∷ c ∷ d ∷ [])) ≡ a ∷ b ∷ c ∷ d ∷ []
four_bytes a b c d p q r s = wide_32.same (a ∷ b ∷ c ∷ d ∷ []) (refl, (p, (q, (r, (s, tt)))))

header_of : (a b v k n0 n1 n2 n3 l0 l1 l2 l3 : ℕ) (payload : List ℕ) →
    AllByRecursion IsByte (a ∷ b ∷ v ∷ k ∷ n0 ∷ n1 ∷ n2 ∷ n3 ∷ l0 ∷ l1 ∷ l2 ∷ l3 ∷ payload) →
    HasHeader (a ∷ b ∷ v ∷ k ∷ n0 ∷ n1 ∷ n2 ∷ n3 ∷ l0 ∷ l1 ∷ l2 ∷ l3 ∷ payload)
    (raw_of (a ∷ b ∷ []) v k (from_le_bytes w32 (n0 ∷ n1 ∷ n2 ∷ n3 ∷ [])) (from_le_bytes w32 (l0 ∷ l1 ∷ l2 ∷ l3 ∷ [])) payload)
header_of a b v k n0 n1 n2 n3 l0 l1 l2 l3 payload fits =
    let number = fits.1.1.1.1 in
    let len = number.1.1.1.1 in
    let number_is = four_bytes n0 n1 n2 n3 number.0 number.1.0 number.1.1.0 number.1.1.1.0 in
    let len_is = four_bytes l0 l1 l2 l3 len.0 len.1.0 len.1.1.0 len.1.1.1.0 in
    record {
      is = record {
        two_bytes = refl;
        number = omega (arith, number.0, number.1.0, number.1.1.0, number.1.1.1.0);
        len = omega (arith, len.0, len.1.0, len.1.1.0, len.1.1.1.0);
        parts =
            sym (ap (λ (t : List ℕ). (((a ∷ b ∷ v ∷ k ∷ []) ++ t) ++ to_le_bytes w32 (from_le_bytes w32 (l0 ∷ l1 ∷ l2 ∷ l3 ∷ []))) ++ payload) number_is
            ∙ ap (λ (t : List ℕ). (a ∷ b ∷ v ∷ k ∷ n0 ∷ n1 ∷ n2 ∷ n3 ∷ t) ++ payload) len_is);
      };
      decided = magic_or_not a b;
      payload = len.1.1.1.1;
    }

pub heads : (bytes : List ℕ) → AllByRecursion IsByte bytes → (length bytes < 12) ⊎ ((raw : Raw) × HasHeader bytes raw)
heads (a ∷ b ∷ v ∷ k ∷ n0 ∷ n1 ∷ n2 ∷ n3 ∷ l0 ∷ l1 ∷ l2 ∷ l3 ∷ payload) fits =
    inr (
      raw_of (a ∷ b ∷ []) v k (from_le_bytes w32 (n0 ∷ n1 ∷ n2 ∷ n3 ∷ [])) (from_le_bytes w32 (l0 ∷ l1 ∷ l2 ∷ l3 ∷ [])) payload,
      header_of a b v k n0 n1 n2 n3 l0 l1 l2 l3 payload fits,
    )
heads _ fits = inl (omega arith)

-- if the tests of the header pass, the input is split
split_of : (bytes : List ℕ) (c : Raw) → IsRaw bytes c → (passes : PassesNumber c) → SplitsFrame bytes c.number passes.1.0 c.payload
split_of bytes c is passes =
    let size = passes.0 in
    let kind = passes.1.0 in
    record {
      below = let fits = is.number in let other = passes.2 in omega (arith, fits, other);
      len = let within = size.1 in omega (arith, within, size.2);
      parts = is.parts ∙ ap (λ (t : List ℕ). t ++ (c.version ∷ c.kind ∷ []) ++ to_le_bytes w32 c.number ++ to_le_bytes w32 c.len ++ c.payload) size.0.0
          ∙ ap (λ (v : ℕ). magic ++ (v ∷ c.kind ∷ []) ++ to_le_bytes w32 c.number ++ to_le_bytes w32 c.len ++ c.payload) (sym passes.1.1)
          ∙ ap (λ (n : ℕ). magic ++ (version_of kind ∷ c.kind ∷ []) ++ to_le_bytes w32 c.number ++ to_le_bytes w32 n ++ c.payload) (sym size.2)
          ∙ ap (λ (b : ℕ). magic ++ (version_of kind ∷ b ∷ []) ++ to_le_bytes w32 c.number ++ to_le_bytes w32 (length c.payload) ++ c.payload) (sym passes.1.2);
    }

payload_end : NumbersEnd → OptionEnds → (bytes : List ℕ) (c : Raw) → IsRaw bytes c → AllByRecursion IsByte c.payload → PassesNumber c → Ends bytes
payload_end numbers ends bytes c is fits passes =
    let split = split_of bytes c is passes in
    let kind = passes.1.0 in
    elim (payload_ends numbers ends kind c.payload fits) [
      | inl read ↦ inl (c.number, read.0, frame_read bytes c.number kind c.payload read.0 split read.1)
      | inr stop ↦ inr (stop.0, payload_fault_is bytes c.number kind c.payload stop.0 split stop.1 stop.2)
    ]

-- the tests of the header, in their order
header_ends : NumbersEnd → OptionEnds → (bytes : List ℕ) (c : Raw) → HasHeader bytes c → Ends bytes
header_ends numbers ends bytes c h =
    elim h.decided [
      | inr other ↦ inr (fault.BadMagic, record { raw = c; is = h.is; here = other })
      | inl magic_is ↦ elim (version_or_not c.version) [
        | inr other ↦ inr (fault.BadVersion, record { raw = c; is = h.is; here = (magic_is, other) })
        | inl version_is ↦ elim (cases_lt payload_max c.len) [
          | inl long ↦ inr (fault.TooLong, record { raw = c; is = h.is; here = ((magic_is, version_is), long) })
          | inr within ↦ elim (cases_eq (length c.payload) c.len) [
            | inr other ↦ inr (fault.BadSize c.len (length c.payload), record { raw = c; is = h.is; here = (((magic_is, version_is), within, other), refl, refl) })
            | inl size ↦ elim (kind_or_not c.version c.kind) [
              | inr other ↦ inr (fault.BadKind, record { raw = c; is = h.is; here = (((magic_is, version_is), within, size), other) })
              | inl kind ↦ elim (cases_eq c.number no_number) [
                | inl none ↦ inr (fault.BadNumber, record { raw = c; is = h.is; here = (((magic_is, version_is), within, size), kind, none) })
                | inr number ↦ payload_end numbers ends bytes c h.is h.payload (((magic_is, version_is), within, size), kind, number)
              ]
            ]
          ]
        ]
      ]
    ]

pub bytes_end : NumbersEnd → OptionEnds → (bytes : List ℕ) → AllByRecursion IsByte bytes → Ends bytes
bytes_end numbers ends bytes fits =
    elim (heads bytes fits) [ inl short ↦ inr (fault.Short (length bytes), (refl, short)) | inr header ↦ header_ends numbers ends bytes header.0 header.1 ]

-- ---- what the reader answers

abbrev pub OneRequest : Type 0
OneRequest = (bytes : List ℕ) (m n : ℕ) (q r : Request) → SpellsFrame bytes m q → SpellsFrame bytes n r → (m ≡ n) × (q ≡ r)

abbrev pub NoRequest : Type 0
NoRequest = (bytes : List ℕ) (f : FrameFault) (number : ℕ) (request : Request) → IsFirstFault bytes f → SpellsFrame bytes number request → ⊥

abbrev pub OneFault : Type 0
OneFault = (bytes : List ℕ) (f g : FrameFault) → IsFirstFault bytes f → IsFirstFault bytes g → f ≡ g

-- out of memory, or another fault
memory_or_not : (f : FrameFault) → (f ≡ fault.OutOfMemory) ⊎ (f ≢ fault.OutOfMemory)
memory_or_not fault.OutOfMemory = inl refl
memory_or_not _ = inr (λ e. cc)

-- what a reader answers is found, or its fault is the first
pub record IsAnswer (bytes : List ℕ) (result : Result (ℕ × Request) FrameFault) : Type 0 where
  pub found : IfOk result (λ read. SpellsFrame bytes read.0 read.1)
  pub fault : IfErr result (λ f. f ≢ fault.OutOfMemory → IsFirstFault bytes f)

pub only_read : OneRequest → NoRequest → (bytes : List ℕ) (result : Result (ℕ × Request) FrameFault) → IsAnswer bytes result →
    (number : ℕ) (request : Request) → SpellsFrame bytes number request → IsUnless result (Ok (number, request)) fault.OutOfMemory
only_read one none bytes (Ok (m, q)) h number request spelled =
    let same = one bytes m number q request h.found spelled in
    inl (λ i. Ok (same.0 i, same.1 i))
only_read one none bytes (Err f) h number request spelled =
    elim (memory_or_not f) [ inl memory ↦ inr (ap Err memory) | inr other ↦ absurd (none bytes f number request (h.fault other) spelled) ]

pub only_refused : NoRequest → OneFault → (bytes : List ℕ) (result : Result (ℕ × Request) FrameFault) → IsAnswer bytes result → (f : FrameFault) →
    IsFirstFault bytes f → IsUnless result (Err f) fault.OutOfMemory
only_refused none one bytes (Ok (m, q)) h f first = absurd (none bytes f m q first h.found)
only_refused none one bytes (Err g) h f first =
    elim (memory_or_not g) [ inl memory ↦ inr (ap Err memory) | inr other ↦ inl (ap Err (one bytes g f (h.fault other) first)) ]
