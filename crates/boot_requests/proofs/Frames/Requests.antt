-- One request with one number for each spelling, of bytes, and none if there is a fault.
use Rattle.std.proofs.Common.{◌≡◌, ℕ, ◌<◌, ◌^◌, List, [], ◌++◌, length, refl, ap, subst, inl, inr, arith}
use Rattle.std.specs.Int.{w16, to_le_bytes, w32}
use Rattle.std.specs.List.{AllByRecursion}
use Rattle.uefi_path.specs.Row.{IsByte}
use Rattle.uefi_option.specs.declared.fault.OptionFault.{OptionFault}
use Rattle.uefi_option.specs.LoadOption.{OptionParts, IsOption, SpellsOption, option_bytes}
use Rattle.uefi_option.specs.Fault.{IsFirstFault as IsFirstOptionFault}
use Rattle.uefi_vars.proofs.Bytes.{AllByRecursion-append}
use Rattle.uefi_vars.proofs.Numbers.{AreReadAgain, HaveTwoBytes}
use Rattle.uefi_path.proofs.Numbers.{wide_32}
use Rattle.boot_requests.specs.declared.fault.FrameFault.{FrameFault}
use Rattle.boot_requests.specs.declared.request.Request.{Request}
use Rattle.boot_requests.specs.declared.request.Request.TheVariants.{Add, Replace, Remove, Order, Next, AddFree, AddFirst, First}
use Rattle.boot_requests.specs.declared.frame.Kind.{Kind}
use Rattle.boot_requests.specs.Kind.{version_of, byte_of, layout_of}
use Rattle.boot_requests.specs.Request.{IsRequest, kind_of, payload_of}
use Rattle.boot_requests.specs.Frame.{magic, header_bytes, frame_bytes, SpellsFrame}
use Rattle.boot_requests.specs.FrameFault.{Raw, IsRaw, IsBadPayload, IsBadOption, IsFirstFault}
use Rattle.boot_requests.specs.Reader.{raw_of}
use Rattle.boot_requests.proofs.Frames.TwoBytes.{same_number, same_numbers}
use Rattle.boot_requests.proofs.Frames.KindBytes.{version_fits, byte_fits, one_kind, of_kind}
use Rattle.boot_requests.proofs.Frames.Raws.{same_raw, raw_size, HasOptionFault, Steps, ByTests, by_tests, Passes, no_steps}

-- ---- the header and the payload of a spelling

abbrev raw_for : ℕ → Request → Raw
raw_for number request = raw_of magic (version_of (kind_of request)) (byte_of (kind_of request)) number (length (payload_of request)) (payload_of request)

is_raw : (bytes : List ℕ) (number : ℕ) (request : Request) → SpellsFrame bytes number request → IsRaw bytes (raw_for number request)
is_raw bytes number request spelled = record {
  two_bytes = refl;
  number = let below = spelled.below in omega (arith, below);
  len = let len = spelled.len in omega (arith, len);
  parts = spelled.is;
}

-- the header of a frame has the number of its request
pub number_in : (bytes : List ℕ) (c : Raw) (number : ℕ) (request : Request) → IsRaw bytes c → SpellsFrame bytes number request → c.number ≡ number
number_in bytes c number request is spelled =
    ap (λ (d : Raw). d.number) (same_raw bytes c (raw_for number request) is (is_raw bytes number request spelled))

-- ---- one request

abbrev pub OneOption : Type 0
OneOption = (bytes : List ℕ) (o p : OptionParts) → SpellsOption bytes o → SpellsOption bytes p → o ≡ p

same_entry : OneOption → (m n : ℕ) (o p : OptionParts) → (m < 2 ^ 16) × IsOption o → (n < 2 ^ 16) × IsOption p →
    to_le_bytes w16 m ++ option_bytes o ≡ to_le_bytes w16 n ++ option_bytes p → (m ≡ n) × (o ≡ p)
same_entry one m n o p first second e =
    let split = same_number m n (option_bytes o) (option_bytes p) first.0 second.0 e in
    (split.0, one (option_bytes o) o p (first.1, refl) (second.1, split.1))

same_payload : AreReadAgain → OneOption → (q r : Request) → IsRequest q → IsRequest r → kind_of q ≡ kind_of r → payload_of q ≡ payload_of r → q ≡ r
same_payload again one (Add m o) (Add n p) first second kinds e = let same = same_entry one m n o p first second e in λ i. Add (same.0 i) (same.1 i)
same_payload again one (Replace m o) (Replace n p) first second kinds e = let same = same_entry one m n o p first second e in λ i. Replace (same.0 i) (same.1 i)
same_payload again one (Remove m) (Remove n) first second kinds e = ap (λ (k : ℕ). Remove k) (same_number m n [] [] first second e).0
same_payload again one (Order ms) (Order ns) first second kinds e = ap (λ (t : List ℕ). Order t) (same_numbers again ms ns first second e)
same_payload again one (Next m) (Next n) first second kinds e = ap (λ (k : ℕ). Next k) (same_number m n [] [] first second e).0
same_payload again one (AddFree o) (AddFree p) first second kinds e = ap (λ (t : OptionParts). AddFree t) (one (option_bytes o) o p (first, refl) (second, e))
same_payload again one (AddFirst o) (AddFirst p) first second kinds e =
    ap (λ (t : OptionParts). AddFirst t) (one (option_bytes o) o p (first, refl) (second, e))
same_payload again one (First m) (First n) first second kinds e = ap (λ (k : ℕ). First k) (same_number m n [] [] first second e).0
same_payload again one q r first second kinds e = absurd cc

pub same_request : AreReadAgain → OneOption → (bytes : List ℕ) (m n : ℕ) (q r : Request) → SpellsFrame bytes m q → SpellsFrame bytes n r → (m ≡ n) × (q ≡ r)
same_request again one bytes m n q r first second =
    let same = same_raw bytes (raw_for m q) (raw_for n r) (is_raw bytes m q first) (is_raw bytes n r second) in
    let kinds = one_kind (kind_of q) (kind_of r) (ap (λ (c : Raw). c.kind) same) in
    (ap (λ (c : Raw). c.number) same, same_payload again one q r first.valid second.valid kinds (ap (λ (c : Raw). c.payload) same))

-- ---- each request is spelled by bytes

abbrev pub EachOptionSpelled : Type 0
EachOptionSpelled = (option : OptionParts) → IsOption option → (bytes : List ℕ) × SpellsOption bytes option × AllByRecursion IsByte bytes

option_is_bytes : EachOptionSpelled → (option : OptionParts) → IsOption option → AllByRecursion IsByte (option_bytes option)
option_is_bytes each option is = let spelled = each option is in subst (AllByRecursion IsByte) spelled.1.1 spelled.2

entry_is_bytes : EachOptionSpelled → (entry : ℕ) (option : OptionParts) → IsOption option → AllByRecursion IsByte (to_le_bytes w16 entry ++ option_bytes option)
entry_is_bytes each entry option is = (omega arith, (omega arith, option_is_bytes each option is))

payload_is_bytes : HaveTwoBytes → EachOptionSpelled → (request : Request) → IsRequest request → AllByRecursion IsByte (payload_of request)
payload_is_bytes two each (Add entry option) is = entry_is_bytes each entry option is.1
payload_is_bytes two each (Replace entry option) is = entry_is_bytes each entry option is.1
payload_is_bytes two each (Remove entry) is = (omega arith, (omega arith, tt))
payload_is_bytes two each (Order numbers) is = (two numbers).0
payload_is_bytes two each (Next entry) is = (omega arith, (omega arith, tt))
payload_is_bytes two each (AddFree option) is = option_is_bytes each option is
payload_is_bytes two each (AddFirst option) is = option_is_bytes each option is
payload_is_bytes two each (First entry) is = (omega arith, (omega arith, tt))

header_is_bytes : (kind : Kind) (number len : ℕ) → AllByRecursion IsByte (header_bytes kind number len)
header_is_bytes kind number len =
    let numbers = AllByRecursion-append IsByte (to_le_bytes w32 number) (to_le_bytes w32 len) (wide_32.bytes number) (wide_32.bytes len) in
    (omega arith, (omega arith, (version_fits kind, (byte_fits kind, numbers))))

pub frame_is_bytes : HaveTwoBytes → EachOptionSpelled → (number : ℕ) (request : Request) → IsRequest request →
    AllByRecursion IsByte (frame_bytes number request)
frame_is_bytes two each number request is =
    let kind = kind_of request in
    let len = length (payload_of request) in
    AllByRecursion-append IsByte (header_bytes kind number len) (payload_of request) (header_is_bytes kind number len) (payload_is_bytes two each request is)

-- ---- no fault

good_payload : HaveTwoBytes → (request : Request) → IsBadPayload (layout_of (kind_of request)) (payload_of request) → ⊥
good_payload two (Remove entry) bad = bad refl
good_payload two (Order numbers) bad = bad (omega (arith, (two numbers).1))
good_payload two (Next entry) bad = bad refl
good_payload two (AddFree option) bad = bad
good_payload two (AddFirst option) bad = bad
good_payload two (First entry) bad = bad refl
good_payload two _ bad = omega (arith, bad)

abbrev pub NoOptionFault : Type 0
NoOptionFault = (bytes : List ℕ) (f : OptionFault) (option : OptionParts) → IsFirstOptionFault bytes f → SpellsOption bytes option → ⊥

good_option : NoOptionFault → (request : Request) (f : OptionFault) → IsRequest request → IsBadOption (layout_of (kind_of request)) (payload_of request) f → ⊥
good_option none (Add entry option) f is bad = none (option_bytes option) f option bad.1 (is.1, refl)
good_option none (Replace entry option) f is bad = none (option_bytes option) f option bad.1 (is.1, refl)
good_option none (AddFree option) f is bad = none (option_bytes option) f option bad (is, refl)
good_option none (AddFirst option) f is bad = none (option_bytes option) f option bad (is, refl)
good_option none _ f is bad = bad

passes : HaveTwoBytes → (bytes : List ℕ) (number : ℕ) (request : Request) → SpellsFrame bytes number request → Passes (raw_for number request)
passes two bytes number request spelled = record {
  magic = refl;
  version = (kind_of request, refl);
  len = spelled.len;
  size = refl;
  kind = (kind_of request, refl, refl);
  number = λ e. let below = spelled.below in omega (arith, below, e);
  payload = λ bad. good_payload two request (of_kind (kind_of request) (λ k. IsBadPayload (layout_of k) (payload_of request)) bad);
}

no_tests : HaveTwoBytes → NoOptionFault → (bytes : List ℕ) (f : FrameFault) (number : ℕ) (request : Request) → ByTests bytes f →
    SpellsFrame bytes number request → ⊥
no_tests two none bytes f number request (inl short) spelled =
    omega (arith, short.0, raw_size bytes (raw_for number request) (is_raw bytes number request spelled))
no_tests two none bytes f number request (inr (c, is, steps)) spelled =
    let same = same_raw bytes c (raw_for number request) is (is_raw bytes number request spelled) in
    let last : HasOptionFault (raw_for number request) f → ⊥ = λ has.
    good_option none request has.0 spelled.valid (of_kind (kind_of request) (λ k. IsBadOption (layout_of k) (payload_of request) has.0) has.2) in
    no_steps (raw_for number request) f (passes two bytes number request spelled) last (subst (λ (raw : Raw). Steps raw f) same steps)

pub fault_leaves_none : HaveTwoBytes → NoOptionFault → (bytes : List ℕ) (f : FrameFault) (number : ℕ) (request : Request) → IsFirstFault bytes f →
    SpellsFrame bytes number request → ⊥
fault_leaves_none two none bytes f number request first spelled = no_tests two none bytes f number request (by_tests bytes f first) spelled
