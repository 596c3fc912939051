-- The header and the payload of a frame: one for each input, and one first fault of them.
use Rattle.std.proofs.Common.{◌≡◌, ◌≢◌, ◌⊎◌, ℕ, ◌<◌, ◌≤◌, List, [], ◌∷◌, ◌++◌, length, take, drop, get_or, refl, sym, ap, ◌∙◌, inl, inr, arith, append_assoc}
use Rattle.std.specs.Int.{w32, from_le_bytes, to_le_bytes}
use Rattle.std.proofs.lemmas.List.{length-append}
use Rattle.std.proofs.lemmas.Nat.{from_le_bytes-to_le_bytes_4}
use Rattle.uefi_option.specs.declared.fault.OptionFault.{OptionFault}
use Rattle.uefi_option.specs.Fault.{IsFirstFault as IsFirstOptionFault}
use Rattle.uefi_vars.proofs.Bytes.{same_size}
use Rattle.boot_requests.specs.declared.fault.FrameFault.{FrameFault}
use Rattle.boot_requests.specs.declared.fault.FrameFault.TheVariants as fault
use Rattle.boot_requests.specs.Limits.{payload_max, no_number}
use Rattle.boot_requests.specs.Kind.{IsVersion, IsKind, Layout, EntryAndOption, OptionAlone, layout_of}
use Rattle.boot_requests.specs.Frame.{magic}
use Rattle.boot_requests.specs.FrameFault.{Raw, IsRaw, IsBadPayload, IsBadOption, HasBadPayload, HasBadOption, IsFirstFault}
use Rattle.boot_requests.specs.Reader.{raw_of}
use Rattle.boot_requests.proofs.Frames.KindBytes.{of_one}

-- ---- one header and one payload

-- what is after the magic
abbrev pub behind_magic : Raw → List ℕ
behind_magic c = c.version ∷ c.kind ∷ (to_le_bytes w32 c.number ++ (to_le_bytes w32 c.len ++ c.payload))

pub regroup : (input : List ℕ) (c : Raw) → IsRaw input c → input ≡ c.magic ++ behind_magic c
regroup input c is =
    let two = c.version ∷ c.kind ∷ [] in
    let number = to_le_bytes w32 c.number in
    let len = to_le_bytes w32 c.len in
    is.parts ∙ append_assoc ((c.magic ++ two) ++ number) len c.payload ∙ append_assoc (c.magic ++ two) number (len ++ c.payload)
    ∙ append_assoc c.magic two (number ++ (len ++ c.payload))

pub same_raw : (input : List ℕ) (c d : Raw) → IsRaw input c → IsRaw input d → c ≡ d
same_raw input c d first second =
    let split = same_size c.magic d.magic (behind_magic c) (behind_magic d) (first.two_bytes ∙ sym second.two_bytes)
    (sym (regroup input c first) ∙ regroup input d second) in
    let version : c.version ≡ d.version = ap (λ (t : List ℕ). get_or t 0 0) split.1 in
    let kind : c.kind ≡ d.kind = ap (λ (t : List ℕ). get_or t 1 0) split.1 in
    let read_number = ap (λ (t : List ℕ). from_le_bytes w32 (take 4 (drop 2 t))) split.1 in
    let read_len = ap (λ (t : List ℕ). from_le_bytes w32 (take 4 (drop 6 t))) split.1 in
    let number : c.number ≡ d.number =
    sym (from_le_bytes-to_le_bytes_4 c.number first.number) ∙ read_number ∙ from_le_bytes-to_le_bytes_4 d.number second.number in
    let len : c.len ≡ d.len = sym (from_le_bytes-to_le_bytes_4 c.len first.len) ∙ read_len ∙ from_le_bytes-to_le_bytes_4 d.len second.len in
    let payload : c.payload ≡ d.payload = ap (drop 10) split.1 in
    λ i. raw_of (split.0 i) (version i) (kind i) (number i) (len i) (payload i)

pub raw_size : (input : List ℕ) (c : Raw) → IsRaw input c → 12 ≤ length input
raw_size input c is = omega (arith, is.two_bytes, simp length-append at (ap length (regroup input c is)))

-- ---- one fault of a payload

abbrev pub OneOptionFault : Type 0
OneOptionFault = (bytes : List ℕ) (f g : OptionFault) → IsFirstOptionFault bytes f → IsFirstOptionFault bytes g → f ≡ g

one_bad_option : OneOptionFault → (layout : Layout) (payload : List ℕ) (x y : OptionFault) → IsBadOption layout payload x → IsBadOption layout payload y → x ≡ y
one_bad_option one EntryAndOption payload x y first second = one (drop 2 payload) x y first.1 second.1
one_bad_option one OptionAlone payload x y first second = one payload x y first second
one_bad_option one _ payload x y first second = absurd first

-- of a payload that hasn't its length no fault of an option is told
bad_once : (layout : Layout) (payload : List ℕ) (x : OptionFault) → IsBadPayload layout payload → IsBadOption layout payload x → ⊥
bad_once EntryAndOption payload x short bad = omega (arith, short, bad.0)
bad_once OptionAlone payload x other bad = other
bad_once _ payload x other bad = bad

same_option_fault : OneOptionFault → (c : Raw) (x y : OptionFault) → HasBadOption c x → HasBadOption c y → x ≡ y
same_option_fault one c x y first second =
    let both = of_one c.version c.kind (λ k. IsBadOption (layout_of k) c.payload x) (λ k. IsBadOption (layout_of k) c.payload y) first second in
    one_bad_option one (layout_of both.0) c.payload x y both.1 both.2

good_before : (c : Raw) (x : OptionFault) → HasBadOption c x → HasBadPayload c → ⊥
good_before c x option bad =
    let both = of_one c.version c.kind (λ k. IsBadPayload (layout_of k) c.payload) (λ k. IsBadOption (layout_of k) c.payload x) bad option in
    bad_once (layout_of both.0) c.payload x both.1 both.2

-- ---- the tests, one after the other

-- the fault is this one if the test fails; otherwise that of the rest
abbrev Step : Type 0 → FrameFault → (FrameFault → Type 0) → FrameFault → Type 0
Step Test bad Rest f = ((Test → ⊥) × (f ≡ bad)) ⊎ (Test × Rest f)

-- there is at most one such fault
abbrev OnlyOne : (FrameFault → Type 0) → Type 0
OnlyOne Rest = (f g : FrameFault) → Rest f → Rest g → f ≡ g

one_step : (Test : Type 0) (bad : FrameFault) (Rest : FrameFault → Type 0) → OnlyOne Rest → OnlyOne (Step Test bad Rest)
one_step Test bad Rest one f g (inl x) (inl y) = x.1 ∙ sym y.1
one_step Test bad Rest one f g (inl x) (inr y) = absurd (x.0 y.0)
one_step Test bad Rest one f g (inr x) (inl y) = absurd (y.0 x.0)
one_step Test bad Rest one f g (inr x) (inr y) = one f g x.1 y.1

-- the fault is that of the option
abbrev pub HasOptionFault : Raw → FrameFault → Type 0
HasOptionFault c f = (x : OptionFault) × (f ≡ fault.Option x) × HasBadOption c x

-- the tests, in their order, each with the fault that it tells
abbrev pub Steps : Raw → FrameFault → Type 0
Steps c =
    Step (c.magic ≡ magic) fault.BadMagic
    (Step (IsVersion c.version) fault.BadVersion
    (Step (c.len ≤ payload_max) fault.TooLong
    (Step (length c.payload ≡ c.len) (fault.BadSize c.len (length c.payload))
    (Step (IsKind c.version c.kind) fault.BadKind
    (Step (c.number ≢ no_number) fault.BadNumber
    (Step (HasBadPayload c → ⊥) fault.BadPayload (HasOptionFault c)))))))

-- ---- the first fault, by these tests

abbrev pub ByTests : List ℕ → FrameFault → Type 0
ByTests input f = ((length input < 12) × (f ≡ fault.Short (length input))) ⊎ ((c : Raw) × IsRaw input c × Steps c f)

pub by_tests : (input : List ℕ) (f : FrameFault) → IsFirstFault input f → ByTests input f
by_tests input (fault.Short found) h = inl (h.1, ap (λ (n : ℕ). fault.Short n) h.0)
by_tests input fault.BadMagic h = inr (h.raw, h.is, inl (h.here, refl))
by_tests input fault.BadVersion h = inr (h.raw, h.is, inr (h.here.0, inl (h.here.1, refl)))
by_tests input fault.TooLong h = inr (h.raw, h.is, inr (h.here.0.0, inr (h.here.0.1, inl (λ within. omega (arith, within, h.here.1), refl))))
by_tests input (fault.BadSize stated found) h =
    let sizes = ap (λ (n : ℕ). fault.BadSize n found) h.here.1 ∙ ap (λ (n : ℕ). fault.BadSize h.raw.len n) h.here.2 in
    let fails = h.here.0 in
    inr (h.raw, h.is, inr (fails.0.0, inr (fails.0.1, inr (fails.1, inl (fails.2, sizes)))))
by_tests input fault.BadKind h =
    let size = h.here.0 in inr (h.raw, h.is, inr (size.0.0, inr (size.0.1, inr (size.1, inr (size.2, inl (h.here.1, refl))))))
by_tests input fault.BadNumber h =
    let size = h.here.0 in inr (h.raw, h.is, inr (size.0.0, inr (size.0.1, inr (size.1, inr (size.2, inr (h.here.1, inl (λ other. other h.here.2, refl)))))))
by_tests input fault.BadPayload h =
    let number = h.here.0 in
    let size = number.0 in
    inr (h.raw, h.is, inr (size.0.0, inr (size.0.1, inr (size.1, inr (size.2, inr (number.1, inr (number.2, inl (λ good. good h.here.1, refl))))))))
by_tests input (fault.Option x) h =
    let number = h.here.0 in
    let size = number.0 in
    inr (
      h.raw,
      h.is,
      inr (size.0.0, inr (size.0.1, inr (size.1, inr (size.2, inr (number.1, inr (number.2, inr (good_before h.raw x h.here.1, (x, refl, h.here.1)))))))),
    )
by_tests input fault.OutOfMemory h = absurd h

-- ---- one first fault

one_option_fault : OneOptionFault → (c : Raw) → OnlyOne (HasOptionFault c)
one_option_fault one c f g x y = x.1 ∙ ap (λ (h : OptionFault). fault.Option h) (same_option_fault one c x.0 y.0 x.2 y.2) ∙ sym y.1

one_of_steps : OneOptionFault → (c : Raw) → OnlyOne (Steps c)
one_of_steps one c =
    one_step _ _ _ (one_step _ _ _ (one_step _ _ _ (one_step _ _ _ (one_step _ _ _ (one_step _ _ _ (one_step _ _ _ (one_option_fault one c)))))))

same_by_tests : OneOptionFault → (input : List ℕ) (f g : FrameFault) → ByTests input f → ByTests input g → f ≡ g
same_by_tests one input f g (inl x) (inl y) = x.1 ∙ sym y.1
same_by_tests one input f g (inl x) (inr (c, is, steps)) = absurd (omega (arith, x.0, raw_size input c is))
same_by_tests one input f g (inr (c, is, steps)) (inl y) = absurd (omega (arith, y.0, raw_size input c is))
same_by_tests one input f g (inr (c, is, steps)) (inr (d, are, others)) = one_of_steps one d f g (rw (same_raw input c d is are) at steps) others

pub same_first_fault : OneOptionFault → (input : List ℕ) (f g : FrameFault) → IsFirstFault input f → IsFirstFault input g → f ≡ g
same_first_fault one input f g first second = same_by_tests one input f g (by_tests input f first) (by_tests input g second)

-- ---- none

-- the header and the payload pass each test
pub record Passes (c : Raw) : Type 0 where
  pub magic : c.magic ≡ magic
  pub version : IsVersion c.version
  pub len : c.len ≤ payload_max
  pub size : length c.payload ≡ c.len
  pub kind : IsKind c.version c.kind
  pub number : c.number ≢ no_number
  pub payload : HasBadPayload c → ⊥

pub no_steps : (c : Raw) (f : FrameFault) → Passes c → (HasOptionFault c f → ⊥) → Steps c f → ⊥
no_steps c f passes none (inl x) = x.0 passes.magic
no_steps c f passes none (inr (_, inl x)) = x.0 passes.version
no_steps c f passes none (inr (_, inr (_, inl x))) = x.0 passes.len
no_steps c f passes none (inr (_, inr (_, inr (_, inl x)))) = x.0 passes.size
no_steps c f passes none (inr (_, inr (_, inr (_, inr (_, inl x))))) = x.0 passes.kind
no_steps c f passes none (inr (_, inr (_, inr (_, inr (_, inr (_, inl x)))))) = x.0 passes.number
no_steps c f passes none (inr (_, inr (_, inr (_, inr (_, inr (_, inr (_, inl x))))))) = x.0 passes.payload
no_steps c f passes none (inr (_, inr (_, inr (_, inr (_, inr (_, inr (_, inr (_, x)))))))) = none x
