-- For private functions of the inbox: what is held while a piece of a stream is cut.
use Rattle.std.specs.Prelude.{◌≡◌, ◌⊎◌, ℕ, ◌+◌, ◌-◌, ◌<◌, List, [], ◌∷◌, ◌++◌, length, Option, None}
use Rattle.std.specs.List.{AllByRecursion, flat_map}
use Rattle.boot_requests.specs.declared.fault.FeedFault.{FeedFault}
use Rattle.boot_requests.specs.FrameFault.{IsRawWith}
use Rattle.boot_requests.specs.Stream.{IsDelivery, IsKept, kept_in}
use Rattle.boot_requests.specs.Reader.{PassesLength}

-- This many bytes are missing: of a header, if its twelve aren't there; otherwise of those that it states.
abbrev pub IsMissing : List ℕ → ℕ → Type 0
IsMissing bytes count =
    ((length bytes < 12) × (length bytes + count ≡ 12))
    ⊎ IsRawWith bytes (λ raw. PassesLength raw × (count ≡ raw.len - length raw.payload))

-- the bytes have no whole header, or a good one with fewer bytes after it than it states
abbrev pub IsOpen : List ℕ → Type 0
IsOpen bytes = (length bytes < 12) ⊎ IsRawWith bytes (λ raw. PassesLength raw × (length raw.payload < raw.len))

-- the same, and this many are missing
abbrev pub IsOpenWith : List ℕ → ℕ → Type 0
IsOpenWith bytes count = IsOpen bytes × IsMissing bytes count

-- what an inbox holds, and how many bytes are missing
pub record IsHeld (held : List ℕ) (missing : ℕ) (fault : Option FeedFault) : Type 0 where
  pub is_open : fault ≡ None → IsOpenWith held missing
  pub kept : IsKept (kept_in held fault)

-- The bytes are deliveries and a rest, and the deliveries are given after what was there, in their order.
pub record Cuts (bytes : List ℕ) (old new : List (List ℕ)) (rest : List ℕ) : Type 0 where
  pub given : List (List ℕ)
  pub appended : new ≡ old ++ given
  pub deliveries : AllByRecursion IsDelivery given
  pub parts : bytes ≡ flat_map (λ delivery. delivery) given ++ rest

-- the first of the deliveries, or what is held if there is none
abbrev pub first_of : List (List ℕ) → List ℕ → List ℕ
first_of [] held = held
first_of (delivery ∷ deliveries) held = delivery

-- What was held before is at the start of the first delivery that was given since, or of what is held.
pub record Begins (before : List ℕ) (old new : List (List ℕ)) (held : List ℕ) : Type 0 where
  pub given : List (List ℕ)
  pub appended : new ≡ old ++ given
  pub behind : List ℕ
  pub first : first_of given held ≡ before ++ behind
