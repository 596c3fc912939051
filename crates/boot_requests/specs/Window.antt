-- Requests by their numbers, and which numbers are open.
use Rattle.std.specs.Prelude.{ℕ, ◌+◌, ◌-◌, ◌==◌, ◌&&◌, not, nat_lt, nat_le, Bool, if◌then◌else◌, List, [], ◌∷◌}
use Rattle.std.specs.Ordering.{nat_cmp}
use Rattle.std.specs.FinMap.{FinMap, contains_key, keys}
use Rattle.boot_requests.specs.declared.request.Request.{Request}
use Rattle.boot_requests.specs.Limits.{width}

-- requests by their numbers
abbrev pub Requests : Type 0
Requests = FinMap nat_cmp Request

-- the first number from this one on that isn't among those, which rise
abbrev pub gap_from : ℕ → List ℕ → ℕ
gap_from gap [] = gap
gap_from gap (number ∷ numbers) = gap_from (if number == gap then gap + 1 else gap) numbers

-- the least number not below the first that no request has
abbrev pub gap_of : ℕ → Requests → ℕ
gap_of first requests = gap_from first (keys requests)

-- whether a request of this number is taken, with this gap: no other has it, and it is one of the next `width`
abbrev pub is_open : Requests → ℕ → ℕ → Bool
is_open requests gap number =
    not (contains_key requests number) && (nat_le gap number && nat_lt (number - gap) width)
