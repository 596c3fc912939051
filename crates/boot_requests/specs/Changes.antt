-- What is done to a state, one change after the other.
use Rattle.std.specs.Prelude.{ℕ, zero, suc, ◌&&◌, nat_lt, nat_le, List, [], ◌∷◌, map}
use Rattle.std.specs.FinMap.{retain_keys, entries}
use Rattle.boot_requests.specs.declared.request.Request.{Request}
use Rattle.boot_requests.specs.State.{State}
use Rattle.boot_requests.specs.Apply.{after_request, after_boot}
use Rattle.boot_requests.specs.Window.{Requests}

-- a request with its number is applied, or a boot deletes BootNext
pub data Change : Type 0 where
  Applies : ℕ → Request → Change
  Boots : Change

-- the requests from one number to below another, in the order of the numbers
abbrev pub changes_between : ℕ → ℕ → Requests → List Change
changes_between from to requests =
    map (λ entry. Applies entry.0 entry.1) (entries (retain_keys requests (λ number. nat_le from number && nat_lt number to)))

-- the state after changes
abbrev pub after_changes : State → List Change → State
after_changes m [] = m
after_changes m (Applies number request ∷ changes) = after_changes (after_request m request) changes
after_changes m (Boots ∷ changes) = after_changes (after_boot m) changes

-- the numbers of the requests that are applied, in their order
abbrev pub numbers_in : List Change → List ℕ
numbers_in [] = []
numbers_in (Applies number request ∷ changes) = number ∷ numbers_in changes
numbers_in (Boots ∷ changes) = numbers_in changes

-- this many numbers, each one more than the one before, from this one on
abbrev pub numbers_from : ℕ → ℕ → List ℕ
numbers_from first zero = []
numbers_from first (suc count) = first ∷ numbers_from (suc first) count
