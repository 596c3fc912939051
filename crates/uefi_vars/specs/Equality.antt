-- What `==` computes of variables.
use Rattle.std.specs.Prelude.{ℕ, Bool, List, ◌==◌}
use Rattle.std.specs.Ordering.{on, eq_of_both}
use Rattle.std.specs.Cmp.Lexicographic.{pointwise}
use Rattle.std.specs.FinMap.{entries}
use Rattle.uefi_vars.specs.Vars.{Variables}

-- of a name with its data
abbrev pub pair_eq : List ℕ × List ℕ → List ℕ × List ℕ → Bool
pair_eq = eq_of_both (on (λ p. p.0) (pointwise ◌==◌)) (on (λ p. p.1) (pointwise ◌==◌))

abbrev pub vars_eq : Variables → Variables → Bool
vars_eq = on entries (pointwise pair_eq)
