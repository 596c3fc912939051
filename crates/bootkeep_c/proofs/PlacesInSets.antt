-- Where variables are in the bytes of a set.
use Rattle.std.proofs.Common.{◌≡◌, ℕ, ◌+◌, List, [], ◌∷◌, ◌++◌, length, sym, ap, ◌∙◌, arith, append_assoc}
use Rattle.std.specs.FinMap.{entries}
use Rattle.std.proofs.lemmas.List.{length-append}
use Rattle.uefi_vars.specs.Vars.{Variables}
use Rattle.uefi_vars.specs.Set.{SpellsSet, magic, record_bytes, records_bytes}
use Rattle.bootkeep_c.specs.declared.variable.VariablePlaces.{VariablePlaces}
use Rattle.bootkeep_c.specs.Variables.{places_at, places_from}

-- the places of one variable more
pub more_places : (places all : List VariablePlaces) (at next : ℕ) (variable : List ℕ × List ℕ) (left : List (List ℕ × List ℕ)) (one : VariablePlaces)
    → places ++ places_from at (variable ∷ left) ≡ all → one ≡ places_at at variable →
    next ≡ at + length (record_bytes variable) → (places ++ one ∷ []) ++ places_from next left ≡ all
more_places places all at next variable left one so_far is end =
    append_assoc places (one ∷ []) (places_from next left)
    ∙ ap (λ (p : VariablePlaces). places ++ (p ∷ places_from next left)) is
    ∙ ap (λ (n : ℕ). places ++ (places_at at variable ∷ places_from n left)) end ∙ so_far

-- what is left of the set after its record
pub more_rest : (at next len : ℕ) (variable : List ℕ × List ℕ) (left : List (List ℕ × List ℕ)) →
    at + length (records_bytes (variable ∷ left)) ≡ len → next ≡ at + length (record_bytes variable)
    → next + length (records_bytes left) ≡ len
more_rest at next len variable left rest end = omega (arith, rest, end, length-append (record_bytes variable) (records_bytes left))

-- all of it after the magic
pub first_rest : (set : List ℕ) (vars : Variables) → SpellsSet set vars → length magic + length (records_bytes (entries vars)) ≡ length set
first_rest set vars spelled = sym (ap length spelled.1 ∙ length-append magic (records_bytes (entries vars)))
