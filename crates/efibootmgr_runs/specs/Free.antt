-- Which numbers are free for an entry that is made.
use Rattle.std.specs.Prelude.{◌≡◌, ℕ, [], ◌∷◌, None, String}
use Rattle.std.specs.List.{AllByRecursion}
use Rattle.std.specs.String.{string_bytes}
use Rattle.std.specs.Global.{Global}
use Rattle.uefi_vars.specs.Vars.{entry_of}
use Rattle.var_places.specs.declared.place_vars.PlaceVars.{PlaceVars}
use Rattle.wanted_changes.specs.LeftOut.{IsOneOf}

-- it isn't the name of this entry
abbrev pub IsNotNamed : ℕ → String Global → Type 0
IsNotNamed entry name = ¬ IsOneOf (entry ∷ []) (string_bytes name)

-- there is no entry of this number, also none that no set can hold
abbrev pub IsFree : PlaceVars → ℕ → Type 0
IsFree found entry = (entry_of found.vars entry ≡ None) × AllByRecursion (IsNotNamed entry) found.left_out.items
