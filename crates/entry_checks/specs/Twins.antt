-- Entries that lead to one file.
use Rattle.std.specs.Prelude.{◌≡◌, ℕ, Bool, false, List, [], ◌∷◌, ◌++◌, Option, Some, None, if◌then◌else◌}
use Rattle.std.specs.Global.{Vec}
use Rattle.std.specs.BTreeMap.{BTreeMap, get_by}
use Rattle.std.specs.Ordering.{nat_cmp, eq_by_cmp}
use Rattle.std.specs.Cmp.Lexicographic.{slice_cmp}
use Rattle.entry_checks.specs.declared.same_files.Known.{Known}

-- two of what tells where entries lead are the same
abbrev pub is_same_place : List ℕ → List ℕ → Bool
is_same_place place other = eq_by_cmp (slice_cmp nat_cmp) place other

abbrev pub is_there : List ℕ → Option (Vec ℕ) → Bool
is_there place None = false
is_there place (Some other) = is_same_place place other.items

-- the first of these entries that leads there
abbrev pub first_to : List ℕ → List Known → Option ℕ
first_to place [] = None
first_to place (entry ∷ others) = if is_there place entry.destination then Some entry.number else first_to place others

-- the first of the entries before one that leads to where it leads, if it leads to a file
abbrev pub twin_among : List Known → Option (Vec ℕ) → Option ℕ
twin_among before None = None
twin_among before (Some place) = first_to place.items before

-- of each entry its twin among those before it
abbrev pub twins_from : List Known → List Known → List (Option ℕ)
twins_from before [] = []
twins_from before (entry ∷ others) = twin_among before entry.destination ∷ twins_from (before ++ entry ∷ []) others

-- of each entry the first before it that leads to the same place
abbrev pub twins_of : List Known → List (Option ℕ)
twins_of entries = twins_from [] entries

-- ---- for private functions

-- under where an entry leads the map has the first that leads there
abbrev pub Finds : BTreeMap (Vec ℕ) ℕ → List Known → Type 0
Finds met entries = (place : List ℕ) → get_by (λ k. slice_cmp nat_cmp place k.items) met ≡ first_to place entries
