-- Members of tables.
use Rattle.std.specs.Prelude.{◌≡◌, ◌≢◌, ◌⊎◌, ℕ, List, [], ◌∷◌, Option, Some, None, codes, string_bytes}
use Rattle.std.specs.Borrow.{Bor}
use Rattle.profile_files.specs.declared.tree.Key.{Key}
use Rattle.profile_files.specs.declared.tree.Node.{Node}

abbrev pub Members : Type 0
Members = List (Key × Node)

-- no member has the name
abbrev pub HasNone : List ℕ → Members → Type 0
HasNone name [] = Unit {0}
HasNone name (m ∷ rest) = (string_bytes m.0.name ≢ name) × HasNone name rest

-- the first member of the name has this value
abbrev pub HasValue : List ℕ → Node → Members → Type 0
HasValue name node [] = ⊥
HasValue name node (m ∷ rest) =
    ((string_bytes m.0.name ≡ name) × (m.1 ≡ node)) ⊎ ((string_bytes m.0.name ≢ name) × HasValue name node rest)

-- the member of this name has this value, or there is none
abbrev pub HasMember : List ℕ → Option Node → Members → Type 0
HasMember name None members = HasNone name members
HasMember name (Some value) members = HasValue name value members

-- a member that also an entry may have that isn't to be there
abbrev pub IsOfAbsent : Key × Node → Type 0
IsOfAbsent m = (string_bytes m.0.name ≡ codes "description") ⊎ (string_bytes m.0.name ≡ codes "state")

-- it is one of these names
abbrev pub IsAmong : List (Bor (List ℕ)) → List ℕ → Type 0
IsAmong [] name = ⊥
IsAmong (one ∷ rest) name = (one.now ≡ name) ⊎ IsAmong rest name

-- each member has one of these names, and no other one has it
abbrev pub AreNamed : List (Bor (List ℕ)) → Members → Type 0
AreNamed names [] = Unit {0}
AreNamed names (m ∷ rest) =
    IsAmong names (string_bytes m.0.name) × HasNone (string_bytes m.0.name) rest × AreNamed names rest
