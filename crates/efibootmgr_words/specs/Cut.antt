-- Where texts are cut.
use Rattle.std.specs.Prelude.{ℕ, ◌==◌, List, [], ◌∷◌, length, nat_lt, Option, Some, None, if◌then◌else◌}
use Rattle.std.specs.List.{before_first, after_first, position_or_len}

-- what is before the first mark, which is all if there is none
abbrev pub before_mark : ℕ → List ℕ → List ℕ
before_mark mark text = before_first (λ byte. byte == mark) text

-- what is behind it, if there is one
abbrev pub behind_mark : ℕ → List ℕ → Option (List ℕ)
behind_mark mark text =
    if nat_lt (position_or_len (λ byte. byte == mark) text) (length text)
    then Some (after_first (λ byte. byte == mark) text)
    else None

-- what is behind a hyphen at the front
abbrev pub behind_hyphen : List ℕ → Option (List ℕ)
behind_hyphen [] = None
behind_hyphen (byte ∷ rest) = if byte == 45 then Some rest else None
