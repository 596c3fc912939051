-- How a text is cut at marks that aren't in parentheses.
use Rattle.std.specs.Prelude.{ℕ, suc, ◌-◌, Bool, ◌==◌, ◌&&◌, List, [], ◌∷◌, ◌++◌, map, take, drop, length, slice_index}
use Rattle.std.specs.Prelude.{Option, Some, None, is_none, if◌then◌else◌}
use Rattle.uefi_text.specs.Segment.{comma, slash}
use Rattle.uefi_text.specs.Cuts.{open_mark, close_mark}
use Rattle.uefi_text.specs.Reader.{◌>>=◌}

-- how many parentheses are open after a byte; one that closes none changes nothing
abbrev pub deeper : ℕ → ℕ → ℕ
deeper depth byte = if byte == open_mark then suc depth else (if byte == close_mark then depth - 1 else depth)

-- where the first such mark outside parentheses is, in a text that begins at this place
abbrev pub first_outside : ℕ → ℕ → ℕ → List ℕ → Option ℕ
first_outside mark depth at [] = None
first_outside mark depth at (byte ∷ text) =
    if (byte == mark) && (depth == 0) then Some at else first_outside mark (deeper depth byte) (suc at) text

-- how many parentheses are open after a text
abbrev pub depth_after : ℕ → List ℕ → ℕ
depth_after depth [] = depth
depth_after depth (byte ∷ text) = depth_after (deeper depth byte) text

-- the text has no such mark outside parentheses, and closes those that it opens
abbrev pub is_whole_for : ℕ → List ℕ → Bool
is_whole_for mark text = is_none (first_outside mark 0 0 text) && (depth_after 0 text == 0)

-- what is between such marks; the first piece begins with what is done of it
abbrev pub pieces_from : ℕ → List ℕ → ℕ → List ℕ → List (List ℕ)
pieces_from mark done depth [] = done ∷ []
pieces_from mark done depth (byte ∷ text) =
    if (byte == mark) && (depth == 0) then done ∷ pieces_from mark [] 0 text
    else pieces_from mark (done ++ byte ∷ []) (deeper depth byte) text

abbrev pub pieces : ℕ → List ℕ → List (List ℕ)
pieces mark text = pieces_from mark [] 0 text

-- the same of what is left, if there is more
abbrev pub pieces_left : ℕ → Option (List ℕ) → List (List ℕ)
pieces_left mark None = []
pieces_left mark (Some text) = pieces mark text

-- the segments of an instance: none of an empty one
abbrev pub segments_in : List ℕ → List (List ℕ)
segments_in text = if length text == 0 then [] else pieces slash text

-- the segments of the instances of a path
abbrev pub cut_named : List ℕ → List (List (List ℕ))
cut_named text = map segments_in (pieces comma text)

-- what comes before the first such mark outside parentheses, and what comes after it
abbrev pub around_mark : ℕ → List ℕ → Option (List ℕ × List ℕ)
around_mark mark text = first_outside mark 0 0 text >>= λ at. Some (take at text, drop (suc at) text)

abbrev pub begins_with_space : List ℕ → Bool
begins_with_space text = slice_index text 0 == 0x20

-- a text without the spaces that it begins with
abbrev pub trimmed : List ℕ → List ℕ
trimmed [] = []
trimmed (byte ∷ text) = if byte == 0x20 then trimmed text else byte ∷ text

-- the arguments between parentheses, without the spaces before each
abbrev pub arguments_in : List ℕ → List (List ℕ)
arguments_in inside = map trimmed (pieces comma inside)

-- a text that ends with a closing parenthesis, without it
abbrev pub before_close : List ℕ → Option (List ℕ)
before_close text =
    if slice_index text (length text - 1) == close_mark then Some (take (length text - 1) text) else None

-- the name of a segment and what is between its parentheses, if it has parentheses and ends with them
abbrev pub named_parts : List ℕ → Option (List ℕ × List ℕ)
named_parts text =
    around_mark open_mark text >>= λ parts. (before_close parts.1 >>= λ inside. Some (parts.0, inside))
