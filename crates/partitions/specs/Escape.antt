-- How the kernel writes bytes that would end a field: as a backslash and three octal digits (Documentation/filesystems).
use Rattle.std.specs.Prelude.{ℕ, ◌==◌, List, [], ◌∷◌, Option, Some, None, if◌then◌else◌}
use Rattle.partitions.specs.Number.{number_of}

abbrev pub backslash : ℕ
backslash = 92

-- the byte that three octal digits write
abbrev pub escape_of : ℕ → ℕ → ℕ → Option ℕ
escape_of high middle low = number_of 8 0xFF (high ∷ middle ∷ low ∷ [])

-- a byte in front of those of the rest, if both are there
abbrev pub in_front : Option ℕ → Option (List ℕ) → Option (List ℕ)
in_front None rest = None
in_front (Some byte) None = None
in_front (Some byte) (Some rest) = Some (byte ∷ rest)

-- the bytes that a field stands for: a backslash and three octal digits for the byte that these write, and each other byte
-- for itself
abbrev pub unescaped : List ℕ → Option (List ℕ)
unescaped [] = Some []
unescaped (byte ∷ high ∷ middle ∷ low ∷ rest) =
    if byte == backslash then in_front (escape_of high middle low) (unescaped rest)
    else in_front (Some byte) (unescaped (high ∷ middle ∷ low ∷ rest))
unescaped (byte ∷ rest) = if byte == backslash then None else in_front (Some byte) (unescaped rest)
