-- The numbers that this crate fixes.
use Rattle.std.specs.Prelude.{ℕ}

-- a request is accepted only if its number is one of this many, the next one included
abbrev pub width : ℕ
width = 64

-- the most outcomes that are kept
abbrev pub kept_max : ℕ
kept_max = 64

-- how many outcomes are kept at least, if there were that many requests
abbrev pub kept_min : ℕ
kept_min = 16

-- the most bytes of a payload
abbrev pub payload_max : ℕ
payload_max = 131072

-- the number that no request has, the greatest of four bytes
abbrev pub no_number : ℕ
no_number = 4294967295

-- how many numbers entries can have
abbrev pub number_count : ℕ
number_count = 65536
