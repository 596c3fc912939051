-- The lines that show the variables of a machine that are one number, and BootOrder (UEFI 2.10, 3.3). A line feed is 10.
use Rattle.std.specs.Prelude.{ℕ, List, [], ◌∷◌, ◌++◌, codes, Option, Some, None}
use Rattle.std.specs.Int.{w16, from_le_bytes}
use Rattle.std.specs.Fmt.{decimal}
use Rattle.std.specs.FinMap.{get}
use Rattle.uefi_vars.specs.Name.{four_digits, next_text, timeout_text}
use Rattle.uefi_vars.specs.declared.family.EntryFamily.{EntryFamily}
use Rattle.uefi_vars.specs.declared.family.EntryFamily.TheVariants as family
use Rattle.uefi_vars.specs.Family.{prefix_of}
use Rattle.uefi_vars.specs.Vars.{Variables}

-- the number that data of two bytes is, little-endian
abbrev pub number_in : Option (List ℕ) → Option ℕ
number_in None = None
number_in (Some []) = None
number_in (Some (low ∷ [])) = None
number_in (Some (low ∷ high ∷ [])) = Some (from_le_bytes w16 (low ∷ high ∷ []))
number_in (Some (low ∷ high ∷ more ∷ rest)) = None

-- a line with the name of a variable and the number in four hexadecimal digits, if there is one
abbrev pub digits_line : List ℕ → Option ℕ → List ℕ
digits_line name None = []
digits_line name (Some number) = name ++ (codes ": " ++ (four_digits number ++ 10 ∷ []))

-- the line of Timeout, if there is a number
abbrev pub seconds_line : Option ℕ → List ℕ
seconds_line None = []
seconds_line (Some seconds) = codes "Timeout: " ++ (decimal seconds ++ (codes " seconds" ++ 10 ∷ []))

-- the lines of the variables that are one number: BootNext, BootCurrent and Timeout
abbrev pub number_lines : Variables → List ℕ
number_lines vars =
    digits_line (codes "BootNext") (number_in (get vars next_text))
    ++ (digits_line (codes "BootCurrent") (number_in (get vars (codes "BootCurrent"))) ++ seconds_line (number_in (get vars timeout_text)))

-- the numbers of an order, the first of them behind this, and each other one behind a comma
abbrev pub order_words : List ℕ → List ℕ → List ℕ
order_words before [] = []
order_words before (low ∷ []) = []
order_words before (low ∷ high ∷ rest) =
    before ++ (four_digits (from_le_bytes w16 (low ∷ high ∷ [])) ++ order_words (codes ",") rest)

-- the line of an order that isn't there
abbrev pub no_order : EntryFamily → List ℕ
no_order family.Boot = codes "No BootOrder is set; firmware will attempt recovery" ++ 10 ∷ []
no_order family.Driver = codes "No DriverOrder is set" ++ 10 ∷ []
no_order family.SysPrep = codes "No SysPrepOrder is set" ++ 10 ∷ []

-- the line of the order of a family
abbrev pub order_line : EntryFamily → Option (List ℕ) → List ℕ
order_line family None = no_order family
order_line family (Some bytes) = prefix_of family ++ (codes "Order: " ++ (order_words [] bytes ++ 10 ∷ []))
