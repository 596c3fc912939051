-- The names of variables, and those of the boot manager (UEFI 2.10, 3.3): Boot#### for each load option, BootOrder, BootNext
-- and Timeout.
use Rattle.std.specs.Prelude.{◌≢◌, ℕ, ◌+◌, ◌/◌, ◌%◌, ◌≤◌, nat_lt, if◌then◌else◌, List, [], ◌∷◌, ◌++◌, length, codes}
use Rattle.std.specs.List.{AllByRecursion}

-- a character of a name: ASCII that prints, and no blank
abbrev pub IsNameByte : ℕ → Type 0
IsNameByte byte = (0x21 ≤ byte) × (byte ≤ 0x7E)

-- the most characters that a name has
abbrev pub name_max : ℕ
name_max = 64

-- 1 to 64 characters
pub record IsName (name : List ℕ) : Type 0 where
  pub some : name ≢ []
  pub len : length name ≤ name_max
  pub printing : AllByRecursion IsNameByte name

-- the hexadecimal digit for a number below 16, 0 to 9 and A to F
abbrev pub upper_digit : ℕ → ℕ
upper_digit number = if nat_lt number 10 then 0x30 + number else 0x37 + number

-- the four hexadecimal digits of a number below 65,536
abbrev pub four_digits : ℕ → List ℕ
four_digits number =
    upper_digit (number / 0x1000) ∷ upper_digit (number / 0x100 % 0x10) ∷ upper_digit (number / 0x10 % 0x10)
    ∷ upper_digit (number % 0x10) ∷ []

-- Boot####: the name of the entry of this number
abbrev pub entry_text : ℕ → List ℕ
entry_text number = codes "Boot" ++ four_digits number

abbrev pub order_text : List ℕ
order_text = codes "BootOrder"

abbrev pub next_text : List ℕ
next_text = codes "BootNext"

abbrev pub timeout_text : List ℕ
timeout_text = codes "Timeout"

-- the name of the variable in which a keeper of requests has which of them were applied
abbrev pub keep_text : List ℕ
keep_text = codes "BootKeepState"

-- 8be4df61-93ca-11d2-aa0d-00e098032b8c, EFI_GLOBAL_VARIABLE, the vendor of the variables of the standard, as it is stored
abbrev pub global_vendor : List ℕ
global_vendor = 0x61 ∷ 0xDF ∷ 0xE4 ∷ 0x8B ∷ 0xCA ∷ 0x93 ∷ 0xD2 ∷ 0x11 ∷ 0xAA ∷ 0x0D ∷ 0x00 ∷ 0xE0 ∷ 0x98 ∷ 0x03 ∷ 0x2B ∷ 0x8C ∷ []
