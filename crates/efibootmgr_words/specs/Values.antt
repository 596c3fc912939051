-- The values of options.
use Rattle.std.specs.Prelude.{◌≡◌, ℕ, ◌==◌, ◌&&◌, Bool, true, false, not, ◌||◌, nat_le, nat_lt, List, [], ◌∷◌, Option, Some, None, Result}
use Rattle.std.specs.Prelude.{Ok, Err, if◌then◌else◌}
use Rattle.std.specs.List.{slice_split}
use Rattle.efibootmgr_words.specs.Cut.{behind_hyphen}
use Rattle.efibootmgr_words.specs.Number.{hexadecimal_of, decimal_of}
use Rattle.efibootmgr_words.specs.Parts.{FaultParts, BadEntry, LargeEntry, BadEdd, UnknownEdd, LongPath, BadNext, LargeNext, BadPart}
use Rattle.efibootmgr_words.specs.Parts.{BadTimeout, BadVerbose, BadOrder, fault_parts}
use Rattle.efibootmgr_words.specs.declared.values.ValueFault.{ValueFault}
use Rattle.efibootmgr_words.specs.declared.values.ValueFault.TheVariants as refused

-- the second step, if the first gave a value
infixl 10 ◌>>◌
abbrev pub ◌>>◌ : {A B E : Type 0} → Result A E → (A → Result B E) → Result B E
Ok a >> f = f a
Err e >> f = Err e

-- a number of 16 bits, or the fault of another text and of a larger number
abbrev pub short_of : FaultParts → FaultParts → Option ℕ → Result ℕ FaultParts
short_of bad large None = Err bad
short_of bad large (Some number) = if nat_le number 0xFFFF then Ok number else Err large

abbrev pub entry_of : List ℕ → Result ℕ FaultParts
entry_of text = short_of (BadEntry text) (LargeEntry text) (hexadecimal_of text)

abbrev pub next_of : List ℕ → Result ℕ FaultParts
next_of text = short_of (BadNext text) (LargeNext text) (hexadecimal_of text)

abbrev pub timeout_of : List ℕ → Result ℕ FaultParts
timeout_of text = short_of (BadTimeout text) (BadTimeout text) (decimal_of text)

abbrev pub part_or : FaultParts → Option ℕ → Result ℕ FaultParts
part_or bad None = Err bad
part_or bad (Some number) = Ok number

abbrev pub part_of : List ℕ → Result ℕ FaultParts
part_of text = part_or (BadPart text) (decimal_of text)

abbrev pub level_or : FaultParts → Option ℕ → Result Bool FaultParts
level_or bad None = Err bad
level_or bad (Some level) = Ok (nat_lt 0 level)

-- whether a level asks for more lines
abbrev pub verbose_of : List ℕ → Result Bool FaultParts
verbose_of text = level_or (BadVerbose text) (decimal_of text)

-- the fault of a number of a form of the disk's path, behind a minus or not: 0 and -1 ask for the short form, 1 and 3 for a longer one
abbrev pub edd_number : List ℕ → Bool → Option ℕ → Option FaultParts
edd_number text minus None = Some (BadEdd text)
edd_number text minus (Some number) =
    if (number == 0) || (minus && (number == 1)) then None
    else if not minus && ((number == 1) || (number == 3)) then Some (LongPath text)
    else Some (UnknownEdd text)

abbrev pub edd_signed : List ℕ → Option (List ℕ) → Option FaultParts
edd_signed text None = edd_number text false (decimal_of text)
edd_signed text (Some number) = edd_number text true (decimal_of number)

abbrev pub edd_fault : List ℕ → Option FaultParts
edd_fault text = edd_signed text (behind_hyphen text)

-- ---- an order

abbrev pub comma : ℕ
comma = 44

abbrev pub words_of : List ℕ → List (List ℕ)
words_of text = slice_split (λ byte. byte == comma) text

-- the number of an entry between two commas
abbrev pub order_number : List ℕ → Result ℕ FaultParts
order_number word = short_of (BadOrder word) (BadOrder word) (hexadecimal_of word)

-- the numbers of words, or the first fault
abbrev pub numbers_of : List (List ℕ) → Result (List ℕ) FaultParts
numbers_of [] = Ok []
numbers_of (word ∷ words) = order_number word >> λ number. numbers_of words >> λ numbers. Ok (number ∷ numbers)

abbrev pub order_of : List ℕ → Result (List ℕ) FaultParts
order_of text = numbers_of (words_of text)

-- ---- for the private functions that may be out of memory

-- the refusal is that of the word, or nothing is said
abbrev pub IsRefusal : {A : Type 0} → ValueFault → Result A FaultParts → Type 0
IsRefusal (refused.Word fault) told = told ≡ Err (fault_parts fault)
IsRefusal refused.OutOfMemory told = Unit {0}
