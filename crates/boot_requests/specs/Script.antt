-- Scripts: what happens to a machine, as text with an event on each line.
use Rattle.std.specs.Prelude.{◌≡◌, ◌⊎◌, ℕ, ◌+◌, ◌==◌, List, [], ◌∷◌, ◌++◌, length, codes, Option, Some, None, Ok}
use Rattle.std.specs.List.{AllByRecursion, slice_split}
use Rattle.hex.specs.Hex.{decode_of}
use Rattle.boot_requests.specs.declared.event.Event.{Event}
use Rattle.boot_requests.specs.declared.event.Event.TheVariants as event
use Rattle.boot_requests.specs.declared.script_fault.ScriptFault.{ScriptFault}
use Rattle.boot_requests.specs.declared.script_fault.ScriptFault.TheVariants as fault

abbrev pub line_feed : ℕ
line_feed = 0x0A

-- the lines of a text: what line feeds part, so there is one line more than there are line feeds
abbrev pub lines_of : List ℕ → List (List ℕ)
lines_of text = slice_split (λ byte. byte == line_feed) text

-- The line tells of the event. The bytes of a delivery come after one blank, each as two hexadecimal digits of either
-- case, perhaps none.
abbrev pub Tells : List ℕ → Event → Type 0
Tells line (event.Deliver bytes) =
    (digits : List ℕ) × (line ≡ codes "deliver " ++ digits) × (decode_of digits ≡ Ok bytes)
Tells line event.Prepare = line ≡ codes "prepare"
Tells line event.Hand = line ≡ codes "hand"
Tells line event.Restart = line ≡ codes "restart"

-- the lines tell of the events, in their order, and empty lines of none
abbrev pub TellOf : List (List ℕ) → List Event → Type 0
TellOf [] events = events ≡ []
TellOf ([] ∷ lines) events = TellOf lines events
TellOf ((byte ∷ line) ∷ lines) [] = ⊥
TellOf ((byte ∷ line) ∷ lines) (event ∷ events) = Tells (byte ∷ line) event × TellOf lines events

-- the text is a script, with these events
abbrev pub IsScript : List ℕ → List Event → Type 0
IsScript text events = TellOf (lines_of text) events

-- a line that can be in a script: an empty one, or one that tells of an event
abbrev pub IsScriptLine : List ℕ → Type 0
IsScriptLine line = (line ≡ []) ⊎ ((event : Event) × Tells line event)

-- The line of this number can't be in a script, and each line before it can. Numbers count from 1, empty lines too.
pub record IsFirstBadLine (text : List ℕ) (number : ℕ) : Type 0 where
  pub before : List (List ℕ)
  pub bad : List ℕ
  pub after : List (List ℕ)
  pub lines : lines_of text ≡ before ++ bad ∷ after
  pub good : AllByRecursion IsScriptLine before
  pub is_bad : ¬ IsScriptLine bad
  pub at : number ≡ length before + 1

-- the fault is that of a text
abbrev pub IsLineFault : List ℕ → ScriptFault → Type 0
IsLineFault text (fault.BadLine number) = IsFirstBadLine text number
IsLineFault text _ = ⊥

-- the numbers of the lines that aren't empty, if this is the number of the first line
abbrev pub line_numbers : ℕ → List (List ℕ) → List ℕ
line_numbers number [] = []
line_numbers number ([] ∷ lines) = line_numbers (number + 1) lines
line_numbers number ((byte ∷ line) ∷ lines) = number ∷ line_numbers (number + 1) lines

-- What a text is read as: without a fault, the events of the script, the numbers of their lines, and how many lines there
-- are; with one, the events and the numbers of the lines before the first bad one, and the number of that.
abbrev pub IsScriptList : List ℕ → List Event → List ℕ → ℕ → Option ScriptFault → Type 0
IsScriptList text events places end None =
    IsScript text events × (places ≡ line_numbers 1 (lines_of text)) × (end ≡ length (lines_of text))
IsScriptList text events places end (Some (fault.BadLine number)) =
    (bad : IsFirstBadLine text number) × TellOf bad.before events × (places ≡ line_numbers 1 bad.before) × (end ≡ number)
IsScriptList text events places end (Some _) = ⊥
