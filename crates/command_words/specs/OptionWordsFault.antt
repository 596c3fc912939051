-- Why no load option is made of words.
use Rattle.std.specs.Prelude.{◌≡◌, ◌<◌, ◌+◌, ◌⊎◌, ℕ, true, List, [], ◌∷◌, ◌++◌, length, map, Contains}
use Rattle.std.specs.Str.{chars}
use Rattle.uefi_path.specs.declared.node.Node.{Node}
use Rattle.uefi_option.specs.LoadOption.{list_bytes, list_max}
use Rattle.uefi_option.specs.declared.fault.OptionFault.{OptionFault}
use Rattle.uefi_option.specs.declared.fault.OptionFault.TheVariants as option_fault
use Rattle.uefi_names.specs.Standard.{standard_table}
use Rattle.uefi_names.specs.Reading.{IsNamedText}
use Rattle.value_texts.specs.declared.description.DescriptionFault.{DescriptionFault}
use Rattle.value_texts.specs.declared.description.DescriptionFault.TheVariants as description_fault
use Rattle.value_texts.specs.Description.{IsDescription, IsDescriptionFault}
use Rattle.command_words.specs.declared.option.OptionPaths.{OptionPaths}
use Rattle.command_words.specs.declared.option.OptionPaths.TheVariants.{Texts, Paths}
use Rattle.command_words.specs.declared.option.OptionWords.{OptionWords}
use Rattle.command_words.specs.declared.option.OptionWordsFault.{OptionWordsFault}
use Rattle.command_words.specs.declared.option.OptionWordsFault.TheVariants as fault
use Rattle.command_words.specs.OptionOfWords.{ArePathTexts, ArePaths, has_slashes}

-- the fault of a load option, as one of words
abbrev pub of_option : OptionFault → OptionWordsFault
of_option option_fault.OutOfMemory = fault.OutOfMemory
of_option other = fault.Option other

-- the fault of a description, as one of words
abbrev pub of_description : DescriptionFault → OptionWordsFault
of_description description_fault.OutOfMemory = fault.OutOfMemory
of_description other = fault.Description other

-- the text stands for no path
abbrev pub StandsForNone : List ℕ → Type 0
StandsForNone text = (path : List (List Node)) → IsNamedText standard_table text path → ⊥

-- the text of the path of this number has the fault
abbrev pub IsTextFault : List ℕ → ℕ → OptionWordsFault → Type 0
IsTextFault text number (fault.EmptyPath n) = (n ≡ number) × (text ≡ [])
IsTextFault text number (fault.Slashes n) =
    (n ≡ number) × (path : List (List Node)) × IsNamedText standard_table text path × (has_slashes path ≡ true)
IsTextFault text number (fault.PathOfBytes n) = (n ≡ number) × StandsForNone text
IsTextFault text number (fault.Path n named reason) = (n ≡ number) × StandsForNone text
IsTextFault text number _ = ⊥

-- the first of the texts that has a fault has this one; they are numbered from 1
abbrev pub IsTextsFault : List (List ℕ) → OptionWordsFault → Type 0
IsTextsFault texts f =
    (before : List (List ℕ)) × (text : List ℕ) × (after : List (List ℕ)) × (paths : List (List (List Node)))
    × (texts ≡ before ++ text ∷ after) × ArePathTexts before paths × IsTextFault text (length before + 1) f

abbrev pub IsPathsFault : OptionPaths → OptionWordsFault → Type 0
IsPathsFault (Texts texts) f = IsTextsFault (map (λ text. text.now) texts.now) f
IsPathsFault (Paths paths) f = ⊥

-- this description and these paths are those of no option
abbrev pub IsFaultOfParts : List ℕ → List (List (List Node)) → OptionFault → Type 0
IsFaultOfParts description paths option_fault.ZeroUnit = Contains description 0
IsFaultOfParts description paths option_fault.EmptyList = (¬ Contains description 0) × (paths ≡ [])
IsFaultOfParts description paths option_fault.ListTooLong = (¬ Contains description 0) × (list_max < length (list_bytes paths))
IsFaultOfParts description paths _ = ⊥

-- the description or, if that is one, the option of it and of these paths has the fault
abbrev pub IsOptionFault : List ℕ → List (List (List Node)) → OptionWordsFault → Type 0
IsOptionFault text paths (fault.Description f) = IsDescriptionFault (chars text) f
IsOptionFault text paths (fault.Option f) =
    (description : List ℕ) × IsDescription (chars text) description × IsFaultOfParts description paths f
IsOptionFault text paths _ = ⊥

-- the words have the fault: one of their paths, or if these are there, the description or the option of all
abbrev pub IsWordsFault : OptionWords → OptionWordsFault → Type 0
IsWordsFault words f =
    IsPathsFault words.paths f
    ⊎ ((paths : List (List (List Node))) × ArePaths words.paths paths × IsOptionFault words.description.now paths f)
