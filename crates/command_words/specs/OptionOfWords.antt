-- The load option that is made of words (UEFI 2.10, 3.1.3).
use Rattle.std.specs.Prelude.{◌≡◌, ◌≢◌, ◌==◌, ℕ, Bool, false, not, bit_or, if◌then◌else◌, List, [], map}
use Rattle.std.specs.List.{list_any}
use Rattle.std.specs.Str.{chars}
use Rattle.uefi_path.specs.declared.node.Node.{Node}
use Rattle.uefi_path.specs.declared.node.Node.TheVariants.{FilePath}
use Rattle.uefi_option.specs.LoadOption.{OptionParts}
use Rattle.uefi_text.specs.Bytes.{Each}
use Rattle.uefi_names.specs.Standard.{standard_table}
use Rattle.uefi_names.specs.Reading.{IsNamedText}
use Rattle.value_texts.specs.Description.{IsDescription}
use Rattle.command_words.specs.declared.option.Flags.{Flags}
use Rattle.command_words.specs.declared.option.OptionPaths.{OptionPaths}
use Rattle.command_words.specs.declared.option.OptionPaths.TheVariants.{Texts, Paths}
use Rattle.command_words.specs.declared.option.OptionWords.{OptionWords}

-- a bit, if something is so
abbrev pub bit_if : Bool → ℕ → ℕ
bit_if is_so bit = if is_so then bit else 0

-- the attributes of an option of which this is said: LOAD_OPTION_ACTIVE unless it is inactive, LOAD_OPTION_HIDDEN,
-- LOAD_OPTION_CATEGORY_APP and LOAD_OPTION_FORCE_RECONNECT
abbrev pub said_attributes : Flags → ℕ
said_attributes flags =
    bit_or (bit_or (bit_or (bit_if (not flags.inactive) 0x1) (bit_if flags.hidden 0x8)) (bit_if flags.app 0x100)) (bit_if flags.reconnect 0x2)

-- the name of a file has a slash, which firmware takes for no folder
abbrev pub node_has_slash : Node → Bool
node_has_slash (FilePath units) = list_any (λ unit. unit == 0x2F) units
node_has_slash _ = false

abbrev pub has_slashes : List (List Node) → Bool
has_slashes path = list_any (list_any node_has_slash) path

-- the text is that of the path of an option: it isn't empty, and no name of a file has a slash
pub record IsPathText (text : List ℕ) (path : List (List Node)) : Type 0 where
  pub some : text ≢ []
  pub named : IsNamedText standard_table text path
  pub without_slash : has_slashes path ≡ false

-- each text stands for the path at its place
abbrev pub ArePathTexts : List (List ℕ) → List (List (List Node)) → Type 0
ArePathTexts texts paths = Each IsPathText texts paths

-- the paths for which the texts stand, or those that are given
abbrev pub ArePaths : OptionPaths → List (List (List Node)) → Type 0
ArePaths (Texts texts) paths = ArePathTexts (map (λ text. text.now) texts.now) paths
ArePaths (Paths given) paths = paths ≡ given.now

-- the option has the attributes and the optional data of the words, their paths, and the description for which their text
-- stands
pub record IsOptionOfWords (words : OptionWords) (option : OptionParts) : Type 0 where
  pub attributes : option.attributes ≡ words.attributes
  pub description : IsDescription (chars words.description.now) option.description
  pub paths : ArePaths words.paths option.paths
  pub optional : option.optional ≡ words.optional.now
