-- Descriptions of load options as texts.
use Rattle.std.specs.Prelude.{◌≡◌, ◌⊎◌, ℕ, List, true, false}
use Rattle.std.specs.Char.Utf16.{utf16_lossy_chars, has_unpaired_surrogate}
use Rattle.std.specs.Str.{encode_utf8_all}
use Rattle.std.specs.String.{IsUtf16Of}
use Rattle.uefi_option.specs.declared.fault.OptionFault.{OptionFault}
use Rattle.uefi_option.specs.LoadOption.{OptionParts, SpellsOption}
use Rattle.uefi_option.specs.Fault.{IsFirstFault}
use Rattle.bootkeep_c.specs.declared.failure.Failure.{Failure}
use Rattle.bootkeep_c.specs.Refusals.{bare, option_failure}

-- The bytes are a load option whose description's units are those of this text in UTF-16, in which no half of a pair
-- stands alone. The text is that of the characters which the units spell.
pub record HasDescription (bytes text : List ℕ) : Type 0 where
  pub option : OptionParts
  pub spelled : SpellsOption bytes option
  pub paired : has_unpaired_surrogate option.description ≡ false
  pub units : IsUtf16Of option.description text
  pub characters : text ≡ encode_utf8_all (utf16_lossy_chars option.description)

-- the bytes are a load option in whose description a half of a pair stands alone
pub record HasHalfPair (bytes : List ℕ) : Type 0 where
  pub option : OptionParts
  pub spelled : SpellsOption bytes option
  pub unpaired : has_unpaired_surrogate option.description ≡ true

-- Why bytes have no description that is a text: they are no load option, or one whose units are none.
abbrev pub IsDescriptionFailure : List ℕ → Failure → Type 0
IsDescriptionFailure bytes failed =
    ((fault : OptionFault) × IsFirstFault bytes fault × (failed ≡ option_failure fault))
    ⊎ (HasHalfPair bytes × (failed ≡ bare 0x0309))
