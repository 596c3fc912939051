-- What contracts see of words: texts, without the places that references have.
use Rattle.std.specs.Prelude.{ℕ, List, map, Option}
use Rattle.std.specs.Option.{option_map}
use Rattle.efibootmgr_words.specs.declared.fault.WordFault.{WordFault}
use Rattle.efibootmgr_words.specs.declared.fault.WordFault.TheVariants as fault
use Rattle.efibootmgr_words.specs.declared.given_words.Given.{Given}
use Rattle.efibootmgr_words.specs.declared.given_words.GivenOption.{GivenOption}
use Rattle.efibootmgr_words.specs.declared.option_table.Choice.{Choice}

-- what is wrong with words, each case as that of `WordFault`
pub data FaultParts : Type 0 where
  UnknownLetter : ℕ → FaultParts
  UnknownName : List ℕ → FaultParts
  Ambiguous : List ℕ → FaultParts
  NoValue : List ℕ → FaultParts
  ExtraValue : List ℕ → FaultParts
  NotDone : List ℕ → FaultParts
  LongPath : List ℕ → FaultParts
  BadEntry : List ℕ → FaultParts
  LargeEntry : List ℕ → FaultParts
  BadEdd : List ℕ → FaultParts
  UnknownEdd : List ℕ → FaultParts
  BadNext : List ℕ → FaultParts
  LargeNext : List ℕ → FaultParts
  BadPart : List ℕ → FaultParts
  BadTimeout : List ℕ → FaultParts
  BadVerbose : List ℕ → FaultParts
  BadOrder : List ℕ → FaultParts
  BothFamilies : FaultParts
  NoNext : List ℕ → FaultParts
  NoTimeout : List ℕ → FaultParts
  NoneToDelete : FaultParts
  NoneToActivate : FaultParts

abbrev pub fault_parts : WordFault → FaultParts
fault_parts (fault.UnknownLetter letter) = UnknownLetter letter
fault_parts (fault.UnknownName name) = UnknownName name.now
fault_parts (fault.Ambiguous name) = Ambiguous name.now
fault_parts (fault.NoValue name) = NoValue name.now
fault_parts (fault.ExtraValue name) = ExtraValue name.now
fault_parts (fault.NotDone name) = NotDone name.now
fault_parts (fault.LongPath value) = LongPath value.now
fault_parts (fault.BadEntry value) = BadEntry value.now
fault_parts (fault.LargeEntry value) = LargeEntry value.now
fault_parts (fault.BadEdd value) = BadEdd value.now
fault_parts (fault.UnknownEdd value) = UnknownEdd value.now
fault_parts (fault.BadNext value) = BadNext value.now
fault_parts (fault.LargeNext value) = LargeNext value.now
fault_parts (fault.BadPart value) = BadPart value.now
fault_parts (fault.BadTimeout value) = BadTimeout value.now
fault_parts (fault.BadVerbose value) = BadVerbose value.now
fault_parts (fault.BadOrder value) = BadOrder value.now
fault_parts fault.BothFamilies = BothFamilies
fault_parts (fault.NoNext name) = NoNext name.now
fault_parts (fault.NoTimeout name) = NoTimeout name.now
fault_parts fault.NoneToDelete = NoneToDelete
fault_parts fault.NoneToActivate = NoneToActivate

-- an option that is given, and its value, if one belongs to it
pub record OptionParts : Type 0 where
  pub choice : Choice
  pub value : Option (List ℕ)

abbrev pub option_parts : GivenOption → OptionParts
option_parts given = record { choice = given.choice; value = option_map (λ value. value.now) given.value }

-- what words give
pub record GivenParts : Type 0 where
  pub options : List OptionParts
  pub others : List (List ℕ)
  pub fault : Option FaultParts

abbrev pub given_parts : Given → GivenParts
given_parts given = record {
  options = map option_parts given.options.items;
  others = map (λ word. word.now) given.others.items;
  fault = option_map fault_parts given.fault;
}
