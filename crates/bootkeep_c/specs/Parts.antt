-- Where the parts of a load option are in its bytes, as C is told.
use Rattle.std.specs.Prelude.{◌≡◌, ℕ, ◌+◌, List, length}
use Rattle.uefi_path.specs.Units.{units_bytes}
use Rattle.uefi_path.specs.Views.{IsSliceAt}
use Rattle.uefi_option.specs.LoadOption.{OptionParts, list_bytes}
use Rattle.bootkeep_c.specs.declared.option.OptionPlaces.{OptionPlaces}

-- the part is in the input at this place, and has so many bytes
pub record IsPartAt (input : List ℕ) (at len : ℕ) (part : List ℕ) : Type 0 where
  pub slice : IsSliceAt input at part
  pub is_len : len ≡ length part

-- The numbers tell the parts of the option: its attributes, and where the bytes of the others are in the input, one after
-- the other: the description after the six bytes of the header, the list after its zero unit, and the optional data up to
-- the end.
pub record TellsParts (input : List ℕ) (places : OptionPlaces) (o : OptionParts) : Type 0 where
  pub attributes : places.attributes ≡ o.attributes
  pub reserved : places.reserved ≡ 0
  pub description : IsPartAt input places.description places.description_len (units_bytes o.description)
  pub list : IsPartAt input places.list places.list_len (list_bytes o.paths)
  pub optional : IsPartAt input places.optional places.optional_len o.optional
  pub first : places.description ≡ 6
  pub second : places.list ≡ 8 + places.description_len
  pub third : places.optional ≡ places.list + places.list_len
  pub end : length input ≡ places.optional + places.optional_len
