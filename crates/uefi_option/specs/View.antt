-- A load option where it is in the bytes (UEFI 2.10, 3.1.3).
use Rattle.std.specs.Prelude.{◌≡◌, ℕ, ◌+◌, List, length}
use Rattle.uefi_path.specs.Units.{units_bytes}
use Rattle.uefi_path.specs.Views.{IsSliceAt}
use Rattle.uefi_option.specs.declared.view.OptionView.{OptionView}
use Rattle.uefi_option.specs.LoadOption.{OptionParts, list_bytes}

-- The view shows the parts of the option: its attributes, and as bytes its description without the zero unit, its list
-- and its optional data.
pub record ShowsOption (view : OptionView) (o : OptionParts) : Type 0 where
  pub attributes : view.attributes ≡ o.attributes
  pub description : view.description.now ≡ units_bytes o.description
  pub list : view.list.now ≡ list_bytes o.paths
  pub optional : view.optional.now ≡ o.optional

-- The parts of the view are what is in the input at their places: the description after the six bytes of the header,
-- the list after the zero unit, and the optional data after the list, up to the input's end.
pub record IsCutFrom (view : OptionView) (input : List ℕ) : Type 0 where
  pub description : IsSliceAt input 6 view.description.now
  pub list : IsSliceAt input (8 + length view.description.now) view.list.now
  pub optional : IsSliceAt input (8 + length view.description.now + length view.list.now) view.optional.now
  pub end : length input ≡ 8 + length view.description.now + length view.list.now + length view.optional.now
