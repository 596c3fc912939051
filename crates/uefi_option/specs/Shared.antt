-- For private functions: the lists of a load option, which its copies share.
use Rattle.std.specs.Prelude.{◌≡◌, ℕ, List, length}
use Rattle.uefi_path.specs.declared.node.Node.{Node}
use Rattle.uefi_option.specs.declared.shared.Lists.{Lists}
use Rattle.uefi_option.specs.LoadOption.{OptionParts, option_parts, list_bytes}

-- the option of these attributes and lists
abbrev pub option_of : ℕ → Lists → OptionParts
option_of attributes lists = option_parts attributes lists.description.items lists.paths.items lists.optional.items

-- these are the items of the lists
abbrev pub HaveItems : Lists → List ℕ → List (List (List Node)) → List ℕ → Type 0
HaveItems lists description paths optional =
    (lists.description.items ≡ description) × (lists.paths.items ≡ paths) × (lists.optional.items ≡ optional)

-- the spellings of the paths have this many bytes together
abbrev pub IsListLen : ℕ → Lists → Type 0
IsListLen len lists = len ≡ length (list_bytes lists.paths.items)
