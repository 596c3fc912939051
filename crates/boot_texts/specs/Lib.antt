-- of the crates below, what they cite
pub use Rattle.uefi_path.specs.declared.node.Node
pub use Rattle.uefi_option.specs.LoadOption
pub use Rattle.uefi_text.specs.Bytes
pub use Rattle.uefi_text.specs.Path
pub use Rattle.uefi_vars.specs.Vars
pub use Rattle.uefi_vars.specs.Order
pub use Rattle.uefi_vars.specs.AtRisk
