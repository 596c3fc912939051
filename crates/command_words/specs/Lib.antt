-- what public contracts cite
pub mod Frame
pub mod OptionOfWords
pub mod OptionWordsFault
-- of the crates below, what they cite
pub use Rattle.uefi_path.specs.declared.node.Node
pub use Rattle.uefi_option.specs.LoadOption
pub use Rattle.uefi_text.specs.Bytes
pub use Rattle.boot_requests.specs.declared.request.Request
pub use Rattle.value_texts.specs.Description
