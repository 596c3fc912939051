-- what public contracts and the laws cite
pub mod FileFault
pub mod Report
-- scripts and streams, in the order in which to read them
pub mod Runs
pub mod RunFault
pub mod Words
pub mod Source
pub mod Answers
-- of the crates below, what public contracts and the laws cite
pub use Rattle.uefi_vars.specs.Vars
pub use Rattle.boot_requests.specs.declared.event.Event
pub use Rattle.boot_requests.specs.declared.fault.FeedFault
pub use Rattle.boot_requests.specs.declared.fault.OpenFault
pub use Rattle.boot_requests.specs.declared.reply.Reply
pub use Rattle.boot_requests.specs.declared.script_fault.ScriptFault
