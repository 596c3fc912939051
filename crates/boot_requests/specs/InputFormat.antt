-- What events are read from: a script or a stream.
use Rattle.std.specs.Prelude.{ℕ, List, Option}
use Rattle.boot_requests.specs.declared.event.Event.{Event}
use Rattle.boot_requests.specs.declared.input_format.InputFormat.{InputFormat}
use Rattle.boot_requests.specs.declared.input_format.InputFormat.TheVariants as format
use Rattle.boot_requests.specs.declared.script_fault.ScriptFault.{ScriptFault}
use Rattle.boot_requests.specs.Script.{IsScript, IsLineFault, IsScriptList}
use Rattle.boot_requests.specs.EventStream.{IsStream, IsStreamFault, IsStreamList}

-- the bytes are of this format, with these events
abbrev pub ReadsIn : InputFormat → List ℕ → List Event → Type 0
ReadsIn format.Script = IsScript
ReadsIn format.Stream = IsStream

-- the fault is that of bytes of this format
abbrev pub IsFaultIn : InputFormat → List ℕ → ScriptFault → Type 0
IsFaultIn format.Script = IsLineFault
IsFaultIn format.Stream = IsStreamFault

-- the events of bytes of this format up to the first fault, with their places, where that fault or the end is, and the fault
abbrev pub IsListIn : InputFormat → List ℕ → List Event → List ℕ → ℕ → Option ScriptFault → Type 0
IsListIn format.Script = IsScriptList
IsListIn format.Stream = IsStreamList
