-- What a script or a stream does to variables.
use Rattle.std.specs.Prelude.{ℕ, List}
use Rattle.uefi_vars.specs.Vars.{Variables}
use Rattle.boot_requests.specs.declared.event.Event.{Event}
use Rattle.boot_requests.specs.declared.reply.Reply.{Reply}
use Rattle.boot_requests.specs.InputFormat.{ReadsIn}
use Rattle.boot_requests.specs.Happens.{Happens}
use Rattle.boot_requests.specs.declared.input_format.InputFormat.{InputFormat}

-- the bytes are of this format, and their events lead from the one variables to the others and are answered so
pub record RunsIn (format : InputFormat) (bytes : List ℕ) (before after : Variables) (answers : List Reply) : Type 0 where
  pub events : List Event
  pub read : ReadsIn format bytes events
  pub happens : Happens before events after answers
