-- An event is a request of a number below the next one if its answer tells such a number.
use Rattle.std.proofs.Common.{◌≡◌, ℕ, ◌<◌, Option, Some}
use Rattle.boot_requests.specs.declared.event.Event.{Event}
use Rattle.boot_requests.specs.declared.event.Event.TheVariants as event
use Rattle.boot_requests.specs.Followers.{request_of}
use Rattle.boot_requests.specs.Seen.{Seen, Came, Malformed, Prepare, Hand, Restart, IsSeen}
use Rattle.boot_updates.specs.Replies.{IsBelow}

pub below : (number next : ℕ) (e : Event) (seen : Seen) → IsSeen e seen → ◌≡◌ {A = Option ℕ} (Some number) (request_of seen) → number < next → IsBelow e next
below number next (event.Deliver bytes) (Came other request) is same less = (number, request, (let one : number ≡ other = cc in rw one is), less)
below number next (event.Deliver bytes) (Malformed fault) is same less = absurd (let no = same in cc)
below number next event.Prepare Prepare is same less = absurd (let no = same in cc)
below number next event.Hand Hand is same less = absurd (let no = same in cc)
below number next event.Restart Restart is same less = absurd (let no = same in cc)
below number next _ _ is same less = absurd is
