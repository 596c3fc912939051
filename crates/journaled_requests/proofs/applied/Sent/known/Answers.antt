-- What is found among the last of the run, or else among those before it.
use Rattle.std.proofs.Common.{◌≡◌, Some, None, sym, ◌∙◌}
use Rattle.boot_notes.specs.Digest.{digest_under}
use Rattle.boot_notes.specs.Notes.{last_of}
use Rattle.journaled_requests.proofs.Lists.{found_first, found_behind}
use Rattle.journaled_requests.proofs.applied.Sent.known.Goals as goal

pub returns-in-Some : goal.returns-in-Some
returns-in-Some c =
    let here : digest_under (last_of c.args.self.now.applied.items) c.args.number ≡ Some c.in-Some.digest = cc in
    sym (found_first (last_of c.args.self.now.applied.items) c.args.before.now c.args.number c.in-Some.digest here)

pub returns-in-None : goal.returns-in-None
returns-in-None c =
    let none : digest_under (last_of c.args.self.now.applied.items) c.args.number ≡ None = cc in
    c.digest_under-in-None.ensures ∙ sym (found_behind (last_of c.args.self.now.applied.items) c.args.before.now c.args.number none)
