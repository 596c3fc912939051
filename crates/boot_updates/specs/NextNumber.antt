-- The next number, as answers tell it.
use Rattle.std.specs.Prelude.{ℕ}
use Rattle.boot_requests.specs.declared.answer.Answer.{Answer}
use Rattle.boot_requests.specs.declared.reply.Reply.{Reply}
use Rattle.boot_requests.specs.declared.reply.Reply.TheVariants as reply

-- the next number after an event that was answered so, if it was this before
abbrev pub next_told : ℕ → Reply → ℕ
next_told before (reply.Applied outcome next) = next
next_told before _ = before

-- the same of the answer
abbrev pub next_after : ℕ → Answer → ℕ
next_after before answer = next_told before answer.reply
