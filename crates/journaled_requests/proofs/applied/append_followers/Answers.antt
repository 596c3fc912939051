-- One follower more, if one waits.
use Rattle.std.proofs.Common.{◌≡◌, ◌+◌, ◌-◌, List, [], ◌∷◌, ◌++◌, Some, None, sym, ap, ◌∙◌}
use Rattle.boot_notes.specs.declared.digest.FrameDigest.{FrameDigest}
use Rattle.journaled_requests.specs.Applied.{followers_of}
use Rattle.boot_notes.specs.Digest.{digest_under}
use Rattle.journaled_requests.proofs.Lists.{followed_by_one, followed_by_none}
use Rattle.journaled_requests.proofs.applied.append_followers.Goals as goal
use Rattle.journaled_requests.proofs.applied.append_followers.Goals.{in-Some+in_ok-push, in_default}

pub loop-number-preserved : goal.loop-number-preserved
loop-number-preserved c = elim c.match-digest_under.branch [
  | in-Some+in_ok-push w ↦
      let here : digest_under c.args.waiting.now c.loop-number.number ≡ Some w.in-Some.digest = sym c.digest_under.ensures ∙ w.in-Some.is in
      let one : FrameDigest = record { number = c.loop-number.number; digest = w.in-Some.digest } in
      let more : c.match-digest_under.applied.items ≡ c.loop-number.applied.items ++ one ∷ [] =
      ap (λ v. v.items) w.applied-is ∙ w.in_ok-push.ensures.items in
      followed_by_one c.loop-number.applied.items c.match-digest_under.applied.items c.args.waiting.now c.loop-number.number c.args.next w.in-Some.digest
      c.loop-number-test.true here more ∙ c.loop-number.invariant
  | in_default w ↦
      let none : digest_under c.args.waiting.now c.loop-number.number ≡ None = sym c.digest_under.ensures ∙ w.in_default.is in
      let same : c.match-digest_under.applied.items ≡ c.loop-number.applied.items = ap (λ v. v.items) w.applied-is in
      let rest : List FrameDigest = followers_of c.args.waiting.now (c.loop-number.number + 1) (c.args.next - (c.loop-number.number + 1)) in
      ap (λ (t : List FrameDigest). t ++ rest) same
      ∙ followed_by_none c.loop-number.applied.items c.args.waiting.now c.loop-number.number c.args.next c.loop-number-test.true none
      ∙ c.loop-number.invariant
]
