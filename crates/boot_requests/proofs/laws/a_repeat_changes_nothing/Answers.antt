use Rattle.boot_requests.specs.Seen.{Came}
use Rattle.std.proofs.Common.{◌∷◌}
use Rattle.boot_requests.proofs.WholeRuns.Repeats.{alike_repeat, alike_later, state_alike, reply_alike}
use Rattle.boot_requests.proofs.laws.a_repeat_changes_nothing.Goals as goal

pub returns : goal.returns
returns c = record {
  state = λ start later run number request again.
      state_alike start _ _ (alike_later start later (Came number request ∷ run) run (alike_repeat start run number request again));
  replies = λ start later run number request again.
      reply_alike start _ _ (alike_later start later (Came number request ∷ run) run (alike_repeat start run number request again));
}
