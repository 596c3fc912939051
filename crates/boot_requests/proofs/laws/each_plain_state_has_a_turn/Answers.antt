use Rattle.boot_requests.proofs.Turn.Answers.{decided, some_turn}
use Rattle.boot_requests.proofs.laws.each_plain_state_has_a_turn.Goals as goal

pub returns : goal.returns
returns c = λ k seen valid.
    let turn = some_turn c.entries_have_a_plan.ensures (decided _ c.requests_compare_as_values.ensures) k seen valid in
    (turn.0, turn.1.0, turn.1.1)
