use Rattle.boot_requests.specs.declared.input_format.InputFormat.TheVariants as format
use Rattle.boot_commands.proofs.Inputs.{one_after_run, one_list_of_run}
use Rattle.boot_commands.proofs.laws.a_stream_has_one_run.Goals as goal

pub returns : goal.returns
returns c = record {
  variables = λ bytes before a b x y p q. one_after_run format.Stream c.an_event_is_seen_as_one.ensures bytes before a b x y p q;
  answers = λ bytes before a b x y p q. one_list_of_run format.Stream c.an_event_is_seen_as_one.ensures bytes before a b x y p q
      c.an_event_has_one_reply.ensures;
}
