use Rattle.std.proofs.Common.{sym, ap, ◌∙◌}
use Rattle.std.specs.Option.{option_map, option_copied}
use Rattle.var_stores.specs.Record.{record_parts}
use Rattle.var_stores.proofs.value.value_under.Goals as goal

pub returns-in-Some : goal.returns-in-Some
returns-in-Some c =
    sym (ap (option_map (λ r. r.value)) (sym (ap (option_map record_parts) c.get.ensures.value)
    ∙ ap (λ got. option_map record_parts (option_copied got)) c.in-Some.is))
