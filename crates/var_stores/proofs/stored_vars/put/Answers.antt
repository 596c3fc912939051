use Rattle.std.proofs.Common.{◌≡◌, Some, sym, ap, ◌∙◌}
use Rattle.std.specs.Option.{option_map}
use Rattle.std.specs.String.{string_bytes}
use Rattle.var_stores.specs.Present.{name_in}
use Rattle.var_stores.proofs.StoredVars.{PutAnswer, put_none, put_gives, on_ok}
use Rattle.var_stores.proofs.stored_vars.put.Goals as goal

pub returns-in_default : goal.returns-in_default
returns-in_default c =
    put_none c.args.vars.now c.args.stored.now c.args.value.now
    (sym c.in_ok-name.ensures ∙ ap (λ name. option_map (λ text. string_bytes text) name) c.in_default.is)

pub returns : goal.returns
returns c =
    let own = c.deref.result.now in
    let read : name_in c.args.stored.now ≡ Some own =
    sym c.in_ok-name.ensures ∙ ap (λ name. option_map (λ text. string_bytes text) name) c.in-Some.is ∙ ap Some (sym c.deref.ensures) in
    let answer : PutAnswer c.args.vars.now c.put.new.self own c.args.value.now c.put.result = record {
      put = c.put.ensures.put;
      unchanged = c.put.ensures.unchanged;
      bad_name = c.put.ensures.bad_name;
      empty_data = c.put.ensures.empty_data;
      data_too_long = c.put.ensures.data_too_long;
      valid = c.put.ensures.valid;
    } in
    on_ok c.unless_no_memory.result c.unless_no_memory.ensures
    (put_gives c.args.vars.now c.put.new.self c.args.stored.now c.args.value.now own c.put.result read answer)
