use Rattle.std.proofs.Common.{◌≡◌, ◌++◌, ◌∷◌, ℕ, List, cond, sym, ap, subst, ◌∙◌, append_assoc}
use Rattle.std.specs.FinMap.{get, entries}
use Rattle.std.specs.List.{AllByRecursion, flat_map}
use Rattle.uefi_vars.specs.Iter.{variables_left}
use Rattle.uefi_vars.specs.Vars.{IsVariable}
use Rattle.uefi_vars.proofs.Maps.{entries-AllByRecursion}
use Rattle.var_stores.specs.Record.{record_bytes}
use Rattle.var_stores.specs.Present.{global_key}
use Rattle.var_stores.specs.PresentMap.{record_under}
use Rattle.var_stores.specs.Rewriting.{new_attributes, new_record, added}
use Rattle.var_stores.proofs.writer.added.Goals as goal

pub loop-name-init : goal.loop-name-init
loop-name-init c =
    let all : variables_left c.into_iter-name-iterator.result ≡ entries c.args.to.now =
    ap variables_left c.into_iter-name-iterator.ensures.into_iter_gives ∙ c.iter-name-items.ensures.items in
    record {
      valid = subst (AllByRecursion IsVariable) (sym all) (entries-AllByRecursion c.args.to.now c.iter-name-items.ensures.valid);
      is =
          ap (λ (b : List ℕ). b ++ flat_map record_bytes (added c.args.from.now c.args.to.now
          (λ name. new_attributes (get c.args.attributes.now name) (record_under c.args.present.now (global_key name)))
          (variables_left c.into_iter-name-iterator.result))) c.new-bytes.ensures.items
          ∙ ap (λ (variables : List (List ℕ × List ℕ)). flat_map record_bytes
          (added c.args.from.now c.args.to.now (λ name. new_attributes (get c.args.attributes.now name)
          (record_under c.args.present.now (global_key name))) variables)) all;
    }

pub append_new-requires-clause-name : goal.append_new-requires-clause-name
append_new-requires-clause-name c = (subst (AllByRecursion IsVariable) c.in-Some.ensures.steps c.loop-name.invariant.valid).0.0

pub append_new-requires-clause-value : goal.append_new-requires-clause-value
append_new-requires-clause-value c = (subst (AllByRecursion IsVariable) c.in-Some.ensures.steps c.loop-name.invariant.valid).0.1

pub loop-name-preserved-in-Continue-1 : goal.loop-name-preserved-in-Continue-1
loop-name-preserved-in-Continue-1 c =
    let from = c.args.from.now in
    let to = c.args.to.now in
    let attributes : List ℕ → List ℕ = λ name. new_attributes (get c.args.attributes.now name) (record_under c.args.present.now (global_key name)) in
    let name = c.in-Some.name.now in
    let value = c.in-Some.value.now in
    let rest = variables_left c.next.new.self in
    let r = new_record (attributes name) name value in
    record {
      valid = (subst (AllByRecursion IsVariable) c.in-Some.ensures.steps c.loop-name.invariant.valid).1;
      is =
          ap (λ (b : List ℕ). b ++ flat_map record_bytes (added from to attributes rest)) c.in_ok-append_new.ensures
          ∙ append_assoc c.loop-name.bytes.items (record_bytes r) (flat_map record_bytes (added from to attributes rest))
          ∙ ap (λ b. c.loop-name.bytes.items ++ flat_map record_bytes
          (cond b (r ∷ added from to attributes rest) (added from to attributes rest))) c.if-is_rewritten.ensures
          ∙ ap (λ (variables : List (List ℕ × List ℕ)). c.loop-name.bytes.items
          ++ flat_map record_bytes (added from to attributes variables)) (sym c.in-Some.ensures.steps)
          ∙ c.loop-name.invariant.is;
    }
