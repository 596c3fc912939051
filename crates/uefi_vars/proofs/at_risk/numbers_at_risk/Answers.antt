use Rattle.uefi_vars.specs.Records.{pair_of}
use Rattle.uefi_vars.specs.RiskOfVariable.{IsUnnamedEntry, IsUndecodableEntry}
use Rattle.uefi_vars.proofs.LowestFree.{item_at}
use Rattle.uefi_vars.proofs.EntriesAtRisk.{none_those, none_here, pass_it, add_it, all_those}
use Rattle.uefi_vars.proofs.at_risk.numbers_at_risk.Goals as goal
use Rattle.uefi_vars.proofs.at_risk.numbers_at_risk.Goals.{in-Some+in_ok-push, in_default, in-Some-undecodable_number+in_ok-push-2}
use Rattle.uefi_vars.proofs.at_risk.numbers_at_risk.Goals.{in_default-undecodable_number}

pub loop-variable-init : goal.loop-variable-init
loop-variable-init c = record {
  unnamed = rw c.new-unnamed.ensures.items
      (none_those (IsUnnamedEntry c.args.named.now c.args.next));
  undecodable =
      rw c.new-undecodable.ensures.items (none_those (IsUndecodableEntry c.args.named.now));
}

pub loop-variable-preserved : goal.loop-variable-preserved
loop-variable-preserved c =
    let vars = c.args.vars.now in
    let named = c.args.named.now in
    let i = c.loop-variable.variable-index in
    let items = c.variables-variable-items in
    let p = pair_of c.variable-item.result in
    let at = item_at vars items.result.now i c.variable-item.result items.ensures.pairs c.loop-variable-test.true c.variable-item.is in
    let before = c.loop-variable.invariant in
    record {
      unnamed = elim c.match-unnamed_number.branch [
        | in-Some+in_ok-push w ↦
            rw (w.unnamed-is, w.in_ok-push.ensures.items)
            (add_it (IsUnnamedEntry named c.args.next) vars i p at c.loop-variable.unnamed.items before.unnamed
            (λ q n h. h.entry) w.in-Some.number w.in-Some.ensures.found)
        | in_default w ↦
            rw w.unnamed-is
            (pass_it (IsUnnamedEntry named c.args.next) vars i p at c.loop-variable.unnamed.items before.unnamed
            (none_here (IsUnnamedEntry named c.args.next p) c.unnamed_number.result w.in_default.is c.unnamed_number.ensures.only))
      ];
      undecodable = elim c.match-undecodable_number.branch [
        | in-Some-undecodable_number+in_ok-push-2 w ↦
            rw (w.undecodable-is, w.in_ok-push-2.ensures.items)
            (add_it (IsUndecodableEntry named) vars i p at c.loop-variable.undecodable.items before.undecodable
            (λ q n h. h.entry) w.in-Some-undecodable_number.number w.in-Some-undecodable_number.ensures.found)
        | in_default-undecodable_number w ↦
            rw w.undecodable-is
            (pass_it (IsUndecodableEntry named) vars i p at c.loop-variable.undecodable.items before.undecodable
            (none_here (IsUndecodableEntry named p) c.undecodable_number.result w.in_default-undecodable_number.is c.undecodable_number.ensures.only))
      ];
    }

pub returns-clause-unnamed : goal.returns-clause-unnamed
returns-clause-unnamed c =
    let items = c.variables-variable-items in
    all_those (IsUnnamedEntry c.args.named.now c.args.next) c.args.vars.now items.result.now c.loop-variable.variable-index
    c.loop-variable.unnamed.items items.ensures.pairs
    c.loop-variable-test.false c.loop-variable.invariant.unnamed

pub returns-clause-undecodable : goal.returns-clause-undecodable
returns-clause-undecodable c =
    let items = c.variables-variable-items in
    all_those (IsUndecodableEntry c.args.named.now) c.args.vars.now items.result.now c.loop-variable.variable-index
    c.loop-variable.undecodable.items items.ensures.pairs
    c.loop-variable-test.false c.loop-variable.invariant.undecodable
