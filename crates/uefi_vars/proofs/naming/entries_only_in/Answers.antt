use Rattle.std.proofs.Common.{get_or, sym, ◌∙◌}
use Rattle.std.proofs.lemmas.Bool.{false≢true}
use Rattle.std.proofs.lemmas.List.{get_or_default}
use Rattle.uefi_vars.proofs.NamingChanges.{is_stored, none_of_first, pass_it, add_it, all_those}
use Rattle.uefi_vars.proofs.naming.entries_only_in.Goals as goal
use Rattle.uefi_vars.proofs.naming.entries_only_in.Goals.{then-is_some+then-not-is_among+in_ok-push, else-is_some}
use Rattle.uefi_vars.proofs.naming.entries_only_in.Goals.{else-is_some-via-then-is_some+else-not-is_among, else-is_some-via-else-is_some}

pub loop-number-init : goal.loop-number-init
loop-number-init c = rw c.new-found.ensures.items (none_of_first c.args.vars.now c.args.numbers.now c.args.others.now)

pub loop-number-preserved : goal.loop-number-preserved
loop-number-preserved c =
    let vars = c.args.vars.now in
    let numbers = c.args.numbers.now in
    let others = c.args.others.now in
    let found = c.loop-number.found.items in
    let i = c.loop-number.number-index in
    let number = get_or numbers i 0 in
    let within = c.loop-number-test.true in
    let at = get_or_default numbers i 0 number within in
    let told = is_stored vars number c.entry.result c.entry.ensures.value in
    let passed = pass_it vars numbers others found i number within at c.loop-number.invariant in
    let added = add_it vars numbers others found i number within at c.loop-number.invariant c.requires.numbers in
    elim c.if-is_some.branch [
      | then-is_some+then-not-is_among+in_ok-push w ↦
          rw (w.found-is, w.in_ok-push.ensures.items)
          (added (told ∙ sym c.is_some.ensures ∙ w.if-is_some.true) (λ a. false≢true (sym w.if-not-is_among.true ∙ (w.is_among.ensures c.requires.others).1 a)))
      | else-is_some w ↦ elim w.else-is_some.branch [
        | else-is_some-via-then-is_some+else-not-is_among v ↦
            rw w.found-is (passed (λ stored not_among. not_among ((v.is_among.ensures c.requires.others).0 v.if-not-is_among.false)))
        | else-is_some-via-else-is_some v ↦ rw w.found-is (passed (λ stored not_among. false≢true (v.if-is_some.ensures ∙ sym told ∙ stored)))
      ]
    ]

pub returns : goal.returns
returns c =
    all_those c.args.vars.now c.args.numbers.now c.args.others.now c.loop-number.found.items c.loop-number.number-index
    c.loop-number-test.false c.loop-number.invariant
