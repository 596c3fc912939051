use Rattle.std.proofs.Common.{◌<◌, ◌≤◌, [], length, get_or, arith}
use Rattle.std.specs.FinMap.{entries, len-entries}
use Rattle.std.proofs.lemmas.Option.{slice_get-get_or}
use Rattle.uefi_vars.proofs.EntriesAtRisk.{none_those, none_here, pass_it, add_it}
use Rattle.boot_profiles.specs.Steps.{IsVariableOf}
use Rattle.boot_profiles.proofs.Descriptions.{those_described}
use Rattle.boot_profiles.proofs.described.numbers_of.Goals as goal
use Rattle.boot_profiles.proofs.described.numbers_of.Goals.{in-Some+in_ok-push, in_default}

pub loop-place-init : goal.loop-place-init
loop-place-init c = rw c.new-numbers.ensures.items (none_those (IsVariableOf c.args.description.now))

pub loop-place-preserved : goal.loop-place-preserved
loop-place-preserved c =
    let d = c.args.description.now in
    let vars = c.args.vars.now in
    let i = c.loop-place.place in
    let within : i < length (entries vars) = omega (arith, c.len-place-end.ensures.len, len-entries vars, c.loop-place-test.true) in
    elim c.match-number_at.branch [
      | in-Some+in_ok-push w ↦
          let at = w.in-Some.ensures.found in
          rw (w.numbers-is, w.in_ok-push.ensures.items)
          (add_it (IsVariableOf d) vars i at.variable at.at c.loop-place.numbers.items c.loop-place.invariant (λ q n h. h.entry) w.in-Some.number at.is)
      | in_default w ↦
          let p = get_or (entries vars) i ([], []) in
          let at = slice_get-get_or (entries vars) i ([], []) within in
          rw w.numbers-is
          (pass_it (IsVariableOf d) vars i p at c.loop-place.numbers.items c.loop-place.invariant
          (none_here (IsVariableOf d p) c.number_at.result w.in_default.is
          (λ n h. c.number_at.ensures.only n (record { variable = p; at = at; is = h }))))
    ]

pub returns : goal.returns
returns c =
    let past : length (entries c.args.vars.now) ≤ c.loop-place.place = omega (arith, c.len-place-end.ensures.len, len-entries c.args.vars.now, c.loop-place-test.false) in
    those_described c.args.vars.now c.args.description.now c.loop-place.numbers.items c.loop-place.place past c.loop-place.invariant
