use Rattle.std.proofs.Common.{sym, ap, ◌∙◌}
use Rattle.std.specs.Option.{option_copied}
use Rattle.entry_checks.specs.Twins.{twin_among}
use Rattle.entry_checks.proofs.FirstTo.{looked_up, finds_none, finds_twin, finds_new}
use Rattle.entry_checks.proofs.same_files.meet.Goals as goal

pub returns-in_default : goal.returns-in_default
returns-in_default c = λ before finds. (
  sym (ap (twin_among before) c.in_default.is),
  finds_none c.args.met.now before c.args.entry.now c.in_default.is finds,
)

pub returns-in-Some-get : goal.returns-in-Some-get
returns-in-Some-get c = λ before finds.
    let own = c.in-Some.destination in
    let told = looked_up c.args.met.now before c.as_slice.result.now own.items c.get.result finds c.get.ensures.value
    c.as_slice.ensures.value ∙ ap option_copied c.in-Some-get.is in (
      sym (ap (twin_among before) c.in-Some.is ∙ told),
      finds_twin before c.args.entry.now own c.in-Some.is c.args.met.now c.in-Some-get.first.now told finds,
    )

pub returns : goal.returns
returns c = λ before finds.
    let own = c.in-Some.destination in
    let told = looked_up c.args.met.now before c.as_slice.result.now own.items c.get.result finds c.get.ensures.value
    c.as_slice.ensures.value ∙ ap option_copied c.in_default-get.is in (
      sym (ap (twin_among before) c.in-Some.is ∙ told),
      finds_new before c.args.entry.now own c.in-Some.is c.args.met.now c.insert.new.self c.in_ok-destination.destination c.in_ok-insert.ensures.updates
          (c.in_ok-destination.ensures.items ∙ c.deref.ensures.value) told finds,
    )
