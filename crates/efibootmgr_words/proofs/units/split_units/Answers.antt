use Rattle.std.proofs.Common.{◌++◌, List, ℕ, ap, sym, ◌∙◌}
use Rattle.efibootmgr_words.specs.Units.{units_text}
use Rattle.efibootmgr_words.proofs.FirstUnits.{no_units, none_first, pair_first, lone_first}
use Rattle.efibootmgr_words.proofs.units.split_units.Goals as goal

pub returns-in_default-clause-none : goal.returns-in_default-clause-none
returns-in_default-clause-none c = no_units c.args.units.now c.in_default.ensures.cases

pub returns-then-unit-eq0-clause-none : goal.returns-then-unit-eq0-clause-none
returns-then-unit-eq0-clause-none c = none_first _ _ _ c.in-Some.ensures.cases.0 c.if-unit-eq0.true

pub returns-in-Some-split_low-clause-some : goal.returns-in-Some-split_low-clause-some
returns-in-Some-split_low-clause-some c =
    let pair = c.in-Some-split_low.ensures.some in
    ap units_text c.in-Some.ensures.cases.0
    ∙ pair_first c.in-Some.unit.now pair.0 _ c.in-Some.others.now _ c.if-unit-eq0.false pair.1 pair.2

pub returns-in-None-clause-some : goal.returns-in-None-clause-some
returns-in-None-clause-some c =
    ap units_text c.in-Some.ensures.cases.0
    ∙ lone_first c.in-Some.unit.now c.in-Some.others.now c.if-unit-eq0.false c.in-None.ensures.none
    ∙ ap (λ (them : List ℕ). them ++ units_text c.in-Some.others.now) (sym c.lone_unit.ensures)
