use Rattle.uefi_names.specs.Shown.{units_in}
use Rattle.uefi_names.proofs.Chars.{last_char, pair_first, lone_first}
use Rattle.uefi_names.proofs.whole.pair_at.Goals as goal

pub returns-in_default-clause-none : goal.returns-in_default-clause-none
returns-in_default-clause-none c = last_char c.args.high (units_in c.args.bytes.now) c.in_default.ensures.none

pub returns-in-Some-pair_char-clause-some : goal.returns-in-Some-pair_char-clause-some
returns-in-Some-pair_char-clause-some c =
    pair_first c.args.high _ c.in-Some-pair_char.character (units_in c.args.bytes.now) (units_in c.in-Some.after.now) c.in-Some.ensures.some c.in-Some-pair_char.ensures

pub returns-in-None-clause-none : goal.returns-in-None-clause-none
returns-in-None-clause-none c =
    lone_first c.args.high _ (units_in c.args.bytes.now) (units_in c.in-Some.after.now) c.in-Some.ensures.some c.in-None.ensures
