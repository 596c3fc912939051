use Rattle.std.proofs.Common.{subst, sym, ◌∙◌, arith}
use Rattle.uefi_vars.specs.Name.{IsName}
use Rattle.uefi_vars.proofs.Names.{IsUtf8-name}
use Rattle.uefi_vars.proofs.Readings.{record_within, name_part, value_part}
use Rattle.uefi_vars.proofs.reader.shared_variable.Goals as goal

pub overflow_add-name_start : goal.overflow_add-name_start
overflow_add-name_start c = omega (
  arith,
  c.requires.fits,
  record_within c.args.file.now c.requires.record.0 c.args.name.now
      c.args.value.now c.args.place c.requires.record.1,
)

pub overflow_add-value_start : goal.overflow_add-value_start
overflow_add-value_start c = omega (
  arith,
  c.requires.fits,
  record_within c.args.file.now c.requires.record.0 c.args.name.now c.args.value.now c.args.place c.requires.record.1,
)

pub overflow_add-value_start-2 : goal.overflow_add-value_start-2
overflow_add-value_start-2 c = omega (
  arith,
  c.requires.fits,
  record_within c.args.file.now c.requires.record.0 c.args.name.now c.args.value.now c.args.place c.requires.record.1,
)

pub part-requires : goal.part-requires
part-requires c = omega (arith, record_within c.args.file.now c.requires.record.0 c.args.name.now c.args.value.now c.args.place c.requires.record.1)

pub part-requires-2 : goal.part-requires-2
part-requires-2 c = record_within c.args.file.now c.requires.record.0 c.args.name.now c.args.value.now c.args.place c.requires.record.1

pub from_utf8-requires : goal.from_utf8-requires
from_utf8-requires c =
    let name = name_part c.args.file.now c.requires.record.0 c.args.name.now c.args.value.now c.args.place c.requires.record.1 in
    IsUtf8-name _ (subst IsName (sym (c.in_ok-part.ensures ∙ name)) c.requires.name)

pub returns : goal.returns
returns c =
    let name = name_part c.args.file.now c.requires.record.0 c.args.name.now c.args.value.now c.args.place c.requires.record.1 in
    let value = value_part c.args.file.now c.requires.record.0 c.args.name.now c.args.value.now c.args.place c.requires.record.1 in
    let named = c.from_utf8.ensures ∙ c.in_ok-part.ensures ∙ name in
    let valued = c.in_ok-part-2.ensures ∙ value in
    λ i. (named i, valued i)
