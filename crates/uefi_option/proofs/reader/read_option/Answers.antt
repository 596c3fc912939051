use Rattle.std.proofs.Common.{ap, inl, Ok}
use Rattle.uefi_option.proofs.Views.{parts_read}
use Rattle.uefi_option.proofs.reader.read_option.Goals as goal

pub from_lists-requires-clause-is : goal.from_lists-requires-clause-is
from_lists-requires-clause-is c =
    let found = c.in_ok-view.ensures.found in
    (parts_read c.units_are_read_again.ensures c.args.bytes.now c.in_ok-view.view found.0 _ _ _ found.1 found.2
    c.in_ok-read_units.ensures c.in_ok-read_paths.ensures.valid c.in_ok-read_paths.ensures.found c.in_ok-from_slice.ensures.items).0

pub returns-clause-found : goal.returns-clause-found
returns-clause-found c =
    let found = c.in_ok-view.ensures.found in
    rw c.in_ok-from_lists.ensures.made (parts_read c.units_are_read_again.ensures c.args.bytes.now c.in_ok-view.view found.0 _ _ _
    found.1 found.2 c.in_ok-read_units.ensures c.in_ok-read_paths.ensures.valid c.in_ok-read_paths.ensures.found
    c.in_ok-from_slice.ensures.items)

pub returns-clause-only : goal.returns-clause-only
returns-clause-only c = λ option spells.
    inl (ap Ok (c.bytes_spell_one_option.ensures c.args.bytes.now c.in_ok-from_lists.field-0 option (returns-clause-found c) spells))
