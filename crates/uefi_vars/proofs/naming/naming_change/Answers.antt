use Rattle.std.proofs.Common.{ap, is_some}
use Rattle.uefi_vars.specs.NamingChange.{BecomesUnnamed, BecomesNamed}
use Rattle.uefi_vars.proofs.NamingChanges.{none_known, none_of, those_known, unnamed_are, named_are}
use Rattle.uefi_vars.proofs.naming.naming_change.Goals as goal

pub returns-in_default-clause-unnamed : goal.returns-in_default-clause-unnamed
returns-in_default-clause-unnamed c =
    let none = none_known c.in_ok-after.field-0 c.in_default.not-Some in
    rw c.new.ensures.items (none_of (BecomesUnnamed c.args.from.now c.args.to.now) (λ n is. none (c.in_ok-after.ensures.readable.1 is.after.readable)))

pub returns-in_default-clause-named : goal.returns-in_default-clause-named
returns-in_default-clause-named c =
    let none = none_known c.in_ok-after.field-0 c.in_default.not-Some in
    rw c.new-in_default.ensures.items (none_of (BecomesNamed c.args.from.now c.args.to.now) (λ n is. none (c.in_ok-after.ensures.readable.1 is.readable)))

pub returns-clause-unnamed : goal.returns-clause-unnamed
returns-clause-unnamed c =
    let to = c.args.to.now in
    let after = those_known to c.in_ok-after.field-0 c.in-Some.field-0 c.in-Some.is c.in_ok-after.ensures.unnamed in
    let found = rw (c.deref.ensures.value, c.deref-2.ensures.value) at c.in_ok-entries_only_in.ensures in
    unnamed_are c.args.from.now to c.in_ok-before.before.items c.in-Some.field-0.unnamed.items c.in_ok-before.ensures after
    c.in_ok-entries_only_in.field-0.items found

pub returns-clause-named : goal.returns-clause-named
returns-clause-named c =
    let to = c.args.to.now in
    let after = those_known to c.in_ok-after.field-0 c.in-Some.field-0 c.in-Some.is c.in_ok-after.ensures.unnamed in
    let readable = c.in_ok-after.ensures.readable.0 (ap is_some c.in-Some.is) in
    let found = rw (c.deref-3.ensures.value, c.deref-4.ensures.value) at c.in_ok-entries_only_in-2.ensures in
    named_are c.args.from.now to c.in_ok-before.before.items c.in-Some.field-0.unnamed.items c.in_ok-before.ensures after
    c.in_ok-entries_only_in-2.field-0.items readable found
