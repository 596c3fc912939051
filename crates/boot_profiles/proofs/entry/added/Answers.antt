use Rattle.std.proofs.Common.{ℕ, List, sym, ap, subst, ◌∙◌}
use Rattle.uefi_option.specs.LoadOption.{OptionParts, SpellsOption}
use Rattle.boot_profiles.specs.Entry.{wanted_bytes}
use Rattle.boot_profiles.proofs.Bytes.{wanted_has}
use Rattle.boot_profiles.proofs.Refusals.{new_refused}
use Rattle.boot_profiles.proofs.entry.added.Goals as goal

pub with_new-requires : goal.with_new-requires
with_new-requires c =
    let e = c.args.entry.now in
    let has = wanted_has c.a_switch_changes_one_bit.ensures e e.option.items c.args.description.now c.requires.own in
    subst (λ (b : List ℕ). (o : OptionParts) × SpellsOption b o)
    (sym (c.deref-2.ensures.value ∙ c.in_ok-bytes.ensures ∙ ap (wanted_bytes e) c.deref.ensures.value)) (has.option, has.spelled)

pub returns-clause-refused : goal.returns-clause-refused
returns-clause-refused c =
    let e = c.args.entry.now in
    new_refused c.args.vars.now c.args.description.now e c.requires.own c.requires.unknown c.deref-2.result.now
    (c.deref-2.ensures.value ∙ c.in_ok-bytes.ensures ∙ ap (wanted_bytes e) c.deref.ensures.value)
    c.in-Err.fault c.in-Err.ensures.refused c.entry_error.result c.entry_error.ensures
