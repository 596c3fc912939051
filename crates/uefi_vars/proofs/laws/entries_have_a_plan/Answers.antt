use Rattle.std.proofs.Common.{inl, inr, ⊎_elim}
use Rattle.uefi_vars.proofs.Plans.{SpellsOrNot, a_plan}
use Rattle.uefi_vars.proofs.laws.entries_have_a_plan.Goals as goal

pub returns : goal.returns
returns c =
    let spells : SpellsOrNot = λ bytes valid. ⊎_elim (λ option. inl option)
    (λ fault. inr (λ option. c.a_fault_leaves_no_option.ensures bytes fault.0 option fault.1))
    (c.bytes_spell_an_option_or_have_a_fault.ensures bytes valid) in
    λ entries order next are. a_plan c.bytes_spell_one_option.ensures spells entries are order next
