use Rattle.std.proofs.Common.{refl, subst, sym}
use Rattle.std.specs.Prelude.{Err}
use Rattle.std.specs.Str.{chars}
use Rattle.value_texts.specs.Description.{IsDescription}
use Rattle.command_words.specs.OptionWordsFault.{of_option, IsOptionFault}
use Rattle.command_words.proofs.Faults.{made_fault, as_words}
use Rattle.command_words.proofs.option.option_of.Goals as goal

pub returns-in_err-option-clause-fault : goal.returns-in_err-option-clause-fault
returns-in_err-option-clause-fault c =
    let made = c.in_err-option.ensures in
    let text = c.args.words.now.description.now in
    let described = subst (IsDescription (chars text)) (sym c.deref.ensures.value) c.in_ok-description.ensures.found in
    as_words c.from_residual-in_err-option.result (of_option c.in_err-option.field-0.0)
    (IsOptionFault text c.args.paths.now) c.from_residual-in_err-option.ensures.1
    (made_fault (Err c.in_err-option.field-0.0) c.in_err-option.field-0.0 text c.deref.result.now c.args.paths.now refl
    described made.named made.zero_unit.0 made.empty_list.0 made.list_too_long.0)
