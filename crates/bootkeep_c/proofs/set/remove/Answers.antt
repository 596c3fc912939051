use Rattle.std.proofs.Common.{◌∙◌}
use Rattle.bootkeep_c.proofs.Changes.{contains_text, remove_text}
use Rattle.bootkeep_c.proofs.set.remove.Goals as goal

pub returns-clause-was : goal.returns-clause-was
returns-clause-was c = c.remove.ensures.was ∙ contains_text c.args.vars.now c.args.name.now c.name_text.result.now c.requires c.name_text.ensures

pub returns-clause-removed : goal.returns-clause-removed
returns-clause-removed c = c.remove.ensures.removed ∙ remove_text c.args.vars.now c.args.name.now c.name_text.result.now c.requires c.name_text.ensures
