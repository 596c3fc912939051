use Rattle.std.proofs.Common.{ap, ◌∙◌}
use Rattle.std.specs.List.{list_any}
use Rattle.command_words.specs.OptionOfWords.{node_has_slash}
use Rattle.command_words.proofs.Texts.{any_made}
use Rattle.command_words.proofs.option.has_slashes.Goals as goal

pub returns : goal.returns
returns c =
    c.any_has_slash.ensures
    ∙ any_made (λ nodes. nodes.items) (list_any node_has_slash) c.instances.result.now
    ∙ ap (list_any (list_any node_has_slash)) c.instances.ensures.items
