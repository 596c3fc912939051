use Rattle.std.proofs.Common.{◌∙◌, sym, true≢false}
use Rattle.uefi_text.proofs.Means.Plain.{plain_of_text}
use Rattle.uefi_text.proofs.Read.Cuts.{bare_answer, named_answer}
use Rattle.uefi_text.proofs.segment.cut_segment.Goals as goal

pub returns-then-begins_bare-clause-only : goal.returns-then-begins_bare-clause-only
returns-then-begins_bare-clause-only c =
    λ begins. bare_answer c.args.text.now begins.segment begins.behind c.cut_bare.result begins.parts
    (plain_of_text begins.segment begins.node begins.means) begins.closed
    (c.begins_bare.ensures.0 c.if-begins_bare.true) c.cut_bare.ensures.only

pub returns-else-begins_bare-clause-only : goal.returns-else-begins_bare-clause-only
returns-else-begins_bare-clause-only c =
    λ begins. named_answer c.args.text.now begins.segment begins.behind c.cut_named.result begins.parts
    (plain_of_text begins.segment begins.node begins.means) begins.closed
    (λ bare. true≢false (sym (c.begins_bare.ensures.1 bare) ∙ c.if-begins_bare.false)) c.cut_named.ensures.only
