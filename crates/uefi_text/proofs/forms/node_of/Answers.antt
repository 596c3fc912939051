use Rattle.std.proofs.Common.{subst}
use Rattle.uefi_text.specs.Cuts.{HasBareName}
use Rattle.uefi_text.proofs.Read.Node.{named_segment, bare_segment}
use Rattle.uefi_text.proofs.forms.node_of.Goals as goal

pub returns-in-Bare : goal.returns-in-Bare
returns-in-Bare c = rw c.in-Bare.is (bare_segment c.in-Bare.name c.file.result (subst HasBareName c.in-Bare.is c.requires) c.file.ensures)

pub returns-in-Named : goal.returns-in-Named
returns-in-Named c = rw c.in-Named.is (named_segment c.in-Named.name c.in-Named.inside c.named_node.result c.named_node.ensures)
