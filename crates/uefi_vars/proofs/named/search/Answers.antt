use Rattle.std.proofs.Common.{rules}
use Rattle.uefi_vars.specs.Records.{pair_of}
use Rattle.uefi_vars.proofs.Places.{searched}
use Rattle.uefi_vars.proofs.named.search.Goals as goal

pub returns : goal.returns
returns g c =
    searched pair_of c.args.items.now c.requires c.args.name.now c.binary_search_by.result c.binary_search_by.ensures.bound
    c.binary_search_by.ensures.position (λ a r g called. search rules)
