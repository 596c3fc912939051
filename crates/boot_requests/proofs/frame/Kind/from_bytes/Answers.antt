use Rattle.std.proofs.Common.{rules, tests}
use Rattle.std.proofs.lemmas.Iterator.{YieldsList-from_slice}
use Rattle.std.proofs.lemmas.Iterator.Consumers.{YieldsList-from_copied}
use Rattle.std.proofs.lemmas.Iterator.Search.{find_from_yields_List}
use Rattle.boot_requests.specs.declared.frame.TheConstants.Kind.{ALL}
use Rattle.boot_requests.proofs.Frames.KindBytes.{has_both, kind_found}
use Rattle.boot_requests.proofs.frame.Kind.from_bytes.Goals as goal

pub returns : goal.returns
returns c =
    let found = kind_found c.args.version c.args.byte c.find.result
    (find_from_yields_List (has_both c.args.version c.args.byte) _ _ c.find.result c.find.ensures.ran (YieldsList-from_copied (YieldsList-from_slice ALL cc))
    (λ x b q k. search (rules, tests))) in
    record { found = found.0; none = found.1 }
