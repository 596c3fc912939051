use Rattle.std.proofs.Common.{rules, tests}
use Rattle.std.proofs.lemmas.Iterator.{YieldsList-from_slice}
use Rattle.std.proofs.lemmas.Iterator.Search.{any_from_yields_List}
use Rattle.boot_requests.specs.declared.frame.TheConstants.Kind.{ALL}
use Rattle.boot_requests.proofs.Frames.KindBytes.{has_version, version_found}
use Rattle.boot_requests.proofs.frame.Kind.has_version.Goals as goal

pub returns : goal.returns
returns c =
    version_found c.args.version c.any.result
    (any_from_yields_List (has_version c.args.version) _ _ c.any.result c.any.ensures.ran (YieldsList-from_slice ALL cc) (λ x b q k. search (rules, tests)))
