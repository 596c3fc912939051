use Rattle.std.specs.Str.{bytes_eq}
use Rattle.std.proofs.lemmas.List.Elements.{Decides-contains, contains_decides}
use Rattle.std.proofs.lemmas.Slice.Eq.{bytes_eq-Decides}
use Rattle.var_places.specs.Machine.{shared}
use Rattle.var_places.proofs.machine.is_listed.Goals as goal

-- `==` tells whether two UUIDs have the same bytes
pub returns : goal.returns
returns c =
    let guid = c.args.guid.now.0 in
    Decides-contains shared guid c.contains.result
    (contains_decides bytes_eq bytes_eq-Decides shared guid c.contains.result c.contains.ensures.cases)
