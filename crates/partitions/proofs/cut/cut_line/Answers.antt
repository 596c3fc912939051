use Rattle.std.proofs.Common.{ℕ, List, arith}
use Rattle.partitions.proofs.Cuts.{cut_some, more_lines, one_line}
use Rattle.partitions.proofs.cut.cut_line.Goals as goal

pub returns-in-None : goal.returns-in-None
returns-in-None c = one_line c.args.text.now c.in-None.ensures

pub returns-in-Some : goal.returns-in-Some
returns-in-Some c =
    let parts : List ℕ × List ℕ = (c.in-Some.line.now, c.in-Some.others.now) in
    let around = cut_some 10 c.args.text.now parts c.in-Some.ensures in
    (more_lines c.args.text.now parts c.in-Some.ensures, omega (arith, around.len))
