use Rattle.std.proofs.Common.{◌≤◌, arith}
use Rattle.std.specs.Prelude.{vec_len}
use Rattle.partitions.proofs.Leads.{leading_next}
use Rattle.partitions.proofs.leading.leading_of.Goals as goal

pub returns-then-leads_to-2 : goal.returns-then-leads_to-2
returns-then-leads_to-2 c =
    λ others before.
    let longer : vec_len c.in-Some.longest.now.point ≤ vec_len c.args.mount.now.point = omega (arith, c.len.ensures, c.len-2.ensures, c.if-len.false) in
    leading_next others c.args.path.now c.in-Some.longest.now c.args.mount.now (rw c.in-Some.is at before) (c.leads_to-2.ensures.0 c.if-leads_to-2.true) longer
