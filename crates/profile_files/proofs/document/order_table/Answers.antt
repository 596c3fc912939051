use Rattle.std.proofs.Common.{subst}
use Rattle.profile_files.specs.Entries.{HasOrder}
use Rattle.profile_files.specs.Members.{Members}
use Rattle.profile_files.proofs.document.order_table.Goals as goal

pub returns : goal.returns
returns c =
    let order = c.in_ok-order in (
      c.in_ok-members.members.now.items,
      c.in_ok-members.ensures,
      subst (λ (them : Members). HasOrder them order.order) c.deref.ensures.value order.ensures,
    )
