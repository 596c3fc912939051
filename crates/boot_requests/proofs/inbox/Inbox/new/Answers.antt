use Rattle.std.proofs.Common.{None, refl, inl, arith, length, ap}
use Rattle.boot_requests.proofs.Streams.Feeding.{open_held}
use Rattle.boot_requests.proofs.inbox.Inbox.new.Goals as goal

pub invariant_of-result : goal.invariant_of-result
invariant_of-result c =
    let none = ap length c.new.ensures.items in
    open_held c.new.result.items 12 None refl (inl (omega (arith, none)), inl (omega (arith, none), omega (arith, none)))
