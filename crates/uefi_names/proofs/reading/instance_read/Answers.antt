use Rattle.uefi_names.proofs.reading.instance_read.Goals as goal

pub returns : goal.returns
returns c = rw (c.deref.ensures.value, c.in_ok-segments.ensures) at c.nodes_read.ensures
