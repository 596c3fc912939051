use Rattle.std.proofs.Common.{ap, ◌∙◌}
use Rattle.partitions.specs.PartitionId.{mbr_id_of}
use Rattle.partitions.proofs.Identities.{only_gpt, found_mbr}
use Rattle.partitions.proofs.partition_id.read_partition_id.Goals as goal

pub returns-in-Some-clause-only : goal.returns-in-Some-clause-only
returns-in-Some-clause-only c = only_gpt c.args.text.now c.in-Some.guid c.in-Some.ensures.found c.in-Some.ensures.only

pub returns-in-None-clause-found : goal.returns-in-None-clause-found
returns-in-None-clause-found c = found_mbr c.args.text.now c.mbr_id.result (c.mbr_id.ensures ∙ ap mbr_id_of c.as_bytes.ensures.value)
