-- Sectors and blocks.
use Rattle.std.proofs.Common.{◌≡◌, ◌*◌, ◌/◌, ◌%◌, ◌<◌, ◌++◌, ℕ, Bool, true, false, eqb, arith, ap, ◌∙◌, sym}
use Rattle.std.specs.Prelude.{replicate, nat_lt, IfOk, Result, Ok, Err, if◌then◌else◌}
use Rattle.std.specs.Int.{w32, to_le_bytes}
use Rattle.uefi_path.specs.Parts.{HardDriveParts}
use Rattle.partitions.specs.Partition.{node_at, mbr_node_at, node_with}
use Rattle.partitions.specs.declared.partition.Partition.{Partition}
use Rattle.partitions.specs.declared.partition_id.PartitionId.{PartitionId}
use Rattle.partitions.specs.declared.partition_id.PartitionId.TheVariants.{Gpt, Mbr}
use Rattle.partitions.specs.declared.fault.PartitionFault.{PartitionFault}
use Rattle.partitions.specs.declared.fault.PartitionFault.TheVariants as fault

-- so many blocks have as many bytes as so many sectors
pub same_bytes : (sectors size per : ℕ) → 0 < per → size ≡ 512 * per → sectors % per ≡ 0 → (sectors / per) * size ≡ sectors * 512
same_bytes sectors size per some is whole =
    let q = sectors / per in
    let all : sectors ≡ per * q = omega (arith, some, whole) in
    ap (λ (n : ℕ). q * n) is ∙ (let same : q * (512 * per) ≡ (per * q) * 512 = omega arith in same) ∙ ap (λ (n : ℕ). n * 512) (sym all)

-- what is true of a value is true of it or a fault
choice : (P : HardDriveParts → Type 0) (test : Bool) (why : PartitionFault) (made : Result HardDriveParts PartitionFault)
    → IfOk made P → IfOk (if test then Err why else made) P
choice P true why made so = tt
choice P false why made so = so

-- what is true of the start and the size is true of those of the node
pub node_blocks : (p : Partition) (start size : ℕ) (id : PartitionId) → start * p.block_size ≡ p.start * 512 → size * p.block_size ≡ p.size * 512
    → IfOk (node_at p start size id) (λ node. (node.start * p.block_size ≡ p.start * 512) × (node.size * p.block_size ≡ p.size * 512))
node_blocks p start size (Gpt guid) first second = (first, second)
node_blocks p start size (Mbr signature number) first second =
    let so : HardDriveParts → Type 0 = λ node. (node.start * p.block_size ≡ p.start * 512) × (node.size * p.block_size ≡ p.size * 512) in
    let made : Result HardDriveParts PartitionFault = Ok (node_with p start size (to_le_bytes w32 signature ++ replicate 12 0) 1) in
    let found : IfOk (mbr_node_at p start size signature) so =
    choice so (eqb signature 0) fault.NoSignature _ (choice so (nat_lt 4 p.number) fault.NotPrimary made (first, second)) in
    elim (eqb number p.number) as (λ same. IfOk (if same then mbr_node_at p start size signature else Err fault.OtherNumber) so)
    [ true ↦ found | false ↦ tt ]
