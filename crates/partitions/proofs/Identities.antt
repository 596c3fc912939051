-- What a partition is known by: a text is that of one identity.
use Rattle.std.proofs.Common.{◌≡◌, ◌≤◌, ℕ, Bool, true, false, List, length, refl, sym, arith}
use Rattle.std.specs.Prelude.{Option, Some, None, option_and_then, if◌then◌else◌, IfSome, ◌&&◌, nat_le, ◌==◌}
use Rattle.std.proofs.lemmas.Bool.{and_parts, eqb-true, leb-true}
use Rattle.uefi_path.specs.declared.guid.Guid.{Guid}
use Rattle.uefi_text.specs.Guid.{IsGuid}
use Rattle.uefi_text.proofs.Bytes.Guids.{guid_length}
use Rattle.partitions.specs.Cut.{cut_of, hyphen}
use Rattle.partitions.specs.Number.{number_of}
use Rattle.partitions.specs.PartitionId.{IsPartitionId, mbr_id_of}
use Rattle.partitions.specs.declared.partition_id.PartitionId.{PartitionId}
use Rattle.partitions.specs.declared.partition_id.PartitionId.TheVariants.{Gpt, Mbr}
use Rattle.partitions.proofs.Cuts.{cut_some}

step_some : {A B : Type 0} (f : A → Option B) (o : Option A) (y : B) → option_and_then f o ≡ Some y → (x : A) × (o ≡ Some x) × (f x ≡ Some y)
step_some f None y e = cc
step_some f (Some x) y e = (x, refl, e)

test_some : {A : Type 0} (b : Bool) (x y : A) → (if b then Some x else None) ≡ Some y → (b ≡ true) × (x ≡ y)
test_some true x y e = (refl, cc)
test_some false x y e = cc

abbrev is_whole : List ℕ × List ℕ → Bool
is_whole parts = (length parts.0 == 8) && (nat_le 2 (length parts.1) && nat_le (length parts.1) 8)

-- the steps by which a signature and a number are read
pub record IsMbr (text : List ℕ) (id : PartitionId) : Type 0 where
  pub signature : ℕ
  pub number : ℕ
  pub is : id ≡ Mbr signature number
  pub short : length text ≤ 17

pub mbr_steps : (text : List ℕ) (id : PartitionId) → mbr_id_of text ≡ Some id → IsMbr text id
unfolding mbr_id_of
mbr_steps text id e =
    let first = step_some _ (cut_of hyphen text) id e in
    let second = step_some _ (number_of 16 0xFFFFFFFF first.0.0) id first.2 in
    let third = step_some _ (number_of 16 0xFFFFFFFF first.0.1) id second.2 in
    let last = test_some (is_whole first.0) (Mbr second.0 third.0) id third.2 in
    let whole = and_parts (length first.0.0 == 8) (nat_le 2 (length first.0.1) && nat_le (length first.0.1) 8) last.0 in
    let bounds = and_parts (nat_le 2 (length first.0.1)) (nat_le (length first.0.1) 8) whole.1 in
    let eight = eqb-true (length first.0.0) 8 whole.0 in
    let most = leb-true (length first.0.1) 8 bounds.1 in
    let around = cut_some hyphen text first.0 (sym first.1) in
    record { signature = second.0; number = third.0; is = sym last.1; short = omega (arith, eight, most, around.len) }

-- a text that is read as a GUID is that of nothing else
pub only_gpt : (text : List ℕ) (guid : Guid) → IsGuid text guid.0 → ((other : Guid) → IsGuid text other.0 → Some guid ≡ Some other)
    → (id : PartitionId) → IsPartitionId text id → Some (Gpt guid) ≡ Some id
only_gpt text guid is only (Gpt other) so = let same : Some guid ≡ Some other = only other so in cc
only_gpt text guid is only (Mbr signature number) so =
    absurd (omega (arith, guid_length text guid.0 is, (mbr_steps text (Mbr signature number) so).short))

-- what is read of a text is that of a master boot record
pub found_mbr : (text : List ℕ) (found : Option PartitionId) → found ≡ mbr_id_of text → IfSome found (λ id. IsPartitionId text id)
found_mbr text None is = tt
found_mbr text (Some (Mbr signature number)) is = sym is
found_mbr text (Some (Gpt guid)) is =
    let steps = mbr_steps text (Gpt guid) (sym is) in
    let never : Gpt guid ≡ Mbr steps.signature steps.number = steps.is in cc
