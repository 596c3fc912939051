-- What comes of a search, by one partition after the other.
use Rattle.std.proofs.Common.{◌≡◌, List, [], ◌∷◌, ◌++◌, refl, ap, ◌∙◌, append_assoc}
use Rattle.std.specs.Prelude.{◌≢◌}
use Rattle.std.specs.List.{AllByRecursion}
use Rattle.partitions.specs.declared.partition_id.PartitionId.{PartitionId}
use Rattle.disk_files.specs.declared.found.FoundPartition.{FoundPartition}
use Rattle.disk_files.specs.declared.found.Known.{Known}
use Rattle.disk_files.specs.declared.found.Known.TheVariants as those
use Rattle.disk_files.specs.Search.{NoneKnown, IsOnly, AreFirst, AreKnown}

-- what holds of each and of one more
pub all_more : {X : Type 0} (P : X → Type 0) (xs : List X) (x : X) → AllByRecursion P xs → P x → AllByRecursion P (xs ++ x ∷ [])
all_more P [] x all one = (one, tt)
all_more P (y ∷ xs) x all one = (all.0, all_more P xs x all.1 one)

module _ (id : PartitionId) (partitions : List FoundPartition) (next : FoundPartition) where
  -- one more behind the first two
  pub first_stay : (one second : FoundPartition) → AreFirst id partitions one second → AreFirst id (partitions ++ next ∷ []) one second
  first_stay one second are = record {
    before = are.before;
    between = are.between;
    after = are.after ++ next ∷ [];
    among = ap (λ (its : List FoundPartition). its ++ next ∷ []) are.among
        ∙ append_assoc are.before (one ∷ (are.between ++ second ∷ are.after)) (next ∷ [])
        ∙ ap (λ (its : List FoundPartition). are.before ++ one ∷ its) (append_assoc are.between (second ∷ are.after) (next ∷ []));
    known = are.known;
    other_known = are.other_known;
    none_before = are.none_before;
    none_between = are.none_between;
  }

  -- one more, which is known by something else
  pub stays : (seen : Known) → next.partition.id ≢ id → AreKnown id partitions seen → AreKnown id (partitions ++ next ∷ []) seen
  stays those.Nothing other none = all_more (λ (it : FoundPartition). it.partition.id ≢ id) partitions next none other
  stays (those.One one) other is = record {
    before = is.before;
    after = is.after ++ next ∷ [];
    among = ap (λ (its : List FoundPartition). its ++ next ∷ []) is.among ∙ append_assoc is.before (one.now ∷ is.after) (next ∷ []);
    known = is.known;
    none_before = is.none_before;
    none_after = all_more (λ (it : FoundPartition). it.partition.id ≢ id) is.after next is.none_after other;
  }
  stays (those.Several one second) other are = first_stay one.now second.now are

  -- one more, the first that is known by it
  pub found_first : next.partition.id ≡ id → NoneKnown id partitions → IsOnly id (partitions ++ next ∷ []) next
  found_first known none = record {
    before = partitions;
    after = [];
    among = refl;
    known = known;
    none_before = none;
    none_after = tt;
  }

  -- one more, the second
  pub found_second : (one : FoundPartition) → next.partition.id ≡ id → IsOnly id partitions one
      → AreFirst id (partitions ++ next ∷ []) one next
  found_second one known is = record {
    before = is.before;
    between = is.after;
    after = [];
    among = ap (λ (its : List FoundPartition). its ++ next ∷ []) is.among ∙ append_assoc is.before (one ∷ is.after) (next ∷ []);
    known = is.known;
    other_known = known;
    none_before = is.none_before;
    none_between = is.none_after;
  }
