-- The disks to which a path leads, by one disk after the other.
use Rattle.std.proofs.Common.{◌≡◌, List, [], ◌∷◌, ◌++◌, Bor, true, false, refl, ap, ◌∙◌}
use Rattle.std.specs.List.{filter}
use Rattle.std.proofs.lemmas.List.{append-nil}
use Rattle.std.proofs.lemmas.List.Elements.{filter-append}
use Rattle.uefi_path.specs.declared.node.Node.{Node}
use Rattle.disk_files.specs.declared.disk.FoundDisk.{FoundDisk}
use Rattle.disk_files.specs.declared.disk.DiskSearch.{DiskSearch}
use Rattle.disk_files.specs.declared.disk.DiskSearch.TheVariants.{Found, Several, Missing}
use Rattle.disk_files.specs.Disk.{is_place, those_at, IsDiskSearch}

-- one more disk, to which the path leads
pub at_more : (path : List Node) (disks : List FoundDisk) (next : FoundDisk) → is_place next.place.items path ≡ true
    → those_at path (disks ++ next ∷ []) ≡ those_at path disks ++ next ∷ []
at_more path disks next leads =
    filter-append (λ (disk : FoundDisk). is_place disk.place.items path) disks (next ∷ [])
    ∙ ap (λ (its : List FoundDisk). those_at path disks ++ its) (rw leads refl)

-- one more disk, to which it doesn't lead
pub at_same : (path : List Node) (disks : List FoundDisk) (next : FoundDisk) → is_place next.place.items path ≡ false
    → those_at path (disks ++ next ∷ []) ≡ those_at path disks
at_same path disks next leads =
    filter-append (λ (disk : FoundDisk). is_place disk.place.items path) disks (next ∷ [])
    ∙ ap (λ (its : List FoundDisk). those_at path disks ++ its) (rw leads refl)
    ∙ append-nil (those_at path disks)

-- one more behind the first two
pub still_several : (search : DiskSearch) (one other : Bor FoundDisk) (found : List FoundDisk) (next : FoundDisk)
    → search ≡ Several one other → IsDiskSearch found search → IsDiskSearch (found ++ next ∷ []) search
still_several (Several first second) one other found next is (rest, are) =
    (rest ++ next ∷ [], ap (λ (its : List FoundDisk). its ++ next ∷ []) are)
still_several (Found first) one other found next is only = absurd (cc)
still_several Missing one other found next is none = absurd (cc)
