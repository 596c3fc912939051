use Rattle.std.proofs.Common.{List, sym, subst, ◌∙◌, ◌≡◌, true, false, ap}
use Rattle.disk_files.specs.Disk.{IsDiskSearch, those_at, is_place}
use Rattle.disk_files.specs.declared.disk.FoundDisk.{FoundDisk}
use Rattle.disk_files.specs.declared.disk.DiskStep.{DiskStep}
use Rattle.disk_files.proofs.Disks.{at_more, at_same}
use Rattle.disk_files.proofs.disk.with_next.Goals as goal

pub returns-then-is_place : goal.returns-then-is_place
returns-then-is_place c = λ before search.
    let leads : is_place c.args.next.now.place.items c.args.path.now ≡ true =
    ap (λ (steps : List DiskStep). is_place steps c.args.path.now) (sym c.deref.ensures.value) ∙ sym c.is_place.ensures ∙ c.if-is_place.true in
    let family : List FoundDisk → Type 0 = λ xs. IsDiskSearch xs c.with_found.result in
    subst family (sym (at_more c.args.path.now before c.args.next.now leads)) (c.with_found.ensures (those_at c.args.path.now before) search)

pub returns-else-is_place : goal.returns-else-is_place
returns-else-is_place c = λ before search.
    let leads : is_place c.args.next.now.place.items c.args.path.now ≡ false =
    ap (λ (steps : List DiskStep). is_place steps c.args.path.now) (sym c.deref.ensures.value) ∙ sym c.is_place.ensures ∙ c.if-is_place.false in
    let family : List FoundDisk → Type 0 = λ xs. IsDiskSearch xs c.args.search in
    subst family (sym (at_same c.args.path.now before c.args.next.now leads)) search
