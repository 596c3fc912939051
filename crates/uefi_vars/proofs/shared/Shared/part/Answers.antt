use Rattle.std.proofs.Common.{◌≡◌, ℕ, ◌+◌, ◌-◌, ◌≤◌, List, length, take, drop, sym, ap, subst, ◌∙◌, arith}
use Rattle.std.proofs.lemmas.List.{drop-drop, drop-take, take-take, length-take}
use Rattle.uefi_vars.proofs.shared.Shared.part.Goals as goal

-- a part of a part
part_of_part : (bytes : List ℕ) (from len start more : ℕ) → start + more ≤ length (take len (drop from bytes)) →
    take more (drop (from + start) bytes) ≡ take more (drop start (take len (drop from bytes)))
part_of_part bytes from len start more within =
    let behind = drop from bytes in
    let left : start + (len - start) ≡ len = omega (arith, within, length-take len behind) in
    sym (ap (λ n. take more (drop start (take n behind))) (sym left) ∙ ap (take more) (drop-take start (len - start) behind)
    ∙ take-take more (len - start) (drop start behind) (omega (arith, within, length-take len behind))
    ∙ ap (take more) (drop-drop start from bytes))

pub returns : goal.returns
returns c =
    let s = c.self.inside in
    ap (λ v. take c.args.len (drop (s.start + c.args.start) v.items)) c.in_ok-clone.ensures.cases
    ∙ part_of_part s.list.value.items s.start s.len c.args.start c.args.len
    (subst (λ l. c.args.start + c.args.len ≤ length l) (sym c.self.view_is) c.requires)
    ∙ ap (λ l. take c.args.len (drop c.args.start l)) c.self.view_is
