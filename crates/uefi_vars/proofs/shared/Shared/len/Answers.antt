use Rattle.std.proofs.Common.{length, drop, sym, ap, ◌∙◌, arith}
use Rattle.std.proofs.lemmas.List.{length-take-le, length-drop}
use Rattle.uefi_vars.proofs.shared.Shared.len.Goals as goal

pub returns : goal.returns
returns c =
    let s = c.self.inside in
    let bytes = s.list.value.items in
    sym (length-take-le s.len (drop s.start bytes) (omega (arith, c.self.invariant, length-drop s.start bytes))) ∙ ap length c.self.view_is
