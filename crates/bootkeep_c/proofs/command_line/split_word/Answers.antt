use Rattle.std.proofs.Common.{◌≤◌, ◌+◌, ◌-◌, ◌∷◌, [], length, drop, sym, refl, ◌∙◌, arith, length-drop, append_assoc}
use Rattle.std.proofs.lemmas.List.{take_all}
use Rattle.uefi_text.proofs.Read.Marks.{around_found, place_none, lacks_from}
use Rattle.bootkeep_c.proofs.command_line.split_word.Goals as goal

pub returns-in-None-clause-none : goal.returns-in-None-clause-none
returns-in-None-clause-none c = λ _. lacks_from 0 c.args.bytes.now (place_none _ c.args.bytes.now (sym c.in-None.ensures))

pub returns-in-Some : goal.returns-in-Some
returns-in-Some c =
    let bytes = c.args.bytes.now in
    let next = c.in-Some.len + 1 in
    let past : length (drop next bytes) ≤ length bytes - next = omega (arith, length-drop next bytes) in
    let around = around_found 0 bytes c.in-Some.len _ _ (sym c.in-Some.ensures) refl (take_all _ _ past) in
    record {
      found = record { whole = around.lacks; parts = around.parts ∙ sym (append_assoc _ (0 ∷ []) _) };
      shorter = omega (arith, around.len);
      none = λ is. absurd cc;
    }
