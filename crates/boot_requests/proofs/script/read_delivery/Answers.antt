use Rattle.std.proofs.Common.{◌≡◌, ◌++◌, ℕ, List, Ok, rules, sym, ap, ◌∙◌}
use Rattle.std.specs.Prelude.{codes}
use Rattle.hex.specs.Hex.{decode_of}
use Rattle.boot_requests.proofs.EventLists.Scripts.{decoded_bytes}
use Rattle.boot_requests.proofs.script.read_delivery.Goals as goal

pub returns-in-Ok : goal.returns-in-Ok
returns-in-Ok c =
    let digits = c.in-Some.digits.now in
    let parts : c.args.line.now ≡ codes "deliver " ++ digits = search rules in
    let decoded : decode_of digits ≡ Ok c.new.result = c.in-Ok.ensures.ok ∙ ap (λ (bytes : List ℕ). Ok bytes) (sym c.new.ensures) in
    ((digits, parts, decoded), decoded_bytes digits c.new.result decoded)
