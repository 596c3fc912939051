use Rattle.std.proofs.Common.{◌≡◌, ◌≤◌, ◌++◌, ℕ, List, length, get_or, true, sym, ap, ◌∙◌, arith}
use Rattle.std.specs.Option.{option_map}
use Rattle.std.specs.String.{string_bytes}
use Rattle.std.specs.Char.{is_ascii_graphic}
use Rattle.std.proofs.lemmas.List.{get_or-take}
use Rattle.var_stores.specs.Present.{name_in}
use Rattle.var_stores.proofs.StoredNames.{graphic_below, read_on}
use Rattle.var_stores.proofs.stored_vars.name_of.Goals as goal

pub loop-low-preserved : goal.loop-low-preserved
loop-low-preserved c =
    let cases = c.in-Some.ensures.cases in
    let rest = c.loop-low.rest.now in
    let low = c.from.result in
    let two : 2 ≤ length rest = omega (arith, cases.2) in
    let graphic : is_ascii_graphic low ≡ true = ap is_ascii_graphic c.from.ensures ∙ sym c.is_ascii_graphic.ensures.value ∙ c.if-is_ascii_graphic.true in
    ap (λ (bytes : List ℕ). option_map (λ name. bytes ++ name) (name_in c.in-Some.after.now))
    (c.in_ok-push.ensures.bytes ∙ ap (λ (more : List ℕ). string_bytes c.loop-low.name ++ more) (c.in_ok-push.ensures.ascii (graphic_below low graphic)))
    ∙ read_on (string_bytes c.loop-low.name) rest c.in-Some.after.now low (get_or c.in-Some.field-0-0.now 1 0) two
    (c.from.ensures ∙ ap (λ (front : List ℕ). get_or front 0 0) cases.0 ∙ get_or-take 2 rest 0 0 (omega arith))
    (ap (λ (front : List ℕ). get_or front 1 0) cases.0 ∙ get_or-take 2 rest 1 0 (omega arith)) cases.1 c.if-high-eq0.true graphic
    ∙ c.loop-low.invariant
