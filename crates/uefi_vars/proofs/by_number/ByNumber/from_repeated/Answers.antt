use Rattle.std.proofs.Common.{◌≡◌, ◌<◌, true, false, length, take, get_or, sym, ◌∙◌, arith}
use Rattle.std.proofs.lemmas.Bool.{not-true, not-false}
use Rattle.std.proofs.lemmas.List.{take_more}
use Rattle.uefi_vars.specs.ByNumber.{is_in}
use Rattle.uefi_vars.proofs.Repeats.{placed_again, placed_before}
use Rattle.uefi_vars.proofs.by_number.ByNumber.from_repeated.Goals as goal
use Rattle.uefi_vars.proofs.by_number.ByNumber.from_repeated.Goals.{then-not-new+in_ok-make_place, else-not-new}

pub loop-number-preserved : goal.loop-number-preserved
loop-number-preserved g c =
    let i = c.loop-number.number-index in
    let order = c.args.order.now in
    let within : i < length order = omega arith in
    let number = get_or order i 0 in
    let before = c.loop-number.invariant in
    let met = c.in_ok-new.ensures (take i order) before.met in
    elim c.if-not-new.branch [
      | then-not-new+in_ok-make_place w ↦
          let there : is_in (take i order) number ≡ true = not-false _ (sym met.0 ∙ w.if-not-new.true) in
          rw (w.table-is, take_more order i 0 within) (record {
            met = met.1;
            places = λ other. placed_again (take i order) number other _ _ there (before.places other) (w.in_ok-make_place.ensures other);
          })
      | else-not-new w ↦
          let new : is_in (take i order) number ≡ false = not-true _ (sym met.0 ∙ w.if-not-new.false) in
          rw (w.table-is, take_more order i 0 within) (record {
            met = met.1;
            places = λ other. placed_before (take i order) number other _ new (before.places other);
          })
    ]
