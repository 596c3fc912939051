use Rattle.std.proofs.Common.{◌≡◌, ℕ, ◌<◌, true, false, not, Bool, is_some, List, [], ◌∷◌, ◌++◌, length, get_or, Option, Some, None}
use Rattle.std.proofs.Common.{refl, sym, ap, ◌∙◌, cond, arith, filter, take}
use Rattle.std.specs.Option.{option_map}
use Rattle.std.proofs.lemmas.List.{append-nil}
use Rattle.std.proofs.lemmas.List.Elements.{filter_more}
use Rattle.uefi_vars.specs.Vars.{entry_of}
use Rattle.entry_checks.proofs.named.stale_among.Goals as goal
use Rattle.entry_checks.proofs.named.stale_among.Goals.{then-is_none+in_ok-push, else-is_none}

-- whether nothing is there
none_told : {A B : Type 0} (f : A → B) (o : Option A) (result : Bool) → is_some o ≡ not result → not (is_some (option_map f o)) ≡ result
none_told f None true e = refl
none_told f None false e = sym e
none_told f (Some x) true e = sym e
none_told f (Some x) false e = refl

pub loop-number-preserved : goal.loop-number-preserved
loop-number-preserved c =
    let i = c.loop-number.number-index in
    let numbers = c.args.numbers.now in
    let within : i < length numbers = omega arith in
    let entries = entry_of c.args.vars.now in
    let number = get_or numbers i 0 in
    let stale = filter (λ (n : ℕ). not (is_some (entries n))) (take i numbers) in
    let test = ap (λ (o : Option (List ℕ)). not (is_some o)) (sym c.entry.ensures.value)
    ∙ none_told (λ bytes. bytes.now) c.entry.result c.is_none.result c.is_none.ensures in
    let more = filter_more (λ (n : ℕ). not (is_some (entries n))) numbers i 0 within in
    elim c.if-is_none.branch [
      | then-is_none+in_ok-push w ↦
          rw w.stale-is (w.in_ok-push.ensures.items ∙ ap (λ (o : List ℕ). o ++ number ∷ []) c.loop-number.invariant
          ∙ sym (more ∙ ap (λ b. stale ++ cond b (number ∷ []) []) (test ∙ w.if-is_none.true)))
      | else-is_none w ↦
          rw w.stale-is (c.loop-number.invariant ∙ sym (more ∙ ap (λ b. stale ++ cond b (number ∷ []) []) (test ∙ w.if-is_none.false) ∙ append-nil _))
    ]
