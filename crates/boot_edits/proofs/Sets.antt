-- Sets of numbers.
use Rattle.std.proofs.Common.{◌≡◌, ℕ, true, List, [], ◌∷◌, ◌++◌, BTreeSet, sym, ap, ◌∙◌}
use Rattle.std.proofs.lemmas.Bool.{cond-true}
use Rattle.boot_requests.specs.Apply.{is_in}
use Rattle.boot_edits.specs.Steps.{Tells}
use Rattle.boot_edits.proofs.Orders.{is_in-push, with_last_has}

-- a number that is there isn't one more
pub tells_kept : (set : BTreeSet ℕ) (numbers : List ℕ) (number : ℕ) → is_in numbers number ≡ true → Tells set (numbers ++ number ∷ []) → Tells set numbers
tells_kept set numbers number there t = record {
  tells = λ other.
      t.tells other ∙ is_in-push numbers number other
      ∙ sym (ap (λ (o : List ℕ). is_in o other) (sym (cond-true _ _ _ there)) ∙ with_last_has numbers number other);
}
