-- Whether something isn't as it is expected, and what a run is then.
use Rattle.std.proofs.Common.{◌≡◌, refl, sym, subst, ◌∙◌, List, [], Option, Some, None}
use Rattle.std.proofs.lemmas.Option.{none-some}
use Rattle.uefi_vars.specs.Vars.{Variables}
use Rattle.boot_requests.specs.declared.answer.Answer.{Answer}
use Rattle.boot_updates.specs.declared.guarded.Unmet.{Unmet}
use Rattle.boot_updates.specs.Guarded.{IsGuarded}

pub none_is : {X : Type 0} (o : Option X) → ((x : X) → o ≡ Some x → ⊥) → o ≡ None
none_is None none = refl
none_is (Some x) none = absurd (none x refl)

pub some_is_not : {X : Type 0} (o : Option X) (x : X) → o ≡ Some x → o ≡ None → ⊥
some_is_not o x is none = none-some x (sym none ∙ is)

-- a run that wasn't made
pub guarded_so : (met run : Type 0) (from to : Variables) (answers : List Answer) (told : Option Unmet) (unmet : Unmet) → told ≡ Some unmet
    → (met → ⊥) → to ≡ from → answers ≡ [] → IsGuarded met run from to answers told
guarded_so met run from to answers told unmet is is_not same none =
    subst (λ (u : Option Unmet). IsGuarded met run from to answers u) (sym is) (is_not, same, none)
