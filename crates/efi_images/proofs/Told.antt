-- The first check that doesn't hold, as it is told.
use Rattle.std.proofs.Common.{◌≡◌, refl, Bool, true, false, List, [], ◌∷◌, ◌++◌, Some, None, if◌then◌else◌, IsTrue, IsFalse, ap, arith}
use Rattle.std.specs.List.{AllByRecursion}
use Rattle.efi_images.specs.Check.{Check, first_fault, IsFirst}
use Rattle.efi_images.specs.declared.fault.ImageFault.{ImageFault}

abbrev pub Told : List Check → ImageFault → Type 0
Told checks fault = (c : Check) × IsFirst checks c × (c.otherwise ≡ fault)

abbrev pub AllHold : List Check → Type 0
AllHold checks = AllByRecursion (λ (c : Check). IsTrue c.holds) checks

-- ---- from what is told

after : (c : Check) (others : List Check) (fault : ImageFault) → IsTrue c.holds → Told others fault → Told (c ∷ others) fault
after c others fault holds t =
    (t.0, record { front = c ∷ t.1.front; back = t.1.back; is = ap (λ all. c ∷ all) t.1.is; held = (holds, t.1.held); fails = t.1.fails }, t.2)

told_here : (c : Check) (others : List Check) (fault : ImageFault) → (first_fault others ≡ Some fault → Told others fault)
    → (h : Bool) → c.holds ≡ h → (if h then first_fault others else Some c.otherwise) ≡ Some fault → Told (c ∷ others) fault
told_here c others fault more true e told = after c others fault e (more told)
told_here c others fault more false e told =
    (c, record { front = []; back = others; is = refl; held = tt; fails = e }, grind arith)

pub told_of : (checks : List Check) (fault : ImageFault) → first_fault checks ≡ Some fault → Told checks fault
told_of [] fault told = grind arith
told_of (c ∷ others) fault told = told_here c others fault (told_of others fault) c.holds refl told

-- ---- to what is told

pub first_after : (front back : List Check) (c : Check) → AllHold front → IsFalse c.holds → first_fault (front ++ c ∷ back) ≡ Some c.otherwise
first_after [] back c held fails = rw fails refl
first_after (d ∷ front) back c held fails = let h : d.holds ≡ true = held.0 in rw h (first_after front back c held.1 fails)

pub told_from : (checks : List Check) (fault : ImageFault) → Told checks fault → first_fault checks ≡ Some fault
told_from checks fault t =
    let e = t.1.is in let f = t.2 in rw e (rw (first_after t.1.front t.1.back t.0 t.1.held t.1.fails) (ap (λ x. Some x) f))

-- ---- none

none_here : (c : Check) (others : List Check) → (first_fault others ≡ None → AllHold others)
    → (h : Bool) → c.holds ≡ h → (if h then first_fault others else Some c.otherwise) ≡ None → AllHold (c ∷ others)
none_here c others more true e none = (e, more none)
none_here c others more false e none = grind arith

pub all_hold : (checks : List Check) → first_fault checks ≡ None → AllHold checks
all_hold [] none = tt
all_hold (c ∷ others) none = none_here c others (all_hold others) c.holds refl none

pub none_told : (checks : List Check) → AllHold checks → first_fault checks ≡ None
none_told [] held = refl
none_told (c ∷ others) held = let h : c.holds ≡ true = held.0 in rw h (none_told others held.1)
