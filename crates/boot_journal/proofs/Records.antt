-- The record of a machine over storage, to which each call adds some moves. What is there is what all moves lead to, what was
-- there is what each of them left, and so many were refused as the record has refusals. A call that did some moves is a
-- `Goes`; what the contract of `make` and of `replace_journal` says follows from this and from the moves alone.
use Rattle.std.proofs.Common.{◌≡◌, ◌+◌, Ok, Err, Option, Some, None, List, [], ◌∷◌, ◌++◌, refl, sym, ap, ◌∙◌, append_assoc, arith}
use Rattle.std.specs.List.{AllByRecursion}
use Rattle.boot_journal.specs.declared.recorded.Move.{Move}
use Rattle.boot_journal.specs.declared.recorded.Move.TheVariants.{Made, Replaced, Refused}
use Rattle.boot_journal.specs.declared.machine.CallError.{CallError}
use Rattle.boot_journal.specs.Asked.{Ask, and_then}
use Rattle.boot_journal.specs.Cause.{HasCause}
use Rattle.boot_journal.specs.Moments.{Leaves, IsNow}
use Rattle.boot_journal.specs.Recorded.{moved, done_to, past, refusals_in}
use Rattle.boot_journal.specs.Store.{Store}

-- ---- records with some moves more

done_append : (s : Store) (ms more : List Move) → done_to s (ms ++ more) ≡ done_to (done_to s ms) more
done_append s [] more = refl
done_append s (m ∷ ms) more = done_append (moved s m) ms more

past_append : (s : Store) (ms more : List Move) → past s (ms ++ more) ≡ past s ms ++ past (done_to s ms) more
past_append s [] more = refl
past_append s (m ∷ ms) more = ap (λ (l : List Store). moved s m ∷ l) (past_append (moved s m) ms more)

refusals_append : (ms more : List Move) → refusals_in (ms ++ more) ≡ refusals_in ms + refusals_in more
refusals_append [] more = omega arith
refusals_append (Made change ∷ ms) more = refusals_append ms more
refusals_append (Replaced journal ∷ ms) more = refusals_append ms more
refusals_append (Refused ∷ ms) more = omega (arith, refusals_append ms more)

-- the last moment is that of what all moves lead to
past_ends : (s : Store) (m : Move) (ms : List Move) → IsNow (done_to s (m ∷ ms)) (past s (m ∷ ms))
past_ends s m [] = ([], refl)
past_ends s m (next ∷ ms) =
    let rest = past_ends (moved s m) next ms in
    (moved s m ∷ rest.0, ap (λ (l : List Store). moved s m ∷ l) rest.1)

-- what is there is what all moves lead to, and is so after one more
pub keeps : (first now new : Store) (old items : List Move) (m : Move) → now.variables ≡ (done_to first old).variables
    → now.journal ≡ (done_to first old).journal → items ≡ old ++ m ∷ [] → new ≡ moved now m
    → (new.variables ≡ (done_to first items).variables) × (new.journal ≡ (done_to first items).journal)
keeps first now new old items m vars journal pushed goes =
    let kept : new ≡ done_to first items =
    goes ∙ (λ i. moved (record { variables = vars i; journal = journal i }) m) ∙ sym (done_append first old (m ∷ []))
    ∙ sym (ap (done_to first) pushed) in
    (ap (λ (s : Store). s.variables) kept, ap (λ (s : Store). s.journal) kept)

-- ---- what a call did

-- these moves more: what was first, and is now, and the record, before them and after them
pub record Goes (first now first' now' : Store) (items items' more : List Move) : Type 0 where
  pub is : now ≡ done_to first items
  pub same : first' ≡ first
  pub told : items' ≡ items ++ more
  pub leads : now' ≡ done_to now more

past_goes : {first now first' now' : Store} {items items' more : List Move} → Goes first now first' now' items items' more
    → past first' items' ≡ past first items ++ past now more
past_goes {first = first} {items = items} {more = more} goes =
    (λ i. past (goes.same i) (goes.told i)) ∙ past_append first items more
    ∙ ap (λ (s : Store). past first items ++ past s more) (sym goes.is)

-- each moment since is what one of them left
pub moments : {first now first' now' : Store} {items items' more : List Move} (P : Store → Type 0) → Goes first now first' now' items items' more
    → AllByRecursion P (past now more) → Leaves P (past first items) (past first' items')
moments {now = now} {more = more} P goes each = record { since = past now more; is = past_goes goes; each = each }

-- the last moment is that of what is there now
pub ends : {first now first' now' : Store} {items items' more : List Move} {m : Move} → Goes first now first' now' items items' (m ∷ more)
    → IsNow now' (past first' items')
ends {first = first} {now = now} {items = items} {more = more} {m = m} goes =
    let last = past_ends now m more in (
      past first items ++ last.0,
      past_goes goes ∙ ap (λ (l : List Store). past first items ++ l) last.1
          ∙ sym (append_assoc (past first items) last.0 (done_to now (m ∷ more) ∷ []))
          ∙ ap (λ (s : Store). (past first items ++ last.0) ++ s ∷ []) (sym goes.leads),
    )

refusals_go : {first now first' now' : Store} {items items' more : List Move} → Goes first now first' now' items items' more
    → refusals_in items' ≡ refusals_in items + refusals_in more
refusals_go {items = items} {more = more} goes = ap refusals_in goes.told ∙ refusals_append items more

-- a call that was done tells of no refusal, and one that failed of a refusal that is in the record
pub no_refusal : {E : Type 0} {first now first' now' : Store} {items items' more : List Move} → Goes first now first' now' items items' more
    → HasCause {T = Unit {0}} {E = E} (refusals_in items) (refusals_in items') (Ok tt)
no_refusal goes = record { later = omega (arith, refusals_go goes); refused = λ refusal is. absurd (cc) }

pub one_refusal : {E : Type 0} {first now first' now' : Store} {items items' more : List Move} (error : CallError E)
    → Goes first now first' now' items items' more → refusals_in more ≡ 1
    → HasCause {T = Unit {0}} (refusals_in items) (refusals_in items') (Err error)
one_refusal error goes one =
    record { later = omega (arith, refusals_go goes, one); refused = λ refusal is. omega (arith, refusals_go goes, one) }

-- ---- what storage was asked

then_again : (asked : Option (List Ask)) (xs ys : List Ask) → and_then (and_then asked xs) ys ≡ and_then asked (xs ++ ys)
then_again None xs ys = refl
then_again (Some asks) xs ys = ap Some (append_assoc asks xs ys)

pub asked_twice : (asked mid asked' : Option (List Ask)) (x y : Ask) → mid ≡ and_then asked (x ∷ []) → asked' ≡ and_then mid (y ∷ [])
    → asked' ≡ and_then asked (x ∷ y ∷ [])
asked_twice asked mid asked' x y first second =
    second ∙ ap (λ (a : Option (List Ask)). and_then a (y ∷ [])) first ∙ then_again asked (x ∷ []) (y ∷ [])

pub told_once : (moves same moves' : List Move) (m n : Move) → same ≡ moves → m ≡ n → moves' ≡ same ++ m ∷ [] → moves' ≡ moves ++ n ∷ []
told_once moves same moves' m n is alike pushed = pushed ∙ (λ i. is i ++ alike i ∷ [])

pub told_twice : (moves mid moves' : List Move) (m n : Move) → mid ≡ moves ++ m ∷ [] → moves' ≡ mid ++ n ∷ [] → moves' ≡ moves ++ m ∷ n ∷ []
told_twice moves mid moves' m n first second =
    second ∙ ap (λ (l : List Move). l ++ n ∷ []) first ∙ append_assoc moves (m ∷ []) (n ∷ [])
