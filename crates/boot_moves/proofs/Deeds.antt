-- A call of a replay notes one move more, or none; what the contract of `make` and of `replace_journal` says follows from that alone.
use Rattle.std.proofs.Common.{◌≡◌, inl, inr, ⊎_elim, ℕ, ◌+◌, ◌<◌, ◌≤◌, Result, Err, List, [], ◌∷◌, ◌++◌, length, take, get_or, refl, sym, ap, subst, ◌∙◌, arith}
use Rattle.std.specs.Prelude.{OnOk}
use Rattle.std.proofs.lemmas.List.{append-nil, map_more, map_push}
use Rattle.uefi_vars.specs.Vars.{Variables}
use Rattle.boot_journal.specs.declared.machine.CallError.{CallError}
use Rattle.boot_journal.specs.declared.machine.CallError.TheVariants as call
use Rattle.boot_journal.specs.Cause.{HasCause}
use Rattle.boot_journal.specs.Journal.{JournalParts}
use Rattle.boot_journal.specs.Moments.{Leaves, IsRecorded}
use Rattle.boot_journal.specs.Store.{Store, IsEither}
use Rattle.boot_moves.specs.declared.parts.Answer.{Answer}
use Rattle.boot_moves.specs.declared.parts.Answer.TheVariants.{Done, Refused, Perhaps}
use Rattle.boot_moves.specs.declared.parts.Move.{Move}
use Rattle.boot_moves.specs.declared.parts.Told.{Told}
use Rattle.boot_moves.specs.Deeds.{Act, Deed, deed, deed_of, deeds_of, act_of, did, vars_by, journal_by, after, after_all, past, refusals, refusals_by}
use Rattle.boot_moves.specs.Follows.{Follows, result_by}

pub after_append : (ds es : List Deed) (s : Store) → after_all (ds ++ es) s ≡ after_all es (after_all ds s)
after_append [] es s = refl
after_append (d ∷ ds) es s = after_append ds es (after d s)

pub past_append : (ds es : List Deed) (s : Store) → past (ds ++ es) s ≡ past ds s ++ past es (after_all ds s)
past_append [] es s = refl
past_append (d ∷ ds) es s = ap (λ (l : List Store). after d s ∷ l) (past_append ds es (after d s))

refusals_append : (ds es : List Deed) → refusals (ds ++ es) ≡ refusals ds + refusals es
refusals_append [] es = omega arith
refusals_append (d ∷ ds) es = omega (arith, refusals_append ds es)

-- ---- one move more

-- what is there then
now_one : (d : Deed) (old new : List Deed) (s s' : Store) → s' ≡ s → new ≡ old ++ d ∷ [] → after_all new s' ≡ after d (after_all old s)
now_one d old new s s' same is = (λ i. after_all (is i) (same i)) ∙ after_append old (d ∷ []) s

-- and what was there after each move
history_one : (d : Deed) (old new : List Deed) (s s' : Store) → s' ≡ s → new ≡ old ++ d ∷ []
    → s' ∷ past new s' ≡ (s ∷ past old s) ++ after d (after_all old s) ∷ []
history_one d old new s s' same is =
    (λ i. same i ∷ past (is i) (same i)) ∙ ap (λ (l : List Store). s ∷ l) (past_append old (d ∷ []) s)

refusals_one : (d : Deed) (old new : List Deed) → new ≡ old ++ d ∷ [] → refusals new ≡ refusals old + refusals_by d.answer
refusals_one d old new is =
    let told = refusals_append old (d ∷ []) in
    let last : refusals (d ∷ []) ≡ refusals_by d.answer = omega arith in
    ap refusals is ∙ told ∙ ap (λ (n : ℕ). refusals old + n) last

-- ---- no move

now_none : (old new : List Deed) (s s' : Store) → s' ≡ s → new ≡ old → after_all new s' ≡ after_all old s
now_none old new s s' same is i = after_all (is i) (same i)

history_none : (old new : List Deed) (s s' : Store) → s' ≡ s → new ≡ old → s' ∷ past new s' ≡ s ∷ past old s
history_none old new s s' same is i = same i ∷ past (is i) (same i)

-- ---- what the contract says of these

-- what a move leaves is one or the other
either_by : (act : Act) (answer : Answer) (s : Store) → IsEither s (did act s) (after (deed act answer) s)
either_by act Done s = inr refl
either_by act (Refused reason) s = inl refl
either_by act (Perhaps reason) s = inr refl

pub whole_of : (act : Act) (old new : List Deed) (s s' : Store) (result : Result (Unit {0}) (CallError ℕ)) → s' ≡ s → Follows act old new result
    → IsEither (after_all old s) (did act (after_all old s)) (after_all new s')
whole_of act old new s s' result same follows =
    let now = after_all old s in
    let one : (answer : Answer) → new ≡ old ++ deed act answer ∷ [] → IsEither now (did act now) (after_all new s') =
    λ answer is. subst (IsEither now (did act now)) (sym (now_one (deed act answer) old new s s' same is)) (either_by act answer now) in
    ⊎_elim (λ noted. one noted.0 noted.1)
    (λ lost. ⊎_elim (λ none. inl (now_none old new s s' same none)) (λ is. one (Perhaps 0) is) lost.0) follows

pub moments_of : (act : Act) (old new : List Deed) (s s' : Store) (result : Result (Unit {0}) (CallError ℕ)) → s' ≡ s → Follows act old new result
    → Leaves (IsEither (after_all old s) (did act (after_all old s))) (s ∷ past old s) (s' ∷ past new s')
moments_of act old new s s' result same follows =
    let now = after_all old s in
    let P = IsEither now (did act now) in
    let one : (answer : Answer) → new ≡ old ++ deed act answer ∷ [] → Leaves P (s ∷ past old s) (s' ∷ past new s') =
    λ answer is. record {
      since = after (deed act answer) now ∷ [];
      is = history_one (deed act answer) old new s s' same is;
      each = (either_by act answer now, tt);
    } in
    let none : new ≡ old → Leaves P (s ∷ past old s) (s' ∷ past new s') =
    λ is. record { since = []; is = history_none old new s s' same is ∙ sym (append-nil (s ∷ past old s)); each = tt } in
    ⊎_elim (λ noted. one noted.0 noted.1) (λ lost. ⊎_elim none (λ is. one (Perhaps 0) is) lost.0) follows

pub recorded_of : (act : Act) (old new : List Deed) (s s' : Store) (result : Result (Unit {0}) (CallError ℕ)) → s' ≡ s → Follows act old new result
    → IsRecorded (after_all old s) (after_all new s') (s ∷ past old s) (s' ∷ past new s')
recorded_of act old new s s' result same follows =
    let now = after_all old s in
    let one : (answer : Answer) → new ≡ old ++ deed act answer ∷ [] → IsRecorded now (after_all new s') (s ∷ past old s) (s' ∷ past new s') =
    λ answer is. inl (
      s ∷ past old s,
      history_one (deed act answer) old new s s' same is
          ∙ ap (λ (t : Store). (s ∷ past old s) ++ t ∷ []) (sym (now_one (deed act answer) old new s s' same is)),
    ) in
    let none : new ≡ old → IsRecorded now (after_all new s') (s ∷ past old s) (s' ∷ past new s') =
    λ is. inr (now_none old new s s' same is, history_none old new s s' same is) in
    ⊎_elim (λ noted. one noted.0 noted.1) (λ lost. ⊎_elim none (λ is. one (Perhaps 0) is) lost.0) follows

cause_by : (answer : Answer) (before now : ℕ) (result : Result (Unit {0}) (CallError ℕ)) → now ≡ before + refusals_by answer → result ≡ result_by answer
    → HasCause before now result
cause_by Done before now result more is = record { later = omega (arith, more); refused = λ refusal told. absurd (cc) }
cause_by (Refused reason) before now result more is = record { later = omega (arith, more); refused = λ refusal told. omega (arith, more) }
cause_by (Perhaps reason) before now result more is = record { later = omega (arith, more); refused = λ refusal told. omega (arith, more) }

cause_lost : (before now : ℕ) (result : Result (Unit {0}) (CallError ℕ)) → before ≤ now → result ≡ Err call.OutOfMemory → HasCause before now result
cause_lost before now result later is = record { later = later; refused = λ refusal told. absurd (cc) }

pub cause_of : (act : Act) (old new : List Deed) (result : Result (Unit {0}) (CallError ℕ)) → Follows act old new result
    → HasCause (refusals old) (refusals new) result
cause_of act old new result follows =
    ⊎_elim (λ noted. cause_by noted.0 (refusals old) (refusals new) result (refusals_one (deed act noted.0) old new noted.1) noted.2)
    (λ lost. cause_lost (refusals old) (refusals new) result
    (⊎_elim (λ none. omega (arith, ap refusals none)) (λ is. omega (arith, refusals_one (deed act (Perhaps 0)) old new is)) lost.0) lost.1) follows

done_by : (act : Act) (answer : Answer) (old new : List Deed) (s s' : Store) (result : Result (Unit {0}) (CallError ℕ)) → s' ≡ s
    → new ≡ old ++ deed act answer ∷ [] → result ≡ result_by answer → OnOk result (after_all new s' ≡ did act (after_all old s))
done_by act Done old new s s' result same noted is =
    subst (λ (r : Result (Unit {0}) (CallError ℕ)). OnOk r (after_all new s' ≡ did act (after_all old s))) (sym is)
    (now_one (deed act Done) old new s s' same noted)
done_by act (Refused reason) old new s s' result same noted is =
    subst (λ (r : Result (Unit {0}) (CallError ℕ)). OnOk r (after_all new s' ≡ did act (after_all old s))) (sym is) tt
done_by act (Perhaps reason) old new s s' result same noted is =
    subst (λ (r : Result (Unit {0}) (CallError ℕ)). OnOk r (after_all new s' ≡ did act (after_all old s))) (sym is) tt

pub done_of : (act : Act) (old new : List Deed) (s s' : Store) (result : Result (Unit {0}) (CallError ℕ)) → s' ≡ s → Follows act old new result
    → OnOk result (after_all new s' ≡ did act (after_all old s))
done_of act old new s s' result same follows =
    ⊎_elim (λ noted. done_by act noted.0 old new s s' result same noted.1 noted.2)
    (λ lost. subst (λ (r : Result (Unit {0}) (CallError ℕ)). OnOk r (after_all new s' ≡ did act (after_all old s))) (sym lost.1) tt) follows

-- ---- one move after the other

deeds_more : (made : List Told) (i : ℕ) (told : Told) → i < length made → told ≡ get_or made i told
    → deeds_of (take (i + 1) made) ≡ deeds_of (take i made) ++ deed_of told ∷ []
deeds_more made i told within is =
    map_more deed_of made i told within ∙ ap (λ (t : Told). deeds_of (take i made) ++ deed_of t ∷ []) (sym is)

pub journal_more : (made : List Told) (i : ℕ) (told : Told) (s : Store) (before after : JournalParts) → i < length made → told ≡ get_or made i told
    → before ≡ (after_all (deeds_of (take i made)) s).journal → after ≡ journal_by told.answer (act_of told.asked) before
    → after ≡ (after_all (deeds_of (take (i + 1) made)) s).journal
journal_more made i told s before after within is so_far goes =
    goes ∙ ap (journal_by told.answer (act_of told.asked)) so_far
    ∙ sym (ap (λ (t : Store). t.journal) (now_one (deed_of told) (deeds_of (take i made)) (deeds_of (take (i + 1) made)) s s refl
    (deeds_more made i told within is)))

pub vars_more : (made : List Told) (i : ℕ) (told : Told) (s : Store) (before after : Variables) → i < length made → told ≡ get_or made i told
    → before ≡ (after_all (deeds_of (take i made)) s).variables → after ≡ vars_by told.answer (act_of told.asked) before
    → after ≡ (after_all (deeds_of (take (i + 1) made)) s).variables
vars_more made i told s before after within is so_far goes =
    goes ∙ ap (vars_by told.answer (act_of told.asked)) so_far
    ∙ sym (ap (λ (t : Store). t.variables) (now_one (deed_of told) (deeds_of (take i made)) (deeds_of (take (i + 1) made)) s s refl
    (deeds_more made i told within is)))

pub same_more : (told made : List Told) (i : ℕ) (one other : Told) → i < length told → i < length made → one ≡ get_or told i one → other ≡ get_or made i other
    → deeds_of (take i told) ≡ deeds_of (take i made) → deed_of one ≡ deed_of other
    → deeds_of (take (i + 1) told) ≡ deeds_of (take (i + 1) made)
same_more told made i one other within within' is is' so_far same =
    deeds_more told i one within is ∙ (λ j. so_far j ++ same j ∷ []) ∙ sym (deeds_more made i other within' is')

-- the move that is noted is a deed more
pub noted_deed : (old new : List Told) (asked : Move) (answer : Answer) (act : Act) → new ≡ old ++ record { asked = asked; answer = answer } ∷ []
    → act_of asked ≡ act → deeds_of new ≡ deeds_of old ++ deed act answer ∷ []
noted_deed old new asked answer act is named =
    ap deeds_of is ∙ map_push deed_of old (record { asked = asked; answer = answer })
    ∙ ap (λ (a : Act). deeds_of old ++ deed a answer ∷ []) named
