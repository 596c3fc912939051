-- What happens after a restart does what it does in a run of its own from the gap on: step by step, both accept the same requests.
use Rattle.std.proofs.Common.{◌≡◌, ℕ, ltb, Bool, true, false, cond, List, [], ◌∷◌, ◌++◌, Option, None, refl, sym, ap, ◌∙◌, arith}
use Rattle.std.proofs.lemmas.Bool.Decides.{nat_tests}
use Rattle.std.proofs.lemmas.List.{append_assoc}
use Rattle.std.specs.Ordering.{nat_cmp}
use Rattle.std.specs.FinMap.{empty, get, insert, retain_keys, get-empty}
use Rattle.boot_requests.specs.declared.request.Request.{Request}
use Rattle.boot_requests.specs.Changes.{Change, Boots, changes_between}
use Rattle.boot_requests.specs.Run.{run_followed_by, accepted_requests, gap_at, is_armed, new_changes, history}
use Rattle.boot_requests.specs.Seen.{Seen, Came, Malformed, Prepare, Hand, Restart}
use Rattle.boot_requests.specs.Window.{Requests, gap_of, is_open}
use Rattle.boot_requests.proofs.WholeRuns.Deliveries.{above_gap, open_waiting, waiting_behind}
use Rattle.boot_requests.proofs.WholeRuns.Gaps.{gap_is}
use Rattle.boot_requests.proofs.WholeRuns.NextNumbers.{accepted_open, gap_open, new_changes_open, accepted_closed, gap_closed, new_changes_closed, gap_kept}
use Rattle.boot_requests.proofs.WholeRuns.NextNumbers.{gap_of_none}
use Rattle.boot_requests.proofs.WholeRuns.Numbers.{get_retained, same_numbers}

-- what waits after a run
abbrev pub waits : ℕ → List Seen → Requests
waits first run = above_gap (accepted_requests first run) (gap_at first run)

-- two runs go on alike: the same request is the next one, the same ones wait, and a plan is prepared in both or in none
pub record GoAlike (first second : ℕ) (run also : List Seen) : Type 0 where
  pub gap : gap_at first run ≡ gap_at second also
  pub waiting : waits first run ≡ waits second also
  pub armed : is_armed run ≡ is_armed also

-- one that came does the same in both, and they go on alike
pub record StepsAlike (first second : ℕ) (run also : List Seen) (seen : Seen) : Type 0 where
  pub same : new_changes first run seen ≡ new_changes second also seen
  pub later : GoAlike first second (seen ∷ run) (seen ∷ also)

-- ---- a request

module _ (first : ℕ) (run : List Seen) (number : ℕ) (request : Request) where
  abbrev with_it : Requests
  with_it = insert (waits first run) number request

  abbrev opens : Bool
  opens = is_open (accepted_requests first run) (gap_at first run) number

  opens_waiting : is_open (waits first run) (gap_at first run) number ≡ opens
  opens_waiting = open_waiting (accepted_requests first run) (gap_at first run) (gap_is first (accepted_requests first run)).free number

  waits_open : opens ≡ true → waits first (Came number request ∷ run) ≡ above_gap with_it (gap_of (gap_at first run) with_it)
  waits_open is =
      ap (λ (m : Requests). above_gap m (gap_at first (Came number request ∷ run))) (accepted_open first run number request is)
      ∙ ap (above_gap (insert (accepted_requests first run) number request)) (gap_open first run number request is)
      ∙ sym (waiting_behind first (gap_at first run) (accepted_requests first run) (gap_is first (accepted_requests first run)) number request
      (gap_of (gap_at first run) with_it) (gap_is (gap_at first run) with_it).from)

  waits_closed : opens ≡ false → waits first (Came number request ∷ run) ≡ waits first run
  waits_closed is =
      ap (λ (m : Requests). above_gap m (gap_at first (Came number request ∷ run))) (accepted_closed first run number request is)
      ∙ ap (above_gap (accepted_requests first run)) (gap_closed first run number request is)

came : (first second : ℕ) (run also : List Seen) (number : ℕ) (request : Request) → GoAlike first second run also
    → StepsAlike first second run also (Came number request)
came first second run also number request alike = by (opens first run number request) refl
  where
    same_opens : opens first run number request ≡ opens second also number request
    same_opens =
        sym (opens_waiting first run number request)
        ∙ (λ i. is_open (alike.waiting i) (alike.gap i) number)
        ∙ opens_waiting second also number request

    by : (b : Bool) → opens first run number request ≡ b → StepsAlike first second run also (Came number request)
    by true is =
        let there : opens second also number request ≡ true = sym same_opens ∙ is in record {
          same =
              new_changes_open first run number request is
              ∙ (λ i. changes_between (alike.gap i) (gap_of (alike.gap i) (insert (alike.waiting i) number request))
              (insert (alike.waiting i) number request))
              ∙ sym (new_changes_open second also number request there);
          later = record {
            gap =
                gap_open first run number request is
                ∙ (λ i. gap_of (alike.gap i) (insert (alike.waiting i) number request))
                ∙ sym (gap_open second also number request there);
            waiting =
                waits_open first run number request is
                ∙ (λ i. above_gap (insert (alike.waiting i) number request) (gap_of (alike.gap i) (insert (alike.waiting i) number request)))
                ∙ sym (waits_open second also number request there);
            armed = alike.armed;
          };
        }
    by false is =
        let there : opens second also number request ≡ false = sym same_opens ∙ is in record {
          same = new_changes_closed first run number request is ∙ sym (new_changes_closed second also number request there);
          later = record {
            gap = gap_closed first run number request is ∙ alike.gap ∙ sym (gap_closed second also number request there);
            waiting = waits_closed first run number request is ∙ alike.waiting ∙ sym (waits_closed second also number request there);
            armed = alike.armed;
          };
        }

-- ---- a restart

none_of : (b : Bool) → ◌≡◌ {A = Option Request} (cond b None None) None
none_of true = refl
none_of false = refl

nothing_above : (gap : ℕ) → above_gap (empty {X = Request} {R = nat_cmp}) gap ≡ empty
nothing_above gap = same_numbers _ _ (λ q.
    get_retained (empty {X = Request} {R = nat_cmp}) (λ n. ltb gap n) q ∙ ap (λ o. cond (ltb gap q) o None) (get-empty nat_cmp q)
    ∙ none_of (ltb gap q) ∙ sym (get-empty nat_cmp q))

-- those below the gap don't wait
none_left : (requests : Requests) (gap : ℕ) → above_gap (retain_keys requests (λ n. ltb n gap)) gap ≡ empty
none_left requests gap = same_numbers _ _ (λ q.
    get_retained (retain_keys requests (λ n. ltb n gap)) (λ n. ltb gap n) q
    ∙ ap (λ o. cond (ltb gap q) o None) (get_retained requests (λ n. ltb n gap) q)
    ∙ either q (ltb gap q) (ltb q gap) refl refl
    ∙ sym (get-empty nat_cmp q))
  where
    either : (q : ℕ) (above below : Bool) → ltb gap q ≡ above → ltb q gap ≡ below → cond above (cond below (get requests q) None) None ≡ None
    either q true true is also = absurd (grind (arith, nat_tests, is, also))
    either q true false is also = refl
    either q false below is also = refl

waits_restarted : (first : ℕ) (run : List Seen) → waits first (Restart ∷ run) ≡ empty
waits_restarted first run =
    ap (above_gap (accepted_requests first (Restart ∷ run))) (gap_kept first (accepted_requests first run))
    ∙ none_left (accepted_requests first run) (gap_at first run)

-- a run after a restart goes on as a new one does
anew : (first : ℕ) (run : List Seen) → GoAlike first (gap_at first run) (Restart ∷ run) []
anew first run = record {
  gap = gap_kept first (accepted_requests first run) ∙ sym (gap_of_none (gap_at first run));
  waiting = waits_restarted first run ∙ sym (nothing_above (gap_at (gap_at first run) []));
  armed = refl;
}

step : (first second : ℕ) (run also : List Seen) (seen : Seen) → GoAlike first second run also → StepsAlike first second run also seen
step first second run also (Came number request) alike = came first second run also number request alike
step first second run also (Malformed fault) alike = record { same = refl; later = record { gap = alike.gap; waiting = alike.waiting; armed = alike.armed } }
step first second run also Prepare alike = record {
  same = ap (λ b. cond b [] (Boots ∷ [])) alike.armed;
  later = record { gap = alike.gap; waiting = alike.waiting; armed = refl };
}
step first second run also Hand alike = record { same = refl; later = record { gap = alike.gap; waiting = alike.waiting; armed = refl } }
step first second run also Restart alike = record {
  same = refl;
  later = record {
    gap = gap_kept first (accepted_requests first run) ∙ alike.gap ∙ sym (gap_kept second (accepted_requests second also));
    waiting = waits_restarted first run ∙ sym (waits_restarted second also);
    armed = refl;
  };
}

-- ---- whole runs

-- what was done before, and then what the second run does
record HasDone (first second : ℕ) (done : List Change) (run also : List Seen) : Type 0 where
  alike : GoAlike first second run also
  changes : history first run ≡ done ++ history second also

go_on : (first second : ℕ) (done : List Change) (later run also : List Seen) → HasDone first second done run also
    → HasDone first second done (run_followed_by run later) (run_followed_by also later)
go_on first second done [] run also has = has
go_on first second done (seen ∷ later) run also has =
    let next = step first second run also seen has.alike in
    go_on first second done later (seen ∷ run) (seen ∷ also) (record {
      alike = next.later;
      changes =
          ap (λ (changes : List Change). changes ++ new_changes first run seen) has.changes
          ∙ append_assoc done (history second also) (new_changes first run seen)
          ∙ ap (λ (changes : List Change). done ++ (history second also ++ changes)) next.same;
    })

-- what a run does up to a restart, and after it
pub record DoesBoth (first : ℕ) (earlier seen : List Seen) : Type 0 where
  pub gap : gap_at first (run_followed_by (Restart ∷ earlier) seen) ≡ gap_at (gap_at first earlier) (run_followed_by [] seen)
  pub changes : history first (run_followed_by (Restart ∷ earlier) seen) ≡ history first earlier ++ history (gap_at first earlier) (run_followed_by [] seen)

pub after_restart : (first : ℕ) (earlier seen : List Seen) → DoesBoth first earlier seen
after_restart first earlier seen =
    let has =
    go_on first (gap_at first earlier) (history first earlier) seen (Restart ∷ earlier) [] (record { alike = anew first earlier; changes = refl }) in
    record { gap = has.alike.gap; changes = has.changes }
