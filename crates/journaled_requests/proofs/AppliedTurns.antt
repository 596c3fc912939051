-- Updates by requests are what their run as a whole does, in three steps. What requests do to the rest of a state doesn't depend
-- on BootNext nor on other variables, so states that agree but for these two still do after a run (`Alike`). A run after a restart
-- is one that begins with the state then (`after_restart`). And what a turn leaves opens as that state, but for these two: an
-- update by requests (`brings`), a start that deletes BootNext (`boots`), and firmware's changes of other variables
-- (`opens_meddled`); so any number of turns does (`all_applied`).
use Rattle.std.proofs.Common.{◌≡◌, ◌≢◌, ◌⊎◌, ◌↔◌, ◌<◌, ◌^◌, inl, inr, ⊎_elim, ℕ, ◌||◌, Bool, true, false, cond, List, [], ◌∷◌, Option, Some, None, IfSome}
use Rattle.std.proofs.Common.{refl, sym, ap, subst, ◌∙◌}
use Rattle.std.specs.FinMap.{empty, get, remove, get-remove}
use Rattle.std.specs.Option.{option_map}
use Rattle.std.specs.Cmp.{Equal-is}
use Rattle.std.proofs.lemmas.Bool.{true≢false, or_parts, or_left, or_right}
use Rattle.uefi_vars.specs.Name.{entry_text, order_text, next_text, timeout_text, keep_text}
use Rattle.uefi_vars.specs.Vars.{Variables, IsVariable}
use Rattle.uefi_vars.specs.NameChanges.{with_data, after_each}
use Rattle.uefi_vars.specs.BootChange.{same_name, is_entry_name, is_boot_name, changes_from}
use Rattle.boot_requests.specs.declared.request.Request.{Request}
use Rattle.boot_requests.specs.declared.request.Request.TheVariants.{Add, Replace, Remove, Order, Next, AddFree, AddFirst, First}
use Rattle.boot_requests.specs.declared.outcome.Code.{Code}
use Rattle.boot_requests.specs.declared.outcome.Code.TheVariants.{Done, Exists, Missing, OrderRepeats, OrderUnknown, NoFree}
use Rattle.boot_requests.specs.declared.outcome.Outcome.{Outcome}
use Rattle.std.specs.List.{AllByRecursion}
use Rattle.boot_journal.specs.Store.{with_state, brought}
use Rattle.boot_requests.specs.Apply.{next_without, outcome_of, effect_by, effect, after_request, after_boot, with_outcome}
use Rattle.boot_requests.specs.Changes.{Change, Applies, Boots as BootsChange, after_changes}
use Rattle.boot_requests.specs.Keeper.{AreRead, StandsFor}
use Rattle.boot_requests.specs.Run.{run_followed_by, state_at, history}
use Rattle.boot_requests.specs.Seen.{Seen, Came, Malformed, Prepare, Hand, Restart}
use Rattle.boot_requests.specs.State.{State, IsState, IsImage, IsBootName, stored_mark}
use Rattle.boot_journal.specs.Attributes.{data_in, data_of}
use Rattle.journaled_requests.specs.Requests.{KeepsState, IsUpdateBy, IsRunOf, IsOfAnother, AgreesButForNext}
use Rattle.std.proofs.lemmas.Cmp.{nat_list_cmp_total}
use Rattle.boot_requests.specs.declared.reply.Reply.{Reply}
use Rattle.boot_requests.specs.declared.reply.Reply.TheVariants as reply
use Rattle.boot_requests.specs.StoredState.{HasMark, OpensAs}
use Rattle.boot_requests.specs.Turn.{Plain, plain_start, Turn}
use Rattle.boot_journal.specs.Changes.{made}
use Rattle.boot_journal.specs.Events.{without_next}
use Rattle.boot_journal.specs.Turns as Turns
use Rattle.boot_journal.specs.Turns.{after_turns}
use Rattle.boot_journal.proofs.WithAttributes.{get-data_of, all_elsewhere, data_of-with_data, data_of-remove}
use Rattle.boot_journal.proofs.Making.{same_self, get-state, beside_state, not_keep, state_of_seen}
use Rattle.boot_journal.proofs.Single.{Single, over, one_name, unlike, same_variables, get-with_data, get-each, passed_by}

-- ---- BootNext and other variables decide nothing of the rest

abbrev bare : State → State
bare m = record m { boot_next = None; others = empty }

-- BootNext is that of the other state, or is gone
abbrev IsNextOf : State → State → Type 0
IsNextOf m n = (m.boot_next ≡ None) ⊎ (m.boot_next ≡ n.boot_next)

-- an effect is the same on the rest, leaves other variables, and keeps that BootNext is that of another state or is gone
abbrev DecidesNothing : State → Request → Code → Option ℕ → Type 0
DecidesNothing m r code told =
    (bare (effect_by (bare m) r code told) ≡ bare (effect_by m r code told)) × ((effect_by m r code told).others ≡ m.others)
    × ((n : State) → IsNextOf m n → IsNextOf (effect_by m r code told) (effect_by n r code told))

effects : (m : State) (r : Request) (code : Code) (told : Option ℕ) → DecidesNothing m r code told
effects m (Add entry option) Done told = (refl, refl, λ n is. is)
effects m (Replace entry option) Done told = (refl, refl, λ n is. is)
effects m (Remove entry) Done told = (
  refl,
  refl,
  λ n is. ⊎_elim (λ none. inl (ap (λ (x : Option ℕ). next_without x entry) none)) (λ same. inr (ap (λ (x : Option ℕ). next_without x entry) same)) is,
)
effects m (Order numbers) Done told = (refl, refl, λ n is. is)
effects m (Next entry) Done told = (refl, refl, λ n is. inr refl)
effects m (AddFree option) Done None = (refl, refl, λ n is. is)
effects m (AddFree option) Done (Some entry) = (refl, refl, λ n is. is)
effects m (AddFirst option) Done None = (refl, refl, λ n is. is)
effects m (AddFirst option) Done (Some entry) = (refl, refl, λ n is. is)
effects m (First entry) Done told = (refl, refl, λ n is. is)
effects m r Exists told = (refl, refl, λ n is. is)
effects m r Missing told = (refl, refl, λ n is. is)
effects m r OrderRepeats told = (refl, refl, λ n is. is)
effects m r OrderUnknown told = (refl, refl, λ n is. is)
effects m r NoFree told = (refl, refl, λ n is. is)

outcome_bare : (m : State) (r : Request) → outcome_of (bare m) r ≡ outcome_of m r
outcome_bare m (Add entry option) = refl
outcome_bare m (Replace entry option) = refl
outcome_bare m (Remove entry) = refl
outcome_bare m (Order numbers) = refl
outcome_bare m (Next entry) = refl
outcome_bare m (AddFree option) = refl
outcome_bare m (AddFirst option) = refl
outcome_bare m (First entry) = refl

request_bare : (m : State) (r : Request) → bare (after_request (bare m) r) ≡ bare (after_request m r)
request_bare m r =
    ap (λ (o : Outcome). bare (with_outcome (effect (bare m) r o) o)) (outcome_bare m r)
    ∙ ap (λ (s : State). with_outcome s (outcome_of m r)) (effects m r (outcome_of m r).code (outcome_of m r).entry).0

changes_bare : (m : State) (cs : List Change) → bare (after_changes (bare m) cs) ≡ bare (after_changes m cs)
changes_bare m [] = refl
changes_bare m (Applies number r ∷ cs) =
    sym (changes_bare (after_request (bare m) r) cs)
    ∙ ap (λ (s : State). bare (after_changes s cs)) (request_bare m r)
    ∙ changes_bare (after_request m r) cs
changes_bare m (BootsChange ∷ cs) = changes_bare (after_boot m) cs

request_next : (m n : State) (r : Request) → bare m ≡ bare n → IsNextOf m n → IsNextOf (after_request m r) (after_request n r)
request_next m n r alike is =
    subst (λ (o : Outcome). IsNextOf (after_request m r) (with_outcome (effect n r o) o))
    (sym (outcome_bare m r) ∙ ap (λ (s : State). outcome_of s r) alike ∙ outcome_bare n r)
    ((effects m r (outcome_of m r).code (outcome_of m r).entry).2 n is)

request_alike : (m n : State) (r : Request) → bare m ≡ bare n → bare (after_request m r) ≡ bare (after_request n r)
request_alike m n r alike = sym (request_bare m r) ∙ ap (λ (s : State). bare (after_request s r)) alike ∙ request_bare n r

changes_next : (m n : State) (cs : List Change) → bare m ≡ bare n → IsNextOf m n → IsNextOf (after_changes m cs) (after_changes n cs)
changes_next m n [] alike is = is
changes_next m n (Applies number r ∷ cs) alike is =
    changes_next (after_request m r) (after_request n r) cs (request_alike m n r alike) (request_next m n r alike is)
changes_next m n (BootsChange ∷ cs) alike is = changes_next (after_boot m) (after_boot n) cs alike (inl refl)

-- states that agree but for BootNext and other variables
pub record Alike (m n : State) : Type 0 where
  pub bares : bare m ≡ bare n
  pub next : IsNextOf m n

-- do so after a run
run_alike : (m n : State) (run : List Seen) → Alike m n → Alike (state_at m run) (state_at n run)
run_alike m n run alike = record {
  bares =
      sym (changes_bare m (history m.next_number run))
      ∙ ap (λ (s : State). bare (after_changes s (history s.next_number run))) alike.bares
      ∙ changes_bare n (history n.next_number run);
  next = subst (λ (first : ℕ). IsNextOf (state_at m run) (after_changes n (history first run))) (ap (λ (s : State). s.next_number) alike.bares)
      (changes_next m n (history m.next_number run) alike.bares alike.next);
}

pub agrees : (m n : State) → Alike m n → AgreesButForNext m n
agrees m n alike = record {
  entries = ap (λ (s : State). s.entries) alike.bares;
  order = ap (λ (s : State). s.order) alike.bares;
  next_number = ap (λ (s : State). s.next_number) alike.bares;
  kept = ap (λ (s : State). s.kept) alike.bares;
  next = alike.next;
}

-- other variables stay
changes_others : (m : State) (cs : List Change) → (after_changes m cs).others ≡ m.others
changes_others m [] = refl
changes_others m (Applies number r ∷ cs) =
    changes_others (after_request m r) cs ∙ (effects m r (outcome_of m r).code (outcome_of m r).entry).1
changes_others m (BootsChange ∷ cs) = changes_others (after_boot m) cs

-- ---- runs that go on

read_before : (seen : Seen) (before : List Seen) → AreRead (seen ∷ before) → AreRead before
read_before (Came number request) before read = read.1
read_before (Malformed fault) before read = read
read_before Prepare before read = read
read_before Hand before read = read
read_before Restart before read = read

read_over : (seen : Seen) (before other : List Seen) → AreRead (seen ∷ before) → AreRead other → AreRead (seen ∷ other)
read_over (Came number request) before other read also = (read.0, also)
read_over (Malformed fault) before other read also = also
read_over Prepare before other read also = also
read_over Hand before other read also = also
read_over Restart before other read also = also

read_first : (later run : List Seen) → AreRead (run_followed_by run later) → AreRead run
read_first [] run read = read
read_first (seen ∷ later) run read = read_before seen run (read_first later (seen ∷ run) read)

read_after : (later run other : List Seen) → AreRead (run_followed_by run later) → AreRead other → AreRead (run_followed_by other later)
read_after [] run other read also = also
read_after (seen ∷ later) run other read also =
    read_after later (seen ∷ run) (seen ∷ other) read (read_over seen run other (read_first later (seen ∷ run) read) also)

module _ (leads : (start : State) (run : List Seen) → IsState start → AreRead run → IsState (state_at start run))
    (turns : (k : Plain) (seen : Seen) → IsState k.state → (to : Plain) × (answer : Reply) × Turn k seen to answer)
    (goes_on : (k to : Plain) (start : State) (run : List Seen) (seen : Seen) (answer : Reply) → StandsFor k start run → Turn k seen to answer
    → StandsFor to start (seen ∷ run))
    (starts : (start : State) → StandsFor (plain_start start) start []) where
  stand : (start : State) (run : List Seen) → IsState start → AreRead run → (k : Plain) × StandsFor k start run
  stand start [] is read = (plain_start start, starts start)
  stand start (seen ∷ before) is read =
      let earlier = stand start before is (read_before seen before read) in
      let turn = turns earlier.0 seen (subst IsState (sym earlier.1.state) (leads start before is (read_before seen before read))) in
      (turn.0, goes_on earlier.0 turn.0 start before seen turn.1 earlier.1 turn.2)

  both_stand : (later : List Seen) (k : Plain) (start other : State) (run also : List Seen)
      → IsState start → AreRead (run_followed_by run later) → StandsFor k start run → StandsFor k other also
      → (to : Plain) × StandsFor to start (run_followed_by run later) × StandsFor to other (run_followed_by also later)
  both_stand [] k start other run also is read a b = (k, a, b)
  both_stand (seen ∷ later) k start other run also is read a b =
      let turn = turns k seen (subst IsState (sym a.state) (leads start run is (read_first (seen ∷ later) run read))) in
      both_stand later turn.0 start other (seen ∷ run) (seen ∷ also) is read (goes_on k turn.0 start run seen turn.1 a turn.2)
      (goes_on k turn.0 other also seen turn.1 b turn.2)

  -- a run after a restart is one that begins with the state then
  pub after_restart : (start : State) (earlier seen : List Seen) → IsState start → AreRead earlier → AreRead (run_followed_by [] seen) →
      state_at start (run_followed_by (Restart ∷ earlier) seen) ≡ state_at (state_at start earlier) (run_followed_by [] seen)
  after_restart start earlier seen is read also =
      let k = stand start earlier is read in
      let again = goes_on k.0 (plain_start k.0.state) start earlier Restart (reply.Restarted k.0.state.next_number) k.1 (refl, refl) in
      let anew = subst (λ (m : State). StandsFor (plain_start k.0.state) m []) k.1.state (starts k.0.state) in
      let both =
      both_stand seen (plain_start k.0.state) start (state_at start earlier) (Restart ∷ earlier) [] is
      (read_after seen [] (Restart ∷ earlier) also read) again anew in
      sym both.1.state ∙ both.2.state

-- ---- a start that deletes BootNext

marked_without : (state : Option (List ℕ)) (v : Variables) (q : List ℕ) → same_name q next_text ≡ false
    → get (with_data (remove v next_text) keep_text state) q ≡ get (with_data v keep_text state) q
marked_without state v q other =
    get-state state (remove v next_text) q
    ∙ ap (cond (same_name q keep_text) state) (get-remove nat_list_cmp_total v next_text q ∙ ap (λ n. cond n None (get v q)) other)
    ∙ sym (get-state state v q)

-- the next number and the outcomes are in BootKeepState alone
pub mark_over : (v w : Variables) (number : ℕ) (kept : List Outcome) → get w keep_text ≡ get v keep_text → HasMark v number kept → HasMark w number kept
mark_over v w number kept same mark = ⊎_elim
    (λ second. inl (record { is = second.is; stored = same ∙ second.stored }))
    (λ first. inr (record { codes = first.codes; is = first.is; kept_is = first.kept_is; stored = same ∙ first.stored }))
    mark

module _ (no_next : (number : ℕ) → entry_text number ≢ next_text) where
  pub opens_without_next : (v : Variables) (m : State) → OpensAs v m → OpensAs (remove v next_text) (after_boot m)
  opens_without_next v m opens =
      let mark = stored_mark m.next_number m.kept in record {
        is = record { entries = opens.is.entries; order = opens.is.order; next = tt; mark = opens.is.mark; others = opens.is.others };
        mark = mark_over v (remove v next_text) m.next_number m.kept (get-remove nat_list_cmp_total v next_text keep_text) opens.mark;
        image = record {
          entry =
              λ number bound. marked_without mark v (entry_text number) (unlike (entry_text number) next_text (no_next number))
              ∙ opens.image.entry number bound;
          order = marked_without mark v order_text refl ∙ opens.image.order;
          next = get-state mark (remove v next_text) next_text ∙ get-remove nat_list_cmp_total v next_text next_text;
          mark = marked_without mark v keep_text refl ∙ opens.image.mark;
          other = λ name none. marked_without mark v name (unlike name next_text (λ e. none (inr (inr (inl e))))) ∙ opens.image.other name none;
        };
      }

-- ---- names of other variables

no_boot_name : ((name : List ℕ) → (is_entry_name name ≡ true) ↔ ((number : ℕ) × (number < 2 ^ 16) × (name ≡ entry_text number)))
    → (name : List ℕ) → is_boot_name name ≡ false → same_name name keep_text ≡ false → IsBootName name → ⊥
no_boot_name names name out no_keep is =
    let no_entry = or_parts (is_entry_name name) (same_name name order_text || (same_name name next_text || same_name name timeout_text)) out in
    let no_other = or_parts (same_name name order_text) (same_name name next_text || same_name name timeout_text) no_entry.1 in
    let no_next = or_parts (same_name name next_text) (same_name name timeout_text) no_other.1 in
    let isnt = λ (q : List ℕ) (e : name ≡ q) (no : same_name name q ≡ false). true≢false (sym (same_self q) ∙ ap (λ n. same_name n q) (sym e) ∙ no) in
    ⊎_elim
    (λ entry. true≢false (sym ((names name).1 (entry.0, entry.1, entry.2)) ∙ no_entry.0))
    (λ rest. ⊎_elim
    (λ order. isnt order_text order no_other.0)
    (λ rest. ⊎_elim (λ next. isnt next_text next no_next.0) (λ keep. isnt keep_text keep no_keep) rest)
    rest) is

-- ---- what an update by requests brings

module _ (boot : (from to : Variables) (name : List ℕ) → is_boot_name name ≡ true → get (made (changes_from from to) from) name ≡ get to name)
    (others : (from to : Variables) (name : List ℕ) → is_boot_name name ≡ false → get (made (changes_from from to) from) name ≡ get from name)
    (names : (name : List ℕ) → (is_entry_name name ≡ true) ↔ ((number : ℕ) × (number < 2 ^ 16) × (name ≡ entry_text number))) where
  -- without attributes it is the set that the requests lead to
  pub brought_is : (v to : Variables) (m n : State) → KeepsState v m → IsImage n (data_of to) → n.others ≡ m.others → data_of (brought v to) ≡ data_of to
  brought_is v to m n opens image same = same_variables _ _ (λ q.
      get-data_of (brought v to) q
      ∙ ap (option_map (data_in q)) (get-state (get to keep_text) (made (changes_from v to) v) q)
      ∙ at q (same_name q keep_text) (is_boot_name q) refl refl
      ∙ sym (get-data_of to q))
    where
      at : (q : List ℕ) (keep boots : Bool) → same_name q keep_text ≡ keep → is_boot_name q ≡ boots →
          option_map (data_in q) (cond keep (get to keep_text) (get (made (changes_from v to) v) q)) ≡ option_map (data_in q) (get to q)
      at q true boots is out = ap (λ n. option_map (data_in q) (get to n)) (sym (one_name q keep_text ((Equal-is _).0 is)))
      at q false true is out = ap (option_map (data_in q)) (boot v to q out)
      at q false false is out =
          ap (option_map (data_in q)) (others v to q out)
          ∙ sym (get-data_of v q)
          ∙ sym (beside_state (stored_mark m.next_number m.kept) (data_of v) q is)
          ∙ opens.image.other q (no_boot_name names q out is)
          ∙ ap (λ x. get x q) (sym same)
          ∙ sym (image.other q (no_boot_name names q out is))
          ∙ get-data_of to q

-- ---- firmware changes other variables

module _ (names : (name : List ℕ) → (is_entry_name name ≡ true) ↔ ((number : ℕ) × (number < 2 ^ 16) × (name ≡ entry_text number))) where
  not_boot : (q : List ℕ) → is_boot_name q ≡ true → (c : Single) → IsOfAnother c → same_name q c.0 ≡ false
  not_boot q boot c is = unlike q c.0 (λ e. true≢false (sym boot ∙ ap is_boot_name e ∙ is.boot))

  entry_boot : (number : ℕ) → number < 2 ^ 16 → is_boot_name (entry_text number) ≡ true
  entry_boot number bound = or_left (is_entry_name (entry_text number)) _ ((names (entry_text number)).1 (number, bound, refl))

  order_boot : is_boot_name order_text ≡ true
  order_boot = or_right (is_entry_name order_text) true refl

  next_boot : is_boot_name next_text ≡ true
  next_boot = or_right (is_entry_name next_text) true refl

  -- other variables stay other variables
  abbrev AreOthers : Variables → Type 0
  AreOthers others = (name : List ℕ) → IfSome (get others name) (λ bytes. IsVariable (name, bytes) × (¬ IsBootName name))

  other_value : (name : List ℕ) (value : Option (List ℕ)) → IfSome value (λ bytes. IsVariable (name, bytes)) → (IsBootName name → ⊥)
      → IfSome value (λ bytes. IsVariable (name, bytes) × (¬ IsBootName name))
  other_value name None is other = tt
  other_value name (Some bytes) is other = (is, other)

  others_put : (others : Variables) (c : Single) → IsOfAnother c → AreOthers others → AreOthers (with_data others c.0 c.1)
  others_put others c is are name =
      subst (λ (x : Option (List ℕ)). IfSome x (λ bytes. IsVariable (name, bytes) × (¬ IsBootName name))) (sym (get-with_data others c.0 c.1 name))
      (by (same_name name c.0) refl)
    where
      by : (b : Bool) → same_name name c.0 ≡ b → IfSome (cond b c.1 (get others name)) (λ bytes. IsVariable (name, bytes) × (¬ IsBootName name))
      by true same =
          subst (λ (n : List ℕ). IfSome c.1 (λ bytes. IsVariable (n, bytes) × (¬ IsBootName n))) (sym (one_name name c.0 ((Equal-is _).0 same)))
          (other_value c.0 c.1 is.valid (no_boot_name names c.0 is.boot is.keep))
      by false same = are name

  others_stay : (others : Variables) (cs : List Single) → AllByRecursion IsOfAnother cs → AreOthers others → AreOthers (after_each others cs)
  others_stay others [] all are = are
  others_stay others (c ∷ cs) all are = others_stay (with_data others c.0 c.1) cs all.1 (others_put others c all.0 are)

  abbrev meddled : Variables → List Single → Variables
  meddled v cs = with_state (get v keep_text) (after_each v cs)

  -- it changes the set alike
  data_of-each : (v : Variables) (cs : List Single) → AllByRecursion IsOfAnother cs → data_of (after_each v cs) ≡ after_each (data_of v) cs
  data_of-each v [] are = refl
  data_of-each v (c ∷ cs) are =
      data_of-each (with_data v c.0 c.1) cs are.1
      ∙ ap (λ (d : Variables). after_each d cs) (data_of-with_data v c.0 c.1 ∙ ap (with_data (data_of v) c.0) (all_elsewhere c.0 c.1 are.0.boot))

  pub data_of-meddled : (v : Variables) (cs : List Single) → AllByRecursion IsOfAnother cs → data_of (meddled v cs) ≡ meddled (data_of v) cs
  data_of-meddled v cs are =
      data_of-with_data (after_each v cs) keep_text (get v keep_text)
      ∙ (λ i. with_data (data_of-each v cs are i) keep_text (sym (get-data_of v keep_text) i))

  get-meddled : (v : Variables) (cs : List Single) (q : List ℕ) → same_name q keep_text ≡ false → get (meddled v cs) q ≡ over cs q (get v q)
  get-meddled v cs q other = beside_state (get v keep_text) (after_each v cs) q other ∙ get-each cs v q

  marked_same : (mark : Option (List ℕ)) (v : Variables) (cs : List Single) (q : List ℕ) → same_name q keep_text ≡ false → over cs q (get v q) ≡ get v q →
      get (with_data (meddled v cs) keep_text mark) q ≡ get (with_data v keep_text mark) q
  marked_same mark v cs q other same =
      beside_state mark (meddled v cs) q other ∙ get-meddled v cs q other ∙ same ∙ sym (beside_state mark v q other)

  pub opens_meddled : is_boot_name keep_text ≡ false → (v : Variables) (m : State) (cs : List Single) → AllByRecursion IsOfAnother cs → OpensAs v m →
      OpensAs (meddled v cs) (record m { others = after_each m.others cs })
  opens_meddled no_keep v m cs all opens =
      let mark = stored_mark m.next_number m.kept in
      let stays = λ (q : List ℕ) (boot : is_boot_name q ≡ true). passed_by IsOfAnother cs q (get v q) all (not_boot q boot) in
      record {
        is =
            record {
              entries = opens.is.entries;
              order = opens.is.order;
              next = opens.is.next;
              mark = opens.is.mark;
              others =
                  others_stay m.others cs all opens.is.others;
            };
        mark = mark_over v (meddled v cs) m.next_number m.kept (state_of_seen (get v keep_text) (after_each v cs)) opens.mark;
        image = record {
          entry = λ number bound.
              let boot = entry_boot number bound in
              marked_same mark v cs (entry_text number) (not_keep no_keep (entry_text number) boot) (stays (entry_text number) boot)
              ∙ opens.image.entry number bound;
          order = marked_same mark v cs order_text refl (stays order_text order_boot) ∙ opens.image.order;
          next = marked_same mark v cs next_text refl (stays next_text next_boot) ∙ opens.image.next;
          mark = state_of_seen mark (meddled v cs) ∙ sym (state_of_seen mark v) ∙ opens.image.mark;
          other = λ name none.
              let apart = unlike name keep_text (λ e. none (inr (inr (inr e)))) in
              beside_state mark (meddled v cs) name apart ∙ get-meddled v cs name apart
              ∙ ap (over cs name) (sym (beside_state mark v name apart) ∙ opens.image.other name none)
              ∙ sym (get-each cs m.others name);
        };
      }

-- ---- any number of turns

pub record Applied (vars : Variables) (start : State) (run : List Seen) : Type 0 where
  pub now : State
  pub opens : KeepsState vars now
  pub alike : Alike now (state_at start run)
  pub read : AreRead run

module _ (leads : (start : State) (run : List Seen) → IsState start → AreRead run → IsState (state_at start run))
    (turns : (k : Plain) (seen : Seen) → IsState k.state → (to : Plain) × (answer : Reply) × Turn k seen to answer)
    (goes_on : (k to : Plain) (start : State) (run : List Seen) (seen : Seen) (answer : Reply) → StandsFor k start run → Turn k seen to answer
    → StandsFor to start (seen ∷ run))
    (starts : (start : State) → StandsFor (plain_start start) start [])
    (images_open : (m : State) (vars : Variables) → IsState m → IsImage m vars → OpensAs vars m)
    (no_next : (number : ℕ) → entry_text number ≢ next_text) (no_keep : is_boot_name keep_text ≡ false)
    (boot : (from to : Variables) (name : List ℕ) → is_boot_name name ≡ true → get (made (changes_from from to) from) name ≡ get to name)
    (others : (from to : Variables) (name : List ℕ) → is_boot_name name ≡ false → get (made (changes_from from to) from) name ≡ get from name)
    (names : (name : List ℕ) → (is_entry_name name ≡ true) ↔ ((number : ℕ) × (number < 2 ^ 16) × (name ≡ entry_text number))) where
  brings : (vars to : Variables) (start : State) (earlier seen run : List Seen)
      → IsState start → Applied vars start earlier → IsUpdateBy vars seen to → run ≡ run_followed_by (Restart ∷ earlier) seen
      → Applied (brought vars to) start run
  brings vars to start earlier seen run is so_far by goes =
      let n = state_at so_far.now (run_followed_by [] seen) in
      let image = by.leads so_far.now so_far.opens in
      let same =
      brought_is boot others names vars to so_far.now n so_far.opens image
      (changes_others so_far.now (history so_far.now.next_number (run_followed_by [] seen))) in
      record {
        now = n;
        opens =
            subst (λ (v : Variables). OpensAs v n) (sym same)
            (images_open n (data_of to) (leads so_far.now (run_followed_by [] seen) so_far.opens.is by.read) image);
        alike =
            subst (λ (s : State). Alike n s)
            (sym (after_restart leads turns goes_on starts start earlier seen is so_far.read by.read) ∙ ap (state_at start) (sym goes))
            (run_alike so_far.now (state_at start earlier) (run_followed_by [] seen) so_far.alike);
        read = subst AreRead (sym goes) (read_after seen [] (Restart ∷ earlier) by.read so_far.read);
      }

  boots : (deletes : Bool) (vars : Variables) (start : State) (run : List Seen) → Applied vars start run → Applied (without_next deletes vars) start run
  boots true vars start run so_far = record {
    now = after_boot so_far.now;
    opens =
        subst (λ (v : Variables). OpensAs v (after_boot so_far.now)) (sym (data_of-remove vars next_text))
        (opens_without_next no_next (data_of vars) so_far.now so_far.opens);
    alike = record { bares = so_far.alike.bares; next = inl refl };
    read = so_far.read;
  }
  boots false vars start run so_far = so_far

  pub all_applied : (vars : Variables) (ts : List Turns.Turn) (start : State) (run : List Seen) → KeepsState vars start → IsRunOf vars ts run
      → Applied (after_turns vars ts) start run
  all_applied vars [] start run opens is = record {
    now = start;
    opens = opens;
    alike = subst (λ (r : List Seen). Alike start (state_at start r)) (sym is) (record { bares = refl; next = inr refl });
    read = subst AreRead (sym is) tt;
  }
  all_applied vars (Turns.Brings to ∷ before) start run opens is =
      brings (after_turns vars before) to start is.0 is.1 run opens.is (all_applied vars before start is.0 opens is.2) is.3 is.4
  all_applied vars (Turns.Boots deletes ∷ before) start run opens is =
      boots deletes (after_turns vars before) start run (all_applied vars before start run opens is)
  all_applied vars (Turns.Meddles changes ∷ before) start run opens is =
      let so_far = all_applied vars before start run opens is.1 in
      let now = record so_far.now { others = after_each so_far.now.others changes } in record {
        now = now;
        opens = subst (λ (v : Variables). OpensAs v now) (sym (data_of-meddled names (after_turns vars before) changes is.0))
            (opens_meddled names no_keep (data_of (after_turns vars before)) so_far.now changes is.0 so_far.opens);
        alike = record { bares = so_far.alike.bares; next = so_far.alike.next };
        read = so_far.read;
      }
