-- Scripts and their events: there is one of each.
use Rattle.std.proofs.Common.{◌≡◌, ◌≢◌, ◌<◌, ◌≤◌, ◌+◌, ℕ, suc, List, Option, Some, None, Result, Err, [], ◌∷◌, ◌++◌, length, refl, ap, sym}
use Rattle.std.proofs.Common.{subst, ◌∙◌, inl, inr, arith, append_assoc, length-append}
use Rattle.std.specs.Prelude.{codes, Ok, IfOk, IfErr, MatchOption, MatchResult}
use Rattle.uefi_path.specs.Answer.{IsUnless}
use Rattle.boot_requests.specs.declared.script_fault.ScriptFault.{ScriptFault}
use Rattle.boot_requests.specs.declared.script_fault.ScriptFault.TheVariants as fault
use Rattle.std.specs.declared.alloc.AllocError.{AllocError}
use Rattle.std.specs.List.{AllByRecursion}
use Rattle.hex.specs.Hex.{decode_of}
use Rattle.hex.proofs.HexLemmas.{decode_of-ok}
use Rattle.uefi_path.specs.Row.{IsByte}
use Rattle.boot_requests.specs.declared.event.Event.{Event}
use Rattle.boot_requests.specs.declared.event.Event.TheVariants as event
use Rattle.boot_requests.specs.Seen.{IsEvent}
use Rattle.boot_requests.specs.Script.{lines_of, Tells, TellOf, IsScript, IsScriptLine, IsFirstBadLine, IsLineFault, line_numbers, IsScriptList}
use Rattle.boot_requests.specs.Lines.{AppendsEvents}
use Rattle.uefi_vars.proofs.Bytes.{recursion_from_bytes, AllByRecursion-append}

-- the byte at which a line begins
front : List ℕ → ℕ
front [] = 0
front (byte ∷ line) = byte

-- that of a line that tells of the event
front_of : Event → ℕ
front_of (event.Deliver bytes) = 100
front_of event.Prepare = 112
front_of event.Hand = 104
front_of event.Restart = 114

front_is : (line : List ℕ) (event : Event) → Tells line event → front line ≡ front_of event
unfolding front front_of
front_is line (event.Deliver bytes) p = ap front p.1
front_is line event.Prepare p = ap front p
front_is line event.Hand p = ap front p
front_is line event.Restart p = ap front p

same_front : (line : List ℕ) (a b : Event) → Tells line a → Tells line b → front_of a ≡ front_of b
same_front line a b p q = sym (front_is line a p) ∙ front_is line b q

-- a line tells of one event
pub one_event : (line : List ℕ) (a b : Event) → Tells line a → Tells line b → a ≡ b
unfolding front_of
one_event line (event.Deliver x) (event.Deliver y) p q =
    let line_x : line ≡ codes "deliver " ++ p.0 = p.1 in
    let line_y : line ≡ codes "deliver " ++ q.0 = q.1 in
    let digits : p.0 ≡ q.0 = cc in
    let bytes : Ok x ≡ Ok y = sym p.2 ∙ ap decode_of digits ∙ q.2 in
    cc
one_event line (event.Deliver x) event.Prepare p q =
    let m : ℕ = 100 in let n : ℕ = 112 in let e : m ≡ n = same_front line (event.Deliver x) event.Prepare p q in absurd (omega arith)
one_event line (event.Deliver x) event.Hand p q =
    let m : ℕ = 100 in let n : ℕ = 104 in let e : m ≡ n = same_front line (event.Deliver x) event.Hand p q in absurd (omega arith)
one_event line (event.Deliver x) event.Restart p q =
    let m : ℕ = 100 in let n : ℕ = 114 in let e : m ≡ n = same_front line (event.Deliver x) event.Restart p q in absurd (omega arith)
one_event line event.Prepare (event.Deliver y) p q =
    let m : ℕ = 112 in let n : ℕ = 100 in let e : m ≡ n = same_front line event.Prepare (event.Deliver y) p q in absurd (omega arith)
one_event line event.Prepare event.Prepare p q = refl
one_event line event.Prepare event.Hand p q =
    let m : ℕ = 112 in let n : ℕ = 104 in let e : m ≡ n = same_front line event.Prepare event.Hand p q in absurd (omega arith)
one_event line event.Prepare event.Restart p q =
    let m : ℕ = 112 in let n : ℕ = 114 in let e : m ≡ n = same_front line event.Prepare event.Restart p q in absurd (omega arith)
one_event line event.Hand (event.Deliver y) p q =
    let m : ℕ = 104 in let n : ℕ = 100 in let e : m ≡ n = same_front line event.Hand (event.Deliver y) p q in absurd (omega arith)
one_event line event.Hand event.Prepare p q =
    let m : ℕ = 104 in let n : ℕ = 112 in let e : m ≡ n = same_front line event.Hand event.Prepare p q in absurd (omega arith)
one_event line event.Hand event.Hand p q = refl
one_event line event.Hand event.Restart p q =
    let m : ℕ = 104 in let n : ℕ = 114 in let e : m ≡ n = same_front line event.Hand event.Restart p q in absurd (omega arith)
one_event line event.Restart (event.Deliver y) p q =
    let m : ℕ = 114 in let n : ℕ = 100 in let e : m ≡ n = same_front line event.Restart (event.Deliver y) p q in absurd (omega arith)
one_event line event.Restart event.Prepare p q =
    let m : ℕ = 114 in let n : ℕ = 112 in let e : m ≡ n = same_front line event.Restart event.Prepare p q in absurd (omega arith)
one_event line event.Restart event.Hand p q =
    let m : ℕ = 114 in let n : ℕ = 104 in let e : m ≡ n = same_front line event.Restart event.Hand p q in absurd (omega arith)
one_event line event.Restart event.Restart p q = refl

-- lines tell of one list of events
one_list : (lines : List (List ℕ)) (a b : List Event) → TellOf lines a → TellOf lines b → a ≡ b
one_list [] a b p q = p ∙ sym q
one_list ([] ∷ lines) a b p q = one_list lines a b p q
one_list ((c ∷ line) ∷ lines) [] b p q = absurd p
one_list ((c ∷ line) ∷ lines) (x ∷ a) [] p q = absurd q
one_list ((c ∷ line) ∷ lines) (x ∷ a) (y ∷ b) p q =
    let head = one_event (c ∷ line) x y p.0 q.0 in
    let tail = one_list lines a b p.1 q.1 in
    cc

pub one_script : (text : List ℕ) (a b : List Event) → IsScript text a → IsScript text b → a ≡ b
one_script text a b p q = one_list (lines_of text) a b p q

-- lines that tell of events are those of a script
told_lines : (lines : List (List ℕ)) (events : List Event) → TellOf lines events → AllByRecursion IsScriptLine lines
told_lines [] events p = tt
told_lines ([] ∷ lines) events p = (inl refl, told_lines lines events p)
told_lines ((c ∷ line) ∷ lines) [] p = absurd p
told_lines ((c ∷ line) ∷ lines) (x ∷ events) p = (inr (x, p.0), told_lines lines events p.1)

-- what holds of each holds of the one in the middle
middle : {X : Type 0} (P : X → Type 0) (before : List X) (x : X) (after : List X) → AllByRecursion P (before ++ x ∷ after) → P x
middle P [] x after all = all.0
middle P (y ∷ before) x after all = middle P before x after all.1

pub no_script : (text : List ℕ) (number : ℕ) (events : List Event) → IsFirstBadLine text number → IsScript text events → ⊥
no_script text number events bad script =
    let all = told_lines (lines_of text) events script in
    let P : List (List ℕ) → Type 0 = λ lines. AllByRecursion IsScriptLine lines in
    bad.is_bad (middle IsScriptLine bad.before bad.bad bad.after (subst P bad.lines all))

-- the first of a list that isn't good is at one place
one_place : {X : Type 0} (P : X → Type 0) (a : List X) (x : X) (as' : List X) (b : List X) (y : X) (bs : List X)
    → AllByRecursion P a → AllByRecursion P b → ¬ P x → ¬ P y → a ++ x ∷ as' ≡ b ++ y ∷ bs → length a ≡ length b
one_place P [] x as' [] y bs p q no_x no_y e = refl
one_place P [] x as' (z ∷ b) y bs p q no_x no_y e =
    let head : z ≡ x = cc in absurd (no_x (subst P head q.0))
one_place P (z ∷ a) x as' [] y bs p q no_x no_y e =
    let head : z ≡ y = cc in absurd (no_y (subst P head p.0))
one_place P (z ∷ a) x as' (w ∷ b) y bs p q no_x no_y e =
    let tail : a ++ x ∷ as' ≡ b ++ y ∷ bs = cc in
    let rest = one_place P a x as' b y bs p.1 q.1 no_x no_y tail in
    omega (arith, rest)

pub one_bad_line : (text : List ℕ) (m n : ℕ) → IsFirstBadLine text m → IsFirstBadLine text n → m ≡ n
one_bad_line text m n p q =
    let place = one_place IsScriptLine p.before p.bad p.after q.before q.bad q.after p.good q.good p.is_bad q.is_bad (sym p.lines ∙ q.lines) in
    omega (arith, place, p.at, q.at)

-- ---- reading line by line

told_more : (a b : List (List ℕ)) (xs ys : List Event) → TellOf a xs → TellOf b ys → TellOf (a ++ b) (xs ++ ys)
told_more [] b xs ys p q = let P : List Event → Type 0 = λ events. TellOf b (events ++ ys) in subst P (sym p) q
told_more ([] ∷ a) b xs ys p q = told_more a b xs ys p q
told_more ((c ∷ line) ∷ a) b [] ys p q = absurd p
told_more ((c ∷ line) ∷ a) b (x ∷ xs) ys p q = (p.0, told_more a b xs ys p.1 q)

-- the numbers of more lines, after those of the first ones
numbers_more : (number : ℕ) (a b : List (List ℕ)) → line_numbers number (a ++ b) ≡ line_numbers number a ++ line_numbers (number + length a) b
numbers_more number [] b = let same : number ≡ number + 0 = omega arith in ap (λ (n : ℕ). line_numbers n b) same
numbers_more number ([] ∷ a) b =
    let same : number + 1 + length a ≡ number + suc (length a) = omega arith in
    numbers_more (number + 1) a b ∙ ap (λ (n : ℕ). line_numbers (number + 1) a ++ line_numbers n b) same
numbers_more number ((c ∷ line) ∷ a) b =
    let same : number + 1 + length a ≡ number + suc (length a) = omega arith in
    ap (λ (ns : List ℕ). number ∷ ns) (numbers_more (number + 1) a b ∙ ap (λ (n : ℕ). line_numbers (number + 1) a ++ line_numbers n b) same)

numbers_next : (before : List (List ℕ)) (line : List ℕ) (number : ℕ) (places more : List ℕ) → places ≡ line_numbers 1 before → number ≡ length before + 1
    → more ≡ places ++ line_numbers number (line ∷ []) → more ≡ line_numbers 1 (before ++ line ∷ [])
numbers_next before line number places more so_far at is =
    let same : number ≡ 1 + length before = omega (arith, at) in
    is ∙ ap (λ (ns : List ℕ). ns ++ line_numbers number (line ∷ [])) so_far ∙ ap (λ (n : ℕ). line_numbers 1 before ++ line_numbers n (line ∷ [])) same
    ∙ sym (numbers_more 1 before (line ∷ []))

-- this many lines were read, which told of the events, and the rest of the text has the others
pub record IsReading (text rest : List ℕ) (events : List Event) (places : List ℕ) (number : ℕ) : Type 0 where
  pub before : List (List ℕ)
  pub lines : lines_of text ≡ before ++ lines_of rest
  pub told : TellOf before events
  pub valid : AllByRecursion IsEvent events
  pub places_are : places ≡ line_numbers 1 before
  pub at : number ≡ length before + 1
  pub len : length before + length rest ≤ length text

module _ (text rest : List ℕ) (events new : List Event) (places more : List ℕ) (number : ℕ) (line : List ℕ)
    (so_far : IsReading text rest events places number) where
  told_next : AppendsEvents line number events new places more → TellOf (so_far.before ++ line ∷ []) new
  told_next appends =
      let P : List Event → Type 0 = λ events. TellOf (so_far.before ++ line ∷ []) events in
      subst P (sym appends.items) (told_more so_far.before (line ∷ []) events appends.events so_far.told appends.told)

  valid_next : AppendsEvents line number events new places more → AllByRecursion IsEvent new
  valid_next appends =
      let P : List Event → Type 0 = λ events. AllByRecursion IsEvent events in
      subst P (sym appends.items) (AllByRecursion-append IsEvent events appends.events so_far.valid appends.valid)

  pub reading_more : (next : ℕ) (others : List ℕ) → lines_of rest ≡ line ∷ lines_of others → length others < length rest
      → AppendsEvents line number events new places more → next ≡ number + 1 → IsReading text others new more next
  reading_more next others cut shorter appends one_more = record {
    before = so_far.before ++ line ∷ [];
    lines = so_far.lines ∙ ap (λ (lines : List (List ℕ)). so_far.before ++ lines) cut ∙ sym (append_assoc so_far.before (line ∷ []) (lines_of others));
    told = told_next appends;
    valid = valid_next appends;
    places_are = numbers_next so_far.before line number places more so_far.places_are so_far.at appends.places_are;
    at = let len = length-append so_far.before (line ∷ []) in omega (arith, len, so_far.at, one_more);
    len = let len = length-append so_far.before (line ∷ []) in omega (arith, len, so_far.len, shorter);
  }

  -- the last line is read
  pub reading_ends : lines_of rest ≡ line ∷ [] → AppendsEvents line number events new places more
      → IsScriptList text new more number None × AllByRecursion IsEvent new
  reading_ends cut appends =
      let all : lines_of text ≡ so_far.before ++ line ∷ [] = so_far.lines ∙ ap (λ (lines : List (List ℕ)). so_far.before ++ lines) cut in (
        (
          subst (λ (lines : List (List ℕ)). TellOf lines new) (sym all) (told_next appends),
          numbers_next so_far.before line number places more so_far.places_are so_far.at appends.places_are ∙ ap (line_numbers 1) (sym all),
          (let len = length-append so_far.before (line ∷ []) in omega (arith, len, so_far.at, ap length all)),
        ),
        valid_next appends,
      )

  -- a line is read that isn't one of a script
  pub reading_fails : (after : List (List ℕ)) → lines_of rest ≡ line ∷ after → ¬ IsScriptLine line → new ≡ events → more ≡ places
      → IsScriptList text new more number (Some (fault.BadLine number)) × AllByRecursion IsEvent new
  reading_fails after cut bad same places_same =
      let first : IsFirstBadLine text number = record {
        before = so_far.before;
        bad = line;
        after = after;
        lines = so_far.lines ∙ ap (λ (lines : List (List ℕ)). so_far.before ++ lines) cut;
        good = told_lines so_far.before events so_far.told;
        is_bad = bad;
        at = so_far.at;
      } in (
        (first, subst (λ (es : List Event). TellOf so_far.before es) (sym same) so_far.told, places_same ∙ so_far.places_are, refl),
        subst (λ (es : List Event). AllByRecursion IsEvent es) (sym same) so_far.valid,
      )

-- ---- one line

-- a line that isn't empty and tells of no event isn't one of a script
pub no_line : (line : List ℕ) → length line ≢ 0 → ((event : Event) → Tells line event → ⊥) → IsScriptLine line → ⊥
no_line line some none (inl empty) = some (ap length empty)
no_line line some none (inr told) = none told.0 told.1

-- ---- what a line tells of

-- decoded digits are bytes
pub decoded_bytes : (digits bytes : List ℕ) → decode_of digits ≡ Ok bytes → AllByRecursion IsByte bytes
decoded_bytes digits bytes decoded = recursion_from_bytes bytes (decode_of-ok digits bytes decoded).3

pub no_event : (line : List ℕ) → line ≢ codes "prepare" → line ≢ codes "hand" → line ≢ codes "restart"
    → ((bytes : List ℕ) → Tells line (event.Deliver bytes) → ⊥)
    → (event : Event) → Tells line event → ⊥
no_event line prepare hand restart deliver (event.Deliver bytes) told = deliver bytes told
no_event line prepare hand restart deliver event.Prepare told = prepare told
no_event line prepare hand restart deliver event.Hand told = hand told
no_event line prepare hand restart deliver event.Restart told = restart told

-- a line that isn't a single word tells of a delivery, or of nothing
pub delivery_or_none : (line : List ℕ) (r : Result (Option Event) AllocError) → line ≢ codes "prepare" → line ≢ codes "hand" → line ≢ codes "restart"
    → IfOk r (λ found. MatchOption found ((bytes : List ℕ) → Tells line (event.Deliver bytes) → ⊥) (λ event. Tells line event × IsEvent event))
    → IfOk r (λ found. MatchOption found ((event : Event) → Tells line event → ⊥) (λ event. Tells line event × IsEvent event))
delivery_or_none line (Ok None) prepare hand restart h = no_event line prepare hand restart h
delivery_or_none line (Ok (Some event)) prepare hand restart h = h
delivery_or_none line (Err e) prepare hand restart h = h

-- if a text has a bad line, a reader that tells faults of the text alone tells that one
pub only_bad_line : {T : Type 0} (text : List ℕ) (r : Result T ScriptFault) (items : T → List Event) (number : ℕ)
    → IfOk r (λ found. IsScript text (items found)) → IfErr r (λ f. f ≢ fault.OutOfMemory → IsLineFault text f) → IsFirstBadLine text number
    → IsUnless r (Err (fault.BadLine number)) fault.OutOfMemory
only_bad_line text (Ok found) items number script told bad = absurd (no_script text number (items found) bad script)
only_bad_line text (Err (fault.BadLine other)) items number script told bad =
    inl (ap (λ (n : ℕ). Err (fault.BadLine n)) (one_bad_line text other number (told (λ e. cc)) bad))
only_bad_line text (Err fault.OutOfMemory) items number script told bad = inr refl
only_bad_line text (Err other) items number script told bad = absurd (told (λ e. cc))

-- if a text is a script, such a reader reads it as its events
pub only_script : {T : Type 0} (text : List ℕ) (r : Result T ScriptFault) (items : T → List Event) (events : List Event)
    → IfOk r (λ found. IsScript text (items found)) → IfErr r (λ f. f ≢ fault.OutOfMemory → IsLineFault text f) → IsScript text events
    → MatchResult r (λ found. items found ≡ events) (λ f. f ≡ fault.OutOfMemory)
only_script text (Ok found) items events read told is = one_script text (items found) events read is
only_script text (Err fault.OutOfMemory) items events read told is = refl
only_script text (Err (fault.BadLine number)) items events read told is = absurd (no_script text number events (told (λ e. cc)) is)
only_script text (Err other) items events read told is = absurd (told (λ e. cc))

-- ---- a text's list, as its events or its fault

module _ (text : List ℕ) (events : List Event) (places : List ℕ) (end : ℕ) (found : Option ScriptFault) (is : IsScriptList text events places end found) where
  pub list_script : {T : Type 0} (r : Result T ScriptFault) (items : T → List Event) → IfOk r (λ x. (found ≡ None) × (items x ≡ events))
      → IfOk r (λ x. IsScript text (items x))
  list_script (Ok x) items h =
      let list = subst (λ (f : Option ScriptFault). IsScriptList text events places end f) h.0 is in
      subst (λ (es : List Event). IsScript text es) (sym h.1) list.0
  list_script (Err f) items h = tt

  of_fault : (f : ScriptFault) → IsScriptList text events places end (Some f) → IsLineFault text f
  of_fault (fault.BadLine number) list = list.0
  of_fault f list = absurd list

  pub list_line_fault : {T : Type 0} (r : Result T ScriptFault) → IfErr r (λ f. found ≡ Some f) → IfErr r (λ f. f ≢ fault.OutOfMemory → IsLineFault text f)
  list_line_fault (Ok x) h = tt
  list_line_fault (Err f) h = λ other. of_fault f (subst (λ (o : Option ScriptFault). IsScriptList text events places end o) h is)

-- the events of a list are events
pub list_events : {T : Type 0} (events : List Event) (found : Option ScriptFault) (r : Result T ScriptFault) (items : T → List Event)
    → AllByRecursion IsEvent events
    → IfOk r (λ x. (found ≡ None) × (items x ≡ events)) → IfOk r (λ x. AllByRecursion IsEvent (items x))
list_events events found (Ok x) items valid h = subst (λ (es : List Event). AllByRecursion IsEvent es) (sym h.1) valid
list_events events found (Err f) items valid h = tt
