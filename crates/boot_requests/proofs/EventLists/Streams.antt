-- Streams and their events: there is one of each, and if there is none, there is a fault.
use Rattle.std.proofs.Common.{◌≡◌, ◌≢◌, ◌<◌, ◌≤◌, ◌+◌, ◌^◌, ℕ, List, [], ◌∷◌, ◌++◌, length, get_or, take, drop, Option, Some, None, Result}
use Rattle.std.proofs.Common.{Ok, Err, refl, ap, sym, subst, ◌∙◌, inl, inr, arith, append-nil, length-append, take-append-drop}
use Rattle.std.specs.Prelude.{◌⊎◌, IfOk, IfErr, MatchResult, map}
use Rattle.std.specs.List.{AllByRecursion, flat_map}
use Rattle.std.proofs.lemmas.List.{take_more}
use Rattle.std.proofs.lemmas.Grind.{flat_map-append}
use Rattle.uefi_path.specs.Answer.{IsUnless}
use Rattle.uefi_path.specs.Row.{IsByte}
use Rattle.boot_requests.specs.declared.event.Event.{Event}
use Rattle.boot_requests.specs.declared.event.Event.TheVariants as event
use Rattle.boot_requests.specs.declared.fault.FeedFault.{FeedFault}
use Rattle.boot_requests.specs.declared.fault.FeedFault.TheVariants as feeding
use Rattle.boot_requests.specs.FrameFault.{Raw, IsRaw}
use Rattle.boot_requests.specs.Seen.{IsEvent}
use Rattle.boot_requests.specs.Stream.{Cut, IsCut, Kept, Feeds, IsHeaderFault, IsHeaderFaultIfAny, kept_rest, nothing_cut, feed_result}
use Rattle.boot_requests.specs.declared.script_fault.ScriptFault.{ScriptFault}
use Rattle.boot_requests.specs.declared.script_fault.ScriptFault.TheVariants as fault
use Rattle.boot_requests.specs.EventStream.{IsStream, IsStreamFault, script_fault_of, EndsIn, frame_offsets, IsStreamList}
use Rattle.boot_requests.proofs.Streams.Cuts.{one_cut, each_cut}

-- ---- no bytes have a header that is at fault

no_header : (raw : Raw) → IsRaw [] raw → ⊥
no_header raw is =
    let len = simp length-append at (ap length is.parts) in
    absurd (omega (arith, len, is.two_bytes))

no_fault_of_nothing : (f : FeedFault) → IsHeaderFault [] f → ⊥
no_fault_of_nothing feeding.BadMagic h = no_header h.raw h.is
no_fault_of_nothing feeding.BadVersion h = no_header h.raw h.is
no_fault_of_nothing feeding.TooLong h = no_header h.raw h.is
no_fault_of_nothing feeding.OutOfMemory h = h

-- ---- there is one of each

pub one_stream : (stream : List ℕ) (a b : List Event) → IsStream stream a → IsStream stream b → a ≡ b
one_stream stream a b p q =
    p.3 ∙ ap (λ (cut : Cut). map (λ delivery. event.Deliver delivery) cut.deliveries) (one_cut stream p.0 q.0 p.1 q.1) ∙ sym q.3

pub one_stream_fault : (stream : List ℕ) (f g : ScriptFault) → IsStreamFault stream f → IsStreamFault stream g → f ≡ g
one_stream_fault stream (fault.Stream f) (fault.Stream g) p q =
    let found : Some f ≡ Some g = sym p.2 ∙ ap (λ (cut : Cut). cut.fault) (one_cut stream p.0 q.0 p.1 q.1) ∙ q.2 in
    cc
one_stream_fault stream (fault.Stream f) (fault.Rest n) p q =
    let found : Some f ≡ None = sym p.2 ∙ ap (λ (cut : Cut). cut.fault) (one_cut stream p.0 q.0 p.1 q.1) ∙ q.2 in
    cc
one_stream_fault stream (fault.Rest m) (fault.Stream g) p q =
    let found : None ≡ Some g = sym p.2 ∙ ap (λ (cut : Cut). cut.fault) (one_cut stream p.0 q.0 p.1 q.1) ∙ q.2 in
    cc
one_stream_fault stream (fault.Rest m) (fault.Rest n) p q =
    ap (λ (k : ℕ). fault.Rest k) (p.3 ∙ ap (λ (cut : Cut). length cut.rest) (one_cut stream p.0 q.0 p.1 q.1) ∙ sym q.3)
one_stream_fault stream (fault.Stream f) other p q = absurd q
one_stream_fault stream (fault.Rest m) other p q = absurd q
one_stream_fault stream other g p q = absurd p

pub no_stream : (stream : List ℕ) (f : ScriptFault) (events : List Event) → IsStreamFault stream f → IsStream stream events → ⊥
no_stream stream (fault.Stream f) events p q =
    let cut = one_cut stream p.0 q.0 p.1 q.1 in
    let empty : p.0.rest ≡ [] = ap (λ (cut : Cut). cut.rest) cut ∙ q.2 in
    let bad : IsHeaderFault p.0.rest f = subst (λ (f : Option FeedFault). IsHeaderFaultIfAny p.0.rest f) p.2 p.1.fault in
    no_fault_of_nothing f (subst (λ (rest : List ℕ). IsHeaderFault rest f) empty bad)
no_stream stream (fault.Rest n) events p q =
    let empty : p.0.rest ≡ [] = ap (λ (cut : Cut). cut.rest) (one_cut stream p.0 q.0 p.1 q.1) ∙ q.2 in
    p.4 (p.3 ∙ ap length empty)
no_stream stream other events p q = absurd p

-- if a stream has a fault, a reader that tells faults of the stream alone tells that one
pub only_stream_fault : {T : Type 0} (stream : List ℕ) (r : Result T ScriptFault) (items : T → List Event) (f : ScriptFault)
    → IfOk r (λ found. IsStream stream (items found)) → IfErr r (λ g. g ≢ fault.OutOfMemory → IsStreamFault stream g) → IsStreamFault stream f
    → IsUnless r (Err f) fault.OutOfMemory
only_stream_fault stream (Ok found) items f read told bad = absurd (no_stream stream f (items found) bad read)
only_stream_fault stream (Err fault.OutOfMemory) items f read told bad = inr refl
only_stream_fault stream (Err g) items f read told bad = inl (ap (λ (h : ScriptFault). Err h) (one_stream_fault stream g f (told (λ e. cc)) bad))

-- a reader that tells faults of the stream alone reads a stream as its events
pub only_stream : {T : Type 0} (stream : List ℕ) (r : Result T ScriptFault) (items : T → List Event) (events : List Event)
    → IfOk r (λ found. IsStream stream (items found)) → IfErr r (λ g. g ≢ fault.OutOfMemory → IsStreamFault stream g) → IsStream stream events
    → MatchResult r (λ found. items found ≡ events) (λ g. g ≡ fault.OutOfMemory)
only_stream stream (Ok found) items events read told is = one_stream stream (items found) events read is
only_stream stream (Err fault.OutOfMemory) items events read told is = refl
only_stream stream (Err g) items events read told is = absurd (no_stream stream g events (told (λ e. cc)) is)

-- ---- bytes are a stream, or have a fault

by_cut : (stream : List ℕ) (cut : Cut) → IsCut stream cut → (f : Option FeedFault) (rest : List ℕ) → cut.fault ≡ f → cut.rest ≡ rest
    → ((events : List Event) × IsStream stream events) ⊎ ((g : ScriptFault) × IsStreamFault stream g)
by_cut stream cut is (Some f) rest found left = inr (fault.Stream f, (cut, is, found))
by_cut stream cut is None [] found left = inl (map (λ delivery. event.Deliver delivery) cut.deliveries, (cut, is, left, refl))
by_cut stream cut is None (byte ∷ rest) found left =
    inr (fault.Rest (length cut.rest), (cut, is, found, refl, λ none. absurd (omega (arith, none, ap length left))))

pub stream_or_fault : (stream : List ℕ) → AllByRecursion IsByte stream
    → ((events : List Event) × IsStream stream events) ⊎ ((g : ScriptFault) × IsStreamFault stream g)
stream_or_fault stream bytes =
    let found = each_cut stream bytes in
    by_cut stream found.0 found.1 found.0.fault found.0.rest refl refl

-- ---- the events of a stream are events

bytes_in_front : (xs ys : List ℕ) → AllByRecursion IsByte (xs ++ ys) → AllByRecursion IsByte xs
bytes_in_front [] ys h = tt
bytes_in_front (x ∷ xs) ys h = (h.0, bytes_in_front xs ys h.1)

bytes_behind : (xs ys : List ℕ) → AllByRecursion IsByte (xs ++ ys) → AllByRecursion IsByte ys
bytes_behind [] ys h = h
bytes_behind (x ∷ xs) ys h = bytes_behind xs ys h.1

events_of : (deliveries : List (List ℕ)) → AllByRecursion IsByte (flat_map (λ delivery. delivery) deliveries)
    → AllByRecursion IsEvent (map (λ delivery. event.Deliver delivery) deliveries)
events_of [] h = tt
events_of (delivery ∷ deliveries) h =
    let more = flat_map (λ delivery. delivery) deliveries in
    (bytes_in_front delivery more h, events_of deliveries (bytes_behind delivery more h))

-- ---- what was fed at once

no_other : (rest : List ℕ) (f : Option FeedFault) → feed_result f ≡ Ok tt → (f ≡ None) × (kept_rest f rest ≡ rest)
no_other rest None e = (refl, refl)
no_other rest (Some f) e = cc

this_fault : (f : Option FeedFault) (g : FeedFault) → feed_result f ≡ Err g → f ≡ Some g
this_fault None g e = cc
this_fault (Some f) g e = cc

nothing_held : (rest : List ℕ) → length rest ≡ 0 → rest ≡ []
nothing_held [] e = refl
nothing_held (x ∷ rest) e = absurd (omega arith)

-- the stream is cut into these deliveries, and behind them is this fault, or nothing
abbrev pub CutsInto : List ℕ → List (List ℕ) → Option ScriptFault → Type 0
CutsInto stream frames found = (cut : Cut) × IsCut stream cut × (cut.deliveries ≡ frames) × EndsIn cut found

module _ (stream : List ℕ) (kept : Kept) (old new : List (List ℕ)) (empty : old ≡ []) where
  given : (answer : Result (Unit {0}) FeedFault) (feeds : Feeds [] nothing_cut stream kept old new answer) → feeds.after.deliveries ≡ new
  given answer feeds = feeds.deliveries ∙ sym (feeds.appended ∙ ap (λ (l : List (List ℕ)). l ++ feeds.given) empty)

  -- the whole stream was cut, and no header is at fault
  module _ (feeds : Feeds [] nothing_cut stream kept old new (Ok tt)) (held : ℕ) (len : held ≡ length kept.rest) where
    left : feeds.after.rest ≡ kept.rest
    left = sym (ap (λ (k : Kept). k.rest) feeds.stands ∙ (no_other feeds.after.rest feeds.after.fault (sym feeds.answered)).1)

    pub fed_whole : held ≡ 0 → CutsInto stream new None
    fed_whole none = (feeds.after, feeds.is, given (Ok tt) feeds, left ∙ nothing_held kept.rest (sym len ∙ none))

    pub fed_rest : held ≢ 0 → CutsInto stream new (Some (fault.Rest held))
    fed_rest some =
        (feeds.after, feeds.is, given (Ok tt) feeds, ((no_other feeds.after.rest feeds.after.fault (sym feeds.answered)).0, len ∙ sym (ap length left), some))

  pub fed_fault : (f : FeedFault) (made : ScriptFault)
      → (feed_result (Some f) ≢ feed_result (Some feeding.OutOfMemory) → Feeds [] nothing_cut stream kept old new (feed_result (Some f)))
      → made ≡ script_fault_of f → made ≢ fault.OutOfMemory → CutsInto stream new (Some made)
  fed_fault feeding.OutOfMemory made feeds is other = absurd (other is)
  fed_fault f made feeds is other =
      let fed = feeds (λ e. cc) in
      (fed.after, fed.is, given (Err f) fed, subst (λ (g : ScriptFault). EndsIn fed.after (Some g)) (sym is) (this_fault fed.after.fault f (sym fed.answered)))

-- the fault isn't a rest
pub no_rest : (f : FeedFault) (made : ScriptFault) (count : ℕ) → made ≡ script_fault_of f → made ≡ fault.Rest count → ⊥
no_rest feeding.OutOfMemory made count is e = cc
no_rest feeding.BadMagic made count is e = cc
no_rest feeding.BadVersion made count is e = cc
no_rest feeding.TooLong made count is e = cc

-- ---- where frames are

abbrev pub joined : List (List ℕ) → List ℕ
joined frames = flat_map (λ frame. frame) frames

joined_len : (frames : List (List ℕ)) (frame : List ℕ) → length (joined (frames ++ frame ∷ [])) ≡ length (joined frames) + length frame
joined_len [] frame = omega (arith, ap length (append-nil frame))
joined_len (first ∷ frames) frame =
    omega (arith, joined_len frames frame, length-append first (joined (frames ++ frame ∷ [])), length-append first (joined frames))

offsets_last : (start : ℕ) (frames : List (List ℕ)) (frame : List ℕ)
    → frame_offsets start (frames ++ frame ∷ []) ≡ frame_offsets start frames ++ (start + length (joined frames)) ∷ []
offsets_last start [] frame = let same : start ≡ start + 0 = omega arith in ap (λ (n : ℕ). n ∷ []) same
offsets_last start (first ∷ frames) frame =
    let same : start + length first + length (joined frames) ≡ start + length (joined (first ∷ frames)) = omega (arith, length-append first (joined frames)) in
    ap (λ (ns : List ℕ). start ∷ ns)
    (offsets_last (start + length first) frames frame ∙ ap (λ (n : ℕ). frame_offsets (start + length first) frames ++ n ∷ []) same)

-- the offset of each of the first frames, and that of their end
pub record AreOffsets (frames : List (List ℕ)) (places : List ℕ) (end : ℕ) : Type 0 where
  pub places_are : places ≡ frame_offsets 0 frames
  pub end_is : end ≡ length (joined frames)

pub offsets_more : (frames : List (List ℕ)) (index : ℕ) (frame : List ℕ) (places more : List ℕ) (end next : ℕ) → index < length frames
    → frame ≡ get_or frames index frame
    → AreOffsets (take index frames) places end → more ≡ places ++ end ∷ [] → next ≡ end + length frame → AreOffsets (take (index + 1) frames) more next
offsets_more frames index frame places more end next below here so_far is after =
    let one_more : take (index + 1) frames ≡ take index frames ++ frame ∷ [] =
    take_more frames index frame below ∙ ap (λ (f : List ℕ). take index frames ++ f ∷ []) (sym here) in
    let front = take index frames in
    let same : end ≡ 0 + length (joined front) = omega (arith, so_far.end_is) in
    subst (λ (fs : List (List ℕ)). AreOffsets fs more next) (sym one_more) (record {
      places_are = is ∙ ap (λ (ns : List ℕ). ns ++ end ∷ []) so_far.places_are ∙ ap (λ (n : ℕ). frame_offsets 0 front ++ n ∷ []) same
          ∙ sym (offsets_last 0 front frame);
      end_is = omega (arith, after, so_far.end_is, joined_len front frame);
    })

-- no offset is above the length of all frames
pub offsets_fit : (frames : List (List ℕ)) (index : ℕ) (frame : List ℕ) → index < length frames → frame ≡ get_or frames index frame
    → length (joined (take index frames)) + length frame ≤ length (joined frames)
offsets_fit frames index frame below here =
    let one_more : take (index + 1) frames ≡ take index frames ++ frame ∷ [] =
    take_more frames index frame below ∙ ap (λ (f : List ℕ). take index frames ++ f ∷ []) (sym here) in
    let parts : joined frames ≡ joined (take (index + 1) frames) ++ joined (drop (index + 1) frames) =
    ap joined (sym (take-append-drop (index + 1) frames)) ∙ flat_map-append (λ (f : List ℕ). f) (take (index + 1) frames) (drop (index + 1) frames) in
    omega (
      arith,
      joined_len (take index frames) frame,
      ap (λ (fs : List (List ℕ)). length (joined fs)) one_more,
      ap length parts,
      length-append (joined (take (index + 1) frames)) (joined (drop (index + 1) frames)),
    )

-- what is cut fits a number of eight bytes if the stream does
pub deliveries_fit : (stream : List ℕ) (frames : List (List ℕ)) (found : Option ScriptFault) → length stream < 2 ^ 64 → CutsInto stream frames found
    → length (joined frames) < 2 ^ 64
deliveries_fit stream frames found fits cuts =
    let parts = ap length cuts.1.parts in
    omega (arith, fits, parts, length-append (joined cuts.0.deliveries) cuts.0.rest, ap (λ (fs : List (List ℕ)). length (joined fs)) cuts.2)

-- ---- a stream's list, as its events or its fault

pub list_of : (stream : List ℕ) (frames : List (List ℕ)) (found : Option ScriptFault) (events : List Event) (places : List ℕ) (end : ℕ)
    → CutsInto stream frames found
    → events ≡ map (λ frame. event.Deliver frame) frames → places ≡ frame_offsets 0 frames → end ≡ length (joined frames)
    → IsStreamList stream events places end found
list_of stream frames found events places end cuts events_are places_are end_is = record {
  cut = cuts.0;
  is = cuts.1;
  events_are = events_are ∙ ap (λ (fs : List (List ℕ)). map (λ frame. event.Deliver frame) fs) (sym cuts.2);
  places_are = places_are ∙ ap (frame_offsets 0) (sym cuts.2);
  end_is = end_is ∙ ap (λ (fs : List (List ℕ)). length (joined fs)) (sym cuts.2);
  fault = cuts.3;
}

module _ (stream : List ℕ) (events : List Event) (places : List ℕ) (end : ℕ) (found : Option ScriptFault)
    (is : IsStreamList stream events places end found) where
  pub list_valid : AllByRecursion IsByte stream → AllByRecursion IsEvent events
  list_valid bytes =
      let parts = subst (λ (t : List ℕ). AllByRecursion IsByte t) is.is.parts bytes in
      subst (λ (es : List Event). AllByRecursion IsEvent es) (sym is.events_are)
      (events_of is.cut.deliveries (bytes_in_front (joined is.cut.deliveries) is.cut.rest parts))

  pub list_stream : {T : Type 0} (r : Result T ScriptFault) (items : T → List Event) → IfOk r (λ x. (found ≡ None) × (items x ≡ events))
      → IfOk r (λ x. IsStream stream (items x))
  list_stream (Ok x) items h =
      let whole = subst (λ (f : Option ScriptFault). EndsIn is.cut f) h.0 is.fault in
      (is.cut, is.is, whole, h.1 ∙ is.events_are)
  list_stream (Err f) items h = tt

  of_fault : (f : ScriptFault) → EndsIn is.cut (Some f) → IsStreamFault stream f
  of_fault (fault.Stream g) ends = (is.cut, is.is, ends)
  of_fault (fault.Rest count) ends = (is.cut, is.is, ends.0, ends.1, ends.2)
  of_fault f ends = absurd ends

  pub list_stream_fault : {T : Type 0} (r : Result T ScriptFault) → IfErr r (λ f. found ≡ Some f)
      → IfErr r (λ f. f ≢ fault.OutOfMemory → IsStreamFault stream f)
  list_stream_fault (Ok x) h = tt
  list_stream_fault (Err f) h = λ other. of_fault f (subst (λ (o : Option ScriptFault). EndsIn is.cut o) h is.fault)

-- a rest is less than a bound if it is in the list
pub list_rest : {T : Type 0} (found : Option ScriptFault) (most : ℕ) (r : Result T ScriptFault)
    → ((count : ℕ) → found ≡ Some (fault.Rest count) → count < most)
    → IfErr r (λ f. found ≡ Some f) → IfErr r (λ f. (count : ℕ) → f ≡ fault.Rest count → count < most)
list_rest found most (Ok x) bound h = tt
list_rest found most (Err f) bound h = λ count is. bound count (h ∙ ap (λ (g : ScriptFault). Some g) is)
