-- Pieces of streams: what is cut while one comes, and what is held then.
use Rattle.std.proofs.Common.{◌≡◌, ◌≢◌, ℕ, ◌+◌, ◌<◌, ◌≤◌, List, [], ◌∷◌, ◌++◌, length, take, inl, refl, sym, ap, subst, ◌∙◌, arith, append_assoc}
use Rattle.std.proofs.lemmas.List.{append-nil, length-append, take_at, same_from_push}
use Rattle.std.proofs.Math.Seq.{take-append-add}
use Rattle.std.proofs.lemmas.List.Concat.{flat_map-append}
use Rattle.uefi_vars.proofs.Bytes.{AllByRecursion-append}
use Rattle.boot_requests.specs.Stream.{IsDelivery}
use Rattle.boot_requests.specs.declared.fault.FeedFault.{FeedFault}
use Rattle.boot_requests.specs.Stream.{IsHeaderFault}
use Rattle.boot_requests.specs.Pieces.{IsMissing, IsOpen, Cuts, Begins, first_of}
use Rattle.boot_requests.proofs.Streams.Headers.{fault_more, open_of_missing, delivery_is}
use Rattle.boot_requests.proofs.Streams.Cuts.{joined}

-- ---- what was cut

pub nothing_cut_yet : (bytes : List ℕ) (old : List (List ℕ)) → Cuts bytes old old bytes
nothing_cut_yet bytes old = record { given = []; appended = sym (append-nil old); deliveries = tt; parts = refl }

pub cuts_at : (bytes held front behind rest : List ℕ) (old new : List (List ℕ)) → rest ≡ front ++ behind → Cuts bytes old new (held ++ rest) →
    Cuts bytes old new ((held ++ front) ++ behind)
cuts_at bytes held front behind rest old new split h =
    subst (λ (t : List ℕ). Cuts bytes old new t) (ap (λ (t : List ℕ). held ++ t) split ∙ sym (append_assoc held front behind)) h

pub cuts_more : (bytes whole behind : List ℕ) (old new : List (List ℕ)) → IsDelivery whole → Cuts bytes old new (whole ++ behind) →
    Cuts bytes old (new ++ whole ∷ []) behind
cuts_more bytes whole behind old new is h =
    let more = flat_map-append (λ delivery. delivery) h.given (whole ∷ []) ∙ ap (λ (t : List ℕ). joined h.given ++ t) (append-nil whole) in
    record {
      given = h.given ++ whole ∷ [];
      appended = ap (λ (t : List (List ℕ)). t ++ whole ∷ []) h.appended ∙ append_assoc old h.given (whole ∷ []);
      deliveries = AllByRecursion-append IsDelivery h.given (whole ∷ []) h.deliveries (is, tt);
      parts = h.parts ∙ sym (append_assoc (joined h.given) whole behind) ∙ ap (λ (t : List ℕ). t ++ behind) (sym more);
    }

-- ---- what was held before

more_held : (before held front behind : List ℕ) (old new given : List (List ℕ)) → new ≡ old ++ given → first_of given held ≡ before ++ behind →
    Begins before old new (held ++ front)
more_held before held front behind old new [] appended first =
    record { given = []; appended = appended; behind = behind ++ front; first = ap (λ (t : List ℕ). t ++ front) first ∙ append_assoc before behind front }
more_held before held front behind old new (d ∷ ds) appended first = record { given = d ∷ ds; appended = appended; behind = behind; first = first }

first_given : (given : List (List ℕ)) (whole held : List ℕ) → first_of (given ++ whole ∷ []) held ≡ first_of given whole
first_given [] whole held = refl
first_given (d ∷ ds) whole held = refl

pub begins_given : (before whole held : List ℕ) (old new : List (List ℕ)) → Begins before old new whole → Begins before old (new ++ whole ∷ []) held
begins_given before whole held old new h = record {
  given = h.given ++ whole ∷ [];
  appended = ap (λ (t : List (List ℕ)). t ++ whole ∷ []) h.appended ∙ append_assoc old h.given (whole ∷ []);
  behind = h.behind;
  first = first_given h.given whole held ∙ h.first;
}

-- ---- how far a piece was cut

-- These bytes, of which the first were held before, were cut as far as the rest.
pub record Taken (before bytes : List ℕ) (old new : List (List ℕ)) (held rest : List ℕ) : Type 0 where
  pub is_open : IsOpen held
  pub cuts : Cuts bytes old new (held ++ rest)
  pub begins : Begins before old new held

pub none_taken : (before piece : List ℕ) (old : List (List ℕ)) → IsOpen before → Taken before (before ++ piece) old old before piece
none_taken before piece old h = record {
  is_open = h;
  cuts = nothing_cut_yet (before ++ piece) old;
  begins = record { given = []; appended = sym (append-nil old); behind = []; first = sym (append-nil before) };
}

-- a prefix of the rest was appended to what is held, at most as much as was missing
pub record Appended (held rest next behind : List ℕ) : Type 0 where
  pub front : List ℕ
  pub count : ℕ
  pub missing : IsMissing held count
  pub few : length front ≤ count
  pub split : rest ≡ front ++ behind
  pub is : next ≡ held ++ front

pub appended : (held rest next front behind : List ℕ) (count : ℕ) → IsMissing held count → rest ≡ front ++ behind → next ≡ held ++ front →
    length front ≤ count → Appended held rest next behind
appended held rest next front behind count missing split is few = record { front = front; count = count; missing = missing; few = few; split = split; is = is }

module _ (before bytes held rest next behind : List ℕ) (old new : List (List ℕ)) (h : Taken before bytes old new held rest)
    (a : Appended held rest next behind) where
  pub cuts_on : Cuts bytes old new (next ++ behind)
  cuts_on = rw a.is (cuts_at bytes held a.front behind rest old new a.split h.cuts)

  pub begins_on : Begins before old new next
  begins_on = rw a.is (more_held before held a.front h.begins.behind old new h.begins.given h.begins.appended h.begins.first)

  pub taken_on : (left : ℕ) → IsMissing next left → left ≢ 0 → Taken before bytes old new next behind
  taken_on left missing some = record { is_open = open_of_missing next left missing (omega (arith, some)); cuts = cuts_on; begins = begins_on }

  whole_now : (left : ℕ) → IsMissing next left → left ≡ 0 → IsDelivery next
  whole_now left missing none =
      rw a.is (delivery_is held a.front a.count left h.is_open a.missing a.few (subst (λ (t : List ℕ). IsMissing t left) a.is missing) none)

  pub taken_whole : (then : List ℕ) (frames : List (List ℕ)) (left : ℕ) → IsMissing next left → left ≡ 0 → then ≡ [] → frames ≡ new ++ next ∷ [] →
      Taken before bytes old frames then behind
  taken_whole then frames left missing none empty given =
      let taken : Taken before bytes old (new ++ next ∷ []) [] behind = record {
        is_open = inl (omega arith);
        cuts = cuts_more bytes next behind old new (whole_now left missing none) cuts_on;
        begins = begins_given before next [] old new begins_on;
      } in
      rw (empty, given) taken

-- the fault of what is held is that of all that is left
pub fault_left : (bytes held now rest : List ℕ) (old new : List (List ℕ)) (fault : FeedFault) → now ≡ held → IsHeaderFault now fault →
    Cuts bytes old new (held ++ rest) → (left : List ℕ) × IsHeaderFault left fault × Cuts bytes old new left
fault_left bytes held now rest old new fault same bad cuts =
    (held ++ rest, fault_more held rest fault (subst (λ (t : List ℕ). IsHeaderFault t fault) same bad), cuts)

-- nothing is held: a whole header is missing
pub nothing_missing : (held : List ℕ) → held ≡ [] → IsMissing held 12
nothing_missing held empty = let len = ap length empty in inl (omega (arith, len), omega (arith, len))

-- ---- what is taken back

-- the frames, as far as the first one that was given
short_frames : (old given frames short : List (List ℕ)) (count : ℕ) → count ≡ length old → frames ≡ old ++ given → short ≡ take (count + 1) frames →
    short ≡ old ++ take 1 given
short_frames old given frames short count same e s =
    s ∙ ap (λ (t : List (List ℕ)). take (count + 1) t) e ∙ ap (λ (n : ℕ). take (n + 1) (old ++ given)) same ∙ take-append-add old given 1

begun : (before held behind : List ℕ) (len : ℕ) → len ≡ length before → held ≡ before ++ behind → take len held ≡ before
begun before held behind len same first = ap (λ (t : List ℕ). take len t) first ∙ take_at before behind len (sym same)

-- if some frame was given, the first of them is held again
some_back : (before held first behind : List ℕ) (old given short rest : List (List ℕ)) (len : ℕ) → len ≡ length before → short ≡ old ++ take 1 given →
    short ≡ rest ++ first ∷ [] → length old < length short → first_of given held ≡ before ++ behind → (take len first ≡ before) × (rest ≡ old)
some_back before held first behind old [] short rest len a s p more h = absurd (omega (arith, more, ap length (s ∙ append-nil old)))
some_back before held first behind old (d ∷ ds) short rest len a s p more h =
    let same = same_from_push rest old first d (sym p ∙ s) in
    (begun before first behind len a (same.1 ∙ h), same.0)

pub back_to_first : (before held first : List ℕ) (old frames short rest : List (List ℕ)) (len count : ℕ) → Begins before old frames held → len ≡ length before →
    count ≡ length old → short ≡ take (count + 1) frames → short ≡ rest ++ first ∷ [] → count < length short → (take len first ≡ before) × (rest ≡ old)
back_to_first before held first old frames short rest len count h a b s p more =
    some_back before held first h.behind old h.given short rest len a (short_frames old h.given frames short count b h.appended s) p
    (omega (arith, more, b)) h.first

-- if none was given, what was held is still held
none_back : (before held behind : List ℕ) (old given short : List (List ℕ)) (len : ℕ) → len ≡ length before → short ≡ old ++ take 1 given →
    length short ≤ length old → first_of given held ≡ before ++ behind → (take len held ≡ before) × (short ≡ old)
none_back before held behind old [] short len a s few h = (begun before held behind len a h, s ∙ append-nil old)
none_back before held behind old (d ∷ ds) short len a s few h = absurd (omega (arith, few, ap length s, length-append old (d ∷ [])))

pub back_to_held : (before held : List ℕ) (old frames short : List (List ℕ)) (len count : ℕ) → Begins before old frames held → len ≡ length before →
    count ≡ length old → short ≡ take (count + 1) frames → length short ≤ count → (take len held ≡ before) × (short ≡ old)
back_to_held before held old frames short len count h a b s few =
    none_back before held h.behind old h.given short len a (short_frames old h.given frames short count b h.appended s) (omega (arith, few, b)) h.first
