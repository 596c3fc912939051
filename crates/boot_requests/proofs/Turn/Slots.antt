-- The slots of the window: what waits in them under each number, and what an edit of a slot does to that.
use Rattle.std.proofs.Common.{◌≡◌, ◌≢◌, ℕ, zero, suc, ◌+◌, ◌-◌, ◌<◌, ◌≤◌, inl, inr, List, length, replicate, Option, Some, None, refl, sym, ap, subst, ◌∙◌}
use Rattle.std.proofs.Common.{true, false, arith}
use Rattle.std.proofs.Math.ListN.{set, length-set}
use Rattle.std.specs.Prelude.{is_some}
use Rattle.std.specs.Ordering.{nat_cmp}
use Rattle.std.specs.Cmp.{nat_cmp_total}
use Rattle.std.specs.FinMap.{empty, get, insert, remove, len, get-empty, len-insert, len-empty}
use Rattle.std.proofs.lemmas.List.{length-replicate, get_or-set_same, get_or-set_other, with_items_is}
use Rattle.std.specs.Vec.{with_items}
use Rattle.std.specs.Global.{Vec}
use Rattle.std.proofs.lemmas.Bool.{cases_lt, cond-false}
use Rattle.boot_requests.specs.declared.request.Request.{Request}
use Rattle.boot_requests.specs.Limits.{width}
use Rattle.boot_requests.specs.Frame.{IsSent}
use Rattle.boot_requests.specs.Window.{Requests}
use Rattle.boot_requests.specs.Keeper.{AreWaiting}
use Rattle.boot_requests.specs.Slots.{above, reach, place_of, slot_at, with_slot, waiting_in, waiting_of, IsWindow}
use Rattle.boot_requests.proofs.WholeRuns.Numbers.{same_numbers}
use Rattle.boot_requests.proofs.Variables.Stored.{request_here, request_apart, request_gone, request_gone_apart, same_number_or_not, IsSentAt}
use Rattle.boot_requests.proofs.Turn.Fills.{IsWaitingAt}

abbrev Slots : Type 0
Slots = List (Option Request)

slot_here : (requests : Requests) (number : ℕ) (slot : Option Request) → get requests number ≡ None → get (with_slot requests number slot) number ≡ slot
slot_here requests number None none = none
slot_here requests number (Some request) none = request_here requests number request

slot_apart : (requests : Requests) (number : ℕ) (slot : Option Request) (other : ℕ) → number ≢ other →
    get (with_slot requests number slot) other ≡ get requests other
slot_apart requests number None other differ = refl
slot_apart requests number (Some request) other differ = request_apart requests number request other differ

-- ---- what waits under each number

-- no request waits under a number that isn't above the next one, nor under one that is too far
none_low : (count next : ℕ) (slots : Slots) (q : ℕ) → q ≤ next → get (waiting_in count next slots) q ≡ None
unfolding waiting_in
none_low zero next slots q low = get-empty nat_cmp q
none_low (suc count) next slots q low =
    slot_apart (waiting_in count next slots) (next + suc count) (slot_at slots (place_of (next + suc count))) q (λ e. omega (arith, e, low))
    ∙ none_low count next slots q low

none_high : (count next : ℕ) (slots : Slots) (q : ℕ) → next + count < q → get (waiting_in count next slots) q ≡ None
unfolding waiting_in
none_high zero next slots q high = get-empty nat_cmp q
none_high (suc count) next slots q high =
    slot_apart (waiting_in count next slots) (next + suc count) (slot_at slots (place_of (next + suc count))) q (λ e. omega (arith, e, high))
    ∙ none_high count next slots q (omega arith)

within : (count next : ℕ) (slots : Slots) (q : ℕ) → next < q → q ≤ next + count → get (waiting_in count next slots) q ≡ slot_at slots (place_of q)
unfolding waiting_in
within zero next slots q low high = absurd (omega arith)
within (suc count) next slots q low high =
    let number = next + suc count in
    let slot = slot_at slots (place_of number) in
    elim (same_number_or_not number q) [
      | inl same ↦ rw (← same) (slot_here (waiting_in count next slots) number slot (none_high count next slots number (omega arith)))
      | inr differ ↦ slot_apart (waiting_in count next slots) number slot q differ
          ∙ within count next slots q low (let apart : number ≢ q = differ in omega (arith, apart))
    ]

-- numbers that are taken together have slots of their own
apart_places : (a b : ℕ) → a < b → b < a + width → place_of a ≢ place_of b
apart_places a b low high e = omega (arith, e)

other_places : (next a b : ℕ) → next ≤ a → a < next + width → next ≤ b → b < next + width → a ≢ b → place_of a ≢ place_of b
other_places next a b la ha lb hb differ e =
    elim (cases_lt a b) [
      | inl less ↦ apart_places a b less (omega arith) e
      | inr more ↦ let apart : a ≢ b = differ in apart_places b a (omega (arith, apart)) (omega arith) (sym e)
    ]

set_here : (slots : Slots) (number : ℕ) (slot : Option Request) → length slots ≡ width → slot_at (set slots (place_of number) slot) (place_of number) ≡ slot
set_here slots number slot len = get_or-set_same slots (place_of number) slot None (omega (arith, len))

set_apart : (slots : Slots) (number : ℕ) (slot : Option Request) (other : ℕ) → place_of other ≢ place_of number →
    slot_at (set slots (place_of number) slot) (place_of other) ≡ slot_at slots (place_of other)
set_apart slots number slot other differ = get_or-set_other slots (place_of number) (place_of other) slot None differ

-- ---- windows

module _ (next : ℕ) (slots : Slots) where
  pub in_window : (q : ℕ) → next < q → q < next + width → get (waiting_of next slots) q ≡ slot_at slots (place_of q)
  in_window q low high = within reach next slots q low (omega arith)

  below_window : (q : ℕ) → q ≤ next → get (waiting_of next slots) q ≡ None
  below_window q low = none_low reach next slots q low

  other_slot : (number : ℕ) (slot : Option Request) (k : ℕ) → next ≤ number → number < next + width → next ≤ k → k < next + width → number ≢ k →
      slot_at (set slots (place_of number) slot) (place_of k) ≡ slot_at slots (place_of k)
  other_slot number slot k from to low high differ = set_apart slots number slot k (other_places next k number low high from to (λ e. differ (sym e)))

  pub beyond_window : (q : ℕ) → next + width ≤ q → get (waiting_of next slots) q ≡ None
  beyond_window q high = none_high reach next slots q (omega arith)

  module _ (is : IsWindow next slots) where
    pub are_waiting : AreWaiting next (waiting_of next slots)
    are_waiting q =
        elim (cases_lt next q) [
          | inl low ↦ elim (cases_lt q (next + width)) [
            | inl high ↦ subst (IsWaitingAt next q) (sym (in_window q low high)) (bounded (slot_at slots (place_of q)) low high (is.sent q low high))
            | inr high ↦ subst (IsWaitingAt next q) (sym (beyond_window q high)) tt
          ]
          | inr low ↦ subst (IsWaitingAt next q) (sym (below_window q low)) tt
        ]
      where
        bounded : (o : Option Request) → next < q → q < next + width → IsSentAt q o → IsWaitingAt next q o
        bounded None low high h = tt
        bounded (Some request) low high h = (low, high, h)

    -- ---- a request that is kept

    module _ (number : ℕ) (request : Request) (low : next < number) (high : number < next + width) where
      abbrev more : Slots
      more = set slots (place_of number) (Some request)

      pub kept_is : waiting_of next more ≡ insert (waiting_of next slots) number request
      kept_is = same_numbers _ _ at
        where
          at : (q : ℕ) → get (waiting_of next more) q ≡ get (insert (waiting_of next slots) number request) q
          at q = elim (same_number_or_not number q) [
            | inl same ↦ rw (← same)
                (within reach next more number low (omega arith) ∙ set_here slots number (Some request) is.len
                ∙ sym (request_here (waiting_of next slots) number request))
            | inr differ ↦ apart q differ ∙ sym (request_apart (waiting_of next slots) number request q differ)
          ]
            where
              apart : (k : ℕ) → number ≢ k → get (waiting_of next more) k ≡ get (waiting_of next slots) k
              apart k differ = elim (cases_lt next k) [
                | inl l ↦ elim (cases_lt k (next + width)) [
                  | inl h ↦ within reach next more k l (omega arith) ∙ other_slot number (Some request) k (omega arith) high (omega arith) h differ
                      ∙ sym (in_window k l h)
                  | inr h ↦ none_high reach next more k (omega arith) ∙ sym (beyond_window k h)
                ]
                | inr l ↦ none_low reach next more k l ∙ sym (below_window k l)
              ]

      pub kept_window : IsSent number request → IsWindow next more
      kept_window sent = record {
        len = length-set slots (place_of number) (Some request) ∙ is.len;
        free = set_apart slots number (Some request) next (apart_places next number low high) ∙ is.free;
        sent = λ q l h. elim (same_number_or_not number q) [
          | inl same ↦ rw (← same) (subst (IsSentAt number) (sym (set_here slots number (Some request) is.len)) sent)
          | inr differ ↦ subst (IsSentAt q) (sym (other_slot number (Some request) q (omega arith) high (omega arith) h differ)) (is.sent q l h)
        ];
      }

    -- ---- the next number is passed

    abbrev fewer : Slots
    fewer = set slots (place_of (next + 1)) None

    last_free : slot_at fewer (place_of (next + width)) ≡ None
    last_free =
        ap (slot_at fewer) (let same : place_of (next + width) ≡ place_of next = omega arith in same)
        ∙ set_apart slots (next + 1) None next (apart_places next (next + 1) (omega arith) (omega arith)) ∙ is.free

    pub passed_is : waiting_of (next + 1) fewer ≡ remove (waiting_of next slots) (next + 1)
    passed_is = same_numbers _ _ at
      where
        apart : (q : ℕ) → next + 1 ≢ q → get (waiting_of (next + 1) fewer) q ≡ get (waiting_of next slots) q
        apart q differ = elim (cases_lt (next + 1) q) [
          | inl l ↦ elim (cases_lt q (next + width)) [
            | inl h ↦ within reach (next + 1) fewer q l (omega arith) ∙ other_slot (next + 1) None q (omega arith) (omega arith) (omega arith) h differ
                ∙ sym (in_window q (omega arith) h)
            | inr h ↦ elim (same_number_or_not (next + width) q) [
              | inl same ↦ rw (← same)
                  (within reach (next + 1) fewer (next + width) (omega arith) (omega arith) ∙ last_free ∙ sym (beyond_window (next + width) (omega arith)))
              | inr other ↦ let far : next + width ≢ q = other in none_high reach (next + 1) fewer q (omega (arith, far)) ∙ sym (beyond_window q h)
            ]
          ]
          | inr l ↦ let far : next + 1 ≢ q = differ in none_low reach (next + 1) fewer q l ∙ sym (below_window q (omega (arith, far)))
        ]

        at : (q : ℕ) → get (waiting_of (next + 1) fewer) q ≡ get (remove (waiting_of next slots) (next + 1)) q
        at q = elim (same_number_or_not (next + 1) q) [
          | inl same ↦ rw (← same)
              (none_low reach (next + 1) fewer (next + 1) (omega arith) ∙ sym (request_gone (waiting_of next slots) (next + 1)))
          | inr differ ↦ apart q differ ∙ sym (request_gone_apart (waiting_of next slots) (next + 1) q differ)
        ]

    pub passed_window : IsWindow (next + 1) fewer
    passed_window = record {
      len = length-set slots (place_of (next + 1)) None ∙ is.len;
      free = set_here slots (next + 1) None is.len;
      sent = λ q l h. elim (cases_lt q (next + width)) [
        | inl within ↦ subst (IsSentAt q) (sym (other_slot (next + 1) None q (omega arith) (omega arith) (omega arith) within (λ e. omega (arith, e, l))))
            (is.sent q (omega arith) within)
        | inr beyond ↦ let last : next + width ≡ q = omega arith in rw (← last) (subst (IsSentAt (next + width)) (sym last_free) tt)
      ];
    }

-- ---- a request that is found

pub found_waiting : (next number : ℕ) (slots : Slots) (request : Request) → IsWindow next slots → Some request ≡ get (waiting_of next slots) number →
    (next < number) × (number < next + width) × IsSent number request
found_waiting next number slots request is e = subst (IsWaitingAt next number) (sym e) (are_waiting next slots is number)

-- ---- slots after a call

pub kept_slots : (old new : Slots) (number : ℕ) (request : Request) → new ≡ set old (place_of number) (Some request) → (next : ℕ) → IsWindow next old →
    next < number → number < next + width → IsSent number request → IsWindow next new × (waiting_of next new ≡ insert (waiting_of next old) number request)
kept_slots old new number request e next is low high sent =
    rw e (kept_window next old is number request low high sent, kept_is next old is number request low high)

pub passed_slots : (old new : Slots) (next : ℕ) → new ≡ set old (place_of (next + 1)) None → IsWindow next old →
    IsWindow (next + 1) new × (waiting_of (next + 1) new ≡ remove (waiting_of next old) (next + 1))
passed_slots old new next e is = rw e (passed_window next old is, passed_is next old is)

-- the numbers by other names
pub passed_between : (a b next after : ℕ) (old new : Slots) → a ≡ next → b ≡ after →
    (IsWindow a old → IsWindow b new × (waiting_of b new ≡ above b (waiting_of a old))) → IsWindow next old →
    IsWindow after new × (waiting_of after new ≡ above after (waiting_of next old))
passed_between a b next after old new e f h =
    subst (λ (n : ℕ). IsWindow n old → IsWindow after new × (waiting_of after new ≡ above after (waiting_of n old))) e
    (subst (λ (n : ℕ). IsWindow a old → IsWindow n new × (waiting_of n new ≡ above n (waiting_of a old))) f h)

-- ---- nothing waits

none_kept : (count next : ℕ) (slots : Slots) → ((place : ℕ) → slot_at slots place ≡ None) → waiting_in count next slots ≡ empty
unfolding waiting_in
none_kept zero next slots h = refl
none_kept (suc count) next slots h =
    ap (λ (o : Option Request). with_slot (waiting_in count next slots) (next + suc count) o) (h (place_of (next + suc count))) ∙ none_kept count next slots h

no_request : (count place : ℕ) → slot_at (replicate count None) place ≡ None
no_request zero place = refl
no_request (suc count) zero = refl
no_request (suc count) (suc place) = no_request count place

pub free_window : (next : ℕ) → IsWindow next (replicate width None)
free_window next = record {
  len = length-replicate width (let none : Option Request = None in none);
  free = no_request width (place_of next);
  sent = λ q l h. subst (IsSentAt q) (sym (no_request width (place_of q))) tt;
}

pub free_slots : (slots : Slots) → slots ≡ replicate width None → (next : ℕ) → IsWindow next slots × (waiting_of next slots ≡ empty)
free_slots slots e next = rw e (free_window next, none_kept reach next (replicate width None) (no_request width))

-- ---- how many wait

-- how many requests a slot has
abbrev pub slot_count : Option Request → ℕ
slot_count None = 0
slot_count (Some request) = 1

counted_slot : (requests : Requests) (number : ℕ) (slot : Option Request) → get requests number ≡ None →
    len (with_slot requests number slot) ≡ len requests + slot_count slot
counted_slot requests number None none = omega arith
counted_slot requests number (Some request) none = len-insert nat_cmp_total requests number request ∙ cond-false _ _ _ (ap is_some none)

pub one_more_slot : (count next : ℕ) (slots : Slots) →
    len (waiting_in (suc count) next slots) ≡ len (waiting_in count next slots) + slot_count (slot_at slots (place_of (next + suc count)))
unfolding waiting_in
one_more_slot count next slots =
    counted_slot (waiting_in count next slots) (next + suc count) (slot_at slots (place_of (next + suc count)))
    (none_high count next slots (next + suc count) (omega arith))

pub no_slot : (next : ℕ) (slots : Slots) → len (waiting_in zero next slots) ≡ 0
unfolding waiting_in
no_slot next slots = len-empty nat_cmp Request

pub one_more_at : (distance next : ℕ) (slots : Slots) → 1 ≤ distance →
    len (waiting_in distance next slots) ≡ len (waiting_in (distance - 1) next slots) + slot_count (slot_at slots (place_of (next + distance)))
one_more_at distance next slots some =
    let is : suc (distance - 1) ≡ distance = omega arith in
    rw is at (one_more_slot (distance - 1) next slots)

-- what is counted as one more number is looked at
pub count_more : (count more distance next : ℕ) (slots : Slots) (slot : Option Request) → 1 ≤ distance → count ≡ len (waiting_in (distance - 1) next slots) →
    slot_at slots (place_of (next + distance)) ≡ slot → more ≡ count + slot_count slot → more ≡ len (waiting_in (distance + 1 - 1) next slots)
count_more count more distance next slots slot some is here sum =
    let same : distance ≡ distance + 1 - 1 = omega arith in
    sum ∙ ap (λ n. n + slot_count slot) is ∙ ap (λ s. len (waiting_in (distance - 1) next slots) + slot_count s) (sym here)
    ∙ sym (one_more_at distance next slots some) ∙ ap (λ d. len (waiting_in d next slots)) same

pub some_count : (slot : Option Request) → is_some slot ≡ true → slot_count slot ≡ 1
some_count (Some request) h = refl
some_count None h = absurd (let clash : false ≡ true = h in cc)

pub none_count : (slot : Option Request) → is_some slot ≡ false → slot_count slot ≡ 0
none_count (Some request) h = absurd (let clash : true ≡ false = h in cc)
none_count None h = refl

-- ---- slots of a vector

-- a vector of which an element was set
pub edited_is : {X : Type 0} (v : Vec X) (old new : List X) (place at : ℕ) (x : X) → new ≡ set old place x → old ≡ v.items → place ≡ at →
    (with_items v new).items ≡ set v.items at x
edited_is v old new place at x is same here =
    let all : new ≡ set v.items at x = is ∙ ap (λ xs. set xs place x) same ∙ ap (λ p. set v.items p x) here in
    with_items_is v new (ap length all ∙ length-set v.items at x ∙ sym v.ok.0) ∙ all

-- a vector of slots of which each was freed
pub freed_is : (v : Vec (Option Request)) (old new : Slots) → new ≡ replicate (length old) None → old ≡ v.items → length v.items ≡ width →
    (with_items v new).items ≡ replicate width None
freed_is v old new is same len =
    let all : new ≡ replicate width None = is ∙ ap (λ (n : ℕ). replicate n None) (ap length same ∙ len) in
    with_items_is v new (ap length all ∙ length-replicate width (let none : Option Request = None in none) ∙ sym len ∙ sym v.ok.0) ∙ all
