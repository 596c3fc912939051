-- What an inbox holds of a stream, and what comes of a piece that is fed to it.
use Rattle.std.proofs.Common.{◌≡◌, ◌≢◌, false, ℕ, ◌+◌, ◌<◌, List, [], ◌++◌, length, Option, Some, None, Ok, Err, refl, sym, ap, subst, ◌∙◌, arith, append_assoc}
use denote.Enum.Bare.{sameb}
use Rattle.std.proofs.lemmas.Bool.{false≢true}
use Rattle.std.proofs.lemmas.List.Concat.{flat_map-append}
use Rattle.uefi_vars.proofs.Bytes.{AllByRecursion-append}
use Rattle.boot_requests.specs.contracts.fault.FeedFault.{the_type}
use Rattle.boot_requests.specs.declared.fault.FeedFault.{FeedFault}
use Rattle.boot_requests.specs.declared.fault.FeedFault.TheVariants as fault
use Rattle.boot_requests.specs.Limits.{payload_max}
use Rattle.boot_requests.specs.Stream.{IsDelivery, HasNoDelivery, IsHeaderFault, IsHeaderFaultIfAny, Cut, IsCut, Kept, Feeds, kept_in, kept_rest, kept_of}
use Rattle.boot_requests.specs.Stream.{feed_result}
use Rattle.boot_requests.specs.Pieces.{IsOpen, IsOpenWith, IsHeld, Cuts}
use Rattle.boot_requests.proofs.Streams.Headers.{fault_more, fault_has_none, open_has_none, open_len}
use Rattle.boot_requests.proofs.Streams.Cuts.{joined, cut_of, no_fault_in}
use Rattle.boot_requests.proofs.Streams.Pieces.{nothing_cut_yet}

-- `==` told that the fault isn't out of memory
pub not_memory : (f : FeedFault) → false ≡ sameb the_type f fault.OutOfMemory → f ≢ fault.OutOfMemory
not_memory fault.OutOfMemory e = λ same. false≢true e
not_memory _ e = λ same. cc

-- ---- what is held

pub open_held : (held : List ℕ) (missing : ℕ) (fault : Option FeedFault) → fault ≡ None → IsOpenWith held missing → IsHeld held missing fault
open_held held missing fault none h = record {
  is_open = λ e. h;
  kept = (
    held,
    cut_of [] held None,
    record { deliveries = tt; rest = open_has_none held h.0; fault = no_fault_in held h.0; parts = refl },
    ap (λ (f : Option FeedFault). kept_in held f) none,
  );
}

pub fault_held : (held rest : List ℕ) (missing : ℕ) (fault : FeedFault) → held ≡ [] → IsHeaderFault rest fault → IsHeld held missing (Some fault)
fault_held held rest missing fault empty bad = record {
  is_open = λ e. cc;
  kept = (
    rest,
    cut_of [] rest (Some fault),
    record { deliveries = tt; rest = fault_has_none rest fault bad; fault = bad; parts = refl },
    ap (λ (t : List ℕ). kept_in t (Some fault)) empty,
  );
}

held_is : (held : List ℕ) (fault : Option FeedFault) (cut : Cut) → kept_in held fault ≡ kept_of cut → held ≡ kept_rest fault cut.rest
held_is held fault cut e = ap (λ (k : Kept). k.rest) e ∙ ap (λ (f : Option FeedFault). kept_rest f cut.rest) (sym (ap (λ (k : Kept). k.fault) e))

pub held_len : (held : List ℕ) (missing : ℕ) (fault : Option FeedFault) → IsHeld held missing fault → length held < 12 + payload_max
held_len held missing None h = open_len held (h.is_open refl).0
held_len held missing (Some fault) h = omega (arith, ap length (held_is held (Some fault) h.kept.1 h.kept.3))

-- ---- one more piece

cut_on : (stream piece rest : List ℕ) (cut : Cut) (fault : Option FeedFault) (old new : List (List ℕ)) → IsCut stream cut →
    (cuts : Cuts (cut.rest ++ piece) old new rest) → HasNoDelivery rest → IsHeaderFaultIfAny rest fault →
    IsCut (stream ++ piece) (cut_of (cut.deliveries ++ cuts.given) rest fault)
cut_on stream piece rest cut fault old new is cuts none bad =
    let all = flat_map-append (λ delivery. delivery) cut.deliveries cuts.given in
    record {
      deliveries = AllByRecursion-append IsDelivery cut.deliveries cuts.given is.deliveries cuts.deliveries;
      rest = none;
      fault = bad;
      parts =
          ap (λ (t : List ℕ). t ++ piece) is.parts ∙ append_assoc (joined cut.deliveries) cut.rest piece
          ∙ ap (λ (t : List ℕ). joined cut.deliveries ++ t) cuts.parts
          ∙ sym (append_assoc (joined cut.deliveries) (joined cuts.given) rest) ∙ ap (λ (t : List ℕ). t ++ rest) (sym all);
    }

feeds_on : (stream piece rest : List ℕ) (cut : Cut) (fault : Option FeedFault) (old new : List (List ℕ)) (to : Kept) → IsCut stream cut →
    Cuts (cut.rest ++ piece) old new rest → HasNoDelivery rest → IsHeaderFaultIfAny rest fault → to ≡ kept_in (kept_rest fault rest) fault →
    Feeds stream cut piece to old new (feed_result fault)
feeds_on stream piece rest cut fault old new to is cuts none bad stands = record {
  after = cut_of (cut.deliveries ++ cuts.given) rest fault;
  is = cut_on stream piece rest cut fault old new is cuts none bad;
  stands = stands;
  given = cuts.given;
  appended = cuts.appended;
  deliveries = refl;
  answered = refl;
}

-- what an inbox with no fault holds is the rest of the stream
held_rest : (held : List ℕ) (fault : Option FeedFault) (cut : Cut) → fault ≡ None → kept_in held fault ≡ kept_of cut → held ≡ cut.rest
held_rest held fault cut none e = held_is held fault cut e ∙ ap (λ (f : Option FeedFault). kept_rest f cut.rest) none

pub feeds_open : (stream piece held next : List ℕ) (cut : Cut) (fault : Option FeedFault) (old new : List (List ℕ)) (to : Kept) → fault ≡ None →
    kept_in held fault ≡ kept_of cut → IsCut stream cut → IsOpen next → Cuts (held ++ piece) old new next → to ≡ kept_in next None →
    Feeds stream cut piece to old new (Ok tt)
feeds_open stream piece held next cut fault old new to none same is h cuts stands =
    feeds_on stream piece next cut None old new to is (rw (held_rest held fault cut none same) at cuts) (open_has_none next h) (no_fault_in next h) stands

pub feeds_fault : (stream piece held rest : List ℕ) (cut : Cut) (fault : Option FeedFault) (found : FeedFault) (old new : List (List ℕ)) (to : Kept) →
    fault ≡ None → kept_in held fault ≡ kept_of cut → IsCut stream cut → IsHeaderFault rest found → Cuts (held ++ piece) old new rest →
    to ≡ kept_in [] (Some found) → Feeds stream cut piece to old new (Err found)
feeds_fault stream piece held rest cut fault found old new to none same is bad cuts stands =
    feeds_on stream piece rest cut (Some found) old new to is (rw (held_rest held fault cut none same) at cuts) (fault_has_none rest found bad) bad stands

-- after a fault nothing is cut
pub feeds_again : (stream piece : List ℕ) (cut : Cut) (fault : FeedFault) (old : List (List ℕ)) (to : Kept) → IsCut stream cut → cut.fault ≡ Some fault →
    to ≡ kept_of cut → Feeds stream cut piece to old old (Err fault)
feeds_again stream piece cut fault old to is same stands =
    let bad = fault_more cut.rest piece fault (subst (λ (f : Option FeedFault). IsHeaderFaultIfAny cut.rest f) same is.fault) in
    feeds_on stream piece (cut.rest ++ piece) cut (Some fault) old old to is (nothing_cut_yet (cut.rest ++ piece) old)
    (fault_has_none (cut.rest ++ piece) fault bad) bad (stands ∙ ap (λ (f : Option FeedFault). kept_in (kept_rest f cut.rest) f) same)
