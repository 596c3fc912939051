-- Cuts of streams: each stream of bytes has one, and only one.
use Rattle.std.proofs.Common.{◌≡◌, ℕ, zero, suc, ◌≤◌, List, [], ◌∷◌, ◌++◌, length, Option, Some, None, refl, sym, ap, subst, ◌∙◌, inl, inr, arith, append_assoc}
use Rattle.std.specs.List.{AllByRecursion, flat_map}
use Rattle.std.proofs.lemmas.List.{length-append}
use Rattle.uefi_path.specs.Row.{IsByte}
use Rattle.uefi_vars.proofs.Bytes.{same_size, AllByRecursion-behind}
use Rattle.boot_requests.specs.declared.fault.FeedFault.{FeedFault}
use Rattle.boot_requests.specs.FrameFault.{Raw}
use Rattle.boot_requests.specs.Stream.{IsDelivery, HasNoDelivery, IsHeaderFaultIfAny, Cut, IsCut}
use Rattle.boot_requests.specs.Pieces.{IsOpen}
use Rattle.boot_requests.proofs.Frames.Raws.{same_raw, raw_size}
use Rattle.boot_requests.proofs.Streams.Headers.{with_more, more_raw, raw_len, one_header_fault, fault_has_none, open_has_none, open_is_good, HasDelivery}
use Rattle.boot_requests.proofs.Streams.Headers.{found}

abbrev pub joined : List (List ℕ) → List ℕ
joined deliveries = flat_map (λ delivery. delivery) deliveries

abbrev pub cut_of : List (List ℕ) → List ℕ → Option FeedFault → Cut
cut_of deliveries rest fault = record { deliveries = deliveries; rest = rest; fault = fault }

-- ---- one cut

-- deliveries at the start of the same bytes are the same
pub one_delivery : (d e x y : List ℕ) → IsDelivery d → IsDelivery e → d ++ x ≡ e ++ y → (d ≡ e) × (x ≡ y)
one_delivery d e x y p q same =
    let raws = same_raw (e ++ y) (with_more p.raw x) (with_more q.raw y) (rw same at (more_raw d x p.raw p.is)) (more_raw e y q.raw q.is) in
    let len : p.raw.len ≡ q.raw.len = ap (λ (raw : Raw). raw.len) raws in
    same_size d e x y (omega (arith, len, p.here.2, q.here.2, raw_len d p.raw p.is, raw_len e q.raw q.is)) same

one_fault : (rest : List ℕ) (f g : Option FeedFault) → IsHeaderFaultIfAny rest f → IsHeaderFaultIfAny rest g → f ≡ g
one_fault rest None None x y = refl
one_fault rest None (Some g) x y = absurd (x g y)
one_fault rest (Some f) None x y = absurd (y f x)
one_fault rest (Some f) (Some g) x y = ap Some (one_header_fault rest f g x y)

-- the deliveries and the rest are the same if both rests begin with no delivery
one_row : (ds es : List (List ℕ)) (x y : List ℕ) → AllByRecursion IsDelivery ds → AllByRecursion IsDelivery es → HasNoDelivery x → HasNoDelivery y →
    joined ds ++ x ≡ joined es ++ y → (ds ≡ es) × (x ≡ y)
one_row [] [] x y p q no_x no_y same = (refl, same)
one_row [] (e ∷ es) x y p q no_x no_y same = absurd (no_x e (joined es ++ y) (same ∙ append_assoc e (joined es) y) q.0)
one_row (d ∷ ds) [] x y p q no_x no_y same = absurd (no_y d (joined ds ++ x) (sym same ∙ append_assoc d (joined ds) x) p.0)
one_row (d ∷ ds) (e ∷ es) x y p q no_x no_y same =
    let first = one_delivery d e (joined ds ++ x) (joined es ++ y) p.0 q.0 (sym (append_assoc d (joined ds) x) ∙ same ∙ append_assoc e (joined es) y) in
    let rest = one_row ds es x y p.1 q.1 no_x no_y first.1 in
    (ap (λ (t : List ℕ). t ∷ ds) first.0 ∙ ap (λ (ts : List (List ℕ)). e ∷ ts) rest.0, rest.1)

pub one_cut : (stream : List ℕ) (a b : Cut) → IsCut stream a → IsCut stream b → a ≡ b
one_cut stream a b p q =
    let row = one_row a.deliveries b.deliveries a.rest b.rest p.deliveries q.deliveries p.rest q.rest (sym p.parts ∙ q.parts) in
    let fault = one_fault b.rest a.fault b.fault (subst (λ (t : List ℕ). IsHeaderFaultIfAny t a.fault) row.1 p.fault) q.fault in
    λ i. cut_of (row.0 i) (row.1 i) (fault i)

-- ---- a cut of each

pub no_fault_in : (bytes : List ℕ) → IsOpen bytes → IsHeaderFaultIfAny bytes None
no_fault_in bytes h = λ f bad. open_is_good bytes f h bad

one_more : (bytes : List ℕ) (h : HasDelivery bytes) (cut : Cut) → IsCut h.behind cut → IsCut bytes (cut_of (h.front ∷ cut.deliveries) cut.rest cut.fault)
one_more bytes h cut is = record {
  deliveries = (h.is, is.deliveries);
  rest = is.rest;
  fault = is.fault;
  parts = h.parts ∙ ap (λ (t : List ℕ). h.front ++ t) is.parts ∙ sym (append_assoc h.front (joined cut.deliveries) cut.rest);
}

some_cut : (fuel : ℕ) (stream : List ℕ) → length stream ≤ fuel → AllByRecursion IsByte stream → (cut : Cut) × IsCut stream cut
some_cut zero stream small fits = (
  cut_of [] stream None,
  record {
    deliveries = tt;
    rest = λ front behind e d. omega (arith, small, ap length e, length-append front behind, raw_size front d.raw d.is);
    fault = no_fault_in stream (inl (omega (arith, small)));
    parts = refl;
  },
)
some_cut (suc fuel) stream small fits =
    elim (found stream fits) [
      | inl part ↦ (cut_of [] stream None, record { deliveries = tt; rest = open_has_none stream part; fault = no_fault_in stream part; parts = refl })
      | inr (inl bad) ↦ (cut_of [] stream (Some bad.0), record { deliveries = tt; rest = fault_has_none stream bad.0 bad.1; fault = bad.1; parts = refl })
      | inr (inr h) ↦
          let less : length h.behind ≤ fuel = omega (arith, small, ap length h.parts, length-append h.front h.behind, raw_size h.front h.is.raw h.is.is) in
          let behind = some_cut fuel h.behind less (AllByRecursion-behind IsByte h.front h.behind (rw h.parts at fits)) in
          (cut_of (h.front ∷ behind.0.deliveries) behind.0.rest behind.0.fault, one_more stream h behind.0 behind.1)
    ]

pub each_cut : (stream : List ℕ) → AllByRecursion IsByte stream → (cut : Cut) × IsCut stream cut
each_cut stream fits = some_cut (length stream) stream (omega arith) fits
