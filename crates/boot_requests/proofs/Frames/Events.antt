-- Each event is seen in one way.
use Rattle.std.proofs.Common.{◌≡◌, ◌⊎◌, ℕ, List, refl, sym, ap, ◌∙◌, inl, inr}
use Rattle.std.specs.List.{AllByRecursion}
use Rattle.uefi_path.specs.Row.{IsByte}
use Rattle.boot_requests.specs.declared.event.Event.{Event}
use Rattle.boot_requests.specs.declared.event.Event.TheVariants as event
use Rattle.boot_requests.specs.declared.fault.FrameFault.{FrameFault}
use Rattle.boot_requests.specs.declared.request.Request.{Request}
use Rattle.boot_requests.specs.Frame.{SpellsFrame}
use Rattle.boot_requests.specs.FrameFault.{IsFirstFault}
use Rattle.boot_requests.specs.Seen.{Seen, Came, Malformed, Prepare, Hand, Restart, IsEvent, IsSeen}
use Rattle.boot_requests.proofs.Frames.Readings.{Ends, OneRequest, NoRequest, OneFault}

-- what is delivered is a request with its number, or has a first fault
abbrev Delivery : List ℕ → Seen → Type 0
Delivery bytes seen =
    ((number : ℕ) × (request : Request) × (seen ≡ Came number request) × SpellsFrame bytes number request)
    ⊎ ((f : FrameFault) × (seen ≡ Malformed f) × IsFirstFault bytes f)

delivery : (bytes : List ℕ) (seen : Seen) → IsSeen (event.Deliver bytes) seen → Delivery bytes seen
delivery bytes (Came number request) is = inl (number, request, refl, is)
delivery bytes (Malformed f) is = inr (f, refl, is)
delivery bytes _ is = absurd is

same_delivery : OneRequest → NoRequest → OneFault → (bytes : List ℕ) (a b : Seen) → Delivery bytes a → Delivery bytes b → a ≡ b
same_delivery one none fault bytes a b (inl (m, q, is, spelled)) (inl (n, r, are, also)) =
    let same = one bytes m n q r spelled also in is ∙ (λ i. Came (same.0 i) (same.1 i)) ∙ sym are
same_delivery one none fault bytes a b (inl (m, q, is, spelled)) (inr (g, are, first)) = absurd (none bytes g m q first spelled)
same_delivery one none fault bytes a b (inr (f, is, first)) (inl (n, r, are, spelled)) = absurd (none bytes f n r first spelled)
same_delivery one none fault bytes a b (inr (f, is, first)) (inr (g, are, also)) =
    is ∙ ap (λ (h : FrameFault). Malformed h) (fault bytes f g first also) ∙ sym are

prepared : (seen : Seen) → IsSeen event.Prepare seen → seen ≡ Prepare
prepared Prepare is = refl
prepared _ is = absurd is

handed : (seen : Seen) → IsSeen event.Hand seen → seen ≡ Hand
handed Hand is = refl
handed _ is = absurd is

restarted : (seen : Seen) → IsSeen event.Restart seen → seen ≡ Restart
restarted Restart is = refl
restarted _ is = absurd is

pub seen_as_one : OneRequest → NoRequest → OneFault → (event : Event) (a b : Seen) → IsSeen event a → IsSeen event b → a ≡ b
seen_as_one one none fault (event.Deliver bytes) a b first second = same_delivery one none fault bytes a b (delivery bytes a first) (delivery bytes b second)
seen_as_one one none fault event.Prepare a b first second = prepared a first ∙ sym (prepared b second)
seen_as_one one none fault event.Hand a b first second = handed a first ∙ sym (handed b second)
seen_as_one one none fault event.Restart a b first second = restarted a first ∙ sym (restarted b second)

pub is_seen : ((bytes : List ℕ) → AllByRecursion IsByte bytes → Ends bytes) → (event : Event) → IsEvent event → (seen : Seen) × IsSeen event seen
is_seen ends (event.Deliver bytes) fits =
    elim (ends bytes fits) [ inl read ↦ (Came read.0 read.1, read.2) | inr stop ↦ (Malformed stop.0, stop.1) ]
is_seen ends event.Prepare fits = (Prepare, tt)
is_seen ends event.Hand fits = (Hand, tt)
is_seen ends event.Restart fits = (Restart, tt)
