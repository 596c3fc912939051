-- Where the load option of a frame begins: behind the header, and behind the number of an entry if the kind has one.
use Rattle.std.proofs.Common.{◌≡◌, ◌+◌, ℕ, List, [], ◌∷◌, ◌++◌, length, drop, sym, ap, subst, ◌∙◌, refl, arith}
use Rattle.uefi_option.specs.declared.fault.OptionFault.{OptionFault}
use Rattle.uefi_option.specs.Fault.{IsFirstFault as IsFirstOptionFault}
use Rattle.boot_requests.specs.declared.fault.FrameFault.TheVariants as fault
use Rattle.boot_requests.specs.declared.frame.Kind.{Kind}
use Rattle.boot_requests.specs.Kind.{version_of, byte_of, layout_of, option_place, IsKind, Layout, EntryAndOption, Entry, Numbers, OptionAlone}
use Rattle.boot_requests.specs.FrameFault.{Raw, IsRaw, IsBadOption, HasBadOption, IsFirstFault}
use Rattle.boot_requests.specs.FaultOffset.{IsFaultOffset}
use Rattle.boot_requests.proofs.Frames.KindBytes.{one_kind}
use Rattle.boot_requests.proofs.Frames.Raws.{same_raw, regroup, behind_magic}

behind_12 : (a x : List ℕ) → length a ≡ 2 → drop 12 (a ++ x) ≡ drop 10 x
behind_12 (first ∷ second ∷ []) x two = refl
behind_12 [] x two = absurd (omega (arith, two))
behind_12 (first ∷ []) x two = absurd (omega (arith, two))
behind_12 (first ∷ second ∷ third ∷ more) x two = absurd (omega (arith, two))

behind_14 : (a x : List ℕ) → length a ≡ 2 → drop 14 (a ++ x) ≡ drop 12 x
behind_14 (first ∷ second ∷ []) x two = refl
behind_14 [] x two = absurd (omega (arith, two))
behind_14 (first ∷ []) x two = absurd (omega (arith, two))
behind_14 (first ∷ second ∷ third ∷ more) x two = absurd (omega (arith, two))

module _ (bytes : List ℕ) (c : Raw) (is : IsRaw bytes c) (bad : OptionFault) where
  -- the payload, and what is behind two bytes of it
  payload_behind : drop 12 bytes ≡ c.payload
  payload_behind = ap (drop 12) (regroup bytes c is) ∙ behind_12 c.magic (behind_magic c) is.two_bytes

  rest_behind : drop 14 bytes ≡ drop 2 c.payload
  rest_behind = ap (drop 14) (regroup bytes c is) ∙ behind_14 c.magic (behind_magic c) is.two_bytes

  its_own : IsFirstFault bytes (fault.Option bad) → HasBadOption c bad
  its_own h = subst (λ (d : Raw). HasBadOption d bad) (same_raw bytes h.raw c h.is is) h.here.1

  -- behind what such a payload has before it
  behind : (layout : Layout) → IsBadOption layout c.payload bad → IsFirstOptionFault (drop (12 + option_place layout) bytes) bad
  behind EntryAndOption h = subst (λ (l : List ℕ). IsFirstOptionFault l bad) (sym rest_behind) h.1
  behind Entry h = absurd h
  behind Numbers h = absurd h
  behind OptionAlone h = subst (λ (l : List ℕ). IsFirstOptionFault l bad) (sym payload_behind) h

  pub option_behind : (k : Kind) → byte_of k ≡ c.kind → IsFirstFault bytes (fault.Option bad) →
      IsFirstOptionFault (drop (12 + option_place (layout_of k)) bytes) bad
  option_behind k is_byte h =
      let of_kind = its_own h in
      behind (layout_of k) (subst (λ (l : Kind). IsBadOption (layout_of l) c.payload bad) (one_kind of_kind.kind k (of_kind.is ∙ sym is_byte)) of_kind.here)

  pub option_of_a_kind : ¬ IsKind c.version c.kind → IsFirstFault bytes (fault.Option bad) → ⊥
  option_of_a_kind none h = let of_kind = its_own h in none (of_kind.kind, of_kind.version_is, of_kind.is)

  -- so that is its offset
  pub offset_behind : (k : Kind) (offset : ℕ) → version_of k ≡ c.version → byte_of k ≡ c.kind → offset ≡ 12 + option_place (layout_of k) →
      IsFirstFault bytes (fault.Option bad) → IsFaultOffset bytes (fault.Option bad) offset
  offset_behind k offset of_version of_byte at h = (
    record { raw = c; is = is; here = record { kind = k; version_is = of_version; is = of_byte; here = at } },
    subst (λ (n : ℕ). IsFirstOptionFault (drop n bytes) bad) (sym at) (option_behind k of_byte h),
  )
