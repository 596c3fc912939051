-- A file with a fault has no store and no other fault, and isn't written.
use Rattle.std.proofs.Common.{◌≡◌, ◌≢◌, ◌⊎◌, ℕ, ◌+◌, List, Result, Ok, Err, IfErr, inl, inr, get_or, refl, sym, ap, subst, ◌∙◌, arith}
use Rattle.std.specs.Prelude.{IsErrAnd}
use Rattle.uefi_path.specs.Answer.{IsUnless}
use Rattle.uefi_vars.specs.Vars.{Variables}
use Rattle.var_stores.specs.declared.fault.StoreFault.{StoreFault}
use Rattle.var_stores.specs.declared.fault.StoreFault.TheVariants as fault
use Rattle.var_stores.specs.declared.write_fault.WriteFault.{WriteFault}
use Rattle.var_stores.specs.declared.write_fault.WriteFault.TheVariants as write_fault
use Rattle.var_stores.specs.Volume.{area_of, header_size, store_header_len, bytes_at, store_guid, plain_store_guid, StoreParts, SpellsStore, IsStoreFault}
use Rattle.var_stores.specs.Rewriting.{IsWriteFault}
use Rattle.var_stores.specs.Words.{write_fault_of}
use Rattle.var_stores.proofs.OneReading.{cut_or_read, one_place}

-- the two GUIDs of stores differ
other_guid : (guid : List ℕ) → guid ≡ store_guid → guid ≡ plain_store_guid → ⊥
other_guid guid is plain = let same : 0x78 ≡ 0x16 = ap (λ (bytes : List ℕ). get_or bytes 0 0) (sym is ∙ plain) in omega (arith, same)

pub no_store : (file : List ℕ) (f : StoreFault) (store : StoreParts) → f ≢ fault.OutOfMemory → IsStoreFault file f → SpellsStore file store → ⊥
no_store file fault.NoVolume store other h s = h s.volume
no_store file fault.BadHeader store other h s = h.1 s.header
no_store file fault.NoStore store other (volume, inl room) s = room s.room
no_store file fault.NoStore store other (volume, inr guid) s = guid.0 s.guid
no_store file fault.Unauthenticated store other h s = other_guid (bytes_at file (header_size file) 16) s.guid h.2
no_store file fault.BadStore store other h s = h.1 s.good
no_store file (fault.CutRecord place) store other h s = cut_or_read (area_of file) store.free h.2 store.records h.4 s.area
no_store file fault.OutOfMemory store other h s = other refl

-- ---- there is one first fault

pub one_fault : (file : List ℕ) (f g : StoreFault) → f ≢ fault.OutOfMemory → g ≢ fault.OutOfMemory → IsStoreFault file f → IsStoreFault file g → f ≡ g
one_fault file fault.NoVolume fault.NoVolume a b h k = refl
one_fault file fault.NoVolume fault.BadHeader a b h k = absurd (h k.0)
one_fault file fault.NoVolume fault.NoStore a b h k = absurd (h k.0.0)
one_fault file fault.NoVolume fault.Unauthenticated a b h k = absurd (h k.0.0)
one_fault file fault.NoVolume fault.BadStore a b h k = absurd (h k.0.0.0)
one_fault file fault.NoVolume (fault.CutRecord n) a b h k = absurd (h k.0.0.0)
one_fault file fault.BadHeader fault.NoVolume a b h k = absurd (k h.0)
one_fault file fault.BadHeader fault.BadHeader a b h k = refl
one_fault file fault.BadHeader fault.NoStore a b h k = absurd (h.1 k.0.1)
one_fault file fault.BadHeader fault.Unauthenticated a b h k = absurd (h.1 k.0.1)
one_fault file fault.BadHeader fault.BadStore a b h k = absurd (h.1 k.0.0.1)
one_fault file fault.BadHeader (fault.CutRecord n) a b h k = absurd (h.1 k.0.0.1)
one_fault file fault.NoStore fault.NoVolume a b h k = absurd (k h.0.0)
one_fault file fault.NoStore fault.BadHeader a b h k = absurd (k.1 h.0.1)
one_fault file fault.NoStore fault.NoStore a b h k = refl
one_fault file fault.NoStore fault.Unauthenticated a b (volume, inl room) k = absurd (room k.1)
one_fault file fault.NoStore fault.Unauthenticated a b (volume, inr guid) k = absurd (guid.1 k.2)
one_fault file fault.NoStore fault.BadStore a b (volume, inl room) k = absurd (room k.0.1)
one_fault file fault.NoStore fault.BadStore a b (volume, inr guid) k = absurd (guid.0 k.0.2)
one_fault file fault.NoStore (fault.CutRecord n) a b (volume, inl room) k = absurd (room k.0.1)
one_fault file fault.NoStore (fault.CutRecord n) a b (volume, inr guid) k = absurd (guid.0 k.0.2)
one_fault file fault.Unauthenticated fault.NoVolume a b h k = absurd (k h.0.0)
one_fault file fault.Unauthenticated fault.BadHeader a b h k = absurd (k.1 h.0.1)
one_fault file fault.Unauthenticated fault.NoStore a b h (volume, inl room) = absurd (room h.1)
one_fault file fault.Unauthenticated fault.NoStore a b h (volume, inr guid) = absurd (guid.1 h.2)
one_fault file fault.Unauthenticated fault.Unauthenticated a b h k = refl
one_fault file fault.Unauthenticated fault.BadStore a b h k = absurd (other_guid (bytes_at file (header_size file) 16) k.0.2 h.2)
one_fault file fault.Unauthenticated (fault.CutRecord n) a b h k = absurd (other_guid (bytes_at file (header_size file) 16) k.0.2 h.2)
one_fault file fault.BadStore fault.NoVolume a b h k = absurd (k h.0.0.0)
one_fault file fault.BadStore fault.BadHeader a b h k = absurd (k.1 h.0.0.1)
one_fault file fault.BadStore fault.NoStore a b h (volume, inl room) = absurd (room h.0.1)
one_fault file fault.BadStore fault.NoStore a b h (volume, inr guid) = absurd (guid.0 h.0.2)
one_fault file fault.BadStore fault.Unauthenticated a b h k = absurd (other_guid (bytes_at file (header_size file) 16) h.0.2 k.2)
one_fault file fault.BadStore fault.BadStore a b h k = refl
one_fault file fault.BadStore (fault.CutRecord n) a b h k = absurd (h.1 k.1)
one_fault file (fault.CutRecord m) fault.NoVolume a b h k = absurd (k h.0.0.0)
one_fault file (fault.CutRecord m) fault.BadHeader a b h k = absurd (k.1 h.0.0.1)
one_fault file (fault.CutRecord m) fault.NoStore a b h (volume, inl room) = absurd (room h.0.1)
one_fault file (fault.CutRecord m) fault.NoStore a b h (volume, inr guid) = absurd (guid.0 h.0.2)
one_fault file (fault.CutRecord m) fault.Unauthenticated a b h k = absurd (other_guid (bytes_at file (header_size file) 16) h.0.2 k.2)
one_fault file (fault.CutRecord m) fault.BadStore a b h k = absurd (k.1 h.1)
one_fault file (fault.CutRecord m) (fault.CutRecord n) a b h k =
    ap fault.CutRecord (h.3 ∙ ap (λ (start : ℕ). header_size file + store_header_len + start) (one_place (area_of file) h.2 k.2 h.4 k.4) ∙ sym k.3)
one_fault file fault.OutOfMemory g a b h k = absurd (a refl)
one_fault file f fault.OutOfMemory a b h k = absurd (b refl)

-- ---- what isn't written

out_of_memory_or : (f : StoreFault) → (f ≡ fault.OutOfMemory) ⊎ ((f ≢ fault.OutOfMemory) × (write_fault_of f ≡ write_fault.Store f))
out_of_memory_or fault.NoVolume = inr (λ e. cc, refl)
out_of_memory_or fault.BadHeader = inr (λ e. cc, refl)
out_of_memory_or fault.NoStore = inr (λ e. cc, refl)
out_of_memory_or fault.Unauthenticated = inr (λ e. cc, refl)
out_of_memory_or fault.BadStore = inr (λ e. cc, refl)
out_of_memory_or (fault.CutRecord place) = inr (λ e. cc, refl)
out_of_memory_or fault.OutOfMemory = inl refl

of_fault : (file : List ℕ) (to attributes : Variables) (f : StoreFault) → IsStoreFault file f → IsWriteFault file to attributes (write_fault_of f)
of_fault file to attributes f h = elim (out_of_memory_or f) as (λ _. IsWriteFault file to attributes (write_fault_of f)) [
  | inl memory ↦ subst (λ (g : StoreFault). IsWriteFault file to attributes (write_fault_of g)) (sym memory) tt
  | inr other ↦ subst (IsWriteFault file to attributes) (sym other.1) (h, other.0)
]

module _ {T : Type 0} (file : List ℕ) where
  -- a fault of the file is why nothing is written
  pub store_fault : (to attributes : Variables) (f : StoreFault) (r : Result T WriteFault) →
      IsErrAnd r (λ made. made ≡ write_fault_of f) → IsStoreFault file f → IfErr r (IsWriteFault file to attributes)
  store_fault to attributes f (Ok value) is h = absurd is
  store_fault to attributes f (Err made) is h = subst (IsWriteFault file to attributes) (sym is) (of_fault file to attributes f h)

  -- and the first fault is, unless memory was refused
  pub store_only : (f g : StoreFault) (r : Result T WriteFault) → IsErrAnd r (λ made. made ≡ write_fault_of f) →
      IsStoreFault file f → g ≢ fault.OutOfMemory → IsStoreFault file g →
      IsUnless r (Err (write_fault.Store g)) write_fault.OutOfMemory
  store_only f g (Ok value) is h other k = absurd is
  store_only f g (Err made) is h other k =
      elim (out_of_memory_or f) as (λ _. IsUnless {T = T} (Err made) (Err (write_fault.Store g)) write_fault.OutOfMemory) [
        | inl memory ↦ inr (ap Err (is ∙ ap write_fault_of memory))
        | inr store ↦ inl (ap Err (is ∙ store.1 ∙ ap write_fault.Store (one_fault file f g store.0 other h k)))
      ]

  -- memory was refused
  pub memory_fault : (to attributes : Variables) (r : Result T WriteFault) →
      IsErrAnd r (λ made. made ≡ write_fault.OutOfMemory) → IfErr r (IsWriteFault file to attributes)
  memory_fault to attributes (Ok value) is = absurd is
  memory_fault to attributes (Err made) is = subst (IsWriteFault file to attributes) (sym is) tt

pub memory_only : {T : Type 0} (g : StoreFault) (r : Result T WriteFault) → IsErrAnd r (λ made. made ≡ write_fault.OutOfMemory) →
    IsUnless r (Err (write_fault.Store g)) write_fault.OutOfMemory
memory_only g (Ok value) is = absurd is
memory_only g (Err made) is = inr (ap Err is)
