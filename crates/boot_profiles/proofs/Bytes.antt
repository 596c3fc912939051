-- The bytes that entries are to have.
use Rattle.std.proofs.Common.{◌≡◌, ℕ, ◌%◌, ◌==◌, Bool, true, false, List, [], ◌∷◌, Option, Some, None, refl, sym, ap, subst, ◌∙◌, inl, inr, arith}
use Rattle.std.proofs.lemmas.Bool.{cases_eq, eq-eqb, ne_eqb}
use Rattle.uefi_option.specs.LoadOption.{OptionParts, SpellsOption}
use Rattle.boot_edits.specs.Switch.{with_bit_0, switched}
use Rattle.boot_profiles.specs.declared.profile.PresentEntry.{PresentEntry}
use Rattle.boot_profiles.specs.Described.{HasDescription}
use Rattle.boot_profiles.specs.Entry.{bit_0, is_to_be_active, wanted_bytes}

-- ---- the bit

bit_again : (set : Bool) (byte : ℕ) → (with_bit_0 set byte % 2 == 1) ≡ set
bit_again true byte = eq-eqb (with_bit_0 true byte % 2) 1 (omega arith)
bit_again false byte = ne_eqb (with_bit_0 false byte % 2) 1 (λ e. omega (arith, e))

pub bit_set : (set : Bool) (byte : ℕ) (bytes : List ℕ) → bit_0 (switched set (byte ∷ bytes)) ≡ set
bit_set set byte bytes = bit_again set byte

byte_twice : (a b : Bool) (byte : ℕ) → with_bit_0 a (with_bit_0 b byte) ≡ with_bit_0 a byte
byte_twice true true byte = omega arith
byte_twice true false byte = omega arith
byte_twice false true byte = omega arith
byte_twice false false byte = omega arith

-- the last switch counts
pub switched_twice : (a b : Bool) (bytes : List ℕ) → switched a (switched b bytes) ≡ switched a bytes
switched_twice a b [] = refl
switched_twice a b (byte ∷ bytes) = ap (λ (n : ℕ). n ∷ bytes) (byte_twice a b byte)

byte_own : (byte : ℕ) → with_bit_0 (byte % 2 == 1) byte ≡ byte
byte_own byte = elim (cases_eq (byte % 2) 1) [
  | inl odd ↦ ap (λ (b : Bool). with_bit_0 b byte) (eq-eqb (byte % 2) 1 odd) ∙ odd_is odd
  | inr even ↦ ap (λ (b : Bool). with_bit_0 b byte) (ne_eqb (byte % 2) 1 even) ∙ even_is even
]
  where
    odd_is : byte % 2 ≡ 1 → with_bit_0 true byte ≡ byte
    odd_is odd = omega (arith, odd)

    even_is : (byte % 2 ≡ 1 → ⊥) → with_bit_0 false byte ≡ byte
    even_is even = omega (arith, even)

-- switched as they are, they stay
pub switched_own : (bytes : List ℕ) → switched (bit_0 bytes) bytes ≡ bytes
switched_own [] = refl
switched_own (byte ∷ bytes) = ap (λ (n : ℕ). n ∷ bytes) (byte_own byte)

-- ---- what is wanted

-- bytes that are as they are to be are to be so
again : (active : Option Bool) (option there : List ℕ) →
    switched (is_to_be_active active there) option ≡ switched (is_to_be_active active (switched (is_to_be_active active there) option)) option
again (Some a) option there = refl
again None [] there = refl
again None (byte ∷ option) there = ap (λ (b : Bool). switched b (byte ∷ option)) (sym (bit_set (bit_0 there) byte option))

pub wanted_again : (entry : PresentEntry) (there : List ℕ) → wanted_bytes entry there ≡ wanted_bytes entry (wanted_bytes entry there)
wanted_again entry there = again entry.active entry.option.items there

-- a switch changes one bit of an option
abbrev pub ChangesOneBit : Type 0
ChangesOneBit = (active : Bool) (bytes : List ℕ) (option : OptionParts) → SpellsOption bytes option →
    SpellsOption (switched active bytes) (record option { attributes = with_bit_0 active option.attributes })

module _ (bit : ChangesOneBit) where
  pub switched_has : (active : Bool) (bytes d : List ℕ) → HasDescription bytes d → HasDescription (switched active bytes) d
  switched_has active bytes d h = record {
    option = record h.option { attributes = with_bit_0 active h.option.attributes };
    spelled = bit active bytes h.option h.spelled;
    is = h.is;
  }

  -- and back
  pub has_switched : (active : Bool) (bytes d : List ℕ) → HasDescription (switched active bytes) d → HasDescription bytes d
  has_switched active bytes d h =
      subst (λ (b : List ℕ). HasDescription b d) (switched_twice (bit_0 bytes) active bytes ∙ switched_own bytes)
      (switched_has (bit_0 bytes) (switched active bytes) d h)

  pub wanted_has : (entry : PresentEntry) (there d : List ℕ) → HasDescription entry.option.items d → HasDescription (wanted_bytes entry there) d
  wanted_has entry there d h = switched_has (is_to_be_active entry.active there) entry.option.items d h
