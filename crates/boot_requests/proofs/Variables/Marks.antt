-- BootKeepState as it is read: the mark of its bytes, and that other bytes are of none.
use Rattle.std.proofs.Common.{◌≡◌, ◌≢◌, ℕ, zero, suc, ◌-◌, ◌*◌, ◌<◌, ◌≤◌, List, [], ◌∷◌, ◌++◌, length, map, take, drop, get_or, min, Option, Some, None, inl}
use Rattle.std.proofs.Common.{inr, refl, sym, ap, subst, ◌∙◌, ⊎_elim, append_assoc, arith}
use Rattle.std.specs.Prelude.{MatchOption}
use Rattle.std.specs.Int.{w32, from_le_bytes, to_le_bytes}
use Rattle.std.specs.List.{AllByRecursion, flat_map}
use Rattle.std.specs.FinMap.{get}
use Rattle.std.proofs.lemmas.List.{append-nil, take_rest, length-map}
use Rattle.std.proofs.lemmas.Nat.{from_le_bytes-to_le_bytes_4}
use Rattle.std.proofs.lemmas.Option.{none-some}
use Rattle.uefi_vars.specs.Vars.{Variables}
use Rattle.boot_requests.specs.declared.outcome.Code.{Code}
use Rattle.boot_requests.specs.declared.outcome.Outcome.{Outcome}
use Rattle.boot_requests.specs.declared.fault.OpenFault.{OpenFault}
use Rattle.boot_requests.specs.declared.fault.OpenFault.TheVariants as fault
use Rattle.boot_requests.specs.Limits.{kept_min, kept_max}
use Rattle.boot_requests.specs.Outcome.{IsOutcome, without_entry, code_byte, outcome_bytes}
use Rattle.uefi_vars.specs.Name.{keep_text}
use Rattle.boot_requests.specs.State.{MarkParts, IsMark}
use Rattle.boot_requests.specs.StoredState.{IsFirstCode, IsFirstMark, HasSecondMark, HasFirstMark, HasMark, HasBadMark}
use Rattle.boot_requests.specs.Marks.{mark_of, SpellsMark, SpellsFirstMark, IsMarkIn, SplitsMark}
use Rattle.boot_requests.proofs.Variables.Edits.{mark_stored}
use Rattle.boot_requests.proofs.Variables.OutcomeBytes.{first_four, after_outcome, length-outcomes, without_entries}

-- ---- outcomes

-- outcomes whose bytes begin with those of others have more after them
outcomes_after : (a b : List Outcome) (rest : List ℕ) → AllByRecursion IsOutcome a → flat_map outcome_bytes a ≡ flat_map outcome_bytes b ++ rest →
    (others : List Outcome) × AllByRecursion IsOutcome others × (flat_map outcome_bytes others ≡ rest)
outcomes_after a [] rest p e = (a, p, e)
outcomes_after [] (r ∷ b) rest p e = absurd (omega (arith, ap length e))
outcomes_after (o ∷ a) (r ∷ b) rest p e =
    outcomes_after a b rest p.1
    (sym (after_outcome o (flat_map outcome_bytes a)) ∙ ap (drop 4) (e ∙ append_assoc (outcome_bytes r) (flat_map outcome_bytes b) rest)
    ∙ after_outcome r (flat_map outcome_bytes b ++ rest))

-- if what is left is of no outcomes, the whole is of none
pub no_outcomes : (bytes rest : List ℕ) (read : List Outcome) → flat_map outcome_bytes read ++ rest ≡ bytes →
    ((others : List Outcome) → AllByRecursion IsOutcome others → flat_map outcome_bytes others ≢ rest) → (kept : List Outcome) → AllByRecursion IsOutcome kept →
    flat_map outcome_bytes kept ≢ bytes
no_outcomes bytes rest read is none kept p e =
    let more = outcomes_after kept read rest p (e ∙ sym is) in none more.0 more.1 more.2

-- all of the bytes are read
pub read_whole : (bytes rest : List ℕ) (kept : List Outcome) → flat_map outcome_bytes kept ++ rest ≡ bytes → length rest ≡ 0 →
    flat_map outcome_bytes kept ≡ bytes
read_whole bytes [] kept is none = sym (append-nil (flat_map outcome_bytes kept)) ∙ is
read_whole bytes (byte ∷ rest) kept is none = absurd (omega (arith, none))

-- bytes whose first four are of no outcome are of no outcomes
pub no_outcome_first : (rest : List ℕ) → 4 ≤ length rest →
    ((o : Outcome) → IsOutcome o → outcome_bytes o ≢ get_or rest 0 0 ∷ get_or rest 1 0 ∷ get_or rest 2 0 ∷ get_or rest 3 0 ∷ []) → (others : List Outcome) →
    AllByRecursion IsOutcome others → flat_map outcome_bytes others ≢ rest
no_outcome_first rest some none [] p e = omega (arith, some, ap length e)
no_outcome_first rest some none (o ∷ others) p e =
    none o p.0 (first_four o (flat_map outcome_bytes others) ∙ ap (λ (t : List ℕ). get_or t 0 0 ∷ get_or t 1 0 ∷ get_or t 2 0 ∷ get_or t 3 0 ∷ []) e)

-- so are fewer than four bytes
pub too_few : (rest : List ℕ) → 0 < length rest → length rest < 4 → (others : List Outcome) → AllByRecursion IsOutcome others →
    flat_map outcome_bytes others ≢ rest
too_few rest some few others p e = omega (arith, length-outcomes others, ap length e)

-- ---- marks

-- bytes are split in one way
split_once : (bytes : List ℕ) (m n k l : ℕ) (x y : List ℕ) → SplitsMark bytes m k x → SplitsMark bytes n l y → (m ≡ n) × (k ≡ l) × (x ≡ y)
split_once bytes m n k l x y p q =
    let same : to_le_bytes w32 m ++ (k ∷ x) ≡ to_le_bytes w32 n ++ (l ∷ y) = sym p.parts ∙ q.parts in
    let number : to_le_bytes w32 m ≡ to_le_bytes w32 n = ap (take 4) same in
    let rest : k ∷ x ≡ l ∷ y = ap (drop 4) same in
    let count : k ≡ l = cc in
    let outcomes : x ≡ y = cc in
    (sym (from_le_bytes-to_le_bytes_4 m p.four_bytes) ∙ ap (from_le_bytes w32) number ∙ from_le_bytes-to_le_bytes_4 n q.four_bytes, count, outcomes)

mark_splits : (bytes : List ℕ) (mark : MarkParts) → SpellsMark (2 ∷ bytes) mark →
    SplitsMark bytes mark.next_number (length mark.kept) (flat_map outcome_bytes mark.kept)
mark_splits bytes mark h = record { some = h.some; four_bytes = h.is.four_bytes; parts = ap (drop 1) h.spelled }

module _ (bytes : List ℕ) (next len : ℕ) (outcomes : List ℕ) (split : SplitsMark bytes next len outcomes) where
  -- each outcome of a mark of version 2 has four bytes
  pub second_whole : (mark : MarkParts) → SpellsMark (2 ∷ bytes) mark → length outcomes ≡ 4 * len
  second_whole mark h =
      let same = split_once bytes mark.next_number next (length mark.kept) len (flat_map outcome_bytes mark.kept) outcomes (mark_splits bytes mark h) split in
      sym (ap length same.2) ∙ length-outcomes mark.kept ∙ ap (λ (n : ℕ). 4 * n) same.1

  -- the outcomes that are read are those of a mark of version 2, if there are as many as are stated
  pub second_read : (kept : List Outcome) (least most : ℕ) → AllByRecursion IsOutcome kept × (flat_map outcome_bytes kept ≡ outcomes) →
      least ≡ min kept_min next → least ≤ len → most ≡ min kept_max next → len ≤ most → length outcomes ≡ 4 * len → SpellsMark (2 ∷ bytes) (mark_of next kept)
  second_read kept least most read least_is low most_is high whole =
      let count : len ≡ length kept = omega (arith, length-outcomes kept, ap length read.1, whole) in
      let outcomes_are : outcomes ≡ flat_map outcome_bytes kept = sym read.1 in
      let same : len ∷ outcomes ≡ length kept ∷ flat_map outcome_bytes kept = cc in
      record {
        some = split.some;
        is = record {
          four_bytes = split.four_bytes;
          least = subst (λ (n : ℕ). min kept_min next ≤ n) count (subst (λ (n : ℕ). n ≤ len) least_is low);
          most = subst (λ (n : ℕ). n ≤ min kept_max next) count (subst (λ (n : ℕ). len ≤ n) most_is high);
          outcomes = read.0;
        };
        spelled = ap (λ (t : List ℕ). 2 ∷ t) (split.parts ∙ ap (λ (t : List ℕ). to_le_bytes w32 next ++ t) same);
      }

  -- the codes of these bytes are those of a mark of version 1
  pub first_is : (known : List Code) → AllByRecursion IsFirstCode known → map code_byte known ≡ outcomes → len ≡ min kept_min next → length outcomes ≡ len →
      IsFirstMark next known
  first_is known valid read stated whole =
      record { some = split.some; four_bytes = split.four_bytes; len = sym (length-map known code_byte) ∙ ap length read ∙ whole ∙ stated; known = valid }

-- bytes of version 1 aren't those of a mark of version 2
first_clash : (bytes rest : List ℕ) (mark : MarkParts) → bytes ≡ 1 ∷ rest → SpellsMark bytes mark → ⊥
first_clash bytes rest mark e h = let clash : ◌≡◌ {A = ℕ} 1 2 = ap (λ (t : List ℕ). get_or t 0 0) (sym e ∙ h.spelled) in omega (arith, clash)

-- what is found of a mark by its version is found of it by either
pub first_found : (bytes rest : List ℕ) → bytes ≡ 1 ∷ rest → (found : Option MarkParts) →
    MatchOption found ((mark : MarkParts) → SpellsFirstMark (1 ∷ rest) mark → ⊥) (λ mark. SpellsFirstMark (1 ∷ rest) mark) →
    MatchOption found ((mark : MarkParts) → IsMarkIn bytes mark → ⊥) (λ mark. IsMarkIn bytes mark)
first_found bytes rest e None none = λ mark. ⊎_elim (first_clash bytes rest mark e) (λ first. none mark (rw e at first))
first_found bytes rest e (Some mark) h = inr (subst (λ (b : List ℕ). SpellsFirstMark b mark) (sym e) h)

-- a byte, and those after it
pub one_then : (bytes : List ℕ) (byte : ℕ) → 1 ≤ length bytes → get_or bytes 0 0 ≡ byte → bytes ≡ byte ∷ take (length bytes - 1) (drop 1 bytes)
one_then [] byte some is = absurd (omega (arith, some))
one_then (b ∷ bytes) byte some is = ap (λ (n : ℕ). n ∷ bytes) is ∙ ap (λ (t : List ℕ). byte ∷ t) (sym (take_rest (b ∷ bytes) 1))

-- a mark of version 1 is one of version 2 whose outcomes tell no entries
pub first_valid : (next_number : ℕ) (codes : List Code) → IsFirstMark next_number codes → IsMark next_number (map without_entry codes)
first_valid next_number codes is =
    let len : length (map without_entry codes) ≡ min kept_min next_number = length-map codes without_entry ∙ is.len in
    record { four_bytes = is.four_bytes; least = omega (arith, len); most = omega (arith, len); outcomes = without_entries codes }

-- ---- either version

pub mark_valid : (vars : Variables) (next_number : ℕ) (kept : List Outcome) → HasMark vars next_number kept → IsMark next_number kept
mark_valid vars next_number kept has =
    ⊎_elim (λ second. second.is) (λ first. subst (IsMark next_number) (sym first.kept_is) (first_valid next_number first.codes first.is)) has

-- ---- the variable

pub same_some : (a b : List ℕ) → ◌≡◌ {A = Option (List ℕ)} (Some a) (Some b) → a ≡ b
same_some a b e = cc

module _ (vars : Variables) (bytes : List ℕ) (is : get vars keep_text ≡ Some bytes) where
  pub has_second : (mark : MarkParts) → SpellsMark bytes mark → HasSecondMark vars mark.next_number mark.kept
  has_second mark h = record { is = h.is; stored = is ∙ ap Some h.spelled ∙ sym (mark_stored mark.next_number mark.kept h.some) }

  has_first : (mark : MarkParts) → SpellsFirstMark bytes mark → HasFirstMark vars mark.next_number mark.kept
  has_first mark h = record { codes = h.known; is = h.is; kept_is = h.kept; stored = is ∙ ap Some h.spelled }

  second_in : (next_number : ℕ) (kept : List Outcome) → HasSecondMark vars next_number kept → SpellsMark bytes (mark_of next_number kept)
  second_in zero kept has = absurd (none-some bytes (sym has.stored ∙ is))
  second_in (suc next_number) kept has =
      record { some = omega arith; is = has.is; spelled = same_some _ _ (sym is ∙ has.stored ∙ mark_stored (suc next_number) kept (omega arith)) }

  first_in : (next_number : ℕ) (kept : List Outcome) → HasFirstMark vars next_number kept → SpellsFirstMark bytes (mark_of next_number kept)
  first_in next_number kept has = record { known = has.codes; is = has.is; kept = has.kept_is; spelled = same_some _ _ (sym is ∙ has.stored) }

  pub mark_in_bytes : (next_number : ℕ) (kept : List Outcome) → HasMark vars next_number kept → IsMarkIn bytes (mark_of next_number kept)
  mark_in_bytes next_number kept has = ⊎_elim (λ second. inl (second_in next_number kept second)) (λ first. inr (first_in next_number kept first)) has

  -- what is found in the bytes is found in the variables
  pub found_is : (found : Option MarkParts) → MatchOption found ((mark : MarkParts) → IsMarkIn bytes mark → ⊥) (λ mark. IsMarkIn bytes mark) →
      MatchOption found (HasBadMark vars) (λ mark. HasMark vars mark.next_number mark.kept)
  found_is None bad = λ next_number kept has. bad (mark_of next_number kept) (mark_in_bytes next_number kept has)
  found_is (Some mark) h = ⊎_elim (λ second. inl (has_second mark second)) (λ first. inr (has_first mark first)) h

-- if nothing is stored, the mark is one of version 2
pub none_is_second : (vars : Variables) (next_number : ℕ) (kept : List Outcome) → get vars keep_text ≡ None → HasMark vars next_number kept →
    HasSecondMark vars next_number kept
none_is_second vars next_number kept is has = ⊎_elim (λ second. second) (λ first. absurd (none-some _ (sym is ∙ first.stored))) has

-- ---- faults

pub no_memory : (f : OpenFault) → (f ≢ fault.OutOfMemory → ⊥) → f ≡ fault.OutOfMemory
no_memory fault.OutOfMemory h = refl
no_memory _ h = absurd (h (λ e. cc))
