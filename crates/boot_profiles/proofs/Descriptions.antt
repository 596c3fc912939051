-- Entries with a description: which numbers are found, and which of them stay.
use Rattle.std.proofs.Common.{◌≡◌, ◌⊎◌, ℕ, ◌≤◌, List, [], ◌∷◌, length, Contains, Option, Some, None, refl, sym, ap, subst, ◌∙◌, ⊎_elim, inl, nat_cmp, arith}
use Rattle.std.specs.Cmp.{nat_cmp_is}
use Rattle.std.specs.FinMap.{get, entries}
use Rattle.std.specs.List.Sorted.{IsStrictlySortedBy}
use Rattle.std.specs.declared.cmp.Ordering.TheVariants.{Less, Equal}
use Rattle.std.proofs.lemmas.List.{take_all}
use Rattle.std.proofs.lemmas.List.Elements.{Contains-push_cases}
use Rattle.uefi_path.specs.Units.{units_bytes}
use Rattle.uefi_option.specs.LoadOption.{OptionParts}
use Rattle.uefi_vars.specs.AtRisk.{AreThose}
use Rattle.uefi_vars.specs.Name.{entry_text}
use Rattle.uefi_vars.specs.Order.{IsEntryNumber}
use Rattle.uefi_vars.specs.RiskOfVariable.{IsOfSome}
use Rattle.uefi_vars.specs.Vars.{Variables, entry_of}
use Rattle.uefi_vars.proofs.EntriesAtRisk.{AreOfFirst, those_along}
use Rattle.uefi_vars.proofs.Maps.{get_contained, contained}
use Rattle.uefi_vars.proofs.Records.{Pair}
use Rattle.boot_edits.specs.Parts.{IsOtherName}
use Rattle.boot_edits.proofs.Targets.{SpellOne}
use Rattle.boot_profiles.specs.Described.{HasDescription, IsDescribed, IsNumberOf, IsNamed}
use Rattle.boot_profiles.specs.Steps.{IsVariableOf, IsFound, IsFoundIn}
use Rattle.boot_profiles.specs.declared.described.Found.{Found}
use Rattle.boot_profiles.specs.declared.described.Found.TheVariants as found

-- ---- what is found

-- all variables are gone over
pub those_described : (vars : Variables) (d numbers : List ℕ) (i : ℕ) → length (entries vars) ≤ i → AreOfFirst (IsVariableOf d) vars i numbers →
    AreThose (IsNumberOf vars d) numbers
those_described vars d numbers i past those =
    those_along (IsOfSome (IsVariableOf d) (entries vars)) (IsNumberOf vars d) numbers
    (λ n. (
      λ h. (
        h.variable.1,
        record {
          is = h.here.entry.is;
          stored = ap (get vars) (sym h.here.entry.name) ∙ get_contained vars h.variable h.among;
          has = h.here.has;
        },
      ),
      λ k. record {
        variable = (entry_text n, k.0);
        among = contained vars (entry_text n) k.0 k.1.stored;
        here = record { entry = record { is = k.1.is; name = refl }; has = k.1.has };
      },
    ))
    (subst (λ (ps : List Pair). AreThose (IsOfSome (IsVariableOf d) ps) numbers) (take_all i (entries vars) past) those)

not_below : (n : ℕ) → nat_cmp n n ≡ Less → ⊥
not_below n less = let same : Equal ≡ nat_cmp n n = nat_cmp_is n n Equal refl in cc (same, less)

rising_differ : (a b : ℕ) (rest : List ℕ) → IsStrictlySortedBy nat_cmp (a ∷ b ∷ rest) → a ≡ b → ⊥
unfolding IsStrictlySortedBy
rising_differ a b rest rising e = not_below b (subst (λ (n : ℕ). nat_cmp n b ≡ Less) e rising.0.0)

pub found_is : (vars : Variables) (d numbers : List ℕ) (f : Found) → AreThose (IsNumberOf vars d) numbers → IsFoundIn numbers f → IsFound vars d f
found_is vars d numbers found.Nothing those is =
    λ n k. let c = subst (λ (l : List ℕ). Contains l n) is ((those.are n).1 k) in omega (arith, c.1)
found_is vars d numbers (found.One number) those is = record {
  here = (those.are number).0 (subst (λ (l : List ℕ). Contains l number) (sym is) (0, omega arith, refl));
  alone = λ other k. ⊎_elim (λ (c : Contains [] other). absurd (omega (arith, c.1))) (λ (e : number ≡ other). sym e)
      (Contains-push_cases [] number other (subst (λ (l : List ℕ). Contains l other) is ((those.are other).1 k)));
}
found_is vars d numbers found.Several those (first, second, rest, is) = record {
  first = first;
  second = second;
  differ = rising_differ first second rest (subst (λ (l : List ℕ). IsStrictlySortedBy nat_cmp l) is those.rising);
  is_first = (those.are first).0 (subst (λ (l : List ℕ). Contains l first) (sym is) (0, omega arith, refl));
  is_second = (those.are second).0 (subst (λ (l : List ℕ). Contains l second) (sym is) (1, omega arith, refl));
}

-- ---- what stays

-- bytes have at most one description
module _ (one : SpellOne) where
  pub one_description : (bytes d e : List ℕ) → HasDescription bytes d → HasDescription bytes e → d ≡ e
  one_description bytes d e h k =
      sym h.is ∙ ap (λ (o : OptionParts). units_bytes o.description) (one bytes h.option k.option h.spelled k.spelled) ∙ k.is

-- the entries with the description are the same
pub record AreSame (d : List ℕ) (from to : Variables) : Type 0 where
  pub there : (number : ℕ) (bytes : List ℕ) → IsDescribed from d number bytes → IsDescribed to d number bytes
  pub back : (number : ℕ) (bytes : List ℕ) → IsDescribed to d number bytes → IsDescribed from d number bytes

-- all entries are
abbrev pub KeepsEntries : Variables → Variables → Type 0
KeepsEntries from to = (number : ℕ) → IsEntryNumber number → entry_of to number ≡ entry_of from number

pub same_entries : (d : List ℕ) (from to : Variables) → KeepsEntries from to → AreSame d from to
same_entries d from to same = record {
  there = λ n b h. record { is = h.is; stored = same n h.is ∙ h.stored; has = h.has };
  back = λ n b h. record { is = h.is; stored = sym (same n h.is) ∙ h.stored; has = h.has };
}

-- what is stored, if anything, has the description
abbrev pub IsOwn : List ℕ → Option (List ℕ) → Type 0
IsOwn d None = Unit {0}
IsOwn d (Some bytes) = HasDescription bytes d

-- only entries with the description differ, and BootOrder and BootNext
pub record DifferInOwn (d : List ℕ) (from to : Variables) : Type 0 where
  pub entries : (number : ℕ) → IsEntryNumber number → (entry_of to number ≡ entry_of from number) ⊎ (IsOwn d (entry_of from number) × IsOwn d (entry_of to number))
  pub others : (name : List ℕ) → IsOtherName name → get to name ≡ get from name

pub no_difference : (d : List ℕ) (vars : Variables) → DifferInOwn d vars vars
no_difference d vars = record { entries = λ n p. inl refl; others = λ name o. refl }

module _ (one : SpellOne) (d e : List ℕ) (from to : Variables) (apart : d ≡ e → ⊥) (differ : DifferInOwn d from to) where
  pub others_same : AreSame e from to
  others_same = record {
    there = λ n b h. record {
      is = h.is;
      has = h.has;
      stored = ⊎_elim (λ (same : entry_of to n ≡ entry_of from n). same ∙ h.stored)
          (λ (own : IsOwn d (entry_of from n) × IsOwn d (entry_of to n)).
          absurd (apart (one_description one b d e (subst (IsOwn d) h.stored own.0) h.has)))
          (differ.entries n h.is);
    };
    back = λ n b h. record {
      is = h.is;
      has = h.has;
      stored = ⊎_elim (λ (same : entry_of to n ≡ entry_of from n). sym same ∙ h.stored)
          (λ (own : IsOwn d (entry_of from n) × IsOwn d (entry_of to n)).
          absurd (apart (one_description one b d e (subst (IsOwn d) h.stored own.1) h.has)))
          (differ.entries n h.is);
    };
  }

-- what names an entry, or none, or several, does so afterwards
module _ (d : List ℕ) (from to : Variables) (same : AreSame d from to) where
  pub number_kept : (n : ℕ) → IsNumberOf from d n → IsNumberOf to d n
  number_kept n k = (k.0, same.there n k.0 k.1)

  pub number_back : (n : ℕ) → IsNumberOf to d n → IsNumberOf from d n
  number_back n k = (k.0, same.back n k.0 k.1)

  pub named_kept : (n : ℕ) → IsNamed from d n → IsNamed to d n
  named_kept n named = record { here = number_kept n named.here; alone = λ o k. named.alone o (number_back o k) }

-- ---- how many are found

-- neither none nor one: several
pub several_in : (numbers : List ℕ) → (numbers ≡ [] → ⊥) → ((number : ℕ) → numbers ≡ number ∷ [] → ⊥) → IsFoundIn numbers found.Several
several_in [] some more = absurd (some refl)
several_in (n ∷ []) some more = absurd (more n refl)
several_in (m ∷ n ∷ rest) some more = (m, n, rest, refl)
