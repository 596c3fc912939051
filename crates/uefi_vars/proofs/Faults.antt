-- The fault of a record: there is one at most, and none if there is a record whose name rises.
use Rattle.std.proofs.Common.{◌≡◌, ◌≢◌, ◌⊎◌, ℕ, ◌+◌, ◌<◌, ◌≤◌, List, [], ◌∷◌, ◌++◌, length, take, drop, refl, sym, ap, subst, ◌∙◌, inl}
use Rattle.std.proofs.Common.{inr, arith, append_assoc}
use Rattle.std.specs.Int.{w32, to_le_bytes, from_le_bytes}
use Rattle.std.specs.List.{AllByRecursion}
use Rattle.std.specs.declared.cmp.Ordering.{Ordering}
use Rattle.std.specs.declared.cmp.Ordering.TheVariants.{Less, Equal, Greater}
use Rattle.std.proofs.lemmas.Bool.{cases_lt, cases_eq}
use Rattle.std.proofs.lemmas.List.{length-append, take-append-drop, length-take-le, nil_from_length}
use Rattle.std.proofs.lemmas.Nat.{le_bytes_4}
use Rattle.uefi_path.specs.Row.{IsByte}
use Rattle.uefi_vars.proofs.Bytes.{bytes_from_recursion, AllByRecursion-first, AllByRecursion-behind}
use Rattle.uefi_vars.specs.declared.fault.SetFault.{SetFault}
use Rattle.uefi_vars.specs.declared.fault.SetFault.TheVariants as fault
use Rattle.uefi_vars.specs.Name.{IsNameByte, name_max, IsName}
use Rattle.uefi_vars.specs.Vars.{name_cmp, data_max, IsData, IsVariable}
use Rattle.uefi_vars.specs.Set.{name_bytes, data_bytes, record_bytes}
use Rattle.uefi_vars.specs.Fault.{IsAbove, HasBadNameLength, HasCutName, HasBadCharacter, HasLowName, HasName, StatesLength, IsCutData, StatesBadLength}
use Rattle.uefi_vars.specs.Reader.{SplitsName, IsNameFault, SplitsData, IsDataFault, IsRecordFault}
use Rattle.uefi_vars.proofs.Bytes.{all_or_not}
use Rattle.uefi_vars.proofs.Records.{Pair, same_len, same_name, data_len}

name_len : (name : List ℕ) → IsName name → 0 < length name
name_len name is = let some : length name ≢ 0 = λ none. is.some (nil_from_length name none) in omega arith

value_len : (value : List ℕ) → IsData value → 0 < length value
value_len value is = let some : length value ≢ 0 = λ none. is.some (nil_from_length value none) in omega arith

-- ---- a name or data that is there has no fault

-- what is after the length of a name, and the length
behind_len : (bytes : List ℕ) (len : ℕ) (behind name rest : List ℕ) → bytes ≡ len ∷ behind → bytes ≡ name_bytes name ++ rest →
    (len ≡ length name) × (behind ≡ name ++ rest)
behind_len bytes len behind name rest e f = (cc, cc)

no_cut_name : (bytes name rest : List ℕ) → SplitsName bytes name rest → HasCutName bytes → ⊥
no_cut_name bytes name rest split h =
    let same = behind_len bytes h.len h.behind name rest h.parts split.parts in
    let size : length h.behind ≡ length name + length rest = ap length same.1 ∙ length-append name rest in
    let cut = h.cut in
    omega (arith, same.0, size, cut)

no_bad_len : (bytes name rest : List ℕ) → SplitsName bytes name rest → HasBadNameLength bytes → ⊥
no_bad_len bytes name rest split h =
    let same = behind_len bytes h.len h.behind name rest h.parts split.parts in
    let some = name_len name split.is in
    let len = split.is.len in
    elim h.bad [ inl zero ↦ omega (arith, same.0, some) | inr long ↦ omega (arith, same.0, len) ]

no_bad_character : (bytes name rest : List ℕ) → SplitsName bytes name rest → HasBadCharacter bytes → ⊥
no_bad_character bytes name rest split h =
    let same = same_name h.name name h.behind rest (sym h.parts ∙ split.parts) in
    h.bad (subst (AllByRecursion IsNameByte) (sym same.0) split.is.printing)

pub no_name_fault : (bytes name rest : List ℕ) (place : ℕ) (f : SetFault) → SplitsName bytes name rest → IsNameFault bytes place f → ⊥
no_name_fault bytes name rest place f split (inl h) = no_cut_name bytes name rest split h.1
no_name_fault bytes name rest place f split (inr (e, inl h)) = no_bad_len bytes name rest split h
no_name_fault bytes name rest place f split (inr (e, inr h)) = no_bad_character bytes name rest split h

-- the length that bytes state is the one that is there
stated_len : (bytes : List ℕ) (n m : ℕ) (x y : List ℕ) → StatesLength bytes n x → StatesLength bytes m y → (n ≡ m) × (x ≡ y)
stated_len bytes n m x y first second = same_len n m x y first.four_bytes second.four_bytes (sym first.parts ∙ second.parts)

data_states : (bytes value rest : List ℕ) → SplitsData bytes value rest → StatesLength bytes (length value) (value ++ rest)
data_states bytes value rest split = record {
  four_bytes = data_len value split.is;
  parts = split.parts ∙ append_assoc (to_le_bytes w32 (length value)) value rest;
}

states_four : (bytes : List ℕ) (len : ℕ) (rest : List ℕ) → StatesLength bytes len rest → 4 ≤ length bytes
states_four bytes len rest h = let size : length bytes ≡ 4 + length rest = ap length h.parts ∙ omega arith in omega arith

no_cut_data : (bytes value rest : List ℕ) → SplitsData bytes value rest → IsCutData bytes → ⊥
no_cut_data bytes value rest split h =
    let same = stated_len bytes h.len (length value) h.rest (value ++ rest) h.stated (data_states bytes value rest split) in
    let size : length h.rest ≡ length value + length rest = ap length same.1 ∙ length-append value rest in
    let cut = h.cut in
    omega (arith, same.0, size, cut)

no_bad_data : (bytes value rest : List ℕ) → SplitsData bytes value rest → StatesBadLength bytes → ⊥
no_bad_data bytes value rest split h =
    let same = stated_len bytes h.len (length value) h.rest (value ++ rest) h.stated (data_states bytes value rest split) in
    let some = value_len value split.is in
    let len = split.is.len in
    elim h.bad [ inl zero ↦ omega (arith, same.0, some) | inr long ↦ omega (arith, same.0, len) ]

pub no_data_fault : (bytes value rest : List ℕ) (place : ℕ) (f : SetFault) → SplitsData bytes value rest → IsDataFault bytes place f → ⊥
no_data_fault bytes value rest place f split (inl (e, inl short)) =
    omega (arith, short, states_four bytes (length value) (value ++ rest) (data_states bytes value rest split))
no_data_fault bytes value rest place f split (inl (e, inr h)) = no_cut_data bytes value rest split h
no_data_fault bytes value rest place f split (inr (e, h)) = no_bad_data bytes value rest split h

-- ---- no record with a rising name is at a fault, or at the end

abbrev pub Stops : List (List ℕ) → List ℕ → Type 0
Stops names rest = (v : Pair) (behind : List ℕ) → IsVariable v → IsAbove names v.0 → rest ≡ record_bytes v ++ behind → ⊥

pub end_stops : (names : List (List ℕ)) → Stops names []
end_stops names v behind is above e = cc

splits_name : (rest : List ℕ) (v : Pair) (behind : List ℕ) → IsVariable v → rest ≡ record_bytes v ++ behind → SplitsName rest v.0 (data_bytes v.1 ++ behind)
splits_name rest v behind is e = record { is = is.0; parts = e ∙ append_assoc (name_bytes v.0) (data_bytes v.1) behind }

pub fault_stops : (names : List (List ℕ)) (rest : List ℕ) (place : ℕ) (f : SetFault) → IsRecordFault names rest place f → Stops names rest
fault_stops names rest place f (inl h) v behind is above e = no_name_fault rest v.0 (data_bytes v.1 ++ behind) place f (splits_name rest v behind is e) h
fault_stops names rest place f (inr (inl (g, h))) v behind is above e =
    let same = same_name h.name v.0 h.behind (data_bytes v.1 ++ behind) (sym h.parts ∙ (splits_name rest v behind is e).parts) in
    h.low (subst (IsAbove names) (sym same.0) above)
fault_stops names rest place f (inr (inr (after, h, g))) v behind is above e =
    let same = same_name h.name v.0 after (data_bytes v.1 ++ behind) (sym h.parts ∙ (splits_name rest v behind is e).parts) in
    no_data_fault after v.1 behind place f (record { is = is.1; parts = same.1 }) g

-- a record is at fault only if there is some byte
pub fault_some : (names : List (List ℕ)) (rest : List ℕ) (place : ℕ) (f : SetFault) → IsRecordFault names rest place f → rest ≢ []
fault_some names rest place f (inl (inl (e, h))) none = let parts = h.parts in cc
fault_some names rest place f (inl (inr (e, inl h))) none = let parts = h.parts in cc
fault_some names rest place f (inl (inr (e, inr h))) none = let parts = h.parts in cc
fault_some names rest place f (inr (inl (e, h))) none = let parts = h.parts in cc
fault_some names rest place f (inr (inr (after, h, g))) none = let parts = h.parts in cc

-- ---- a record has one fault

cut_or_bad_name : (bytes : List ℕ) → HasCutName bytes → HasBadNameLength bytes ⊎ HasBadCharacter bytes → ⊥
cut_or_bad_name bytes h (inl g) =
    let len : h.len ≡ g.len = let p = h.parts in let q = g.parts in cc in
    let good = h.good in
    elim g.bad [ inl zero ↦ omega (arith, len, good) | inr long ↦ omega (arith, len, good) ]
cut_or_bad_name bytes h (inr g) =
    let same = behind_len bytes h.len h.behind g.name g.behind h.parts g.parts in
    let size : length h.behind ≡ length g.name + length g.behind = ap length same.1 ∙ length-append g.name g.behind in
    let cut = h.cut in
    omega (arith, same.0, size, cut)

same_name_fault : (bytes : List ℕ) (place : ℕ) (f g : SetFault) → IsNameFault bytes place f → IsNameFault bytes place g → f ≡ g
same_name_fault bytes place f g (inl x) (inl y) = x.0 ∙ sym y.0
same_name_fault bytes place f g (inl x) (inr y) = absurd (cut_or_bad_name bytes x.1 y.1)
same_name_fault bytes place f g (inr x) (inl y) = absurd (cut_or_bad_name bytes y.1 x.1)
same_name_fault bytes place f g (inr x) (inr y) = x.0 ∙ sym y.0

cut_or_bad_data : (bytes : List ℕ) → (length bytes < 4) ⊎ IsCutData bytes → StatesBadLength bytes → ⊥
cut_or_bad_data bytes (inl short) g = omega (arith, short, states_four bytes g.len g.rest g.stated)
cut_or_bad_data bytes (inr h) g =
    let same = stated_len bytes h.len g.len h.rest g.rest h.stated g.stated in
    let good = h.good in
    elim g.bad [ inl zero ↦ omega (arith, same.0, good) | inr long ↦ omega (arith, same.0, good) ]

same_data_fault : (bytes : List ℕ) (place : ℕ) (f g : SetFault) → IsDataFault bytes place f → IsDataFault bytes place g → f ≡ g
same_data_fault bytes place f g (inl x) (inl y) = x.0 ∙ sym y.0
same_data_fault bytes place f g (inl x) (inr y) = absurd (cut_or_bad_data bytes x.1 y.1)
same_data_fault bytes place f g (inr x) (inl y) = absurd (cut_or_bad_data bytes y.1 x.1)
same_data_fault bytes place f g (inr x) (inr y) = x.0 ∙ sym y.0

low_is_named : (names : List (List ℕ)) (rest : List ℕ) (h : HasLowName names rest) → SplitsName rest h.name h.behind
low_is_named names rest h = record { is = h.is; parts = h.parts }

is_named : (names : List (List ℕ)) (rest behind : List ℕ) (h : HasName names rest behind) → SplitsName rest h.name behind
is_named names rest behind h = record { is = h.is; parts = h.parts }

low_or_above : (names : List (List ℕ)) (rest behind : List ℕ) → HasLowName names rest → HasName names rest behind → ⊥
low_or_above names rest behind h g = h.low (subst (IsAbove names) (sym (same_name h.name g.name h.behind behind (sym h.parts ∙ g.parts)).0) g.above)

pub same_record_fault : (names : List (List ℕ)) (rest : List ℕ) (place : ℕ) (f g : SetFault) → IsRecordFault names rest place f →
    IsRecordFault names rest place g → f ≡ g
same_record_fault names rest place f g (inl x) (inl y) = same_name_fault rest place f g x y
same_record_fault names rest place f g (inl x) (inr (inl y)) = absurd (no_name_fault rest y.1.name y.1.behind place f (low_is_named names rest y.1) x)
same_record_fault names rest place f g (inl x) (inr (inr y)) = absurd (no_name_fault rest y.1.name y.0 place f (is_named names rest y.0 y.1) x)
same_record_fault names rest place f g (inr (inl x)) (inl y) = absurd (no_name_fault rest x.1.name x.1.behind place g (low_is_named names rest x.1) y)
same_record_fault names rest place f g (inr (inl x)) (inr (inl y)) = x.0 ∙ sym y.0
same_record_fault names rest place f g (inr (inl x)) (inr (inr y)) = absurd (low_or_above names rest y.0 x.1 y.1)
same_record_fault names rest place f g (inr (inr x)) (inl y) = absurd (no_name_fault rest x.1.name x.0 place g (is_named names rest x.0 x.1) y)
same_record_fault names rest place f g (inr (inr x)) (inr (inl y)) = absurd (low_or_above names rest x.0 y.1 x.1)
same_record_fault names rest place f g (inr (inr x)) (inr (inr y)) =
    let behind : x.0 ≡ y.0 = (same_name x.1.name y.1.name x.0 y.0 (sym x.1.parts ∙ y.1.parts)).1 in
    same_data_fault y.0 place f g (subst (λ (t : List ℕ). IsDataFault t place f) behind x.2) y.2

-- ---- every record is there, or has a fault

is_name_byte : (byte : ℕ) → IsNameByte byte ⊎ (¬ IsNameByte byte)
is_name_byte byte =
    elim (cases_lt byte 0x21) [
      | inl below ↦ inr (λ h. let low = h.0 in omega (arith, below, low))
      | inr from ↦ elim (cases_lt 0x7E byte) [ inl past ↦ inr (λ h. let high = h.1 in omega (arith, past, high)) | inr upto ↦ inl (from, upto) ]
    ]

is_below : (before name : List ℕ) → (name_cmp before name ≡ Less) ⊎ (¬ (name_cmp before name ≡ Less))
is_below before name =
    elim (name_cmp before name) as (λ (o : Ordering). (o ≡ Less) ⊎ (¬ (o ≡ Less))) [ Less ↦ inl refl | Equal ↦ inr (λ e. cc) | Greater ↦ inr (λ e. cc) ]

-- the name of this length, which isn't 0 nor too large, at the start of what is after it
cut_name_ends : (len : ℕ) (rest : List ℕ) (place : ℕ) → (0 < len) × (len ≤ name_max) → len ≤ length rest →
    ((name : List ℕ) × (behind : List ℕ) × SplitsName (len ∷ rest) name behind) ⊎ ((f : SetFault) × IsNameFault (len ∷ rest) place f)
cut_name_ends len rest place good within =
    let name = take len rest in
    let size : length name ≡ len = length-take-le len rest within in
    let parts : len ∷ rest ≡ name_bytes name ++ drop len rest =
    ap (λ (t : List ℕ). len ∷ t) (sym (take-append-drop len rest)) ∙ ap (λ (n : ℕ). n ∷ (name ++ drop len rest)) (sym size) in
    elim (all_or_not IsNameByte is_name_byte name) [
      | inl printing ↦ inl (
        name,
        drop len rest,
        record {
          is = record {
            some = λ none. let empty : length name ≡ 0 = ap length none in omega (arith, good, size, empty);
            len = omega (arith, good, size);
            printing = printing;
          };
          parts = parts;
        },
      )
      | inr bad ↦ inr (
        fault.BadName place,
        inr (
          refl,
          inr (record {
            name = name;
            behind = drop len rest;
            good = (omega (arith, good, size), omega (arith, good, size));
            bad = bad;
            parts = parts;
          }),
        ),
      )
    ]

name_ends : (len : ℕ) (rest : List ℕ) (place : ℕ) → ((name : List ℕ) × (behind : List ℕ) × SplitsName (len ∷ rest) name behind)
    ⊎ ((f : SetFault) × IsNameFault (len ∷ rest) place f)
name_ends len rest place =
    elim (cases_eq len 0) [
      | inl zero ↦ inr (fault.BadName place, inr (refl, inl (record { len = len; behind = rest; bad = inl zero; parts = refl })))
      | inr some ↦ elim (cases_lt name_max len) [
        | inl long ↦ inr (fault.BadName place, inr (refl, inl (record { len = len; behind = rest; bad = inr long; parts = refl })))
        | inr short ↦ elim (cases_lt (length rest) len) [
          | inl cut ↦ inr (fault.Truncated place, inl (refl, record { len = len; behind = rest; good = (omega (arith, some), short); parts = refl; cut = cut }))
          | inr within ↦ cut_name_ends len rest place (omega (arith, some), short) within
        ]
      ]
    ]

-- four bytes state a length
pub four_state : (a b c d : ℕ) (rest : List ℕ) → AllByRecursion IsByte (a ∷ b ∷ c ∷ d ∷ rest) →
    StatesLength (a ∷ b ∷ c ∷ d ∷ rest) (from_le_bytes w32 (a ∷ b ∷ c ∷ d ∷ [])) rest
four_state a b c d rest fits =
    let four = bytes_from_recursion (a ∷ b ∷ c ∷ d ∷ []) (fits.0, (fits.1.0, (fits.1.1.0, (fits.1.1.1.0, tt)))) in
    record {
      four_bytes = omega (arith, four 0, four 1, four 2, four 3);
      parts = ap (λ (t : List ℕ). t ++ rest) (sym (le_bytes_4 (a ∷ b ∷ c ∷ d ∷ []) _ refl four refl));
    }

-- data of a stated length that is good
pub data_split : (bytes : List ℕ) (len : ℕ) (rest : List ℕ) → AllByRecursion IsByte bytes → StatesLength bytes len rest →
    (0 < len) × (len ≤ data_max) → len ≤ length rest → SplitsData bytes (take len rest) (drop len rest)
data_split bytes len rest fits stated good within =
    let value = take len rest in
    let size : length value ≡ len = length-take-le len rest within in
    let behind = AllByRecursion-behind IsByte (to_le_bytes w32 len) rest (subst (AllByRecursion IsByte) stated.parts fits) in
    record {
      is = record {
        some = λ none. let empty : length value ≡ 0 = ap length none in omega (arith, good, size, empty);
        len = omega (arith, good, size);
        bytes = AllByRecursion-first IsByte value (drop len rest) (subst (AllByRecursion IsByte) (sym (take-append-drop len rest)) behind);
      };
      parts = stated.parts ∙ ap (λ (t : List ℕ). to_le_bytes w32 len ++ t) (sym (take-append-drop len rest))
          ∙ ap (λ (n : ℕ). to_le_bytes w32 n ++ (value ++ drop len rest)) (sym size)
          ∙ sym (append_assoc (to_le_bytes w32 (length value)) value (drop len rest));
    }

abbrev DataEnds : List ℕ → ℕ → Type 0
DataEnds bytes place = ((value : List ℕ) × (rest : List ℕ) × SplitsData bytes value rest) ⊎ ((f : SetFault) × IsDataFault bytes place f)

stated_ends : (bytes : List ℕ) (len : ℕ) (rest : List ℕ) (place : ℕ) → AllByRecursion IsByte bytes → StatesLength bytes len rest → DataEnds bytes place
stated_ends bytes len rest place fits stated =
    elim (cases_eq len 0) [
      | inl zero ↦ inr (fault.BadData place, inr (refl, record { len = len; rest = rest; stated = stated; bad = inl zero }))
      | inr some ↦ elim (cases_lt data_max len) [
        | inl long ↦ inr (fault.BadData place, inr (refl, record { len = len; rest = rest; stated = stated; bad = inr long }))
        | inr short ↦ elim (cases_lt (length rest) len) [
          | inl cut ↦ inr (
            fault.Truncated place,
            inl (refl, inr (record { len = len; rest = rest; stated = stated; good = (omega (arith, some), short); cut = cut })),
          )
          | inr within ↦ inl (take len rest, drop len rest, data_split bytes len rest fits stated (omega (arith, some), short) within)
        ]
      ]
    ]

data_ends : (bytes : List ℕ) (place : ℕ) → AllByRecursion IsByte bytes → DataEnds bytes place
data_ends [] place fits = inr (fault.Truncated place, inl (refl, inl (omega arith)))
data_ends (a ∷ []) place fits = inr (fault.Truncated place, inl (refl, inl (omega arith)))
data_ends (a ∷ b ∷ []) place fits = inr (fault.Truncated place, inl (refl, inl (omega arith)))
data_ends (a ∷ b ∷ c ∷ []) place fits = inr (fault.Truncated place, inl (refl, inl (omega arith)))
data_ends (a ∷ b ∷ c ∷ d ∷ rest) place fits = stated_ends _ _ rest place fits (four_state a b c d rest fits)

-- the record of this variable, whose name is above the others, is at the start
pub record Stands (names : List (List ℕ)) (rest : List ℕ) (v : Pair) (behind : List ℕ) : Type 0 where
  pub is : IsVariable v
  pub above : IsAbove names v.0
  pub parts : rest ≡ record_bytes v ++ behind

pub record_of : (names : List (List ℕ)) (rest name after value behind : List ℕ) → SplitsName rest name after →
    IsAbove names name → SplitsData after value behind → Stands names rest (name, value) behind
record_of names rest name after value behind named above split = record {
  is = (named.is, split.is);
  above = above;
  parts = named.parts ∙ ap (λ (t : List ℕ). name_bytes name ++ t) split.parts ∙ sym (append_assoc (name_bytes name) (data_bytes value) behind);
}

abbrev RecordEnds : List (List ℕ) → List ℕ → ℕ → Type 0
RecordEnds names rest place = ((v : Pair) × (behind : List ℕ) × Stands names rest v behind) ⊎ ((f : SetFault) × IsRecordFault names rest place f)

named_ends : (names : List (List ℕ)) (rest name after : List ℕ) (place : ℕ) → AllByRecursion IsByte rest →
    SplitsName rest name after → RecordEnds names rest place
named_ends names rest name after place fits named =
    elim (all_or_not (λ before. name_cmp before name ≡ Less) (λ before. is_below before name) names) [
      | inl above ↦ elim (data_ends after place (AllByRecursion-behind IsByte (name_bytes name) after (subst (AllByRecursion IsByte) named.parts fits))) [
        | inl split ↦ inl ((name, split.0), split.1, record_of names rest name after split.0 split.1 named above split.2)
        | inr stop ↦ inr (stop.0, inr (inr (after, record { name = name; is = named.is; above = above; parts = named.parts }, stop.1)))
      ]
      | inr low ↦ inr (fault.NotRising place, inr (inl (refl, record { name = name; behind = after; is = named.is; low = low; parts = named.parts })))
    ]

pub record_ends : (names : List (List ℕ)) (b : ℕ) (rest : List ℕ) (place : ℕ) → AllByRecursion IsByte (b ∷ rest) → RecordEnds names (b ∷ rest) place
record_ends names b rest place fits =
    elim (name_ends b rest place) [
      | inl named ↦ named_ends names (b ∷ rest) named.0 named.1 place fits named.2
      | inr stop ↦ inr (stop.0, inl stop.1)
    ]
