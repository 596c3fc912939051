-- What the reader of sets finds: a name, data, the records so far, and the fault of one.
use Rattle.std.proofs.Common.{◌≡◌, ◌≢◌, ◌⊎◌, ℕ, zero, suc, ◌+◌, ◌-◌, ◌<◌, ◌≤◌, Bool, true, eqb, Some, List, [], ◌∷◌, ◌++◌, length, take}
use Rattle.std.proofs.Common.{drop, get_or, refl, sym, ap, subst, ◌∙◌, inl, inr, arith, append_assoc}
use Rattle.std.specs.Int.{w32, to_le_bytes, from_le_bytes}
use Rattle.std.specs.List.{AllByRecursion, slice_get, starts_with}
use Rattle.std.specs.List.Sorted.{IsStrictlySortedBy}
use Rattle.std.specs.Ordering.{is_lt}
use Rattle.std.specs.declared.cmp.Ordering.{Ordering}
use Rattle.std.specs.declared.cmp.Ordering.TheVariants.{Less, Equal, Greater}
use Rattle.std.proofs.lemmas.Bool.Decides.{Decides-eqb}
use Rattle.std.proofs.lemmas.List.{length-append, length-drop, map-append, drop-drop, take_at, drop_at}
use Rattle.std.proofs.lemmas.Slice.Eq.{starts_is}
use Rattle.uefi_vars.proofs.Bytes.{IsBytes, recursion_from_bytes, AllByRecursion-behind}
use Rattle.uefi_vars.specs.declared.fault.SetFault.{SetFault}
use Rattle.uefi_vars.specs.declared.fault.SetFault.TheVariants as fault
use Rattle.uefi_vars.specs.declared.named.Named.{Named}
use Rattle.uefi_vars.specs.Name.{IsNameByte, name_max, IsName}
use Rattle.uefi_vars.specs.Vars.{name_cmp, data_max}
use Rattle.uefi_vars.specs.Set.{magic, name_bytes, data_bytes, record_bytes, records_bytes}
use Rattle.uefi_vars.specs.Fault.{IsAbove, StatesLength}
use Rattle.uefi_vars.specs.Records.{pair_of, pairs_of, AreVariables}
use Rattle.uefi_vars.specs.Reader.{names_of, SplitsName, IsNameFault, SplitsData, IsDataFault, HasRecords, HasRecordsFault}
use Rattle.uefi_vars.proofs.Records.{Pair, above_last, none_rise, pairs_rise}
use Rattle.uefi_vars.proofs.Faults.{four_state, data_split, record_of}
use Rattle.uefi_vars.proofs.Sets.{one_record}

-- ---- a name

-- what has the length of a name and isn't one has a bad character
pub bad_character : (bytes : List ℕ) (len : ℕ) (rest name behind : List ℕ) (place : ℕ) → bytes ≡ len ∷ rest →
    rest ≡ name ++ behind → length name ≡ len → len ≢ 0 → len ≤ name_max → ¬ IsName name → IsNameFault bytes place (fault.BadName place)
bad_character bytes len rest name behind place front parts size some short bad =
    let none : ¬ AllByRecursion IsNameByte name = λ printing.
    bad (record { some = λ empty. some (sym size ∙ ap length empty); len = omega (arith, size, short); printing = printing }) in
    inr (
      refl,
      inr (record {
        name = name;
        behind = behind;
        good = (omega (arith, some, size), omega (arith, size, short));
        bad = none;
        parts = front ∙ ap (λ (n : ℕ). n ∷ rest) (sym size) ∙ ap (λ (t : List ℕ). length name ∷ t) parts;
      }),
    )

-- ---- data

pub front_states : (bytes : List ℕ) (len : ℕ) → IsBytes bytes → 4 ≤ length bytes →
    len ≡ from_le_bytes w32 (get_or bytes 0 0 ∷ get_or bytes 1 0 ∷ get_or bytes 2 0 ∷ get_or bytes 3 0 ∷ []) →
    StatesLength bytes len (drop 4 bytes)
front_states [] len fits enough is = absurd (omega (arith, enough))
front_states (a ∷ []) len fits enough is = absurd (omega (arith, enough))
front_states (a ∷ b ∷ []) len fits enough is = absurd (omega (arith, enough))
front_states (a ∷ b ∷ c ∷ []) len fits enough is = absurd (omega (arith, enough))
front_states (a ∷ b ∷ c ∷ d ∷ rest) len fits enough is =
    subst (λ (n : ℕ). StatesLength (a ∷ b ∷ c ∷ d ∷ rest) n rest) (sym is) (four_state a b c d rest (recursion_from_bytes (a ∷ b ∷ c ∷ d ∷ rest) fits))

pub bad_length : (bytes : List ℕ) (len : ℕ) (rest : List ℕ) (place : ℕ) → StatesLength bytes len rest →
    (len ≡ 0) ⊎ ((len ≢ 0) × (data_max < len)) → IsDataFault bytes place (fault.BadData place)
bad_length bytes len rest place stated (inl none) = inr (refl, record { len = len; rest = rest; stated = stated; bad = inl none })
bad_length bytes len rest place stated (inr long) = inr (refl, record { len = len; rest = rest; stated = stated; bad = inr long.1 })

pub data_read : (bytes : List ℕ) (len : ℕ) (rest value behind : List ℕ) → IsBytes bytes → StatesLength bytes len rest → len ≢ 0 →
    len ≤ data_max → len ≤ length rest → value ≡ take len rest → behind ≡ drop len rest → SplitsData bytes value behind
data_read bytes len rest value behind fits stated some short within front back =
    rw (front, back) (data_split bytes len rest (recursion_from_bytes bytes fits) stated (omega (arith, some), short) within)

-- ---- the record of a variable at this place of a file

module _ (file rest name value : List ℕ) (place : ℕ) (stands : drop place file ≡ record_bytes (name, value) ++ rest) where
  pub record_within : place + 1 + length name + 4 + length value ≤ length file
  record_within =
      omega (
        arith,
        length-drop place file,
        ap length stands,
        length-append (record_bytes (name, value)) rest,
        length-append (name_bytes name) (data_bytes value),
        length-append (to_le_bytes w32 (length value)) value,
      )

  behind_place : drop (place + 1) file ≡ name ++ (data_bytes value ++ rest)
  behind_place = sym (drop-drop 1 place file) ∙ ap (drop 1) stands ∙ append_assoc name (data_bytes value) rest

  pub name_part : take (length name) (drop (place + 1) file) ≡ name
  name_part = ap (take (length name)) behind_place ∙ take_at name (data_bytes value ++ rest) (length name) refl

  behind_name : drop (place + 1 + length name) file ≡ to_le_bytes w32 (length value) ++ (value ++ rest)
  behind_name =
      sym (drop-drop (length name) (place + 1) file) ∙ ap (drop (length name)) behind_place ∙ drop_at name (data_bytes value ++ rest) (length name) refl
      ∙ append_assoc (to_le_bytes w32 (length value)) value rest

  pub value_part : take (length value) (drop (place + 1 + length name + 4) file) ≡ value
  value_part =
      ap (take (length value)) (sym (drop-drop 4 (place + 1 + length name) file) ∙ ap (drop 4) behind_name
      ∙ drop_at (to_le_bytes w32 (length value)) (value ++ rest) 4 refl)
      ∙ take_at value rest (length value) refl

-- ---- whether a name rises

last_at : {X : Type 0} (n : ℕ) (xs : List X) (x : X) → length xs ≡ suc n → Some x ≡ slice_get xs n → (front : List X) × (xs ≡ front ++ x ∷ [])
last_at n [] x size e = absurd (omega arith)
last_at {X} zero (y ∷ []) x size e = ([], let same : x ≡ y = cc in ap (λ (z : X). z ∷ []) (sym same))
last_at zero (y ∷ z ∷ xs) x size e = absurd (omega arith)
last_at {X} (suc n) (y ∷ xs) x size e = let others = last_at n xs x (omega arith) e in (y ∷ others.0, ap (λ (t : List X). y ∷ t) others.1)

last_parts : {X : Type 0} (xs : List X) (x : X) → Some x ≡ slice_get xs (length xs - 1) → (front : List X) × (xs ≡ front ++ x ∷ [])
last_parts [] x e = cc
last_parts (y ∷ xs) x e = last_at (length xs) (y ∷ xs) x refl (e ∙ ap (slice_get (y ∷ xs)) (omega arith))

lt_less : (o : Ordering) → is_lt o ≡ true → o ≡ Less
lt_less Less h = refl
lt_less Equal h = cc
lt_less Greater h = cc

-- the name is above the last one exactly if it is above all
pub above_all : (names : List (List ℕ)) (last name : List ℕ) (r : Bool) → IsStrictlySortedBy name_cmp (names ++ last ∷ []) →
    r ≡ is_lt (name_cmp last name) → (r ≡ true → IsAbove (names ++ last ∷ []) name) × (IsAbove (names ++ last ∷ []) name → r ≡ true)
above_all names last name r rising is = (
  λ h. above_last names last name rising (lt_less (name_cmp last name) (sym is ∙ h)),
  λ above. is ∙ ap is_lt (AllByRecursion-behind (λ before. name_cmp before name ≡ Less) names (last ∷ []) above).0,
)

pub rises_is : (variables : List (Named (List ℕ))) (last : Named (List ℕ)) (name : List ℕ) (r : Bool) →
    Some last ≡ slice_get variables (length variables - 1) → IsStrictlySortedBy name_cmp (names_of (pairs_of variables)) →
    r ≡ is_lt (name_cmp (pair_of last).0 name)
    → (r ≡ true → IsAbove (names_of (pairs_of variables)) name) × (IsAbove (names_of (pairs_of variables)) name → r ≡ true)
rises_is variables last name r at rising is =
    let parts = last_parts variables last at in
    let names : names_of (pairs_of variables) ≡ names_of (pairs_of parts.0) ++ (pair_of last).0 ∷ [] =
    ap (λ (vs : List (Named (List ℕ))). names_of (pairs_of vs)) parts.1 ∙ ap names_of (map-append pair_of parts.0 (last ∷ []))
    ∙ map-append (λ (p : Pair). p.0) (pairs_of parts.0) (pair_of last ∷ []) in
    subst (λ (ns : List (List ℕ)). (r ≡ true → IsAbove ns name) × (IsAbove ns name → r ≡ true)) (sym names)
    (above_all (names_of (pairs_of parts.0)) (pair_of last).0 name r (subst (IsStrictlySortedBy name_cmp) names rising) is)

-- ---- the records so far

pub none_read : (bytes : List ℕ) (variables : List (Named (List ℕ))) (rest : List ℕ) → variables ≡ [] → rest ≡ bytes →
    HasRecords bytes (pairs_of variables) rest
none_read bytes variables rest none all = rw none (record { whole = tt; rising = none_rise name_cmp; parts = sym all })

pub one_read : (bytes : List ℕ) (variables more : List (Named (List ℕ))) (v : Named (List ℕ))
    (rest name after value behind : List ℕ) → HasRecords bytes (pairs_of variables) rest → more ≡ variables ++ v ∷ [] →
    pair_of v ≡ (name, value) → SplitsName rest name after → IsAbove (names_of (pairs_of variables)) name →
    SplitsData after value behind
    → HasRecords bytes (pairs_of more) behind
one_read bytes variables more v rest name after value behind has pushed copied named above split =
    let stands = record_of (names_of (pairs_of variables)) rest name after value behind named above split in
    let pairs : pairs_of more ≡ pairs_of variables ++ (name, value) ∷ [] =
    ap pairs_of pushed ∙ map-append pair_of variables (v ∷ []) ∙ ap (λ (p : Pair). pairs_of variables ++ p ∷ []) copied in
    subst (λ (ps : List Pair). HasRecords bytes ps behind) (sym pairs)
    (one_record bytes (pairs_of variables) rest (name, value) behind has stands.is stands.above stands.parts)

pub data_fault : (bytes : List ℕ) (start : ℕ) (pairs : List Pair) (rest name behind : List ℕ) (f : SetFault) →
    start ≤ length bytes → HasRecords (drop start bytes) pairs rest → SplitsName rest name behind →
    IsAbove (names_of pairs) name → IsDataFault behind (length bytes - length rest) f
    → HasRecordsFault (drop start bytes) start f
data_fault bytes start pairs rest name behind f within has named above here =
    let size : length (drop start bytes) ≡ length (records_bytes pairs) + length rest = ap length has.parts ∙ length-append (records_bytes pairs) rest in
    let place : length bytes - length rest ≡ start + length (records_bytes pairs) = omega (arith, size, within, length-drop start bytes) in
    record {
      pairs = pairs;
      rest = rest;
      before = has;
      here = inr (inr (
        behind,
        record { name = name; is = named.is; above = above; parts = named.parts },
        subst (λ (n : ℕ). IsDataFault behind n f) place here,
      ));
    }

-- the record that is read is where the rest of the file begins
pub record_stands : (bytes : List ℕ) (start : ℕ) (pairs : List Pair) (rest name after value behind : List ℕ) →
    start ≤ length bytes → HasRecords (drop start bytes) pairs rest → SplitsName rest name after → SplitsData after value behind
    → drop (length bytes - length rest) bytes ≡ record_bytes (name, value) ++ behind
record_stands bytes start pairs rest name after value behind within has named split =
    let records = records_bytes pairs in
    let size : length (drop start bytes) ≡ length records + length rest = ap length has.parts ∙ length-append records rest in
    let place : length bytes - length rest ≡ start + length records = omega (arith, size, within, length-drop start bytes) in
    ap (λ (n : ℕ). drop n bytes) place ∙ sym (drop-drop (length records) start bytes) ∙ ap (drop (length records)) has.parts
    ∙ drop_at records rest (length records) refl
    ∙ named.parts ∙ ap (λ (t : List ℕ). name_bytes name ++ t) split.parts ∙ sym (append_assoc (name_bytes name) (data_bytes value) behind)

-- ---- the whole file

pub begins : (bytes : List ℕ) (r : Bool) → r ≡ starts_with eqb bytes magic → r ≡ true → bytes ≡ magic ++ drop 4 bytes
begins bytes r is h = (starts_is Decides-eqb bytes magic r is).0 h

pub are_variables : (bytes : List ℕ) (pairs : List Pair) (rest : List ℕ) → HasRecords bytes pairs rest → AreVariables pairs
are_variables bytes pairs rest has = record { rising = pairs_rise pairs has.rising; each = has.whole }
