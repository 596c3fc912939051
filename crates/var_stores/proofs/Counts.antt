-- Bytes have one count of the records among them, and no first byte that is written if all are erased.
use Rattle.std.proofs.Common.{◌≡◌, ◌≢◌, ℕ, suc, ◌+◌, ◌≤◌, ◌<◌, ◌==◌, Bool, true, false, cond, not, List, [], ◌∷◌, length, drop, Some, None}
use Rattle.std.proofs.Common.{refl, sym, ap, subst, ◌∙◌, arith}
use Rattle.std.specs.Prelude.{nat_lt}
use Rattle.std.specs.List.{position_or_len}
use Rattle.std.proofs.lemmas.List.{length-append}
use Rattle.std.proofs.lemmas.Bool.{false_from_ne_true, eqb-true, eq-eqb, ltb-true, ltb-false}
use Rattle.var_stores.specs.Record.{record_bytes, BeginsRecord, IsCutRecord}
use Rattle.var_stores.specs.Damage.{AreErased, first_written, IsAfterRecord, BeginsNone, CountsRecords, at_end, one_more, none_here}
use Rattle.var_stores.proofs.OneReading.{one_record}

-- ---- whether a record begins

-- the bytes after a record are the same
one_rest : (bytes rest more : List ℕ) → IsAfterRecord bytes rest → IsAfterRecord bytes more → rest ≡ more
one_rest bytes rest more p q = (one_record bytes p.first q.first rest more p.whole q.whole p.is q.is).1

pub none_begun : (bytes : List ℕ) → (BeginsRecord bytes → ⊥) → BeginsNone bytes
none_begun bytes other rest p = other (subst BeginsRecord (sym p.is) (refl, refl))

pub none_whole : (bytes : List ℕ) → IsCutRecord bytes → BeginsNone bytes
none_whole bytes cut rest p = cut.cut p.first rest p.whole p.is

none_in_nothing : (rest : List ℕ) → IsAfterRecord [] rest → ⊥
none_in_nothing rest p = none_begun [] (λ begins. begins) rest p

-- ---- how many there are

pub one_count : {bytes : List ℕ} {m n : ℕ} → CountsRecords bytes m → CountsRecords bytes n → m ≡ n
one_count at_end at_end = refl
one_count at_end (one_more {rest = rest} after counts) = absurd (none_in_nothing rest after)
one_count at_end (none_here some none counts) = absurd (some refl)
one_count (one_more {rest = rest} after counts) at_end = absurd (none_in_nothing rest after)
one_count (one_more {bytes = bytes} {rest = rest} after counts) (one_more {rest = more} {count = n} after' counts') =
    ap suc (one_count counts (subst (λ (t : List ℕ). CountsRecords t n) (sym (one_rest bytes rest more after after')) counts'))
one_count (one_more {rest = rest} after counts) (none_here some none counts') = absurd (none rest after)
one_count (none_here some none counts) at_end = absurd (some refl)
one_count (none_here some none counts) (one_more {rest = rest} after counts') = absurd (none rest after)
one_count (none_here some none counts) (none_here some' none' counts') = one_count counts counts'

-- ---- whether all bytes are erased

abbrev is_written : ℕ → Bool
is_written byte = not (byte == 0xFF)

erased_len : (bytes : List ℕ) → AreErased bytes → position_or_len is_written bytes ≡ length bytes
erased_len [] erased = refl
erased_len (byte ∷ bytes) erased =
    let more = erased_len bytes erased.1 in
    let sum : 1 + position_or_len is_written bytes ≡ suc (length bytes) = omega (arith, more) in
    ap (λ b. cond (not (not b)) (1 + position_or_len is_written bytes) 0) (eq-eqb byte 0xFF erased.0) ∙ sum

pub none_written : (bytes : List ℕ) → AreErased bytes → first_written bytes ≡ None
none_written bytes erased =
    ap (λ n. cond (nat_lt n (length bytes)) (Some n) None) (erased_len bytes erased)
    ∙ ap (λ b. cond b (Some (length bytes)) None) (false_from_ne_true (nat_lt (length bytes) (length bytes))
    (λ e. let below = ltb-true (length bytes) (length bytes) e in omega (arith, below)))

all_passed : (bytes : List ℕ) → length bytes ≤ position_or_len is_written bytes → AreErased bytes
all_passed [] past = tt
all_passed (byte ∷ bytes) past = go (λ more. all_passed bytes more) (byte == 0xFF) refl past
  where
    go : (length bytes ≤ position_or_len is_written bytes → AreErased bytes) → (b : Bool) → (byte == 0xFF) ≡ b →
        suc (length bytes) ≤ cond (not (not b)) (1 + position_or_len is_written bytes) 0 → AreErased (byte ∷ bytes)
    go again true e more = (eqb-true byte 0xFF e, again (omega (arith, more)))
    go again false e more = absurd (omega (arith, more))

pub all_erased : (bytes : List ℕ) → first_written bytes ≡ None → AreErased bytes
all_erased bytes none = all_passed bytes (ltb-false (position_or_len is_written bytes) (length bytes)
    (no_place (position_or_len is_written bytes) (nat_lt (position_or_len is_written bytes) (length bytes)) none))
  where
    no_place : (n : ℕ) (b : Bool) → cond b (Some n) None ≡ None → b ≡ false
    no_place n true e = cc
    no_place n false e = refl

-- ---- counting goes on

-- some more bytes are left than after a record
pub shorter_after : (bytes rest : List ℕ) → IsAfterRecord bytes rest → length rest < length bytes
shorter_after bytes rest p =
    let all = ap length p.is ∙ length-append (record_bytes p.first) rest in
    let some : 1 ≤ length (record_bytes p.first) = omega arith in
    omega (arith, all, some)

-- so many of the bytes' records come before these, with which they end
abbrev pub LeadsTo : List ℕ → List ℕ → ℕ → Type 0
LeadsTo bytes rest before = (more total : ℕ) → CountsRecords rest more → total ≡ before + more → CountsRecords bytes total

pub past_record : (bytes rest after : List ℕ) (count : ℕ) → IsAfterRecord rest after → LeadsTo bytes rest count → LeadsTo bytes after (count + 1)
past_record bytes rest after count p leads more total counts is = leads (suc more) total (one_more p counts) (omega (arith, is))

pub past_four : (bytes rest after : List ℕ) (count : ℕ) → rest ≢ [] → BeginsNone rest → after ≡ drop 4 rest →
    LeadsTo bytes rest count → LeadsTo bytes after count
past_four bytes rest after count some none is leads more total counts sum =
    leads more total (none_here some none (subst (λ (t : List ℕ). CountsRecords t more) is counts)) sum

pub all_counted : (bytes rest : List ℕ) (count : ℕ) → length rest ≡ 0 → LeadsTo bytes rest count → CountsRecords bytes count
all_counted bytes [] count none leads = leads 0 count at_end (omega arith)
all_counted bytes (byte ∷ rest) count none leads = absurd (omega (arith, none))

pub has_some : (rest : List ℕ) → 0 < length rest → rest ≢ []
has_some rest some none = let zero : length rest ≡ 0 = ap length none in omega (arith, some, zero)
