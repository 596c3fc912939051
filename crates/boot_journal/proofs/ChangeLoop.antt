-- Reading changes one after the other, as a loop does: what was read, before what is left, is what reading all gives.
use Rattle.std.proofs.Common.{◌≡◌, ℕ, zero, suc, ◌<◌, ◌≤◌, List, [], ◌∷◌, ◌++◌, length, Result, Ok, Err, refl, sym, ap, subst, ◌∙◌, append_assoc, arith}
use Rattle.std.specs.List.{AllByRecursion}
use Rattle.std.proofs.lemmas.List.{append-nil, nil_from_length}
use Rattle.uefi_vars.proofs.Bytes.{AllByRecursion-append}
use Rattle.uefi_vars.specs.BootChange.{ChangeParts}
use Rattle.boot_journal.specs.declared.fault.JournalFault.{JournalFault}
use Rattle.boot_journal.specs.declared.fault.JournalFault.TheVariants as fault
use Rattle.boot_journal.specs.Values.{IsBootChange}
use Rattle.boot_journal.specs.Reader.{◌>>=◌, Fails, change_at, changes_within}

abbrev Changes : Type 0
Changes = List ChangeParts

-- these changes, and those that are still read
abbrev pub with_front : Changes → Result Changes JournalFault → Result Changes JournalFault
with_front front read = read >>= λ more. Ok (front ++ more)

pub whole_front : (read : Result Changes JournalFault) → read ≡ with_front [] read
whole_front (Ok more) = refl
whole_front (Err f) = refl

pub none_within : (count end : ℕ) → changes_within count end [] ≡ Ok []
unfolding changes_within
none_within zero end = refl
none_within (suc count) end = refl

pub first_within : (count end byte : ℕ) (bytes : List ℕ) (change : ChangeParts) (behind : List ℕ) → change_at end (byte ∷ bytes) ≡ Ok (change, behind)
    → changes_within (suc count) end (byte ∷ bytes) ≡ (changes_within count end behind >>= λ others. Ok (change ∷ others))
unfolding changes_within
first_within count end byte bytes change behind read = rw read refl

pub fault_within : (count end byte : ℕ) (bytes : List ℕ) (f : JournalFault) → change_at end (byte ∷ bytes) ≡ Err f
    → changes_within (suc count) end (byte ∷ bytes) ≡ Err f
unfolding changes_within
fault_within count end byte bytes f read = rw read refl

pub regroup : (front : Changes) (change : ChangeParts) (read : Result Changes JournalFault)
    → with_front front (read >>= λ others. Ok (change ∷ others)) ≡ with_front (front ++ change ∷ []) read
regroup front change (Ok more) = ap (λ (cs : Changes). Ok cs) (sym (append_assoc front (change ∷ []) more))
regroup front change (Err f) = refl

-- ---- the loop

-- there are as many changes at most as bytes, and what is still read is read so
abbrev pub IsOnTheWay : ℕ → List ℕ → Changes → Result Changes JournalFault → Type 0
IsOnTheWay end rest front total = (count : ℕ) × (length rest ≤ count) × (total ≡ with_front front (changes_within count end rest))

pub begins : (end : ℕ) (bytes : List ℕ) (front : Changes) → front ≡ [] → IsOnTheWay end bytes front (changes_within (length bytes) end bytes)
begins end bytes front none = (length bytes, omega arith, rw none (whole_front (changes_within (length bytes) end bytes)))

pub goes_on : (end : ℕ) (rest behind : List ℕ) (front : Changes) (change : ChangeParts) (total : Result Changes JournalFault)
    → IsOnTheWay end rest front total → change_at end rest ≡ Ok (change, behind) → length behind < length rest
    → IsOnTheWay end behind (front ++ change ∷ []) total
goes_on end [] behind front change total on read shorter = absurd (omega (arith, shorter))
goes_on end (byte ∷ bytes) behind front change total (zero, fits, is) read shorter = absurd (omega (arith, fits))
goes_on end (byte ∷ bytes) behind front change total (suc count, fits, is) read shorter = (
  count,
  omega (arith, fits, shorter),
  is ∙ ap (with_front front) (first_within count end byte bytes change behind read)
      ∙ regroup front change (changes_within count end behind),
)

stops_at : (end : ℕ) (rest : List ℕ) (front : Changes) (f : JournalFault) (total : Result Changes JournalFault)
    → IsOnTheWay end rest front total → 0 < length rest → change_at end rest ≡ Err f → total ≡ Err f
stops_at end [] front f total on some read = absurd (omega (arith, some))
stops_at end (byte ∷ bytes) front f total (zero, fits, is) some read = absurd (omega (arith, fits))
stops_at end (byte ∷ bytes) front f total (suc count, fits, is) some read = is ∙ ap (with_front front) (fault_within count end byte bytes f read)

pub fails : (f : JournalFault) (end : ℕ) (rest : List ℕ) (front : Changes) (total : Result Changes JournalFault)
    → IsOnTheWay end rest front total → 0 < length rest → Fails f (change_at end rest) → Fails f total
fails fault.BadMagic end rest front total on some read = stops_at end rest front fault.BadMagic total on some read
fails (fault.BadMachine place) end rest front total on some read = stops_at end rest front (fault.BadMachine place) total on some read
fails (fault.Truncated place) end rest front total on some read = stops_at end rest front (fault.Truncated place) total on some read
fails (fault.ValueTooLong place) end rest front total on some read = stops_at end rest front (fault.ValueTooLong place) total on some read
fails (fault.BadCourse place) end rest front total on some read = stops_at end rest front (fault.BadCourse place) total on some read
fails (fault.BadIdentity place) end rest front total on some read = stops_at end rest front (fault.BadIdentity place) total on some read
fails (fault.BadName place) end rest front total on some read = stops_at end rest front (fault.BadName place) total on some read
fails fault.OutOfMemory end rest front total on some read = tt

pub is_done : (end : ℕ) (rest : List ℕ) (front : Changes) (total : Result Changes JournalFault) → IsOnTheWay end rest front total → length rest ≡ 0
    → total ≡ Ok front
is_done end rest front total (count, fits, is) none =
    let empty : rest ≡ [] = nil_from_length rest none in
    is ∙ ap (λ (r : List ℕ). with_front front (changes_within count end r)) empty ∙ ap (with_front front) (none_within count end)
    ∙ ap (λ (cs : Changes). Ok cs) (append-nil front)

-- one more change of the boot manager's variables
pub one_more : (front more : Changes) (change : ChangeParts) → more ≡ front ++ change ∷ [] → AllByRecursion IsBootChange front → IsBootChange change
    → AllByRecursion IsBootChange more
one_more front more change is all here = subst (AllByRecursion IsBootChange) (sym is) (AllByRecursion-append IsBootChange front (change ∷ []) all (here, tt))
