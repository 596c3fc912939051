-- What a command over a replay says of the moves that were told. Its history begins with what the machine had at first, so that
-- this is known afterwards, although the command's contract knows nothing of a replay.
use Rattle.std.proofs.Common.{◌≡◌, ℕ, ◌≤◌, Result, Ok, Err, IfOk, List, [], ◌∷◌, ◌++◌, length, take, sym, ap, subst, ◌∙◌, arith}
use Rattle.std.specs.List.{AllByRecursion}
use Rattle.std.proofs.lemmas.List.{take_all, take_at, take-map, length-map, map_push}
use Rattle.uefi_vars.specs.Vars.{Variables}
use Rattle.boot_journal.specs.declared.machine.CommandError.{CommandError}
use Rattle.boot_journal.specs.declared.journal_file.JournalFile.{JournalFile}
use Rattle.boot_journal.specs.Bytes.{SpellsJournalFile}
use Rattle.boot_journal.specs.Commands.{IsCommanding, IsCommandMoment}
use Rattle.boot_journal.specs.Moments.{Leaves}
use Rattle.boot_journal.specs.Store.{Store}
use Rattle.boot_moves.specs.declared.parts.Move.{Move}
use Rattle.boot_moves.specs.declared.parts.Told.{Told}
use Rattle.boot_moves.specs.declared.replaying.Outcome.{Outcome}
use Rattle.boot_moves.specs.declared.replaying.Outcome.TheVariants as outcome
use Rattle.boot_moves.specs.Deeds.{Deed, deed_of, deeds_of, past}
use Rattle.boot_moves.specs.Ending.{AreOfCommand, LeadsTo, Ends}
use Rattle.boot_moves.specs.Outcome.{IfAsks, IfEnds}

abbrev head : Store → List Store → Store
head s [] = s
head s (x ∷ xs) = x

abbrev tail : List Store → List Store
tail [] = []
tail (x ∷ xs) = xs

-- the same at first, and each moment since is so
pub first_is : (P : Store → Type 0) (f f' : Store) (old new : List Store) (ds : List Deed) → old ≡ f ∷ [] → new ≡ f' ∷ past ds f' → Leaves P old new
    → f' ≡ f
first_is P f f' old new ds begins goes leaves =
    let all : f' ∷ past ds f' ≡ f ∷ leaves.since = sym goes ∙ leaves.is ∙ ap (λ (l : List Store). l ++ leaves.since) begins in
    ap (head f) all

pub moments_since : (P : Store → Type 0) (f f' : Store) (old new : List Store) (ds : List Deed) → old ≡ f ∷ [] → new ≡ f' ∷ past ds f' → Leaves P old new
    → AllByRecursion P (past ds f)
moments_since P f f' old new ds begins goes leaves =
    let all : f' ∷ past ds f' ≡ f ∷ leaves.since = sym goes ∙ leaves.is ∙ ap (λ (l : List Store). l ++ leaves.since) begins in
    let since : past ds f' ≡ leaves.since = ap tail all in
    subst (λ (s : Store). AllByRecursion P (past ds s)) (ap (head f) all) (subst (AllByRecursion P) (sym since) leaves.each)

-- the moves are those that were told, if there are as many
pub all_told : (told made : List Told) → deeds_of told ≡ take (length told) (deeds_of made) → length made ≡ length told → deeds_of made ≡ deeds_of told
all_told told made first count =
    let long : length (deeds_of made) ≤ length told = omega (arith, count, length-map made deed_of) in
    sym (first ∙ take_all (length told) (deeds_of made) long)

-- and one more, if there is one more
pub told_and_last : (told made front : List Told) (last : Told) → deeds_of told ≡ take (length told) (deeds_of made)
    → made ≡ front ++ last ∷ [] → length front ≡ length told → deeds_of made ≡ deeds_of told ++ deed_of last ∷ []
told_and_last told made front last first is count =
    let parts : deeds_of made ≡ deeds_of front ++ deed_of last ∷ [] = ap deeds_of is ∙ map_push deed_of front last in
    let taken : take (length told) (deeds_of made) ≡ deeds_of front =
    ap (take (length told)) parts ∙ take_at (deeds_of front) (deed_of last ∷ []) (length told) (length-map front deed_of ∙ count) in
    parts ∙ ap (λ (l : List Deed). l ++ deed_of last ∷ []) (sym (first ∙ taken))

-- what is known of the ending over equal stores
pub ends_over : {A F : Type 0} (Leads : Variables → Variables → A → Type 0) (Refuses : Variables → F → Type 0) (boot : List ℕ) (f f' l l' : Store)
    (result : Result A (CommandError ℕ F)) → f ≡ f' → l ≡ l' → Ends Leads Refuses boot f l result → Ends Leads Refuses boot f' l' result
ends_over Leads Refuses boot f f' l l' result first last ends =
    subst (λ (s : Store). Ends Leads Refuses boot f' s result) last (subst (λ (s : Store). Ends Leads Refuses boot s l result) first ends)

-- ---- what is so of one is so of the other

pub asks_weaker : {A F E : Type 0} (P Q : Move → Type 0) (result : Result (Outcome A F) E) → ((asked : Move) → P asked → Q asked)
    → IfOk result (λ o. IfAsks o P) → IfOk result (λ o. IfAsks o Q)
asks_weaker P Q (Ok (outcome.Asks asked)) f h = f asked h
asks_weaker P Q (Ok (outcome.Ends result)) f h = tt
asks_weaker P Q (Err error) f h = tt

pub ends_weaker : {A F E : Type 0} (P Q : Result A (CommandError ℕ F) → Type 0) (result : Result (Outcome A F) E)
    → ((ended : Result A (CommandError ℕ F)) → P ended → Q ended)
    → IfOk result (λ o. IfEnds o P) → IfOk result (λ o. IfEnds o Q)
ends_weaker P Q (Ok (outcome.Asks asked)) f h = tt
ends_weaker P Q (Ok (outcome.Ends result)) f h = f result h
ends_weaker P Q (Err error) f h = tt

pub of_command : {A : Type 0} (Leads : Variables → Variables → A → Type 0) (boot : List ℕ) (first s f' : Store) (old new : List Store) (made ds : List Deed)
    → s ≡ first → old ≡ first ∷ [] → new ≡ f' ∷ past made f' → made ≡ ds
    → Leaves (IsCommanding (LeadsTo Leads) boot s) old new → Leaves (IsCommandMoment (LeadsTo Leads) boot s) old new
    → AreOfCommand (LeadsTo Leads) boot first ds
of_command Leads boot first s f' old new made ds starts begins goes is moves moments =
    let L = LeadsTo Leads in
    let moved = subst (λ (t : Store). Leaves (IsCommanding L boot t) old new) starts moves in
    let meant = subst (λ (t : Store). Leaves (IsCommandMoment L boot t) old new) starts moments in
    record {
      moves = subst (λ (l : List Deed). AllByRecursion (IsCommanding L boot first) (past l first)) is
          (moments_since (IsCommanding L boot first) first f' old new made begins goes moved);
      moments = subst (λ (l : List Deed). AllByRecursion (IsCommandMoment L boot first) (past l first)) is
          (moments_since (IsCommandMoment L boot first) first f' old new made begins goes meant);
    }

-- ---- what the loops and the bytes say

-- equal bytes spell the same
pub same_journal : (bytes others : List ℕ) (file : JournalFile) → bytes ≡ others → SpellsJournalFile bytes file → SpellsJournalFile others file
same_journal bytes others file same spells = subst (λ (b : List ℕ). SpellsJournalFile b file) same spells

-- at the end of the loop
pub first_told : (told made : List Told) (i : ℕ) → length told ≤ i → i ≤ length told → deeds_of (take i told) ≡ deeds_of (take i made)
    → deeds_of told ≡ take (length told) (deeds_of made)
first_told told made i low high so_far =
    let at : i ≡ length told = omega (arith, low, high) in
    ap deeds_of (sym (take_all i told low)) ∙ so_far ∙ sym (take-map deed_of i made) ∙ ap (λ (n : ℕ). take n (deeds_of made)) at
