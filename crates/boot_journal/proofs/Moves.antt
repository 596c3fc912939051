-- Where a cut comes as changes are made and the journal is replaced then: each moment is so many moves further.
use Rattle.std.proofs.Common.{◌≡◌, ◌⊎◌, ⊎_elim, ℕ, zero, suc, List, [], ◌∷◌, take, length, refl, sym, ap, ◌∙◌}
use Rattle.std.proofs.Math.Seq.{take-length}
use Rattle.uefi_vars.specs.BootChange.{ChangeParts}
use Rattle.boot_journal.specs.Journal.{JournalParts}
use Rattle.boot_journal.specs.Store.{Store, with_made, with_journal, IsFrontStore}
use Rattle.boot_journal.specs.Moves.{cut_making, IsMaking, IsCarrying}

amid_making : (k : ℕ) (cs : List ChangeParts) (last : JournalParts) (s : Store) → IsMaking cs last s (with_made (take k cs) s)
amid_making zero cs last s = (0, refl)
amid_making (suc k) [] last s = (0, refl)
amid_making (suc k) (c ∷ cs) last s = let later = amid_making k cs last (with_made (c ∷ []) s) in (suc later.0, later.1)

made_making : (cs : List ChangeParts) (last : JournalParts) (s : Store) → IsMaking cs last s (with_journal last (with_made cs s))
made_making [] last s = (1, refl)
made_making (c ∷ cs) last s = let later = made_making cs last (with_made (c ∷ []) s) in (suc later.0, later.1)

pub front_is_making : (cs : List ChangeParts) (last : JournalParts) (s c : Store) → IsFrontStore cs s c → IsMaking cs last s c
front_is_making cs last s c front = let at = amid_making front.0 cs last s in (at.0, front.1 ∙ at.1)

-- all changes are made, and the last move is whole or isn't made
pub made_is_making : (cs : List ChangeParts) (last : JournalParts) (s mid c : Store) → mid ≡ with_made cs s → (c ≡ mid) ⊎ (c ≡ with_journal last mid)
    → IsMaking cs last s c
made_is_making cs last s mid c is r = ⊎_elim
    (λ same. front_is_making cs last s c (length cs, same ∙ is ∙ ap (λ (l : List ChangeParts). with_made l s) (sym (take-length cs))))
    (λ done. let at = made_making cs last s in (at.0, done ∙ ap (with_journal last) is ∙ at.1)) r

-- the journal is replaced, and then the changes are made
pub carrying_made : {due : List ChangeParts} (journal : JournalParts) (cs : List ChangeParts) (last : JournalParts) (s mid c : Store)
    → mid ≡ with_journal journal s → due ≡ cs → IsMaking due last mid c → IsCarrying journal cs last s c
carrying_made journal cs last s mid c is are making = (suc making.0, making.1 ∙ (λ i. cut_making making.0 (are i) last (is i)))

pub carrying_begun : (journal : JournalParts) (cs : List ChangeParts) (last : JournalParts) (s c : Store) → (c ≡ s) ⊎ (c ≡ with_journal journal s)
    → IsCarrying journal cs last s c
carrying_begun journal cs last s c r = ⊎_elim (λ same. (0, same)) (λ begun. (1, begun)) r
