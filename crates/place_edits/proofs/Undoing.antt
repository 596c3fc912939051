-- Changes that an undoing goes over, one after the other, and entries that it keeps.
use Rattle.std.proofs.Common.{◌≡◌, ◌≢◌, ◌⊎◌, ◌↔◌, ℕ, ◌+◌, ◌<◌, Bool, true, false, cond, List, length, get_or, Option}
use Rattle.std.proofs.Common.{Some, inl, inr, refl, sym, ap}
use Rattle.std.proofs.Common.{subst, ◌∙◌, below_more}
use Rattle.std.specs.FinMap.{get, get-insert, insert}
use Rattle.std.specs.List.{slice_get}
use Rattle.std.specs.Ordering.{eq_by_cmp}
use Rattle.std.specs.Prelude.{IsTrue}
use Rattle.std.proofs.lemmas.Bool.{false≢true}
use Rattle.std.proofs.lemmas.Cmp.{nat_list_cmp_total}
use Rattle.std.proofs.lemmas.Map.Lookups.{exact_bytes}
use Rattle.std.proofs.lemmas.Map.Views.{tells_apart}
use Rattle.std.proofs.lemmas.Option.{slice_get_read, same_Some}
use Rattle.uefi_vars.specs.Vars.{Variables, name_cmp}
use Rattle.messages.specs.declared.failure.Failure.{Failure as PlaceFailure}
use Rattle.messages.specs.declared.failure.Failure.TheVariants.{Memory}
use Rattle.boot_history.specs.declared.history.KeptRecord.{KeptRecord}
use Rattle.change_records.specs.declared.record.Record.{Record}
use Rattle.change_records.specs.declared.stands.Standing.TheVariants as standing
use Rattle.boot_journal.specs.Cause.{IfRefused}
use Rattle.boot_journal.specs.declared.machine.CallError.{CallError}
use Rattle.boot_journal.specs.declared.machine.CallError.TheVariants.{OutOfMemory, Refused}
use Rattle.place_edits.specs.declared.undo_run.UndoFault.{UndoFault}
use Rattle.place_edits.specs.declared.undo_run.UndoFault.TheVariants.{Nothing, Changed, Failure}
use Rattle.place_edits.specs.Brought.{IsKept}
use Rattle.place_edits.specs.declared.takeable.Takeable.{Takeable}
use Rattle.place_edits.specs.Undo.{Stands, IsBroughtBack, IsThere, IsOther, CanBeUndone, IsPassedOver, ArePassedOver, IsLast}
use Rattle.place_edits.specs.Undo.{IsFailure, IsChangeFault, IsUndoFault, IsSomeUndoFault}

module _ (changes : List KeptRecord) (left_out : List (List ℕ)) (vars : Variables) (i : ℕ) (kept : KeptRecord)
    (within : i < length changes) (is : kept ≡ get_or changes i kept)
    (before : ArePassedOver changes left_out vars i) where
  here : slice_get changes i ≡ Some kept
  here = slice_get_read changes (length changes) i kept refl within is

  -- one more is passed over
  pub passed_more : IsPassedOver left_out vars kept.«record» → ArePassedOver changes left_out vars (i + 1)
  passed_more passed = below_more _ i before
      (λ other there. subst (λ (k : KeptRecord). IsPassedOver left_out vars k.«record») (same_Some _ _ (sym here ∙ there)) passed)

  -- it is the last one that isn't
  pub last_here : IsLast changes left_out vars kept
  last_here = record { place = i; here = here; later = before }

-- if undoing the last one fails, that is the fault
pub failed_is_fault : (force dry_run : Bool) (changes : List KeptRecord) (left_out : List (List ℕ)) (vars : Variables)
    (kept : KeptRecord) → IsLast changes left_out vars kept → CanBeUndone force left_out vars kept.«record»
    → (fault : UndoFault) → IsFailure fault → IsUndoFault force dry_run changes left_out vars fault
failed_is_fault force dry_run changes left_out vars kept last can Nothing is = absurd is
failed_is_fault force dry_run changes left_out vars kept last can (Changed since) is = absurd is
failed_is_fault force dry_run changes left_out vars kept last can (Failure failure) is = inr (kept, last, (is, inl can))

-- what is refused for such a fault is refused for a weaker one
pub refused_weaker : {E : Type 0} (error : CallError E) (P Q : E → Type 0) → ((fault : E) → P fault → Q fault)
    → IfRefused error P → IfRefused error Q
refused_weaker OutOfMemory P Q weaker is = tt
refused_weaker (Refused fault) P Q weaker is = weaker fault is

-- what it is to a run that something failed
pub failed : (error : CallError UndoFault) (failure : PlaceFailure)
    → IfRefused error (λ fault. (fault ≡ Failure failure) × (failure ≢ Memory)) → IfRefused error IsFailure
failed error failure is = refused_weaker error (λ fault. (fault ≡ Failure failure) × (failure ≢ Memory)) IsFailure
    (λ fault why. subst IsFailure (sym why.0) why.1) is

-- the record of a change that is passed over can't be taken away
forgotten : (force dry_run : Bool) (left_out : List (List ℕ)) (vars : Variables) (kept : KeptRecord)
    → IsPassedOver left_out vars kept.«record» → (fault : UndoFault) → IsFailure fault × (dry_run ≡ false)
    → IsChangeFault force dry_run left_out vars kept fault
forgotten force dry_run left_out vars kept over Nothing is = absurd is.0
forgotten force dry_run left_out vars kept over (Changed since) is = absurd is.0
forgotten force dry_run left_out vars kept over (Failure failure) is = (is.0, inr (is.1, over))

-- the same of an error
pub not_forgotten : (force dry_run : Bool) (left_out : List (List ℕ)) (vars : Variables) (kept : KeptRecord)
    → IsPassedOver left_out vars kept.«record» → (error : CallError UndoFault)
    → IfRefused error (λ fault. IsFailure fault × (dry_run ≡ false))
    → IfRefused error (IsChangeFault force dry_run left_out vars kept)
not_forgotten force dry_run left_out vars kept over error is =
    refused_weaker error (λ fault. IsFailure fault × (dry_run ≡ false)) (IsChangeFault force dry_run left_out vars kept)
    (forgotten force dry_run left_out vars kept over) is

-- something else has changed, and what undoing the change brings back is there
pub undone_over : (left_out : List (List ℕ)) (vars : Variables) (change : Record) (undone : Bool) → undone ≡ true
    → Stands change vars standing.Changed
    → (back : Takeable) × IsBroughtBack left_out change vars back × (IsTrue undone ↔ IsThere vars back.vars)
    → IsPassedOver left_out vars change
undone_over left_out vars change undone is stands (back, brought, there) = inr (stands, (back, brought, there.0 is))

-- the same, and something of it isn't there
pub not_undone : (left_out : List (List ℕ)) (vars : Variables) (change : Record) (undone : Bool) → undone ≡ false
    → Stands change vars standing.Changed
    → (back : Takeable) × IsBroughtBack left_out change vars back × (IsTrue undone ↔ IsThere vars back.vars)
    → IsOther left_out vars change
not_undone left_out vars change undone is stands (back, brought, there) =
    (stands, (back, brought, λ all. false≢true (sym is ∙ there.1 all)))

-- what is kept can't be read
pub not_read : (force dry_run : Bool) (left_out : List (List ℕ)) (vars : Variables) (error : CallError UndoFault)
    → IfRefused error IsFailure → IfRefused error (IsSomeUndoFault force dry_run left_out vars)
not_read force dry_run left_out vars error is =
    refused_weaker error IsFailure (IsSomeUndoFault force dry_run left_out vars) (λ fault why. inl why) is

-- none of what is kept is undone
pub none_undone : (force dry_run : Bool) (changes : List KeptRecord) (left_out : List (List ℕ)) (vars : Variables)
    (error : CallError UndoFault) → IfRefused error (IsUndoFault force dry_run changes left_out vars)
    → IfRefused error (IsSomeUndoFault force dry_run left_out vars)
none_undone force dry_run changes left_out vars error is =
    refused_weaker error (IsUndoFault force dry_run changes left_out vars) (IsSomeUndoFault force dry_run left_out vars)
    (λ fault why. inr (changes, why)) is

-- an entry that is put as it is now
pub put_kept : (now old new : Variables) (kept bytes : List ℕ) → new ≡ insert old kept bytes
    → get now kept ≡ Some bytes → IsKept kept now old new
put_kept now old new kept bytes is there name =
    let test : Bool = eq_by_cmp name_cmp name kept in
    let found : get new name ≡ cond test (Some bytes) (get old name) =
    ap (λ (m : Variables). get m name) is ∙ get-insert nat_list_cmp_total old kept bytes name in
    elim test as (λ (b : Bool). test ≡ b → (get new name ≡ get old name) ⊎ ((name ≡ kept) × (get new name ≡ get now name))) [
      | true ↦ λ ties.
          let same : name ≡ kept = tells_apart exact_bytes name kept ties in
          inr (same, found ∙ ap (λ b. cond b (Some bytes) (get old name)) ties ∙ sym there ∙ ap (get now) (sym same))
      | false ↦ λ differ. inl (found ∙ ap (λ b. cond b (Some bytes) (get old name)) differ)
    ] refl
