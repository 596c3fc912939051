-- What emulators' variable files have, and what becomes of one, as C is told.
use Rattle.std.specs.Prelude.{◌≡◌, ◌⊎◌, ℕ, List}
use Rattle.uefi_vars.specs.Vars.{Variables}
use Rattle.uefi_vars.specs.Set.{SpellsSet, set_bytes}
use Rattle.boot_journal.specs.declared.attributes.AttributesFault.{AttributesFault}
use Rattle.boot_journal.specs.Attributes.{with_attributes, data_of, IsFaultWith, IsFaultWithout}
use Rattle.var_stores.specs.declared.fault.StoreFault.{StoreFault}
use Rattle.var_stores.specs.declared.write_fault.WriteFault.{WriteFault}
use Rattle.var_stores.specs.Record.{RecordParts}
use Rattle.var_stores.specs.Volume.{StoreParts, SpellsStore, IsStoreFault}
use Rattle.var_stores.specs.Present.{IsSetOf, AreAttributesOf}
use Rattle.var_stores.specs.Rewriting.{IsWritten, IsWriteFault}
use Rattle.bootkeep_c.specs.declared.failure.Failure.{Failure}
use Rattle.bootkeep_c.specs.Refusals.{store_failure, rewrite_failure, attributes_failure}
use Rattle.bootkeep_c.specs.Sets.{IsSetFailure}

-- ---- what a file has

-- a machine keeps these: the variables of the records, with their attributes
pub record AreStored (records : List RecordParts) (kept : Variables) : Type 0 where
  pub vars : Variables
  pub attributes : Variables
  pub vars_are : IsSetOf records vars
  pub attributes_are : AreAttributesOf records attributes
  pub is : kept ≡ with_attributes attributes vars

-- none does, for this
pub record AreUnstored (records : List RecordParts) (failed : Failure) : Type 0 where
  pub vars : Variables
  pub vars_are : IsSetOf records vars
  pub why : AttributesFault
  pub has : IsFaultWith vars why
  pub is : failed ≡ attributes_failure why

-- the bytes are the set of what the file has
pub record IsStored (file bytes : List ℕ) : Type 0 where
  pub store : StoreParts
  pub kept : Variables
  pub spelled : SpellsStore file store
  pub are : AreStored store.records kept
  pub is : bytes ≡ set_bytes kept

-- there is none: the file is none of variables, or no set takes what it has
abbrev pub IsUnstored : List ℕ → Failure → Type 0
IsUnstored file failed =
    ((why : StoreFault) × IsStoreFault file why × (failed ≡ store_failure why))
    ⊎ ((store : StoreParts) × SpellsStore file store × AreUnstored store.records failed)

-- ---- what becomes of a file

-- it isn't written with what a machine keeps: a variable has attributes alone, or the store isn't written
abbrev pub IsUnwritten : List ℕ → Variables → Failure → Type 0
IsUnwritten file kept failed =
    ((why : AttributesFault) × IsFaultWithout kept why × (failed ≡ attributes_failure why))
    ⊎ ((why : WriteFault) × IsWriteFault file (data_of kept) kept why × (failed ≡ rewrite_failure why))

-- the bytes are the file with the boot manager's variables of the set
abbrev pub IsFileWith : List ℕ → List ℕ → List ℕ → Type 0
IsFileWith file set bytes = (kept : Variables) × SpellsSet set kept × IsWritten file (data_of kept) kept bytes

-- there is none: the bytes are no set, or the file isn't written with it
abbrev pub IsNoFileWith : List ℕ → List ℕ → Failure → Type 0
IsNoFileWith file set failed =
    IsSetFailure set failed ⊎ ((kept : Variables) × SpellsSet set kept × IsUnwritten file kept failed)
