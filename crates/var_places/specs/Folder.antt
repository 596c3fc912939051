-- Folders in which Linux shows variables.
use Rattle.std.specs.Prelude.{◌≡◌, ◌≢◌, ◌⊎◌, ◌<◌, ◌++◌, ◌∷◌, [], ℕ, List, Option, Some, None, ⊤, length, take, drop}
use Rattle.std.specs.Borrow.{Bor}
use Rattle.std.specs.FinMap as map
use Rattle.uefi_text.specs.Guid.{IsGuid}
use Rattle.uefi_vars.specs.Name.{global_vendor, keep_text, IsName}
use Rattle.uefi_vars.specs.Vars.{Variables, data_max}
use Rattle.var_places.specs.declared.folder.LeftOut.{LeftOut}
use Rattle.var_places.specs.declared.folder.LeftOut.TheVariants as left_out
use Rattle.var_places.specs.declared.folder_change.Found.{Found}
use Rattle.var_places.specs.declared.folder_change.Found.TheVariants as found

-- a hyphen and the global vendor's GUID
abbrev pub IsVendorText : List ℕ → Type 0
IsVendorText text = (vendor : List ℕ) × (text ≡ 0x2D ∷ vendor) × IsGuid vendor global_vendor

-- the name of the file that shows the global vendor's variable of this name: the name, a hyphen and the vendor's GUID
abbrev pub IsFileName : List ℕ → List ℕ → Type 0
IsFileName file name = (rest : List ℕ) × (file ≡ name ++ rest) × IsVendorText rest

-- what is at the path of a variable's file is as it is to be: a file with these bytes, or nothing
abbrev pub IsAsWanted : Found → Option (List ℕ) → Type 0
IsAsWanted found.Nothing None = ⊤
IsAsWanted (found.Bytes bytes) (Some kept) = bytes.items ≡ kept
IsAsWanted _ _ = ⊥

-- why a set doesn't take these bytes under a name
abbrev pub IsRefused : List ℕ → List ℕ → LeftOut → Type 0
IsRefused name bytes left_out.Name = ¬ IsName name
IsRefused name bytes left_out.NoValue = IsName name × (bytes ≡ [])
IsRefused name bytes left_out.LongValue = IsName name × (data_max < length bytes)
IsRefused name bytes left_out.KeepState = ⊥

-- why a variable isn't read whose file has these bytes, or more than a set can hold
abbrev pub IsFileLeftOut : List ℕ → Option (Bor (List ℕ)) → LeftOut → Type 0
IsFileLeftOut name None why = why ≡ left_out.LongValue
IsFileLeftOut name (Some file) why = IsRefused name (drop 4 file.now) why

-- the same, of any variable: BootKeepState never is read, whatever its file has
abbrev pub IsUnkept : List ℕ → Option (Bor (List ℕ)) → LeftOut → Type 0
IsUnkept name file why = ((name ≡ keep_text) × (why ≡ left_out.KeepState)) ⊎ ((name ≢ keep_text) × IsFileLeftOut name file why)

-- a variable is read of its file: nothing says why it isn't, the first four bytes are its attributes, and the others its value
abbrev pub IsRead : List ℕ → Option (Bor (List ℕ)) → (Variables × Variables) → (Variables × Variables) → Type 0
IsRead name None before after = ⊥
IsRead name (Some file) before after =
    ((why : LeftOut) → ¬ IsUnkept name (Some file) why)
    × (after.0 ≡ map.insert before.0 name (drop 4 file.now))
    × (after.1 ≡ map.insert before.1 name (take 4 file.now))
