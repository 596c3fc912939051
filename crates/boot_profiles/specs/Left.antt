-- What a profile leaves alone.
use Rattle.std.specs.Prelude.{◌≢◌, ℕ, List}
use Rattle.uefi_vars.specs.Name.{timeout_text}
use Rattle.boot_edits.specs.Parts.{IsOtherName}
use Rattle.boot_profiles.specs.declared.profile.Profile.{Profile}
use Rattle.boot_profiles.specs.Applied.{IsAmong}
use Rattle.boot_profiles.specs.Described.{HasDescription}

-- the bytes have no description that the profile speaks of: they have another one, or are no load option
abbrev pub IsOfOthers : Profile → List ℕ → Type 0
IsOfOthers profile bytes = (description : List ℕ) → IsAmong profile.entries.items description → HasDescription bytes description → ⊥

-- neither an entry nor BootOrder nor BootNext nor Timeout has this name
pub record IsNoBootName (name : List ℕ) : Type 0 where
  pub other : IsOtherName name
  pub timeout : name ≢ timeout_text
