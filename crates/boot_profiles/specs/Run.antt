-- Runs of profiles over what a machine keeps: the variables of the boot manager with their attributes.
use Rattle.std.specs.Prelude.{◌≡◌}
use Rattle.uefi_vars.specs.Vars.{Variables}
use Rattle.boot_journal.specs.Attributes.{data_of, with_attributes, HasNoData, HasLongData}
use Rattle.boot_profiles.specs.declared.profile.Profile.{Profile}
use Rattle.boot_profiles.specs.declared.run.ProfileRunFault.{ProfileRunFault}
use Rattle.boot_profiles.specs.declared.run.ProfileRunFault.TheVariants as run
use Rattle.boot_profiles.specs.Applied.{IsApplied, IsProfileFault}

-- what is kept becomes this: the profile is applied to the data, and each variable has the attributes that it had
pub record IsRun (profile : Profile) (from to : Variables) : Type 0 where
  pub set : Variables
  pub applied : IsApplied profile (data_of from) set
  pub is : to ≡ with_attributes from set

-- the profile leads to more data than a set takes together with its attributes
pub record LeadsTooFar (profile : Profile) (from : Variables) : Type 0 where
  pub set : Variables
  pub applied : IsApplied profile (data_of from) set
  pub long : HasLongData set

-- why there is no such run
abbrev pub IsRunFault : Profile → Variables → ProfileRunFault → Type 0
IsRunFault profile from (run.Profile f) = IsProfileFault profile (data_of from) f
IsRunFault profile from run.NoData = HasNoData from
IsRunFault profile from run.TooLong = LeadsTooFar profile from

-- for private functions: why a profile isn't applied to variables
abbrev pub IsRefusal : Profile → Variables → ProfileRunFault → Type 0
IsRefusal profile vars (run.Profile f) = IsProfileFault profile vars f
IsRefusal profile vars run.NoData = ⊥
IsRefusal profile vars run.TooLong = ⊥
