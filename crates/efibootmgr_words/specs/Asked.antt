-- What words ask for.
use Rattle.std.specs.Prelude.{ℕ, Bool, true, false, ◌||◌, ◌&&◌, is_some, List, [], ◌∷◌, ◌++◌, map, codes, Option, Some, None, Result, Ok, Err, if◌then◌else◌}
use Rattle.std.specs.Option.{option_map}
use Rattle.uefi_vars.specs.declared.family.EntryFamily.{EntryFamily}
use Rattle.uefi_vars.specs.declared.family.EntryFamily.TheVariants as family
use Rattle.efibootmgr_words.specs.Parts.{FaultParts, NotDone, BothFamilies, NoNext, NoTimeout, NoneToDelete, NoneToActivate, OptionParts, GivenParts}
use Rattle.efibootmgr_words.specs.Values.{◌>>◌, entry_of, next_of, timeout_of, part_of, verbose_of, edd_fault, order_of}
use Rattle.efibootmgr_words.specs.declared.asked_words.Asked.{Asked}
use Rattle.efibootmgr_words.specs.declared.asked_words.EntryWords.{EntryWords}
use Rattle.efibootmgr_words.specs.declared.option_table.Choice.{Choice}
use Rattle.efibootmgr_words.specs.declared.option_table.Choice.TheVariants as choice

-- ---- what contracts see of it

-- the words of an entry that is to be made
pub record EntryParts : Type 0 where
  pub disk : List ℕ
  pub part : Option ℕ
  pub loader : List ℕ
  pub label : List ℕ
  pub binary_arguments : Option (List ℕ)
  pub unicode : Bool

abbrev pub entry_parts : EntryWords → EntryParts
entry_parts words = record {
  disk = words.disk.now;
  part = words.part;
  loader = words.loader.now;
  label = words.label.now;
  binary_arguments = option_map (λ path. path.now) words.binary_arguments;
  unicode = words.unicode;
}

-- what words ask for, each part as that of `Asked`
pub record AskedParts : Type 0 where
  pub help : Bool
  pub version : Bool
  pub quiet : Bool
  pub verbose : Bool
  pub driver : Bool
  pub sysprep : Bool
  pub entry : Option ℕ
  pub delete : Bool
  pub active : Option Bool
  pub create : Bool
  pub no_order : Bool
  pub new : EntryParts
  pub delete_order : Bool
  pub order : Option (List ℕ)
  pub keep : Bool
  pub remove_repeats : Bool
  pub delete_next : Bool
  pub next : Option ℕ
  pub delete_timeout : Bool
  pub timeout : Option ℕ
  pub others : List (List ℕ)

abbrev pub asked_parts : Asked → AskedParts
asked_parts asked = record {
  help = asked.help;
  version = asked.version;
  quiet = asked.quiet;
  verbose = asked.verbose;
  driver = asked.driver;
  sysprep = asked.sysprep;
  entry = asked.entry;
  delete = asked.delete;
  active = asked.active;
  create = asked.create;
  no_order = asked.no_order;
  new = entry_parts asked.new;
  delete_order = asked.delete_order;
  order = option_map (λ numbers. numbers.items) asked.order;
  keep = asked.keep;
  remove_repeats = asked.remove_repeats;
  delete_next = asked.delete_next;
  next = asked.next;
  delete_timeout = asked.delete_timeout;
  timeout = asked.timeout;
  others = map (λ word. word.now) asked.others.items;
}

-- ---- options

-- the loader if none is named, as in Debian: `\EFI\debian\grub.efi`
abbrev pub debian_loader : List ℕ
debian_loader = 92 ∷ (codes "EFI" ++ 92 ∷ (codes "debian" ++ 92 ∷ codes "grub.efi"))

-- what is asked for by no word
abbrev pub nothing_asked : AskedParts
nothing_asked = record {
  help = false;
  version = false;
  quiet = false;
  verbose = false;
  driver = false;
  sysprep = false;
  entry = None;
  delete = false;
  active = None;
  create = false;
  no_order = false;
  new = record {
    disk = codes "/dev/sda";
    part = None;
    loader = debian_loader;
    label = codes "Linux";
    binary_arguments = None;
    unicode = false;
  };
  delete_order = false;
  order = None;
  keep = false;
  remove_repeats = false;
  delete_next = false;
  next = None;
  delete_timeout = false;
  timeout = None;
  others = [];
}

abbrev pub with_entry : AskedParts → EntryParts → AskedParts
with_entry asked entry = record asked { new = entry }

-- what was asked for, and an option without a value
abbrev pub plainly_asked : Choice → AskedParts → AskedParts
plainly_asked choice.Activate asked = record asked { active = Some true }
plainly_asked choice.Deactivate asked = record asked { active = Some false }
plainly_asked choice.Delete asked = record asked { delete = true }
plainly_asked choice.Create asked = record asked { create = true }
plainly_asked choice.CreateOnly asked = record asked { create = true; no_order = true }
plainly_asked choice.Keep asked = record asked { keep = true }
plainly_asked choice.RemoveRepeats asked = record asked { remove_repeats = true }
plainly_asked choice.DeleteNext asked = record asked { delete_next = true }
plainly_asked choice.DeleteOrder asked = record asked { delete_order = true }
plainly_asked choice.Quiet asked = record asked { quiet = true }
plainly_asked choice.DeleteTimeout asked = record asked { delete_timeout = true }
plainly_asked choice.Unicode asked = with_entry asked (record asked.new { unicode = true })
plainly_asked choice.Verbose asked = record asked { verbose = true }
plainly_asked choice.Driver asked = record asked { driver = true }
plainly_asked choice.SysPrep asked = record asked { sysprep = true }
plainly_asked choice.Version asked = record asked { version = true }
plainly_asked choice.Help asked = record asked { help = true }
plainly_asked _ asked = asked

abbrev pub unless_fault : Option FaultParts → AskedParts → Result AskedParts FaultParts
unless_fault None asked = Ok asked
unless_fault (Some fault) asked = Err fault

-- what was asked for, and an option with this value
abbrev pub asked_with : Choice → List ℕ → AskedParts → Result AskedParts FaultParts
asked_with choice.Entry value asked = entry_of value >> λ number. Ok (record asked { entry = Some number })
asked_with choice.Next value asked = next_of value >> λ number. Ok (record asked { next = Some number })
asked_with choice.Order value asked = order_of value >> λ numbers. Ok (record asked { order = Some numbers })
asked_with choice.Timeout value asked = timeout_of value >> λ seconds. Ok (record asked { timeout = Some seconds })
asked_with choice.Part value asked = part_of value >> λ number. Ok (with_entry asked (record asked.new { part = Some number }))
asked_with choice.Verbose value asked = verbose_of value >> λ more. Ok (record asked { verbose = more })
asked_with choice.Edd value asked = unless_fault (edd_fault value) asked
asked_with choice.Disk value asked = Ok (with_entry asked (record asked.new { disk = value }))
asked_with choice.Loader value asked = Ok (with_entry asked (record asked.new { loader = value }))
asked_with choice.Label value asked = Ok (with_entry asked (record asked.new { label = value }))
asked_with choice.BinaryArguments value asked = Ok (with_entry asked (record asked.new { binary_arguments = Some value }))
asked_with _ value asked = Ok asked

-- the name of an option that isn't done here
abbrev pub not_done : Choice → Option (List ℕ)
not_done choice.EddDevice = Some (codes "edd-device")
not_done choice.Interface = Some (codes "iface")
not_done choice.MirrorBelow = Some (codes "mirror-below-4G")
not_done choice.MirrorAbove = Some (codes "mirror-above-4G")
not_done _ = None

abbrev pub asked_by : Option (List ℕ) → Choice → Option (List ℕ) → AskedParts → Result AskedParts FaultParts
asked_by (Some name) kind value asked = Err (NotDone name)
asked_by None kind None asked = Ok (plainly_asked kind asked)
asked_by None kind (Some value) asked = asked_with kind value asked

abbrev pub asked_and : OptionParts → AskedParts → Result AskedParts FaultParts
asked_and option asked = asked_by (not_done option.choice) option.choice option.value asked

-- ---- all words

-- an entry is to be changed, and none is named
abbrev pub fault_for : Bool → Bool → Bool → Option FaultParts
fault_for true delete active = None
fault_for false true active = Some NoneToDelete
fault_for false false true = Some NoneToActivate
fault_for false false false = None

-- the name of the option for entries of another family, if one of the two is given
abbrev pub family_option : Bool → Bool → Option (List ℕ)
family_option false false = None
family_option true sysprep = Some (codes "driver")
family_option false true = Some (codes "sysprep")

-- whose entries are meant
abbrev pub family_meant : Bool → Bool → EntryFamily
family_meant false false = family.Boot
family_meant true sysprep = family.Driver
family_meant false true = family.SysPrep

-- entries of another family are meant, which have neither a BootNext nor a Timeout
abbrev pub fault_of_family : Option (List ℕ) → Bool → Bool → Option FaultParts
fault_of_family None next timeout = None
fault_of_family (Some name) true timeout = Some (NoNext name)
fault_of_family (Some name) false true = Some (NoTimeout name)
fault_of_family (Some name) false false = None

abbrev pub first_fault : Option FaultParts → Option FaultParts → Option FaultParts
first_fault (Some fault) other = Some fault
first_fault None other = other

-- what is wrong with the families that words mean
abbrev pub family_fault : AskedParts → Option FaultParts
family_fault asked =
    if asked.driver && asked.sysprep then Some BothFamilies
    else fault_of_family (family_option asked.driver asked.sysprep)
    (is_some asked.next || asked.delete_next) (is_some asked.timeout || asked.delete_timeout)

-- what is wrong with words together
abbrev pub fault_together : AskedParts → Option FaultParts
fault_together asked =
    if asked.version then None
    else first_fault (family_fault asked) (fault_for (is_some asked.entry) asked.delete (is_some asked.active))

-- what words ask for in the end, if no option is left: what is wrong with a word comes before what is wrong with them together
abbrev pub asked_unless : Option FaultParts → Option FaultParts → List (List ℕ) → AskedParts → Result AskedParts FaultParts
asked_unless (Some fault) together others asked = Err fault
asked_unless None (Some fault) others asked = Err fault
asked_unless None None others asked = Ok (record asked { others = others })

abbrev pub asked_at_end : GivenParts → AskedParts → Result AskedParts FaultParts
asked_at_end given asked = asked_unless given.fault (fault_together asked) given.others asked

-- what is asked for if options are left: an option that asks for the help ends it
abbrev pub asked_after : GivenParts → List OptionParts → AskedParts → Result AskedParts FaultParts
asked_after given [] asked = asked_at_end given asked
asked_after given (option ∷ options) asked =
    asked_and option asked >> λ more. if more.help then Ok more else asked_after given options more

-- what is asked for by what was given, or the first fault
abbrev pub asked_of : GivenParts → Result AskedParts FaultParts
asked_of given = asked_after given given.options nothing_asked
