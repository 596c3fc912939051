-- A name that a node refuses is too long.
use Rattle.std.proofs.Common.{◌≡◌, ◌≢◌, ◌<◌, ℕ, List, eqb, length, Some, None, refl}
use Rattle.std.specs.Prelude.{Result, Err, position}
use Rattle.std.specs.Str.{chars, IsUtf8}
use Rattle.uefi_path.specs.Standard.{path_name_max}
use Rattle.uefi_path.specs.declared.fault.NameFault.{NameFault}
use Rattle.uefi_path.specs.declared.fault.NameFault.TheVariants as refusal
use Rattle.partitions.specs.LoaderName.{bad_place, units_of, IsNameFault}
use Rattle.partitions.specs.declared.fault.LoaderNameFault.TheVariants as fault
use Rattle.partitions.proofs.Characters.{no_zero_unit}

pub too_long : (name : List ℕ) (why : NameFault) → IsUtf8 name → bad_place (chars name) ≡ None
    → ((at : ℕ) → why ≡ refusal.ZeroUnit at → position (λ unit. eqb unit 0) (units_of name) ≡ Some at)
    → (why ≡ refusal.TooLong → (position (λ unit. eqb unit 0) (units_of name) ≡ None) × (path_name_max < length (units_of name)))
    → why ≢ refusal.OutOfMemory → IsNameFault name fault.TooLong
too_long name (refusal.ZeroUnit at) utf8 good zero long named = absurd (no_zero_unit name at good (zero at refl))
too_long name refusal.TooLong utf8 good zero long named = (utf8, good, (long refl).1)
too_long name refusal.OutOfMemory utf8 good zero long named = absurd (named refl)

-- a refusal is the one that has its parts
pub refusal_is : {T F U R : Type 0} (make : F → U → R) (f g : F) (u v : U) → f ≡ g → u ≡ v → ◌≡◌ {A = Result T R} (Err (make f u)) (Err (make g v))
refusal_is make f g u v p q = cc
