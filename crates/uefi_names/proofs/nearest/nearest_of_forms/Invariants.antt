use Rattle.std.proofs.Common.{◌≡◌, drop, map}
use Rattle.uefi_names.specs.Nearest.{near_of, nearest_of}
use Rattle.uefi_names.proofs.nearest.nearest_of_forms.Given as goal

abbrev pub invariant-loop-form : goal.invariant-loop-form
invariant-loop-form l =
    nearest_of l.text (near_of l.near) (map (λ form. form.name.now) (drop l.form-index l.forms))
    ≡ nearest_of l.text (near_of l.before) (map (λ form. form.name.now) l.forms)
