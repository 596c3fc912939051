-- What `==` computes of rows and of vendors' parts.
use Rattle.std.specs.Prelude.{Bool, ◌==◌}
use Rattle.std.specs.Ordering.{on, eq_of_both}
use Rattle.std.specs.Cmp.Lexicographic.{pointwise}
use Rattle.uefi_path.specs.Parts.{VendorParts}
use Rattle.uefi_path.specs.Row.{Row}

abbrev pub row_eq : Row → Row → Bool
row_eq =
    eq_of_both (on (λ r. r.kind) ◌==◌)
    (eq_of_both (on (λ r. r.sub) ◌==◌) (on (λ r. r.body) (pointwise ◌==◌)))

abbrev pub vendor_eq : VendorParts → VendorParts → Bool
vendor_eq = eq_of_both (on (λ p. p.guid) (pointwise ◌==◌)) (on (λ p. p.body) (pointwise ◌==◌))
