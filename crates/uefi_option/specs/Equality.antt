-- What `==` computes of load options.
use Rattle.std.specs.Prelude.{Bool, ◌==◌}
use Rattle.std.specs.Ordering.{on, eq_of_both}
use Rattle.std.specs.Cmp.Lexicographic.{pointwise}
use Rattle.uefi_path.specs.contracts.path.PathPartialEq.TheImpl.{ghosts}
use Rattle.uefi_option.specs.LoadOption.{OptionParts}

abbrev pub option_eq : OptionParts → OptionParts → Bool
option_eq =
    eq_of_both (on (λ o. o.attributes) ◌==◌)
    (eq_of_both (on (λ o. o.description) (pointwise ◌==◌))
    (eq_of_both (on (λ o. o.paths) (pointwise ghosts.eq)) (on (λ o. o.optional) (pointwise ◌==◌))))
