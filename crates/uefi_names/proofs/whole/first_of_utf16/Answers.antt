use Rattle.std.proofs.Common.{ℕ, ◌∷◌, ap, sym, ◌∙◌}
use Rattle.std.specs.Char.Utf16.{utf16_lossy_chars}
use Rattle.uefi_names.specs.Shown.{units_in}
use Rattle.uefi_names.proofs.Chars.{no_chars}
use Rattle.uefi_names.proofs.whole.first_of_utf16.Goals as goal

pub returns-in_default-clause-none : goal.returns-in_default-clause-none
returns-in_default-clause-none c = no_chars (units_in c.args.bytes.now) c.in_default.ensures.none

pub returns-in-Some-pair_at-clause-some : goal.returns-in-Some-pair_at-clause-some
returns-in-Some-pair_at-clause-some c = ap utf16_lossy_chars c.in-Some.ensures.some ∙ c.in-Some-pair_at.ensures.some

pub returns-in-None-clause-some : goal.returns-in-None-clause-some
returns-in-None-clause-some c =
    ap utf16_lossy_chars c.in-Some.ensures.some
    ∙ (c.in-None.ensures.none ∙ ap (λ (n : ℕ). n ∷ utf16_lossy_chars (units_in c.in-Some.after.now)) (sym c.lone_char.ensures))
