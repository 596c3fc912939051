use Rattle.std.proofs.Common.{refl, sym, ◌∙◌}
use Rattle.std.proofs.lemmas.Bool.{false≢true}
use Rattle.uefi_path.specs.Units.{units_bytes}
use Rattle.boot_profiles.proofs.entry.check_same.Goals as goal

pub returns-else-has_description-clause-refused : goal.returns-else-has_description-clause-refused
returns-else-has_description-clause-refused c = record {
  other = units_bytes c.requires.0.description;
  has = record { option = c.requires.0; spelled = c.requires.1; is = refl };
  differ = λ e. false≢true (sym c.if-has_description.false ∙ c.has_description.ensures.1 (record { option = c.requires.0; spelled = c.requires.1; is = e }));
}
