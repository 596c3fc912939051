-- Options that are taken into account one after another.
use Rattle.std.proofs.Common.{◌≡◌, ℕ, drop}
use Rattle.std.specs.Prelude.{map}
use Rattle.efibootmgr_words.specs.Parts.{option_parts, given_parts}
use Rattle.efibootmgr_words.specs.Asked.{asked_parts, asked_after, asked_of}
use Rattle.efibootmgr_words.specs.declared.asked_words.Asked.{Asked}
use Rattle.efibootmgr_words.specs.declared.given_words.Given.{Given}

-- so many options of what is given are taken into account
pub record IsTakenTo (given : Given) (at : ℕ) (asked : Asked) : Type 0 where
  pub rest : asked_after (given_parts given) (map option_parts (drop at given.options.items)) (asked_parts asked) ≡ asked_of (given_parts given)
