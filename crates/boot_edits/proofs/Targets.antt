-- Load options whose description and paths are the same as bytes.
use Rattle.std.proofs.Common.{◌≡◌, ℕ, List, ◌++◌, length, refl, sym, ap, ◌∙◌}
use Rattle.std.specs.Int.{w16, to_le_bytes}
use Rattle.uefi_path.specs.Units.{units_bytes}
use Rattle.uefi_option.specs.LoadOption.{OptionParts, IsOption, SpellsOption, option_bytes, header_bytes, list_bytes}

-- bytes spell at most one load option
abbrev pub SpellOne : Type 0
SpellOne = (bytes : List ℕ) (o p : OptionParts) → SpellsOption bytes o → SpellsOption bytes p → o ≡ p

module _ (one : SpellOne) (o p : OptionParts) (is_o : IsOption o) (is_p : IsOption p)
    (units : units_bytes o.description ≡ units_bytes p.description) (list : list_bytes o.paths ≡ list_bytes p.paths) where
  -- with the attributes and the data of the second, the first is spelled as the second is
  abbrev both : OptionParts
  both = record o { attributes = p.attributes; optional = p.optional }

  abbrev spelled : List ℕ → List ℕ → List ℕ
  spelled u l = header_bytes p.attributes (length l) ++ ((u ++ to_le_bytes w16 0) ++ (l ++ p.optional))

  same : both ≡ p
  same = one (option_bytes p) both p (
    record { attributes = is_p.attributes; description = is_o.description; some = is_o.some; paths = is_o.paths; len = is_o.len; optional = is_p.optional },
    sym (ap (λ u. spelled u (list_bytes o.paths)) units ∙ ap (spelled (units_bytes p.description)) list),
  )
      (is_p, refl)

  pub same_description : o.description ≡ p.description
  same_description = ap (λ (q : OptionParts). q.description) same

  pub same_paths : o.paths ≡ p.paths
  same_paths = ap (λ (q : OptionParts). q.paths) same
