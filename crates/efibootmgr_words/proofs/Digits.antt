-- The digits of an EUI-64.
use Rattle.std.proofs.Common.{◌≡◌, ℕ, true, List, [], ◌∷◌, ◌++◌, length, get_or, refl, arith}
use Rattle.uefi_text.specs.Bytes.{pair_text}
use Rattle.efibootmgr_words.specs.Nodes.{upper_eui_text}

pub upper_eui_cells : (bytes : List ℕ) → length bytes ≡ 8
    → pair_text true (get_or bytes 0 0)
    ++ (45 ∷ (pair_text true (get_or bytes 1 0)
    ++ (45 ∷ (pair_text true (get_or bytes 2 0)
    ++ (45 ∷ (pair_text true (get_or bytes 3 0)
    ++ (45 ∷ (pair_text true (get_or bytes 4 0)
    ++ (45 ∷ (pair_text true (get_or bytes 5 0)
    ++ (45 ∷ (pair_text true (get_or bytes 6 0) ++ (45 ∷ (pair_text true (get_or bytes 7 0)))))))))))))))
    ≡ upper_eui_text bytes
upper_eui_cells (a ∷ b ∷ c ∷ d ∷ e ∷ f ∷ g ∷ h ∷ []) len = refl
upper_eui_cells [] len = absurd (omega (arith, len))
upper_eui_cells (_ ∷ []) len = absurd (omega (arith, len))
upper_eui_cells (_ ∷ _ ∷ []) len = absurd (omega (arith, len))
upper_eui_cells (_ ∷ _ ∷ _ ∷ []) len = absurd (omega (arith, len))
upper_eui_cells (_ ∷ _ ∷ _ ∷ _ ∷ []) len = absurd (omega (arith, len))
upper_eui_cells (_ ∷ _ ∷ _ ∷ _ ∷ _ ∷ []) len = absurd (omega (arith, len))
upper_eui_cells (_ ∷ _ ∷ _ ∷ _ ∷ _ ∷ _ ∷ []) len = absurd (omega (arith, len))
upper_eui_cells (_ ∷ _ ∷ _ ∷ _ ∷ _ ∷ _ ∷ _ ∷ []) len = absurd (omega (arith, len))
upper_eui_cells (_ ∷ _ ∷ _ ∷ _ ∷ _ ∷ _ ∷ _ ∷ _ ∷ _ ∷ more) len = absurd (omega (arith, len))
