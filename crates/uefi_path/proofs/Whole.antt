-- Bytes begin with a path, or have a first fault.
use Rattle.std.proofs.Common.{◌≡◌, ◌⊎◌, ℕ, zero, suc, ◌+◌, ◌-◌, ◌<◌, List, [], ◌∷◌, ◌++◌, length, take, drop, refl, ap, subst, ◌∙◌, inl, inr, arith}
use Rattle.std.specs.Int.{w16, from_le_bytes}
use Rattle.std.specs.List.{AllByRecursion}
use Rattle.std.proofs.lemmas.Bool.{cases_eq, cases_lt}
use Rattle.std.proofs.lemmas.List.{length-append}
use Rattle.uefi_path.specs.declared.node.Node.{Node}
use Rattle.uefi_path.specs.declared.fault.PathFault.{PathFault}
use Rattle.uefi_path.specs.declared.fault.PathFault.TheVariants.{NoEnd, ShortHeader, BadLength, PastEnd, BadEnd}
use Rattle.uefi_path.specs.Row.{Row, row, IsByte, row_bytes}
use Rattle.uefi_path.specs.Path.{IsPathFront}
use Rattle.uefi_path.specs.Fault.{HasHeader, IsEnd, IsFaultAt, IsFirstFault}
use Rattle.uefi_path.specs.Reader.{IsHeader, SplitsRow}
use Rattle.uefi_path.proofs.Bytes.{bytes_from_recursion}
use Rattle.uefi_path.proofs.Split.{header_of_bytes, splits_row}
use Rattle.uefi_path.proofs.Rowed.{HasRows, no_rows, one_row, path_ends, fault_stands}

-- what each input does
abbrev pub Begins : List ℕ → Type 0
Begins bytes = ((path : List (List Node)) × (n : ℕ) × IsPathFront bytes path n) ⊎ ((fault : PathFault) × IsFirstFault bytes fault)

-- what is at an offset: a fault, or a row
abbrev Step : ℕ → List ℕ → Type 0
Step offset rest = ((fault : PathFault) × IsFaultAt fault offset rest) ⊎ ((r : Row) × (behind : List ℕ) × SplitsRow rest r behind)

end_or : (sub len : ℕ) → IsEnd sub len ⊎ (¬ IsEnd sub len)
end_or sub len = elim (cases_eq len 4) [
  | inl four ↦ elim (cases_eq sub 1) [
    | inl one ↦ inl (inl one, four)
    | inr first ↦ elim (cases_eq sub 255) [ inl all ↦ inl (inr all, four) | inr second ↦ inr (λ e. elim e.0 [ inl a ↦ first a | inr b ↦ second b ]) ]
  ]
  | inr other ↦ inr (λ e. other e.1)
]

cut : (bytes : List ℕ) (kind sub len : ℕ) → AllByRecursion IsByte bytes → kind < 256 → sub < 256 →
    HasHeader bytes kind sub len → IsHeader kind sub len (length bytes) → (r : Row) × (behind : List ℕ) × SplitsRow bytes r behind
cut bytes kind sub len fits k s header is = (
  row kind sub (take (length (take len bytes) - 4) (drop 4 (take len bytes))),
  drop len bytes,
  splits_row bytes kind sub len (take len bytes) (drop len bytes) (bytes_from_recursion bytes fits) k s header is refl refl,
)

step : (offset : ℕ) (rest : List ℕ) → AllByRecursion IsByte rest → Step offset rest
step offset [] fits = inl (NoEnd offset, (refl, refl))
step offset (a ∷ []) fits = inl (ShortHeader offset 1, (refl, refl, omega arith, omega arith))
step offset (a ∷ b ∷ []) fits = inl (ShortHeader offset 2, (refl, refl, omega arith, omega arith))
step offset (a ∷ b ∷ c ∷ []) fits = inl (ShortHeader offset 3, (refl, refl, omega arith, omega arith))
step offset (a ∷ b ∷ c ∷ d ∷ t) fits =
    let rest = a ∷ b ∷ c ∷ d ∷ t in
    let len = from_le_bytes w16 (c ∷ d ∷ []) in
    let header : HasHeader rest a b len = header_of_bytes rest len (omega arith) (bytes_from_recursion rest fits) refl in
    elim (cases_lt len 4) [
      | inl short ↦ inl (BadLength offset, (refl, len, (a, b, header), short))
      | inr least ↦ elim (cases_lt (length rest) len) [
        | inl past ↦ inl (PastEnd offset len (length rest), (refl, refl, (a, b, header), least, past))
        | inr within ↦ elim (cases_eq a 127) [
          | inr other ↦ inr (cut rest a b len fits fits.0 fits.1.0 header (record { least = least; within = within; ends = λ e. absurd (other e) }))
          | inl ends ↦ elim (end_or b len) [
            | inl is ↦ inr (cut rest a b len fits fits.0 fits.1.0 header (record { least = least; within = within; ends = λ _. is }))
            | inr neither ↦ inl (BadEnd offset, (refl, b, len, subst (λ (k : ℕ). HasHeader rest k b len) ends header, least, within, neither))
          ]
        ]
      ]
    ]

behind_fits : (r rest : List ℕ) → AllByRecursion IsByte (r ++ rest) → AllByRecursion IsByte rest
behind_fits [] rest fits = fits
behind_fits (x ∷ r) rest fits = behind_fits r rest fits.1

begins : (n : ℕ) (bytes rest : List ℕ) → length rest < n → AllByRecursion IsByte rest → HasRows bytes rest → Begins bytes
begins zero bytes rest less fits h = absurd (omega (arith, less))
begins (suc n) bytes rest less fits h =
    elim (step (length bytes - length rest) rest fits) [
      | inl stop ↦ inr (stop.0, fault_stands bytes rest stop.0 h stop.1)
      | inr more ↦
          let r = more.0 in
          let behind = more.1 in
          let split : SplitsRow rest r behind = more.2 in
          let size : length rest ≡ 4 + (length r.body + length behind) = ap length split.parts ∙ omega (arith, length-append r.body behind) in
          let rest-fits : AllByRecursion IsByte behind = behind_fits (row_bytes r) behind (subst (AllByRecursion IsByte) split.parts fits) in
          let shorter : length behind < n = omega (arith, less, size) in
          elim (cases_eq r.kind 127) [
            | inr other ↦ begins n bytes behind shorter rest-fits (one_row bytes rest behind r h split (inl other))
            | inl ends ↦ elim (cases_eq r.sub 255) [
              | inl all ↦ let p = path_ends bytes rest behind r h split ends all in inl (p.0, length bytes - length behind, p.1)
              | inr one ↦ begins n bytes behind shorter rest-fits (one_row bytes rest behind r h split (inr one))
            ]
          ]
    ]

pub bytes_begin : (bytes : List ℕ) → AllByRecursion IsByte bytes → Begins bytes
bytes_begin bytes fits = begins (length bytes + 1) bytes bytes (omega arith) fits (no_rows bytes)
