use Rattle.std.proofs.Common.{◌≡◌, ℕ, List, Result, Ok, Err, ap}
use Rattle.std.specs.Prelude.{IfOk, IfErr}
use Rattle.uefi_path.specs.declared.node.Node.{Node}
use Rattle.uefi_path.specs.declared.fault.PathFault.{PathFault}
use Rattle.uefi_path.specs.Fault.{IsFirstFault}
use Rattle.uefi_path.specs.Path.{IsPathFront}
use Rattle.uefi_path.proofs.Faults.{same_fault}
use Rattle.uefi_path.proofs.Paths.{same_front, no_fault_at_front}
use Rattle.uefi_path.proofs.reader.check_path.Goals as goal

abbrev Checked : Type 0
Checked = Result ℕ PathFault

module _ (input : List ℕ) where
  one_len : (result : Checked) → IfOk result (λ n. (path : List (List Node)) × IsPathFront input path n) → IfErr result (λ fault. IsFirstFault input fault)
      → (path : List (List Node)) (n : ℕ) → IsPathFront input path n → result ≡ Ok n
  one_len (Ok m) found fault path n front = ap (λ (k : ℕ). let ok : Checked = Ok k in ok) (same_front input found.0 path m n found.1 front).1
  one_len (Err f) found fault path n front = absurd (no_fault_at_front input f path n front fault)

  one_fault : (result : Checked) → IfOk result (λ n. (path : List (List Node)) × IsPathFront input path n) → IfErr result (λ fault. IsFirstFault input fault)
      → (fault : PathFault) → IsFirstFault input fault → result ≡ Err fault
  one_fault (Ok m) found fault other first = absurd (no_fault_at_front input other found.0 m found.1 first)
  one_fault (Err f) found fault other first = ap (λ (g : PathFault). let err : Checked = Err g in err) (same_fault input f other fault first)

pub returns-clause-only : goal.returns-clause-only
returns-clause-only c = one_len c.args.bytes.now c.find_end.result c.find_end.ensures.found c.find_end.ensures.fault

pub returns-clause-only_fault : goal.returns-clause-only_fault
returns-clause-only_fault c = one_fault c.args.bytes.now c.find_end.result c.find_end.ensures.found c.find_end.ensures.fault
