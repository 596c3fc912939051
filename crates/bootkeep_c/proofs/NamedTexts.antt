-- Why a text in which nodes may have their names stands for no path.
use Rattle.std.proofs.Common.{◌≡◌, ◌≢◌, ℕ, List, Result, Ok, Err, inl, inr, ap, ◌∙◌}
use Rattle.std.specs.Str.{IsUtf8}
use Rattle.uefi_path.specs.declared.node.Node.{Node}
use Rattle.uefi_path.specs.Answer.{IsUnless}
use Rattle.uefi_names.specs.declared.fault.NamedFault.{NamedFault}
use Rattle.uefi_names.specs.declared.fault.NamedFault.TheVariants as named
use Rattle.uefi_names.specs.Standard.{standard_table}
use Rattle.uefi_names.specs.Reading.{IsNamedText}
use Rattle.bootkeep_c.specs.declared.failure.Failure.{Failure}
use Rattle.bootkeep_c.specs.declared.failure.Failure.TheVariants as failure
use Rattle.bootkeep_c.specs.NamedTexts.{IsNamedTextFailure}
use Rattle.bootkeep_c.specs.Refusals.{named_failure}

no_path : (fault : NamedFault) (path : List (List Node)) → fault ≢ named.OutOfMemory
    → IsUnless (Err fault) (Ok path) named.OutOfMemory → ⊥
no_path fault path other (inl same) = let wrong = same in cc
no_path fault path other (inr same) = other (let told = same in cc)

pub named_text_failed : (text : List ℕ) (fault : NamedFault) (failed : Failure) → IsUtf8 text → failed ≡ named_failure fault
    → ((path : List (List Node)) → IsNamedText standard_table text path → IsUnless (Err fault) (Ok path) named.OutOfMemory)
    → failed ≢ failure.Memory → IsNamedTextFailure text failed
named_text_failed text fault failed utf8 is only other =
    inr (utf8, (λ path means. no_path fault path (λ memory. other (is ∙ ap named_failure memory)) (only path means)), fault, is)
