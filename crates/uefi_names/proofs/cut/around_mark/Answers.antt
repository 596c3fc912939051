use Rattle.std.proofs.Common.{◌≡◌, List, ℕ, ap, sym, ◌∙◌, arith}
use Rattle.std.specs.Prelude.{Some}
use Rattle.std.proofs.lemmas.Str.{IsCharBoundary-before_ascii, IsCharBoundary-after_ascii}
use Rattle.uefi_names.specs.Cut.{first_outside}
use Rattle.uefi_names.proofs.Cuts.{IsCutAt, cut_at}
use Rattle.uefi_names.proofs.cut.around_mark.Goals as goal

-- what is known of the place of a mark that was found in the bytes of a text
found : (mark at : ℕ) (text bytes : List ℕ) → bytes ≡ text → Some at ≡ first_outside mark 0 0 bytes → IsCutAt mark text at
found mark at text bytes same e = cut_at mark at text (ap (first_outside mark 0 0) (sym same) ∙ sym e)

pub range-requires-clause-end_boundary : goal.range-requires-clause-end_boundary
range-requires-clause-end_boundary c =
    let known = found c.args.mark c.in-Some.at c.args.text.now c.as_bytes.result.now c.as_bytes.ensures.value c.in-Some.ensures in
    IsCharBoundary-before_ascii c.args.text.now c.in-Some.at known.under (omega (arith, known.byte, c.requires))

pub range_from-requires : goal.range_from-requires
range_from-requires c = λ _.
    let known = found c.args.mark c.in-Some.at c.args.text.now c.as_bytes.result.now c.as_bytes.ensures.value c.in-Some.ensures in
    IsCharBoundary-after_ascii c.args.text.now c.in-Some.at c.utf8.text known.under (omega (arith, known.byte, c.requires))
