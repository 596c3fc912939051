use Rattle.std.proofs.Common.{◌≡◌, ◌≢◌, ◌∷◌, [], ◌++◌, sym, ◌∙◌, rules}
use Rattle.uefi_vars.proofs.Bytes.{AllByRecursion-append}
use Rattle.boot_requests.specs.declared.outcome.Code.TheVariants.{NoFree}
use Rattle.boot_requests.specs.StoredState.{IsFirstCode}
use Rattle.boot_requests.proofs.Variables.OutcomeBytes.{same_code, no_codes, codes_more, kept_more}
use Rattle.boot_requests.proofs.mark.read_codes.Goals as goal

pub returns-in_default : goal.returns-in_default
returns-in_default c = no_codes c.args.codes.now c.loop-byte.byte-index c.loop-byte-test.true (λ o known. c.in_default.ensures.none o)

pub returns-then-eq : goal.returns-then-eq
returns-then-eq c =
    let none : c.in-Some.code ≡ NoFree = search rules in
    no_codes c.args.codes.now c.loop-byte.byte-index c.loop-byte-test.true
    (λ o known e. known (same_code o c.in-Some.code (e ∙ sym c.in-Some.ensures.found) ∙ none))

pub loop-byte-preserved : goal.loop-byte-preserved
loop-byte-preserved c =
    let code = c.in-Some.code in
    let known : code ≢ NoFree = search rules in
    let before = c.loop-byte.invariant in (
      before.0 ++ code ∷ [],
      AllByRecursion-append IsFirstCode before.0 (code ∷ []) before.1 (known, tt),
      codes_more before.0 c.args.codes.now c.loop-byte.byte-index code before.2 c.loop-byte-test.true c.in-Some.ensures.found,
      kept_more c.push.new.self.items c.loop-byte.kept.items c.of.result before.0 code c.in_ok-push.ensures.items before.3 c.of.ensures,
    )
