-- What is brought is brought of the set with the attributes of what is there.
use Rattle.std.proofs.Common.{map, subst}
use Rattle.std.specs.String.{string_bytes}
use Rattle.uefi_vars.specs.Vars.{Variables}
use Rattle.place_edits.specs.Brought.{IsBrought}
use Rattle.place_edits.proofs.wanted_set.WantedSetWanted.run.Goals as goal

pub returns-in-Ok-clause-done : goal.returns-in-Ok-clause-done
returns-in-Ok-clause-done c =
    let left_out = map string_bytes c.args.seen.now.left_out.now in (
      subst (λ (v : Variables). IsBrought left_out c.args.vars.now v c.in_ok-brought.brought) c.in_ok-wanted.ensures.wanted
          c.in_ok-brought.ensures,
      c.in_ok-kept.ensures,
    )
