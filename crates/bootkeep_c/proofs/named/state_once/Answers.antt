use Rattle.std.proofs.Common.{◌≡◌, ℕ, sym, subst, arith}
use Rattle.uefi_vars.specs.Vars.{entry_of}
use Rattle.bootkeep_c.specs.Entries.{IsEntryState}
use Rattle.bootkeep_c.proofs.NamedEntries.{still_known}
use Rattle.bootkeep_c.proofs.named.state_once.Goals as goal

pub returns-clause-known : goal.returns-clause-known
returns-clause-known c =
    let entries = entry_of c.args.vars.now in
    let place : c.from-place.result ≡ c.args.number = c.from-place.ensures in
    still_known entries c.args.known.now c.from-place.result c.state_of-state.result
    (omega (arith, place, c.requires.room, c.ranges.number.fits)) c.requires.known
    (subst (λ (n : ℕ). IsEntryState entries n c.state_of-state.result) (sym place) c.state_of-state.ensures)
