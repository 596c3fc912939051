use Rattle.std.proofs.Common.{⊎_elim}
use Rattle.boot_requests.proofs.Variables.StateOf.{opens_migrated, stands_migrated}
use Rattle.boot_requests.proofs.stored_state.read_parts.Goals as goal

pub returns-clause-opened : goal.returns-clause-opened
returns-clause-opened c = opens_migrated c.args.vars.now c.migrate.new.vars c.in_ok-mark.mark c.in_ok-mark.ensures.found c.in-Ok-migrate.ensures.put

pub returns-clause-stands : goal.returns-clause-stands
returns-clause-stands c = record {
  stands = stands_migrated c.args.vars.now c.migrate.new.vars c.in_ok-mark.mark c.in_ok-mark.ensures.found c.in-Ok-migrate.ensures.put;
  waits = (c.in-Ok.ensures c.in_ok-mark.mark.next_number).0;
}

pub returns-clause-waiting : goal.returns-clause-waiting
returns-clause-waiting c = (c.in-Ok.ensures c.in_ok-mark.mark.next_number).1

pub returns-clause-only_fault : goal.returns-clause-only_fault
returns-clause-only_fault c = λ fault is. absurd (⊎_elim (λ e. cc) (λ e. cc) (c.in_ok-mark.ensures.only_fault fault is))
