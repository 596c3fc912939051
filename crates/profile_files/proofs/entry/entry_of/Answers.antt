use Rattle.std.proofs.Common.{subst}
use Rattle.std.specs.Prelude.{codes}
use Rattle.profile_files.specs.Entries.{IsState}
use Rattle.profile_files.specs.Members.{Members, HasValue}
use Rattle.profile_files.proofs.entry.entry_of.Goals as goal

pub returns : goal.returns
returns c =
    let entry = c.in_ok-name.name in
    let state = c.in_ok-state in
    record {
      members = c.in_ok-members.members.now.items;
      table = c.in_ok-members.ensures;
      description = c.in-Some.description.now;
      has_description = subst (λ (them : Members). HasValue (codes "description") c.in-Some.description.now them) c.deref-3.ensures.value c.in-Some.ensures;
      name = c.in_ok-name.ensures;
      state = subst (λ (them : Members). IsState them entry.bytes.items state.state) c.deref-2.ensures.value state.ensures;
    }
