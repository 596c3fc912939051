use Rattle.std.proofs.Common.{◌≡◌, ◌+◌, ◌<◌, List, ℕ, Option, None, length, get_or, take, ap, ◌∙◌, arith}
use Rattle.uefi_vars.specs.Vars.{Variables}
use Rattle.uefi_vars.specs.NameChanges.{with_data}
use Rattle.uefi_vars.specs.BootChange.{ChangeParts}
use Rattle.boot_journal.specs.Changes.{made}
use Rattle.boot_journal.specs.Journal.{idle}
use Rattle.boot_journal.specs.Store.{Store}
use Rattle.boot_journal.proofs.Moments.{one_more}
use Rattle.machine_storage.proofs.standing.after_changes.Goals as goal

-- the next change makes one more
next : (changes : List ChangeParts) (i : ℕ) (change : ChangeParts) (vars before after : Variables) (name : List ℕ) (value : Option (List ℕ))
    → i < length changes → change ≡ get_or changes i change → before ≡ made (take i changes) vars
    → name ≡ change.name → value ≡ change.after → after ≡ with_data before name value
    → after ≡ made (take (i + 1) changes) vars
next changes i change vars before after name value within is so_far named valued set =
    let store : Store = record { variables = vars; journal = idle None } in
    let so_far_made : Variables = made (take i changes) vars in
    let one : with_data so_far_made change.name change.after ≡ made (take (i + 1) changes) vars =
    ap (λ (s : Store). s.variables) (one_more changes i change store within is) in
    set
    ∙ ap (λ (m : Variables). with_data m name value) so_far
    ∙ ap (λ (n : List ℕ). with_data so_far_made n value) named
    ∙ ap (λ (v : Option (List ℕ)). with_data so_far_made change.name v) valued
    ∙ one

pub loop-change-preserved : goal.loop-change-preserved
loop-change-preserved c =
    next c.args.changes.now c.loop-change.change-index c.change-item.result c.args.vars.now c.loop-change.after c.set_value.new.vars _ _
    (omega arith) c.change-item.is c.loop-change.invariant c.name.ensures.name c.after.ensures.value c.in_ok-set_value.ensures
