use Rattle.std.proofs.Common.{◌+◌, ◌-◌, ◌∙◌, sym, ap, rules}
use Rattle.efi_images.specs.Signatures.{list_parts}
use Rattle.efi_images.specs.Leads.{entry_count, has_entry}
use Rattle.efi_images.proofs.Leading.{entry_here, entry_after, no_entry_left}
use Rattle.efi_images.proofs.leads.has_entry.Goals as goal

pub returns-then-eq : goal.returns-then-eq
returns-then-eq c =
    let below = rw c.entry_count-end.ensures at c.loop-test.true in
    sym (c.loop.invariant ∙ entry_here c.args.wanted.now c.args.list.now.signature_len c.loop.rest.now
    (entry_count (list_parts c.args.list.now)) c.loop.counter below (search rules))

pub loop-preserved : goal.loop-preserved
loop-preserved c =
    let below = rw c.entry_count-end.ensures at c.loop-test.true in
    let len = c.args.list.now.signature_len in
    let count = entry_count (list_parts c.args.list.now) in
    c.loop.invariant
    ∙ entry_after c.args.wanted.now len c.loop.rest.now count c.loop.counter below (search rules)
    ∙ ap (λ rest. has_entry c.args.wanted.now len rest (count - (c.loop.counter + 1))) (sym c.behind-rest.ensures)

pub returns : goal.returns
returns c =
    let most = rw c.entry_count-end.ensures at c.loop-test.false in
    sym (c.loop.invariant ∙ no_entry_left c.args.wanted.now c.args.list.now.signature_len c.loop.rest.now
    (entry_count (list_parts c.args.list.now)) c.loop.counter most)
