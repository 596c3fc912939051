use Rattle.std.proofs.Common.{inl, map, refl, sym, ap, subst, ◌∙◌}
use Rattle.std.proofs.lemmas.Bool.{not-false}
use Rattle.var_stores.specs.Record.{record_parts}
use Rattle.var_stores.specs.Volume.{store_guid, bytes_at, SpellsStore}
use Rattle.uefi_vars.proofs.Members.{bytes_same}
use Rattle.var_stores.proofs.Stores.{store_found}
use Rattle.var_stores.proofs.store.read_store.Goals as goal

pub returns-then-not-has_store_header-clause-fault : goal.returns-then-not-has_store_header-clause-fault
returns-then-not-has_store_header-clause-fault c =
    ((c.if-not-is_volume.ensures.0 refl, c.if-not-has_good_header.ensures.0 refl), inl (λ room. let is = c.if-not-has_store_header.ensures.1 room in cc))

pub returns-in-Ok-clause-found : goal.returns-in-Ok-clause-found
returns-in-Ok-clause-found c =
    let file = c.args.file.now in
    let guid = sym (c.array_at-guid.ensures ∙ ap (λ n. bytes_at file n 16) c.header_size.ensures.size)
    ∙ (bytes_same c.array_at-guid.result store_guid).0 (not-false _ (sym c.if-ne.ensures)) in
    subst (λ head. SpellsStore file
    (record {
      head = head;
      records = map record_parts c.in-Ok.records.items;
      free = c.in-Ok.free.now;
      rest = c.split_at-2.result.1.now;
    })) (sym c.split_at.ensures.front)
    (store_found file _ _ _ _ _ c.header_size-2.result c.store_size.result c.header_size-2.ensures.size c.store_size.ensures.size
    (c.if-not-is_volume.ensures.0 refl) (c.if-not-has_good_header.ensures.0 refl) (c.if-not-has_store_header.ensures.0 refl) guid
    (c.if-not-has_good_store.ensures.0 refl)
    c.split_at.ensures.back c.split_at-2.ensures.front c.split_at-2.ensures.back c.in-Ok.ensures.found)
