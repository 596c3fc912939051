use Rattle.std.proofs.Common.{Option, IfSome, sym, ap, subst, ◌∙◌}
use Rattle.std.specs.Option.{option_map, option_copied}
use Rattle.var_stores.specs.Record.{RecordParts, record_parts, IsRecord}
use Rattle.var_stores.proofs.writer.attributes_there.Goals as goal

pub attributes-requires : goal.attributes-requires
attributes-requires c =
    (subst (λ (o : Option RecordParts). IfSome o IsRecord) (sym (ap (option_map record_parts) c.get.ensures.value)
    ∙ ap (λ got. option_map record_parts (option_copied got)) c.in-Some.is) (c.requires c.args.key.now)).header
