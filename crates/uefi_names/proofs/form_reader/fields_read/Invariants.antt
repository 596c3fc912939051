use Rattle.std.proofs.Common.{◌≡◌, ◌≤◌, drop, map, [], length}
use Rattle.uefi_names.specs.SpelledFields.{spelled_of}
use Rattle.uefi_names.specs.Read.{fields_read}
use Rattle.uefi_names.proofs.form_reader.fields_read.Given as goal

abbrev pub invariant-loop-field : goal.invariant-loop-field
invariant-loop-field l = record {
  read : fields_read (map spelled_of l.all.items) (drop l.field-index l.fields) (drop l.taken (map (λ argument. argument.now) l.arguments))
      ≡ fields_read [] l.fields (map (λ argument. argument.now) l.arguments);
  within : l.taken ≤ length l.arguments;
}
