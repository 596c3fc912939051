use Rattle.std.proofs.Common.{◌≡◌, ◌∷◌, ◌++◌, refl, rules}
use Rattle.std.specs.String.{string_bytes}
use Rattle.std.proofs.lemmas.Result.{IfOk-weaker}
use Rattle.uefi_text.specs.Guid.{guid_text}
use Rattle.uefi_vars.specs.Name.{global_vendor}
use Rattle.var_places.proofs.folder.new_file_name.Goals as goal

pub returns : goal.returns
returns c =
    let read = c.a_printed_guid_is_its_text.ensures global_vendor (search rules) in
    IfOk-weaker c.format.result (λ s. string_bytes s ≡ c.args.name.now ++ 0x2D ∷ guid_text global_vendor) _
    (λ s is. (0x2D ∷ guid_text global_vendor, is, (guid_text global_vendor, refl, read))) c.format.ensures.ok
