use Rattle.std.proofs.Common.{◌≡◌, [], append-nil, inr, refl, sym}
use Rattle.std.proofs.lemmas.Result.{on_ok_weaker}
use Rattle.std.specs.String.{string_bytes}
use Rattle.efibootmgr_words.proofs.Listings.{an_entry, none_is_found}
use Rattle.efibootmgr_words.proofs.lines.append_variable.Goals as goal

pub returns-in-Some : goal.returns-in-Some
returns-in-Some c =
    let is = (c.entry_number.ensures c.in-Some.number).0 c.in-Some.is in
    on_ok_weaker c.append_entry.result
    (an_entry c.args.form c.args.name.now c.args.bytes.now c.in-Some.number c.args.listing.now c.append_entry.new.listing is.0 is.1)
    c.append_entry.ensures

pub returns-in-None : goal.returns-in-None
returns-in-None c =
    ([], [], inr ((λ number few is. none_is_found c.entry_number.result number c.in-None.is ((c.entry_number.ensures number).1 (few, is))), refl, refl), (sym (append-nil (string_bytes c.args.listing.now.text)), sym (append-nil c.args.listing.now.faulty.items)))
