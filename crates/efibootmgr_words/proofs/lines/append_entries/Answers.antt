use Rattle.std.proofs.Common.{◌≡◌, [], append-nil, ap, sym, ◌∙◌}
use Rattle.std.specs.String.{string_bytes}
use Rattle.std.specs.FinMap.{entries}
use Rattle.uefi_vars.specs.Iter.{variables_left}
use Rattle.efibootmgr_words.proofs.Listings.{goes_on, ends}
use Rattle.efibootmgr_words.proofs.lines.append_entries.Goals as goal

pub loop-name-preserved : goal.loop-name-preserved
loop-name-preserved c lines bad rest =
    let more =
    goes_on c.args.form (c.in-Some.name.now, c.in-Some.bytes.now) _ _ c.loop-name.listing c.append_variable.new.listing lines bad
    c.in-Some.ensures.steps c.in_ok-append_variable.ensures rest
    in
    let all = c.loop-name.invariant more.0 more.1 more.2 in
    (all.0, all.1, all.2, sym more.3 ∙ all.3, sym more.4 ∙ all.4)

pub returns : goal.returns
returns c =
    let all = c.loop-name.invariant [] [] (ends c.args.form _ c.in-None.ensures.steps.0) in
    (all.0, all.1, all.2, (sym (append-nil (string_bytes c.loop-name.listing.text)) ∙ all.3, sym (append-nil c.loop-name.listing.faulty.items) ∙ all.4))
