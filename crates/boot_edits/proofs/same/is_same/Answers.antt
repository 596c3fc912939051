use Rattle.std.proofs.Common.{◌≡◌, sym, ap, ◌∙◌}
use Rattle.uefi_path.specs.Units.{units_bytes}
use Rattle.uefi_option.specs.LoadOption.{OptionParts, list_bytes}
use Rattle.boot_edits.proofs.Targets.{same_description, same_paths}
use Rattle.boot_edits.proofs.same.is_same.Goals as goal

pub returns-in-Ok : goal.returns-in-Ok
returns-in-Ok c = λ parts is shows.
    let found = c.in-Ok.ensures.found in
    let o = found.0 in
    let one = c.bytes_spell_one_option.ensures in (
      λ yes.
          let same = c.is_shown_so.ensures.0 yes in
          let units : units_bytes o.description ≡ units_bytes parts.description = sym found.2.description ∙ same.0 ∙ shows.description in
          let list : list_bytes o.paths ≡ list_bytes parts.paths = sym found.2.list ∙ same.1 ∙ shows.list in
          record {
            other = o;
            spelled = found.1;
            description = same_description one o parts found.1.0 is units list;
            paths = same_paths one o parts found.1.0 is units list;
          },
      λ s.
          let other : o ≡ s.other = one c.args.bytes.now o s.other found.1 s.spelled in
          let description : o.description ≡ parts.description = ap (λ (q : OptionParts). q.description) other ∙ s.description in
          let paths : o.paths ≡ parts.paths = ap (λ (q : OptionParts). q.paths) other ∙ s.paths in
          c.is_shown_so.ensures.1
          (found.2.description ∙ ap units_bytes description ∙ sym shows.description, found.2.list ∙ ap list_bytes paths ∙ sym shows.list),
    )
