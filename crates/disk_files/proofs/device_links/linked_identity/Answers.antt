use Rattle.std.proofs.Common.{List, take, ◌++◌, ◌∷◌, [], sym, subst, ap, ◌∙◌, refl}
use Rattle.std.proofs.lemmas.Bool.{true≢false}
use Rattle.std.proofs.lemmas.List.{take_more}
use Rattle.partitions.proofs.Fronts.{same_from, same_to}
use Rattle.disk_files.specs.DeviceLinks.{NoneLeadsTo, LeadsTo}
use Rattle.disk_files.specs.declared.device_links.DeviceLink.{DeviceLink}
use Rattle.disk_files.proofs.Searches.{all_more}
use Rattle.disk_files.proofs.device_links.linked_identity.Goals as goal

pub loop-link-preserved : goal.loop-link-preserved
loop-link-preserved c =
    let links = c.args.links.now in
    let at = c.loop-link.link-index in
    let more = take_more links at c.link-item.result c.loop-link-test.true
    ∙ ap (λ (item : DeviceLink). take at links ++ item ∷ []) (sym c.link-item.is) in
    let family : List DeviceLink → Type 0 = λ xs. NoneLeadsTo xs c.args.device.now in
    let other : ¬ LeadsTo c.args.device.now c.link-item.result = λ leads.
    true≢false (sym (same_to _ _ (c.as_str.ensures.value ∙ leads)) ∙ sym c.eq.ensures ∙ c.if-eq.false) in
    subst family (sym more) (all_more (λ (link : DeviceLink). ¬ LeadsTo c.args.device.now link) (take at links) c.link-item.result c.loop-link.invariant other)

pub returns-then-eq-clause-some : goal.returns-then-eq-clause-some
returns-then-eq-clause-some c = (
  c.link-item.result,
  (c.loop-link.link-index, c.loop-link-test.true, sym c.link-item.is),
  sym c.as_str.ensures.value ∙ same_from _ _ (sym c.eq.ensures ∙ c.if-eq.true),
  refl,
)
