use Rattle.std.proofs.Common.{◌≡◌, subst, rules}
use Rattle.std.proofs.lemmas.List.Sorted.{IsNonDecreasingBy-from_sort_by_key}
use Rattle.std.proofs.lemmas.Fn.{always_returns_same}
use Rattle.efi_images.specs.Digest.{IsFileOrder}
use Rattle.efi_images.specs.declared.section.Section.{Section}
use Rattle.efi_images.proofs.ranges.in_file_order.Goals as goal

pub returns : goal.returns
returns c =
    let file = c.args.headers.now in
    let told = c.in_ok-sort_by_key.ensures in
    subst (λ all. IsFileOrder all c.sort_by_key.new.self.items) c.in_ok-order.ensures
    (record {
      permutation = told.permutation;
      rising = IsNonDecreasingBy-from_sort_by_key (λ (s : Section). s.raw_place) _ told.sorted (λ a r q k. search rules);
      stable = told.stable (λ (s : Section). s.raw_place) (always_returns_same _ (λ a r. r ≡ a.0.now.raw_place) _ (λ a r q k. search rules));
    })
