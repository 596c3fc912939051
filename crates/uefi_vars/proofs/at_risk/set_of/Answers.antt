use Rattle.std.proofs.Common.{ℕ, List, BTreeSet, Contains, IsTrue, nat_cmp, ◌↔◌}
use Rattle.std.specs.BTreeSet.{contains, IsFromIterResult}
use Rattle.std.proofs.lemmas.Cmp.{nat_cmp_total}
use Rattle.std.proofs.lemmas.Iterator.{YieldsList-from_slice}
use Rattle.std.proofs.lemmas.Iterator.Adapters.{fact_from_collect}
use Rattle.std.proofs.lemmas.Iterator.Consumers.{YieldsList-from_copied}
use Rattle.std.proofs.lemmas.Map.Lookups.{exact_unsigned}
use Rattle.std.proofs.lemmas.Map.Views.{btree_set_contains_from_list}
use Rattle.std.proofs.lemmas.Result.{IfOk-weaker}
use Rattle.uefi_vars.proofs.at_risk.set_of.Goals as goal

pub returns : goal.returns
returns c =
    let numbers = c.args.numbers.now in
    let collected = fact_from_collect (λ (ns : List ℕ) (set : BTreeSet ℕ). IsFromIterResult nat_cmp ns set) c.collect.result
    c.collect.ensures.ran (YieldsList-from_copied (YieldsList-from_slice numbers cc)) in
    IfOk-weaker c.collect.result (IsFromIterResult nat_cmp numbers)
    (λ (set : BTreeSet ℕ). (number : ℕ) → IsTrue (contains nat_cmp set number) ↔ Contains numbers number)
    (λ set is number. btree_set_contains_from_list nat_cmp_total exact_unsigned numbers set is number) collected
