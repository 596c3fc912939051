-- Laws of finite maps, over keys in any total order in which only equal keys tie, and over values of any type.
use Rattle.std.specs.Prelude.{◌≡◌, ◌≢◌, Bool, true, false, cond, Some, None}
use mathlib.Core.Path.{refl, sym, ◌∙◌}
use Rattle.std.specs.declared.cmp.Ordering.{Ordering}
use Rattle.std.specs.declared.cmp.Ordering.TheVariants.{Equal}
use Rattle.std.specs.Ordering.{eq_by_cmp}
use Rattle.std.specs.Cmp.{IsTotalOrder, Equal-is}
use Rattle.std.specs.FinMap.{FinMap, IsAntisymmetric, get, insert, remove, get-insert, get-remove, get_tied, same_map}

again : {A : Type 0} (b : Bool) (x y z : A) → cond b x (cond b y z) ≡ cond b x z
again true x y z = refl
again false x y z = refl

swapped : {A : Type 0} (a b : Bool) (x y z : A) → (a ≡ true → b ≡ true → ⊥) → cond a x (cond b y z) ≡ cond b y (cond a x z)
swapped true true x y z apart = absurd (apart refl refl)
swapped true false x y z apart = refl
swapped false b x y z apart = refl

kept : {A : Type 0} (b : Bool) (x y : A) → (b ≡ true → y ≡ x) → cond b x y ≡ y
kept true x y same = sym (same refl)
kept false x y same = refl

module _ {K X : Type 0} {R : K → K → Ordering} (o : IsTotalOrder R) (same : IsAntisymmetric R) (m : FinMap R X) where
  -- a second insert at a key replaces the first
  pub insert-insert : (k : K) (v w : X) → insert (insert m k v) k w ≡ insert m k w
  insert-insert k v w = same_map o same _ _ (λ q. simp (get-insert {X = X} o, again))

  -- inserts at two keys commute
  pub insert-swap : (j k : K) (v w : X) → R j k ≢ Equal → insert (insert m j v) k w ≡ insert (insert m k w) j v
  insert-swap j k v w differ = same_map o same _ _ (λ q.
      simp (get-insert {X = X} o) (swapped (eq_by_cmp R q k) (eq_by_cmp R q j) (Some w) (Some v) (get m q) (λ at_k at_j.
      differ (sym (o.congr q j k ((Equal-is _).0 at_j)) ∙ (Equal-is _).0 at_k))))

  -- to remove a key that was just inserted is to remove it
  pub remove-insert : (k : K) (v : X) → remove (insert m k v) k ≡ remove m k
  remove-insert k v = same_map o same _ _ (λ q. simp (get-remove {X = X} o, get-insert {X = X} o, again))

  -- to insert at a key that was just removed is to insert there
  pub insert-remove : (k : K) (v : X) → insert (remove m k) k v ≡ insert m k v
  insert-remove k v = same_map o same _ _ (λ q. simp (get-insert {X = X} o, get-remove {X = X} o, again))

  -- to insert what is there changes nothing
  pub insert_same : (k : K) (v : X) → get m k ≡ Some v → insert m k v ≡ m
  insert_same k v held = same_map o same _ _ (λ q.
      get-insert o m k v q ∙ kept (eq_by_cmp R q k) _ _ (λ at. sym (get_tied o m q k ((Equal-is _).0 at)) ∙ held))

  -- to remove what isn't there changes nothing
  pub remove_absent : (k : K) → get m k ≡ None → remove m k ≡ m
  remove_absent k absent = same_map o same _ _ (λ q.
      get-remove o m k q ∙ kept (eq_by_cmp R q k) _ _ (λ at. sym (get_tied o m q k ((Equal-is _).0 at)) ∙ absent))
