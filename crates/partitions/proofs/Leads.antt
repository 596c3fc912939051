-- Which mount a path leads to, by one mount after the other.
use Rattle.std.proofs.Common.{◌<◌, ◌≤◌, ℕ, List, [], ◌∷◌, ◌++◌, refl, ap, sym, ◌∙◌, subst, arith, append_assoc}
use Rattle.std.specs.Prelude.{vec_len}
use Rattle.std.specs.List.{AllByRecursion}
use Rattle.partitions.specs.Leading.{LeadsTo, IsLeading, LeadsToNone}
use Rattle.partitions.specs.declared.mount.Mount.{Mount}

-- what holds of each and of one more
all_more : {X : Type 0} (P : X → Type 0) (xs : List X) (x : X) → AllByRecursion P xs → P x → AllByRecursion P (xs ++ x ∷ [])
all_more P [] x all one = (one, tt)
all_more P (y ∷ xs) x all one = (all.0, all_more P xs x all.1 one)

all_both : {X : Type 0} (P : X → Type 0) (xs ys : List X) → AllByRecursion P xs → AllByRecursion P ys → AllByRecursion P (xs ++ ys)
all_both P [] ys all more = more
all_both P (x ∷ xs) ys all more = (all.0, all_both P xs ys all.1 more)

all_map : {X : Type 0} (P Q : X → Type 0) → ((x : X) → P x → Q x) → (xs : List X) → AllByRecursion P xs → AllByRecursion Q xs
all_map P Q f [] all = tt
all_map P Q f (x ∷ xs) all = (f x all.0, all_map P Q f xs all.1)

-- one more mount, to which the path doesn't lead
pub none_more : (mounts : List Mount) (path : List ℕ) (mount : Mount) → LeadsToNone mounts path → ¬ LeadsTo mount path → LeadsToNone (mounts ++ mount ∷ []) path
none_more mounts path mount none apart = all_more (λ (other : Mount). ¬ LeadsTo other path) mounts mount none apart

-- one more mount that isn't leading
pub leading_stays : (mounts : List Mount) (path : List ℕ) (leading mount : Mount) → IsLeading mounts path leading
    → (LeadsTo mount path → vec_len mount.point < vec_len leading.point) → IsLeading (mounts ++ mount ∷ []) path leading
leading_stays mounts path leading mount is shorter = record {
  before = is.before;
  after = is.after ++ mount ∷ [];
  among = ap (λ (xs : List Mount). xs ++ mount ∷ []) is.among ∙ append_assoc is.before (leading ∷ is.after) (mount ∷ []);
  leads = is.leads;
  none_longer = is.none_longer;
  none_as_long = all_more (λ (other : Mount). LeadsTo other path → vec_len other.point < vec_len leading.point) is.after mount is.none_as_long shorter;
}

-- one more mount, to which the path leads, and none before it did
pub leading_first : (mounts : List Mount) (path : List ℕ) (mount : Mount) → LeadsToNone mounts path → LeadsTo mount path →
    IsLeading (mounts ++ mount ∷ []) path mount
leading_first mounts path mount none leads = record {
  before = mounts;
  after = [];
  among = refl;
  leads = leads;
  none_longer = all_map (λ (other : Mount). ¬ LeadsTo other path) (λ (other : Mount). LeadsTo other path → vec_len other.point ≤ vec_len mount.point)
      (λ other apart leads_there. absurd (apart leads_there)) mounts none;
  none_as_long = tt;
}

-- one more mount, to which the path leads, that is as long as the one before
pub leading_next : (mounts : List Mount) (path : List ℕ) (leading mount : Mount) → IsLeading mounts path leading → LeadsTo mount path
    → vec_len leading.point ≤ vec_len mount.point → IsLeading (mounts ++ mount ∷ []) path mount
leading_next mounts path leading mount is leads longer =
    let P : Mount → Type 0 = λ other. LeadsTo other path → vec_len other.point ≤ vec_len mount.point in
    let before : AllByRecursion P is.before =
    all_map (λ (other : Mount). LeadsTo other path → vec_len other.point ≤ vec_len leading.point) P
    (λ other h there. omega (arith, h there, longer)) is.before is.none_longer in
    let after : AllByRecursion P is.after =
    all_map (λ (other : Mount). LeadsTo other path → vec_len other.point < vec_len leading.point) P
    (λ other h there. omega (arith, h there, longer)) is.after is.none_as_long in
    let all : AllByRecursion P (is.before ++ leading ∷ is.after) = all_both P is.before (leading ∷ is.after) before ((λ _. longer), after) in
    let family : List Mount → Type 0 = λ xs. AllByRecursion P xs in
    record {
      before = mounts;
      after = [];
      among = refl;
      leads = leads;
      none_longer = subst family (sym is.among) all;
      none_as_long = tt;
    }
