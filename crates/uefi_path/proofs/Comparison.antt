-- What `==` says of nodes and paths.
use Rattle.std.proofs.Common.{◌≡◌, Bool, List, [], ◌∷◌, map, Decides, refl, ap, rules, ◌&&◌}
use Rattle.std.specs.Cmp.Lexicographic.{pointwise}
use Rattle.std.proofs.lemmas.Slice.Eq.{slice_eq-Decides}
use Rattle.uefi_path.specs.declared.node.Node.{Node}
use Rattle.uefi_path.specs.contracts.node.NodePartialEq.TheImpl.{ghosts}

-- what `==` computes of two nodes
abbrev pub node_eq : Node → Node → Bool
node_eq = ghosts.eq

node_eq-Decides : (a b : Node) → Decides (node_eq a b) (a ≡ b)
node_eq-Decides a b = search rules

pub path_eq-Decides : (p q : List (List Node)) (answer : Bool) → answer ≡ pointwise (pointwise node_eq) p q → Decides answer (p ≡ q)
path_eq-Decides = slice_eq-Decides (λ a b. slice_eq-Decides node_eq-Decides a b (pointwise node_eq a b) refl)

pub pointwise-map : {X Y : Type 0} (E : Y → Y → Bool) (f : X → Y) (xs ys : List X) → pointwise (λ x y. E (f x) (f y)) xs ys ≡ pointwise E (map f xs) (map f ys)
pointwise-map E f [] [] = refl
pointwise-map E f [] (y ∷ ys) = refl
pointwise-map E f (x ∷ xs) [] = refl
pointwise-map E f (x ∷ xs) (y ∷ ys) = ap (λ (b : Bool). E (f x) (f y) && b) (pointwise-map E f xs ys)
