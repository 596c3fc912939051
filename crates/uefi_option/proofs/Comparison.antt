-- What `==` says of load options, if `==` on paths tells whether they are equal.
use Rattle.std.proofs.Common.{◌≡◌, ℕ, Bool, List, Decides, refl, ap, ◌∙◌}
use Rattle.std.specs.Cmp.Lexicographic.{pointwise}
use Rattle.std.proofs.lemmas.Bool.Decides.{Decides-eqb, Decides-and, Decides-at}
use Rattle.std.proofs.lemmas.Slice.Eq.{slice_eq-Decides}
use Rattle.uefi_path.specs.declared.node.Node.{Node}
use Rattle.uefi_path.specs.contracts.path.PathPartialEq.TheImpl.{ghosts}
use Rattle.uefi_option.specs.LoadOption.{OptionParts, option_parts}
use Rattle.uefi_option.specs.Equality.{option_eq}

-- what `==` computes of two paths
abbrev pub path_eq : List (List Node) → List (List Node) → Bool
path_eq = ghosts.eq

-- `==` on paths tells whether they are equal
abbrev pub ComparesPaths : Type 0
ComparesPaths = (p q : List (List Node)) → Decides (path_eq p q) (p ≡ q)

lists_Decide : {X : Type 0} {E : X → X → Bool} → ((a b : X) → Decides (E a b) (a ≡ b)) → (xs ys : List X) → Decides (pointwise E xs ys) (xs ≡ ys)
lists_Decide {E = E} each xs ys = slice_eq-Decides each xs ys (pointwise E xs ys) refl

-- options are equal if their parts are
abbrev SameParts : OptionParts → OptionParts → Type 0
SameParts o p = (o.attributes ≡ p.attributes) × ((o.description ≡ p.description) × ((o.paths ≡ p.paths) × (o.optional ≡ p.optional)))

parts_Decide : ComparesPaths → (o p : OptionParts) → Decides (option_eq o p) (SameParts o p)
parts_Decide each o p =
    Decides-and _ _ (Decides-eqb o.attributes p.attributes) (Decides-and _ _
    (lists_Decide Decides-eqb o.description p.description)
    (Decides-and _ _ (lists_Decide each o.paths p.paths) (lists_Decide Decides-eqb o.optional p.optional)))

same : (o p : OptionParts) → SameParts o p → o ≡ p
same o p e =
    ap (λ (n : ℕ). option_parts n o.description o.paths o.optional) e.0 ∙ ap (λ (t : List ℕ). option_parts p.attributes t o.paths o.optional) e.1.0
    ∙ ap (λ (t : List (List (List Node))). option_parts p.attributes p.description t o.optional) e.1.1.0
    ∙ ap (λ (t : List ℕ). option_parts p.attributes p.description p.paths t) e.1.1.1

parts : (o p : OptionParts) → o ≡ p → SameParts o p
parts o p e = (
  ap (λ (q : OptionParts). q.attributes) e,
  (
    ap (λ (q : OptionParts). q.description) e,
    (ap (λ (q : OptionParts). q.paths) e, ap (λ (q : OptionParts). q.optional) e),
  ),
)

pub option_eq-Decides : ComparesPaths → (o p : OptionParts) (answer : Bool) → answer ≡ option_eq o p → Decides answer (o ≡ p)
option_eq-Decides each o p answer is =
    let decides = Decides-at answer (option_eq o p) is (parts_Decide each o p) in
    (λ yes. same o p (decides.0 yes), λ e. decides.1 (parts o p e))
