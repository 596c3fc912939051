-- What is between the parentheses of a named segment that stands for a node.
use Rattle.std.proofs.Common.{◌≡◌, ◌≢◌, ℕ, Bool, true, false, List, [], ◌∷◌, sym, ap, subst, ◌∙◌}
use Rattle.std.specs.List.{AllByRecursion, join_with_byte}
use Rattle.uefi_path.specs.declared.node.Node.{Node}
use Rattle.uefi_text.specs.Segment.{named, comma}
use Rattle.uefi_text.specs.Path.{IsNodeText}
use Rattle.uefi_text.proofs.Cut.Marks.{same_joined}
use Rattle.uefi_text.specs.Within.{Lacks}
use Rattle.uefi_text.proofs.Cut.Segments.{takes_all, AreParted, IsPlainNamed, one_of_length}
use Rattle.uefi_text.proofs.Means.Reads.{Form, form_of, ReadsAs, reads_of}
use Rattle.uefi_text.proofs.Means.Plain.{plain_of_text}

-- a segment of the name with this text between its parentheses stands for the node
pub record IsInside (name inner : List ℕ) (node : Node) : Type 0 where
  pub arguments : List (List ℕ)
  pub joined : inner ≡ join_with_byte comma arguments
  pub means : IsNodeText (named name arguments) node

-- arguments that are cut at each comma
pub arguments_lack_comma : (name : List ℕ) (arguments : List (List ℕ)) (node : Node) → takes_all name ≡ false →
    IsNodeText (named name arguments) node → AllByRecursion (Lacks comma) arguments
arguments_lack_comma name arguments node cut means =
    let plain : IsPlainNamed name arguments = plain_of_text (named name arguments) node means in
    subst (λ w. AreParted w arguments) cut plain.parted

arguments_some : (name : List ℕ) (arguments : List (List ℕ)) (node : Node) → IsNodeText (named name arguments) node → arguments ≢ []
arguments_some name arguments node means = let plain : IsPlainNamed name arguments = plain_of_text (named name arguments) node means in plain.some

-- the inner text that is cut at each comma is the arguments
pub inside_parts : (name inner : List ℕ) (parts : List (List ℕ)) (node : Node) → takes_all name ≡ false → parts ≢ [] →
    AllByRecursion (Lacks comma) parts → inner ≡ join_with_byte comma parts → IsInside name inner node →
    IsNodeText (named name parts) node
inside_parts name inner parts node cut some lacks joined is =
    let same = same_joined comma is.arguments parts (arguments_lack_comma name is.arguments node cut is.means) lacks
    (arguments_some name is.arguments node is.means) some (sym is.joined ∙ joined) in
    subst (λ (as' : List (List ℕ)). IsNodeText (named name as') node) same is.means

-- the inner text of a name whose one argument may have commas
pub inside_whole : (name inner : List ℕ) (node : Node) → takes_all name ≡ true → IsInside name inner node → IsNodeText (named name (inner ∷ [])) node
inside_whole name inner node whole is =
    let plain : IsPlainNamed name is.arguments = plain_of_text (named name is.arguments) node is.means in
    let one = one_of_length is.arguments (subst (λ w. AreParted w is.arguments) whole plain.parted) in
    let inner-is : inner ≡ one.0 = is.joined ∙ ap (join_with_byte comma) one.1 in
    subst (λ (as' : List (List ℕ)). IsNodeText (named name as') node) (one.1 ∙ ap (λ (a : List ℕ). a ∷ []) (sym inner-is)) is.means

same_inside : (name inner : List ℕ) (m n : Node) (whole : Bool) → takes_all name ≡ whole →
    (p : IsInside name inner m) → IsInside name inner n → IsNodeText (named name p.arguments) n
same_inside name inner m n true e p q =
    let plain : IsPlainNamed name p.arguments = plain_of_text (named name p.arguments) m p.means in
    let one = one_of_length p.arguments (subst (λ w. AreParted w p.arguments) e plain.parted) in
    let inner-is : inner ≡ one.0 = p.joined ∙ ap (join_with_byte comma) one.1 in
    subst (λ (as' : List (List ℕ)). IsNodeText (named name as') n) (ap (λ (a : List ℕ). a ∷ []) inner-is ∙ sym one.1) (inside_whole name inner n e q)
same_inside name inner m n false e p q =
    inside_parts name inner p.arguments n e (arguments_some name p.arguments m p.means) (arguments_lack_comma name p.arguments m e p.means) p.joined q

-- a named segment is read by the form of its name
pub reads_named : (name : List ℕ) (arguments : List (List ℕ)) (node : Node) (form : Form) → form_of name ≡ form →
    IsNodeText (named name arguments) node → ReadsAs form arguments node
reads_named name arguments node form e means = subst (λ f. ReadsAs f arguments node) e (reads_of (named name arguments) node means.means)
