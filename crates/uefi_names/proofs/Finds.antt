-- What is found of a relation, step by step.
use Rattle.std.proofs.Common.{◌≡◌, ◌≢◌, ℕ, List, [], ◌∷◌, ◌++◌, map, append_assoc, append-nil, refl, sym, subst, inl, inr}
use Rattle.std.specs.Prelude.{Option, Some, None, Ok, Err}
use Rattle.uefi_path.specs.declared.node.Node.{Node}
use Rattle.uefi_path.specs.Answer.{IsUnless}
use Rattle.uefi_text.specs.declared.fault.TextFault.{TextFault}
use Rattle.uefi_text.specs.declared.fault.TextFault.TheVariants as text_fault
use Rattle.uefi_text.specs.Bytes.{Each}
use Rattle.uefi_text.specs.Path.{IsPathText}
use Rattle.uefi_names.specs.Reading.{IsOneNode, IsAgain, IsExactSegment, respelled, Finds}

-- ---- segments

abbrev pub Path : Type 0
Path = List (List Node)

same_path : (p q : Path) → IsUnless {T = Path} {F = TextFault} (Ok p) (Ok q) text_fault.OutOfMemory → p ≡ q
same_path p q (inl e) = cc
same_path p q (inr e) = cc

pub one_found : (text : List ℕ) (path : Path) (found : Option Node) → IsPathText text path
    → ((q : Path) → IsPathText text q → IsUnless {T = Path} {F = TextFault} (Ok path) (Ok q) text_fault.OutOfMemory)
    → Finds (λ node. path ≡ ((node ∷ []) ∷ [])) found → Finds (IsOneNode text) found
one_found text path (Some node) is only h = subst (IsPathText text) h is
one_found text path None is only h = λ node one. h node (same_path path ((node ∷ []) ∷ []) (only ((node ∷ []) ∷ []) one))

refused : (fault : TextFault) (q : Path) → (fault ≡ text_fault.OutOfMemory → ⊥) → IsUnless {T = Path} {F = TextFault} (Err fault) (Ok q) text_fault.OutOfMemory → ⊥
refused fault q other (inl e) = cc
refused fault q other (inr e) = other (let same : fault ≡ text_fault.OutOfMemory = cc in same)

pub none_found : (text : List ℕ) (fault : TextFault) → (fault ≡ text_fault.OutOfMemory → ⊥)
    → ((q : Path) → IsPathText text q → IsUnless {T = Path} {F = TextFault} (Err fault) (Ok q) text_fault.OutOfMemory)
    → (node : Node) → IsOneNode text node → ⊥
none_found text fault other only node one = refused fault ((node ∷ []) ∷ []) other (only ((node ∷ []) ∷ []) one)

pub again_found : (again : Option (List ℕ)) (text : List ℕ) (found : Option Node) → Some text ≡ again → Finds (IsOneNode text) found → Finds (IsAgain again) found
again_found again text found e h = subst (λ (o : Option (List ℕ)). Finds (IsAgain o) found) e (same found h)
  where
    same : (f : Option Node) → Finds (IsOneNode text) f → Finds (IsAgain (Some text)) f
    same (Some node) h = h
    same None h = h

pub no_again : (again : Option (List ℕ)) → None ≡ again → (node : Node) → IsAgain again node → ⊥
no_again again e node is = subst (λ (o : Option (List ℕ)). IsAgain o node) (sym e) is

pub exact_again : (text : List ℕ) (found : Option Node) → ((node : Node) → IsOneNode text node → ⊥) → Finds (IsAgain (respelled text)) found → Finds (IsExactSegment text) found
exact_again text (Some node) none h = inr (none, h)
exact_again text None none h = λ node is. by node is
  where
    by : (node : Node) → IsExactSegment text node → ⊥
    by node (inl one) = none node one
    by node (inr again) = h node again.1

-- ---- lists

-- those before what is left are read: what is read of these comes after them
pub record IsReadTo {X Y : Type 0} (R : X → Y → Type 0) (all left : List X) (read : List Y) : Type 0 where
  pub done : (more : List Y) → Each R left more → Each R all (read ++ more)
  pub back : (whole : List Y) → Each R all whole → (more : List Y) × Each R left more

pub none_read : {X Y : Type 0} (R : X → Y → Type 0) (all : List X) → IsReadTo R all all []
none_read R all = record { done = λ more h. h; back = λ whole h. (whole, h) }

one_less : {X Y : Type 0} (R : X → Y → Type 0) (first : X) (others : List X) (more : List Y) → Each R (first ∷ others) more → (less : List Y) × Each R others less
one_less R first others [] h = absurd h
one_less R first others (y ∷ more) h = (more, h.1)

first_has : {X Y : Type 0} (R : X → Y → Type 0) (first : X) (others : List X) (more : List Y) → Each R (first ∷ others) more → ((y : Y) → R first y → ⊥) → ⊥
first_has R first others [] h none = h
first_has R first others (y ∷ more) h none = none y h.0

first_read : {X Y : Type 0} (R : X → Y → Type 0) (all : List X) (first : X) (others : List X) (read : List Y) (y : Y) → R first y → IsReadTo R all (first ∷ others) read → IsReadTo R all others (read ++ y ∷ [])
first_read R all first others read y r h = record {
  done = λ more each. subst (Each R all) (sym (append_assoc read (y ∷ []) more)) (h.done (y ∷ more) (r, each));
  back = λ whole each. let left = h.back whole each in one_less R first others left.0 left.1;
}

pub one_more_read : {X Y : Type 0} (R : X → Y → Type 0) (all left : List X) (first : X) (others : List X) (read now : List Y) (y : Y)
    → left ≡ first ∷ others → now ≡ read ++ y ∷ [] → R first y → IsReadTo R all left read → IsReadTo R all others now
one_more_read {X} R all left first others read now y begins pushed r h =
    subst (IsReadTo R all others) (sym pushed) (first_read R all first others read y r (subst (λ (l : List X). IsReadTo R all l read) begins h))

pub all_read : {X Y : Type 0} (R : X → Y → Type 0) (all left : List X) (read : List Y) → left ≡ [] → IsReadTo R all left read → Each R all read
all_read {X} R all left read none h =
    subst (Each R all) (append-nil read) ((subst (λ (l : List X). IsReadTo R all l read) none h).done [] tt)

pub one_refused : {X Y : Type 0} (R : X → Y → Type 0) (all left : List X) (first : X) (others : List X) (read : List Y)
    → left ≡ first ∷ others → ((y : Y) → R first y → ⊥) → IsReadTo R all left read → (whole : List Y) → Each R all whole → ⊥
one_refused {X} R all left first others read begins none h whole each =
    let more = (subst (λ (l : List X). IsReadTo R all l read) begins h).back whole each in
    first_has R first others more.0 more.1 none

-- no path is none
pub no_path : {X Y : Type 0} (R : X → Y → Type 0) (all : List X) (found whole : List Y) → found ≡ [] → Each R all found → Each R all whole → whole ≢ [] → ⊥
no_path R [] found [] none h each some = some refl
no_path R [] found (_ ∷ _) none h each some = each
no_path {X} {Y} R (x ∷ all) found whole none h each some = subst (λ (f : List Y). Each R (x ∷ all) f) none h

-- ---- what is found of each, and of what each stands for

pub each_mapped : {W X Y : Type 0} (R : X → Y → Type 0) (view : W → X) (all : List W) (ys : List Y) → Each (λ w y. R (view w) y) all ys → Each R (map view all) ys
each_mapped R view [] [] h = tt
each_mapped R view [] (_ ∷ _) h = absurd h
each_mapped R view (_ ∷ _) [] h = absurd h
each_mapped R view (w ∷ all) (y ∷ ys) h = (h.0, each_mapped R view all ys h.1)

pub each_unmapped : {W X Y : Type 0} (R : X → Y → Type 0) (view : W → X) (all : List W) (ys : List Y) → Each R (map view all) ys → Each (λ w y. R (view w) y) all ys
each_unmapped R view [] [] h = tt
each_unmapped R view [] (_ ∷ _) h = absurd h
each_unmapped R view (_ ∷ _) [] h = absurd h
each_unmapped R view (w ∷ all) (y ∷ ys) h = (h.0, each_unmapped R view all ys h.1)

pub found_mapped : {W X Y : Type 0} (R : X → Y → Type 0) (view : W → X) (all : List W) (found : Option (List Y)) → Finds (Each (λ w y. R (view w) y) all) found → Finds (Each R (map view all)) found
found_mapped R view all (Some ys) h = each_mapped R view all ys h
found_mapped R view all None h = λ ys each. h ys (each_unmapped R view all ys each)
