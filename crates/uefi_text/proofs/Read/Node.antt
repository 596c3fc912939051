-- The node of a segment, from what is read of its name.
use Rattle.std.proofs.Common.{◌≡◌, ◌≢◌, ◌≤◌, ◌-◌, ℕ, List, [], ◌∷◌, ◌++◌, ◌∙◌, length, refl, ap, sym, subst, Bor, arith}
use Rattle.std.specs.Prelude.{Option, Some, None, Result, Ok, Err}
use Rattle.std.specs.List.{AllByRecursion}
use Rattle.std.proofs.lemmas.Bool.{le-leb}
use Rattle.uefi_path.specs.declared.node.Node.{Node}
use Rattle.uefi_path.specs.declared.node.Node.TheVariants.{FilePath}
use Rattle.uefi_path.specs.Node.{IsNode}
use Rattle.uefi_path.specs.Parts.{IsPathName}
use Rattle.uefi_text.specs.declared.fault.TextFault.{TextFault}
use Rattle.uefi_text.specs.declared.fault.TextFault.TheVariants as text_fault
use Rattle.uefi_text.specs.declared.fault.SegmentFault.{SegmentFault}
use Rattle.uefi_text.specs.declared.fault.SegmentFault.TheVariants.{BadSegment, BadNumber, OutOfRange, BadEnd, OutOfMemory}
use Rattle.uefi_text.specs.declared.segment.Segment as code
use Rattle.uefi_text.specs.declared.segment.Segment.TheVariants.{Named, Bare}
use Rattle.uefi_text.specs.Segment.{Segment, named, bare, segment_text}
use Rattle.uefi_text.specs.Node.{
  pci,
  usb,
  sata,
  nvme,
  pci_root,
  pcie_root,
  acpi_pnp,
  acpi,
  mac,
  ipv4,
  vlan,
  uri,
  file,
  hd_gpt,
  hd_mbr,
  cdrom,
  vendor_hw,
  vendor_msg,
  vendor_media,
  generic,
}
use Rattle.uefi_text.specs.Node.{MeansNode, bare_file, IsBareName, IsBareUnit, IsNameUnit}
use Rattle.uefi_text.specs.Path.{IsNodeText}
use Rattle.uefi_text.specs.Fault.{IsPlaceOf, BeginsWithNode}
use Rattle.uefi_text.specs.Cuts.{IsCutOf, IsFront, text_of}
use Rattle.uefi_text.specs.Instances.{IsRefusedNode}
use Rattle.uefi_text.specs.Places.{IsFaultIn}
use Rattle.uefi_text.specs.Answers.{MeansNamed, AnswersNamed, MeansCut, AnswersSegment}
use Rattle.uefi_text.specs.Reader.{Makes, file_of}
use Rattle.uefi_text.proofs.Cut.Segments.{all_from}
use Rattle.uefi_text.proofs.Read.Cuts.{first_is_bare}
use Rattle.uefi_text.proofs.Read.Marks.{told_from}
use Rattle.uefi_text.proofs.Read.Whole.{file_read, units_plain}

neither : (o : Option Node) (x : Node) → o ≡ None → o ≡ Some x → ⊥
neither o x none some = cc

named_none : (name inside : Bor (List ℕ)) → ((node : Node) → MeansNamed name.now inside.now node → ⊥) → (node : Node) (s : Segment)
    → IsCutOf (Named name inside) s → IsNodeText s node → ⊥
named_none name inside none node (named n arguments) cut is = none node (arguments, cut.1, subst (λ m. IsNodeText (named m arguments) node) (sym cut.0) is)
named_none name inside none node (bare p) cut is = cut

named_some : (name inside : Bor (List ℕ)) (node : Node) → MeansNamed name.now inside.now node → MeansCut (Named name inside) node
named_some name inside node m = (named name.now m.0, (refl, m.1), m.2)

pub named_segment : (name inside : Bor (List ℕ)) (result : Result Node SegmentFault) →
    AnswersNamed name.now inside.now result → AnswersSegment (Named name inside) result
named_segment name inside (Ok node) m = named_some name inside node m
named_segment name inside (Err fault) h =
    told_from fault (λ none. λ (node : Node) (cut : MeansCut (Named name inside) node). named_none name inside none node cut.0 cut.1 cut.2)
    (λ wanted. (wanted.0, named_some name inside wanted.0 wanted.1)) h

-- a bare path name is one that `File` may have
bare_units : (text : List ℕ) → IsBareName text → AllByRecursion IsNameUnit text
bare_units [] name = absurd name
bare_units (first ∷ others) name = ((first_is_bare first name.0).plain, all_from IsBareUnit IsNameUnit (λ c unit. unit.plain) others name.1)

bare_found : (text : List ℕ) (node : Node) → IsBareName text → file_of text ≡ Some node → IsNodeText (bare text) node
bare_found text node name e =
    let read = file_read text node e in
    subst (IsNodeText (bare text)) read.1 (record { valid = read.0.1; means = bare_file name })

bare_inverse : (s : Segment) (node : Node) → MeansNode s node → (text : List ℕ) → s ≡ bare text → (IsBareName text) × (node ≡ FilePath text)
bare_inverse _ _ (pci x0 x1) text e = cc
bare_inverse _ _ (usb x0 x1) text e = cc
bare_inverse _ _ (sata x0 x1 x2) text e = cc
bare_inverse _ _ (nvme x0 x1) text e = cc
bare_inverse _ _ (pci_root x0) text e = cc
bare_inverse _ _ (pcie_root x0) text e = cc
bare_inverse _ _ (acpi_pnp x0 x1) text e = cc
bare_inverse _ _ (acpi x0 x1) text e = cc
bare_inverse _ _ (mac x0 x1 x2) text e = cc
bare_inverse _ _ (ipv4 x0 x1 x2 x3 x4 x5) text e = cc
bare_inverse _ _ (vlan x0) text e = cc
bare_inverse _ _ (uri x0) text e = cc
bare_inverse _ _ (file x0) text e = cc
bare_inverse _ _ (bare_file {units} x0) text e = let same : units ≡ text = cc in (subst IsBareName same x0, ap (λ (u : List ℕ). FilePath u) same)
bare_inverse _ _ (hd_gpt x0 x1 x2 x3) text e = cc
bare_inverse _ _ (hd_mbr x0 x1 x2 x3) text e = cc
bare_inverse _ _ (cdrom x0 x1 x2) text e = cc
bare_inverse _ _ (vendor_hw x0) text e = cc
bare_inverse _ _ (vendor_msg x0) text e = cc
bare_inverse _ _ (vendor_media x0) text e = cc
bare_inverse _ _ (generic x0 x1 x2 x3) text e = cc

bare_again : (text : List ℕ) (node : Node) → IsNodeText (bare text) node → file_of text ≡ Some node
bare_again text node is =
    let p = bare_inverse (bare text) node is.means text refl in
    let valid : IsPathName text = subst IsNode p.1 is.valid in
    rw (units_plain text (bare_units text p.0), le-leb (length text) 32764 valid.1) (ap (λ (n : Node). Some n) (sym p.1))

bare_none : (text : Bor (List ℕ)) → file_of text.now ≡ None → (node : Node) (s : Segment) → IsCutOf (Bare text) s → IsNodeText s node → ⊥
bare_none text none node (named n arguments) cut is = cut
bare_none text none node (bare p) cut is =
    let read : file_of text.now ≡ Some node = bare_again text.now node (subst (λ m. IsNodeText (bare m) node) (sym cut) is) in
    neither (file_of text.now) node none read

bare_some : (text : Bor (List ℕ)) (node : Node) → IsBareName text.now → file_of text.now ≡ Some node → MeansCut (Bare text) node
bare_some text node name h = (bare text.now, refl, bare_found text.now node name h)

pub bare_segment : (text : Bor (List ℕ)) (result : Result Node SegmentFault) → IsBareName text.now →
    Makes result (file_of text.now) → AnswersSegment (Bare text) result
bare_segment text (Ok node) name h = bare_some text node name h
bare_segment text (Err fault) name h =
    told_from fault (λ none. λ (node : Node) (cut : MeansCut (Bare text) node). bare_none text none node cut.0 cut.1 cut.2)
    (λ wanted. (wanted.0, bare_some text wanted.0 name wanted.1)) h

place_up : (told : TextFault) (place end len : ℕ) → end ≤ len → IsPlaceOf told place end → IsPlaceOf told place len
place_up (text_fault.BadSegment at) place end len within is = is
place_up (text_fault.BadNumber at) place end len within is = (is.0, omega (arith, is.1))
place_up (text_fault.OutOfRange at) place end len within is = (is.0, omega (arith, is.1))
place_up (text_fault.BadEnd at) place end len within is = is
place_up text_fault.OutOfMemory place end len within is = absurd is

refused_node : (text : List ℕ) (cut : code.Segment) (told : TextFault) (end len : ℕ) → ((begins : BeginsWithNode text) → IsCutOf cut begins.segment) → end ≤ len
    → ((node : Node) → MeansCut cut node → ⊥) → IsPlaceOf told (len - length text) end → IsRefusedNode text told len
refused_node text cut told end len only within none is = record {
  no_node = λ begins. none begins.node (begins.segment, only begins, begins.means);
  place = place_up told (len - length text) end len within is;
}

-- what a segment's fault says of the start of the text that the segment was cut off
pub segment_refused : (text : List ℕ) (cut : code.Segment) (fault : SegmentFault) (told : TextFault) (end len : ℕ) →
    ((begins : BeginsWithNode text) → IsCutOf cut begins.segment)
    → end ≤ len → AnswersSegment cut (Err fault) → IsFaultIn fault told (len - length text) end → told ≢ text_fault.OutOfMemory → IsRefusedNode text told len
segment_refused text cut BadSegment told end len only within h is kept = refused_node text cut told end len only within h is
segment_refused text cut (BadNumber at) told end len only within h is kept = refused_node text cut told end len only within h is
segment_refused text cut (OutOfRange at) told end len only within h is kept = refused_node text cut told end len only within h is
segment_refused text cut BadEnd told end len only within h is kept = refused_node text cut told end len only within h is
segment_refused text cut OutOfMemory told end len only within h is kept = absurd (kept is)

-- out of memory says that the segment stands for a node
pub segment_wanted : (cut : code.Segment) (fault : SegmentFault) (told : TextFault) (place end : ℕ) →
    AnswersSegment cut (Err fault) → IsFaultIn fault told place end
    → told ≡ text_fault.OutOfMemory → (node : Node) × MeansCut cut node
segment_wanted cut BadSegment told place end h is e = absurd (subst (λ f. IsPlaceOf f place end) e is)
segment_wanted cut (BadNumber at) told place end h is e = absurd (subst (λ f. IsPlaceOf f place end) e is)
segment_wanted cut (OutOfRange at) told place end h is e = absurd (subst (λ f. IsPlaceOf f place end) e is)
segment_wanted cut BadEnd told place end h is e = absurd (subst (λ f. IsPlaceOf f place end) e is)
segment_wanted cut OutOfMemory told place end h is e = h

text_is : (cut : code.Segment) (s : Segment) → IsCutOf cut s → text_of cut ≡ segment_text s
text_is (Named n i) (named name arguments) is = rw (is.0, is.1) refl
text_is (Named n i) (bare p) is = absurd is
text_is (Bare text) (named name arguments) is = absurd is
text_is (Bare text) (bare p) is = is

-- a text begins with the segment that was cut off it, if that stands for a node
pub begins_with : (text : List ℕ) (cut : code.Segment) (rest : List ℕ) (node : Node) → IsFront text cut rest → MeansCut cut node → BeginsWithNode text
begins_with text cut rest node front means = record {
  segment = means.0;
  node = node;
  behind = rest;
  parts = front.parts ∙ ap (λ (t : List ℕ). t ++ rest) (text_is cut means.0 means.1);
  means = means.2;
  closed = front.closed;
}
