-- Segments of vendors' nodes and of nodes in general, from what the reader's functions read.
use Rattle.std.proofs.Common.{◌≡◌, ◌≢◌, ◌<◌, ◌≤◌, ◌^◌, ℕ, true, List, length, refl, ap, sym, subst}
use Rattle.std.specs.Prelude.{Option, Some, None, Result, Ok, Err, codes}
use Rattle.std.proofs.lemmas.List.Splits.{join_with_byte-slice_split}
use Rattle.uefi_path.specs.declared.node.Node.{Node}
use Rattle.uefi_path.specs.declared.node.Node.TheVariants.{VendorHw, VendorMsg, VendorMedia}
use Rattle.uefi_path.specs.Row.{Row, row, IsRow}
use Rattle.uefi_path.specs.Node.{row_of, IsNode}
use Rattle.uefi_text.specs.declared.fault.SegmentFault.{SegmentFault}
use Rattle.uefi_text.specs.Segment.{named, comma}
use Rattle.uefi_text.specs.Path.{IsNodeText}
use Rattle.uefi_text.specs.Answers.{MeansNamed, AnswersNamed, AnswersRow}
use Rattle.uefi_text.specs.Reader.{arguments_of, vendor_of, vendor_hw_of, vendor_msg_of, vendor_media_of, generic_of, IsOfRow, is_data, data_bytes}
use Rattle.uefi_text.proofs.Read.Marks.{told_from}
use Rattle.uefi_text.proofs.Read.Numbers.{bind_some, some_same}
use Rattle.uefi_text.proofs.Read.Answers.{cut_args}
use Rattle.uefi_text.proofs.Means.Forms.{EachNodeIsShort}
use Rattle.uefi_text.proofs.Read.Forms.{hex_bytes}
use Rattle.uefi_text.proofs.Read.Hex.{data_read}
use Rattle.uefi_text.proofs.Read.Lists as forms

pub hw_found : (arguments : List (List ℕ)) (node : Node) → vendor_hw_of arguments ≡ Some node → IsNodeText (named (codes "VenHw") arguments) node
unfolding vendor_hw_of
hw_found arguments node e =
    let v = bind_some (vendor_of arguments) _ node e in
    subst (IsNodeText (named (codes "VenHw") arguments)) (some_same (VendorHw v.0) node v.2) (forms.vendor_hw_found arguments v.0 v.1)

pub hw_again : (arguments : List (List ℕ)) (node : Node) → IsNodeText (named (codes "VenHw") arguments) node → vendor_hw_of arguments ≡ Some node
unfolding vendor_hw_of
hw_again arguments node is =
    let p = forms.vendor_hw_again arguments node is in
    rw p.1 (ap (λ (n : Node). Some n) (sym p.2))

pub msg_found : (arguments : List (List ℕ)) (node : Node) → vendor_msg_of arguments ≡ Some node → IsNodeText (named (codes "VenMsg") arguments) node
unfolding vendor_msg_of
msg_found arguments node e =
    let v = bind_some (vendor_of arguments) _ node e in
    subst (IsNodeText (named (codes "VenMsg") arguments)) (some_same (VendorMsg v.0) node v.2) (forms.vendor_msg_found arguments v.0 v.1)

pub msg_again : (arguments : List (List ℕ)) (node : Node) → IsNodeText (named (codes "VenMsg") arguments) node → vendor_msg_of arguments ≡ Some node
unfolding vendor_msg_of
msg_again arguments node is =
    let p = forms.vendor_msg_again arguments node is in
    rw p.1 (ap (λ (n : Node). Some n) (sym p.2))

pub media_found : (arguments : List (List ℕ)) (node : Node) → vendor_media_of arguments ≡ Some node → IsNodeText (named (codes "VenMedia") arguments) node
unfolding vendor_media_of
media_found arguments node e =
    let v = bind_some (vendor_of arguments) _ node e in
    subst (IsNodeText (named (codes "VenMedia") arguments)) (some_same (VendorMedia v.0) node v.2) (forms.vendor_media_found arguments v.0 v.1)

pub media_again : (arguments : List (List ℕ)) (node : Node) → IsNodeText (named (codes "VenMedia") arguments) node → vendor_media_of arguments ≡ Some node
unfolding vendor_media_of
media_again arguments node is =
    let p = forms.vendor_media_again arguments node is in
    rw p.1 (ap (λ (n : Node). Some n) (sym p.2))

row_read : (node : Node) (o : Option Row) → IsOfRow node o → (r : Row) × (o ≡ Some r) × IsNode node × (row_of node ≡ r)
row_read node None h = absurd h
row_read node (Some r) h = (r, refl, h.0, h.1)

row_again : (node : Node) (o : Option Row) → IsNode node → o ≡ Some (row_of node) → IsOfRow node o
row_again node o valid e = subst (IsOfRow node) (sym e) (valid, refl)

generic_node : (inside : List ℕ) (node : Node) → IsOfRow node (generic_of (arguments_of inside)) → MeansNamed (codes "Path") inside node
generic_node inside node found =
    let r = row_read node (generic_of (arguments_of inside)) found in
    (arguments_of inside, sym (join_with_byte-slice_split comma inside), forms.generic_found (arguments_of inside) r.0 node r.1 r.2 r.3)

pub generic_answers : EachNodeIsShort → (inside : List ℕ) (result : Result Node SegmentFault) → AnswersRow result (generic_of (arguments_of inside))
    → AnswersNamed (codes "Path") inside result
generic_answers law inside (Ok node) found = generic_node inside node found
generic_answers law inside (Err fault) told =
    told_from fault (λ refused. λ (node : Node) (m : MeansNamed (codes "Path") inside node).
    let cut = cut_args (codes "Path") inside m.0 node refl m.1 m.2 in
    refused node (row_again node (generic_of (arguments_of inside)) cut.valid (forms.generic_again law (arguments_of inside) node cut)))
    (λ wanted. (wanted.0, generic_node inside wanted.0 wanted.1)) told

-- there is a node of each type but that of the end nodes, with each data that digits write
pub row_node : ((r : Row) → IsRow r → r.kind ≢ 0x7F → (node : Node) × IsNode node × (row_of node ≡ r)) → (kind sub : ℕ) (digits : List ℕ)
    → kind < 2 ^ 8 → sub < 2 ^ 8 → is_data digits ≡ true → length (data_bytes digits) ≤ 65531 → kind ≢ 0x7F
    → (node : Node) × (IsNode node × (row_of node ≡ row kind sub (data_bytes digits)))
row_node law kind sub digits k s is len no_end =
    let bytes = hex_bytes digits (data_bytes digits) (data_read digits is) in
    let node = law (row kind sub (data_bytes digits)) (record { kind = k; sub = s; body = bytes; len = len }) no_end in
    (node.0, (node.1, node.2))
