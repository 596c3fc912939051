-- What a form answers, from what its function reads.
use Rattle.std.proofs.Common.{◌≡◌, ◌≢◌, ℕ, false, List, [], ◌∷◌, refl, ap, sym, subst, ◌∙◌}
use Rattle.std.specs.Prelude.{Option, Some, None, Result, Ok, Err, codes}
use Rattle.std.specs.List.{join_with_byte}
use Rattle.std.proofs.lemmas.List.Splits.{join_with_byte-slice_split}
use Rattle.uefi_path.specs.declared.node.Node.{Node}
use Rattle.uefi_text.specs.declared.fault.SegmentFault.{SegmentFault}
use Rattle.uefi_text.specs.Segment.{Segment, named, bare, comma}
use Rattle.uefi_text.specs.Path.{IsNodeText}
use Rattle.uefi_text.specs.Node.{
  MeansNode,
  pci,
  usb,
  sata,
  nvme,
  pci_root,
  pcie_root,
  acpi_pnp,
  acpi,
  mac,
  ipv4,
  vlan,
  uri,
  file,
  bare_file,
  hd_gpt,
  hd_mbr,
  cdrom,
  vendor_hw,
  vendor_msg,
  vendor_media,
  generic,
}
use Rattle.uefi_text.specs.Reader.{Reads, Makes, arguments_of}
use Rattle.uefi_text.specs.Answers.{MeansNamed, AnswersNamed}
use Rattle.uefi_text.proofs.Read.Arguments.{split_joined}
use Rattle.uefi_text.proofs.Read.Marks.{told_from}
use Rattle.uefi_text.proofs.Cut.Segments.{takes_all, IsPlainNamed}
use Rattle.uefi_text.proofs.Means.Plain.{plain_of_text}
use Rattle.uefi_text.proofs.Means.Inside.{arguments_lack_comma}

not_both : {A : Type 0} (o : Option A) (x : A) → o ≡ None → o ≡ Some x → ⊥
not_both o x none some = cc

-- an answer that gives the node that is read, or tells that none is
pub answers : (name inside : List ℕ) (result : Result Node SegmentFault) (read : Option Node)
    → ((node : Node) → read ≡ Some node → MeansNamed name inside node) → ((node : Node) → MeansNamed name inside node → read ≡ Some node)
    → Makes result read → AnswersNamed name inside result
answers name inside (Ok node) read found again h = found node h
answers name inside (Err fault) read found again h =
    told_from fault (λ none. λ (node : Node) (m : MeansNamed name inside node). not_both read node none (again node m))
    (λ wanted. (wanted.0, found wanted.0 wanted.1)) h

-- the same of an answer that takes no memory
pub makes : {X : Type 0} (result : Result X SegmentFault) (read : Option X) → Reads result read → Makes result read
makes (Ok x) read h = h
makes {X} (Err fault) read h = told_from fault (λ none. none) (λ no. absurd no) h

pub cut_args : (name inside : List ℕ) (arguments : List (List ℕ)) (node : Node) → takes_all name ≡ false → inside ≡ join_with_byte comma arguments
    → IsNodeText (named name arguments) node → IsNodeText (named name (arguments_of inside)) node
cut_args name inside [] node cut e means =
    let plain : IsPlainNamed name [] = plain_of_text (named name []) node means in
    absurd (plain.some refl)
cut_args name inside (first ∷ others) node cut e means =
    let lacks = arguments_lack_comma name (first ∷ others) node cut means in
    subst (λ parts. IsNodeText (named name parts) node) (sym (ap arguments_of e ∙ split_joined comma (first ∷ others) lacks (λ no. cc))) means

-- a form whose arguments are cut at each comma
pub cut_answers : (name inside : List ℕ) (result : Result Node SegmentFault) (read : List (List ℕ) → Option Node) → takes_all name ≡ false
    → ((arguments : List (List ℕ)) (node : Node) → read arguments ≡ Some node → IsNodeText (named name arguments) node)
    → ((arguments : List (List ℕ)) (node : Node) → IsNodeText (named name arguments) node → read arguments ≡ Some node)
    → Makes result (read (arguments_of inside)) → AnswersNamed name inside result
cut_answers name inside result read cut found again h =
    answers name inside result (read (arguments_of inside))
    (λ node e. (arguments_of inside, sym (join_with_byte-slice_split comma inside), found (arguments_of inside) node e))
    (λ node m. again (arguments_of inside) node (cut_args name inside m.0 node cut m.1 m.2)) h

-- a form with the one argument that its inner text is
pub whole_answers : (name inside : List ℕ) (result : Result Node SegmentFault) (read : List ℕ → Option Node)
    → ((argument : List ℕ) (node : Node) → read argument ≡ Some node → IsNodeText (named name (argument ∷ [])) node)
    → ((node : Node) → MeansNamed name inside node → read inside ≡ Some node)
    → Makes result (read inside) → AnswersNamed name inside result
whole_answers name inside result read found again h =
    answers name inside result (read inside) (λ node e. (inside ∷ [], refl, found inside node e)) again h

-- each name that some form has
abbrev OnName : (List ℕ → Type 0) → Segment → Type 0
OnName P (named name _) = P name
OnName P (bare _) = Unit {0}

pub record OnNames (P : List ℕ → Type 0) : Type 0 where
  pub pci_name : P (codes "Pci")
  pub usb_name : P (codes "USB")
  pub sata_name : P (codes "Sata")
  pub nvme_name : P (codes "NVMe")
  pub pci_root_name : P (codes "PciRoot")
  pub pcie_root_name : P (codes "PcieRoot")
  pub acpi_name : P (codes "Acpi")
  pub mac_name : P (codes "MAC")
  pub ipv4_name : P (codes "IPv4")
  pub vlan_name : P (codes "Vlan")
  pub uri_name : P (codes "Uri")
  pub file_name : P (codes "File")
  pub hd_name : P (codes "HD")
  pub cdrom_name : P (codes "CDROM")
  pub vendor_hw_name : P (codes "VenHw")
  pub vendor_msg_name : P (codes "VenMsg")
  pub vendor_media_name : P (codes "VenMedia")
  pub generic_name : P (codes "Path")

on_name : (P : List ℕ → Type 0) → OnNames P → (s : Segment) (node : Node) → MeansNode s node → OnName P s
on_name P names _ _ (pci x0 x1) = names.pci_name
on_name P names _ _ (usb x0 x1) = names.usb_name
on_name P names _ _ (sata x0 x1 x2) = names.sata_name
on_name P names _ _ (nvme x0 x1) = names.nvme_name
on_name P names _ _ (pci_root x0) = names.pci_root_name
on_name P names _ _ (pcie_root x0) = names.pcie_root_name
on_name P names _ _ (acpi_pnp x0 x1) = names.acpi_name
on_name P names _ _ (acpi x0 x1) = names.acpi_name
on_name P names _ _ (mac x0 x1 x2) = names.mac_name
on_name P names _ _ (ipv4 x0 x1 x2 x3 x4 x5) = names.ipv4_name
on_name P names _ _ (vlan x0) = names.vlan_name
on_name P names _ _ (uri x0) = names.uri_name
on_name P names _ _ (file x0) = names.file_name
on_name P names _ _ (bare_file x0) = tt
on_name P names _ _ (hd_gpt x0 x1 x2 x3) = names.hd_name
on_name P names _ _ (hd_mbr x0 x1 x2 x3) = names.hd_name
on_name P names _ _ (cdrom x0 x1 x2) = names.cdrom_name
on_name P names _ _ (vendor_hw x0) = names.vendor_hw_name
on_name P names _ _ (vendor_msg x0) = names.vendor_msg_name
on_name P names _ _ (vendor_media x0) = names.vendor_media_name
on_name P names _ _ (generic x0 x1 x2 x3) = names.generic_name

-- no form has another name
pub no_form : (name inside : List ℕ) (node : Node) → OnNames (λ known. known ≢ name) → MeansNamed name inside node → ⊥
no_form name inside node others m = on_name (λ known. known ≢ name) others (named name m.0) node m.2.means refl
