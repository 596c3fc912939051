use Rattle.std.proofs.Common.{ℕ, List, sym, subst, refl, ◌∙◌, true≢false}
use Rattle.std.specs.Prelude.{codes}
use Rattle.uefi_path.specs.Standard.{pci_root_hid, pcie_root_hid}
use Rattle.uefi_text.specs.Reader.{
  pci_of,
  usb_of,
  sata_of,
  vlan_of,
  root_of,
  acpi_of,
  nvme_of,
  mac_node_of,
  ipv4_of,
  hard_drive_of,
  cdrom_of,
  vendor_hw_of,
  vendor_msg_of,
  vendor_media_of,
  uri_of,
  file_of,
}
use Rattle.uefi_text.specs.Answers.{AnswersNamed}
use Rattle.uefi_text.proofs.Read.Answers.{cut_answers, whole_answers, makes, no_form}
use Rattle.uefi_text.proofs.Read.Forms.{
  nvme_found,
  nvme_again,
  acpi_found,
  acpi_again,
  mac_node_found,
  mac_node_again,
  ipv4_found,
  ipv4_again,
  hard_drive_found,
  hard_drive_again,
}
use Rattle.uefi_text.proofs.Read.Whole.{uri_found, uri_again, file_found, file_again}
use Rattle.uefi_text.proofs.Read.Generic.{hw_found, hw_again, msg_found, msg_again, media_found, media_again, generic_answers}
use Rattle.uefi_text.proofs.Read.Segments.{
  pci_found,
  pci_again,
  usb_found,
  usb_again,
  sata_found,
  sata_again,
  vlan_found,
  vlan_again,
  cdrom_found,
  cdrom_again,
  root_found,
  root_again,
  pcie_found,
  pcie_again,
}
use Rattle.uefi_text.proofs.forms.named_node.Goals as goal

pub returns-then-is_named : goal.returns-then-is_named
returns-then-is_named c =
    subst (λ (n : List ℕ). AnswersNamed n c.args.inside.now c.pci.result) (sym (c.is_named.ensures.0 c.if-is_named.true))
    (cut_answers (codes "Pci") c.args.inside.now c.pci.result pci_of refl pci_found pci_again (makes c.pci.result _ c.pci.ensures))

pub returns-then-is_named-2 : goal.returns-then-is_named-2
returns-then-is_named-2 c =
    subst (λ (n : List ℕ). AnswersNamed n c.args.inside.now c.usb.result) (sym (c.is_named-2.ensures.0 c.if-is_named-2.true))
    (cut_answers (codes "USB") c.args.inside.now c.usb.result usb_of refl usb_found usb_again (makes c.usb.result _ c.usb.ensures))

pub returns-then-is_named-3 : goal.returns-then-is_named-3
returns-then-is_named-3 c =
    subst (λ (n : List ℕ). AnswersNamed n c.args.inside.now c.sata.result) (sym (c.is_named-3.ensures.0 c.if-is_named-3.true))
    (cut_answers (codes "Sata") c.args.inside.now c.sata.result sata_of refl sata_found sata_again (makes c.sata.result _ c.sata.ensures))

pub returns-then-is_named-4 : goal.returns-then-is_named-4
returns-then-is_named-4 c =
    subst (λ (n : List ℕ). AnswersNamed n c.args.inside.now c.nvme.result) (sym (c.is_named-4.ensures.0 c.if-is_named-4.true))
    (cut_answers (codes "NVMe") c.args.inside.now c.nvme.result nvme_of refl nvme_found nvme_again (makes c.nvme.result _ c.nvme.ensures))

pub returns-then-is_named-5 : goal.returns-then-is_named-5
returns-then-is_named-5 c =
    subst (λ (n : List ℕ). AnswersNamed n c.args.inside.now c.root.result) (sym (c.is_named-5.ensures.0 c.if-is_named-5.true))
    (cut_answers (codes "PciRoot") c.args.inside.now c.root.result (root_of pci_root_hid) refl root_found root_again (makes c.root.result _ c.root.ensures))

pub returns-then-is_named-6 : goal.returns-then-is_named-6
returns-then-is_named-6 c =
    subst (λ (n : List ℕ). AnswersNamed n c.args.inside.now c.root-then-is_named-6.result) (sym (c.is_named-6.ensures.0 c.if-is_named-6.true))
    (cut_answers (codes "PcieRoot") c.args.inside.now c.root-then-is_named-6.result
    (root_of pcie_root_hid) refl pcie_found pcie_again (makes c.root-then-is_named-6.result _ c.root-then-is_named-6.ensures))

pub returns-then-is_named-7 : goal.returns-then-is_named-7
returns-then-is_named-7 c =
    subst (λ (n : List ℕ). AnswersNamed n c.args.inside.now c.acpi.result) (sym (c.is_named-7.ensures.0 c.if-is_named-7.true))
    (cut_answers (codes "Acpi") c.args.inside.now c.acpi.result acpi_of refl acpi_found acpi_again (makes c.acpi.result _ c.acpi.ensures))

pub returns-then-is_named-8 : goal.returns-then-is_named-8
returns-then-is_named-8 c =
    subst (λ (n : List ℕ). AnswersNamed n c.args.inside.now c.mac_node.result) (sym (c.is_named-8.ensures.0 c.if-is_named-8.true))
    (cut_answers (codes "MAC") c.args.inside.now c.mac_node.result mac_node_of refl mac_node_found mac_node_again
    (makes c.mac_node.result _ c.mac_node.ensures))

pub returns-then-is_named-9 : goal.returns-then-is_named-9
returns-then-is_named-9 c =
    subst (λ (n : List ℕ). AnswersNamed n c.args.inside.now c.ipv4.result) (sym (c.is_named-9.ensures.0 c.if-is_named-9.true))
    (cut_answers (codes "IPv4") c.args.inside.now c.ipv4.result ipv4_of refl ipv4_found ipv4_again (makes c.ipv4.result _ c.ipv4.ensures))

pub returns-then-is_named-10 : goal.returns-then-is_named-10
returns-then-is_named-10 c =
    subst (λ (n : List ℕ). AnswersNamed n c.args.inside.now c.vlan.result) (sym (c.is_named-10.ensures.0 c.if-is_named-10.true))
    (cut_answers (codes "Vlan") c.args.inside.now c.vlan.result vlan_of refl vlan_found vlan_again (makes c.vlan.result _ c.vlan.ensures))

pub returns-then-is_named-11 : goal.returns-then-is_named-11
returns-then-is_named-11 c =
    subst (λ (n : List ℕ). AnswersNamed n c.args.inside.now c.uri.result) (sym (c.is_named-11.ensures.0 c.if-is_named-11.true))
    (whole_answers (codes "Uri") c.args.inside.now c.uri.result uri_of uri_found (uri_again c.args.inside.now) c.uri.ensures)

pub returns-then-is_named-12 : goal.returns-then-is_named-12
returns-then-is_named-12 c =
    subst (λ (n : List ℕ). AnswersNamed n c.args.inside.now c.file.result) (sym (c.is_named-12.ensures.0 c.if-is_named-12.true))
    (whole_answers (codes "File") c.args.inside.now c.file.result file_of file_found (file_again c.args.inside.now) c.file.ensures)

pub returns-then-is_named-13 : goal.returns-then-is_named-13
returns-then-is_named-13 c =
    subst (λ (n : List ℕ). AnswersNamed n c.args.inside.now c.hard_drive.result) (sym (c.is_named-13.ensures.0 c.if-is_named-13.true))
    (cut_answers (codes "HD") c.args.inside.now c.hard_drive.result hard_drive_of refl hard_drive_found
    hard_drive_again (makes c.hard_drive.result _ c.hard_drive.ensures))

pub returns-then-is_named-14 : goal.returns-then-is_named-14
returns-then-is_named-14 c =
    subst (λ (n : List ℕ). AnswersNamed n c.args.inside.now c.cdrom.result) (sym (c.is_named-14.ensures.0 c.if-is_named-14.true))
    (cut_answers (codes "CDROM") c.args.inside.now c.cdrom.result cdrom_of refl cdrom_found cdrom_again (makes c.cdrom.result _ c.cdrom.ensures))

pub returns-then-is_named-15 : goal.returns-then-is_named-15
returns-then-is_named-15 c =
    subst (λ (n : List ℕ). AnswersNamed n c.args.inside.now c.vendor_hw.result) (sym (c.is_named-15.ensures.0 c.if-is_named-15.true))
    (cut_answers (codes "VenHw") c.args.inside.now c.vendor_hw.result vendor_hw_of refl hw_found hw_again c.vendor_hw.ensures)

pub returns-then-is_named-16 : goal.returns-then-is_named-16
returns-then-is_named-16 c =
    subst (λ (n : List ℕ). AnswersNamed n c.args.inside.now c.vendor_msg.result) (sym (c.is_named-16.ensures.0 c.if-is_named-16.true))
    (cut_answers (codes "VenMsg") c.args.inside.now c.vendor_msg.result vendor_msg_of refl msg_found msg_again c.vendor_msg.ensures)

pub returns-then-is_named-17 : goal.returns-then-is_named-17
returns-then-is_named-17 c =
    subst (λ (n : List ℕ). AnswersNamed n c.args.inside.now c.vendor_media.result) (sym (c.is_named-17.ensures.0 c.if-is_named-17.true))
    (cut_answers (codes "VenMedia") c.args.inside.now c.vendor_media.result vendor_media_of refl media_found media_again c.vendor_media.ensures)

pub returns-then-is_named-18 : goal.returns-then-is_named-18
returns-then-is_named-18 c =
    subst (λ (n : List ℕ). AnswersNamed n c.args.inside.now c.generic.result) (sym (c.is_named-18.ensures.0 c.if-is_named-18.true))
    (generic_answers c.each_node_is_spelled.ensures c.args.inside.now c.generic.result c.generic.ensures)

pub returns : goal.returns
returns c =
    (λ node m. no_form c.args.name.now c.args.inside.now node (record {
      pci_name = λ e. true≢false (sym (c.is_named.ensures.1 (sym e)) ∙ c.if-is_named.false);
      usb_name = λ e. true≢false (sym (c.is_named-2.ensures.1 (sym e)) ∙ c.if-is_named-2.false);
      sata_name = λ e. true≢false (sym (c.is_named-3.ensures.1 (sym e)) ∙ c.if-is_named-3.false);
      nvme_name = λ e. true≢false (sym (c.is_named-4.ensures.1 (sym e)) ∙ c.if-is_named-4.false);
      pci_root_name = λ e. true≢false (sym (c.is_named-5.ensures.1 (sym e)) ∙ c.if-is_named-5.false);
      pcie_root_name = λ e. true≢false (sym (c.is_named-6.ensures.1 (sym e)) ∙ c.if-is_named-6.false);
      acpi_name = λ e. true≢false (sym (c.is_named-7.ensures.1 (sym e)) ∙ c.if-is_named-7.false);
      mac_name = λ e. true≢false (sym (c.is_named-8.ensures.1 (sym e)) ∙ c.if-is_named-8.false);
      ipv4_name = λ e. true≢false (sym (c.is_named-9.ensures.1 (sym e)) ∙ c.if-is_named-9.false);
      vlan_name = λ e. true≢false (sym (c.is_named-10.ensures.1 (sym e)) ∙ c.if-is_named-10.false);
      uri_name = λ e. true≢false (sym (c.is_named-11.ensures.1 (sym e)) ∙ c.if-is_named-11.false);
      file_name = λ e. true≢false (sym (c.is_named-12.ensures.1 (sym e)) ∙ c.if-is_named-12.false);
      hd_name = λ e. true≢false (sym (c.is_named-13.ensures.1 (sym e)) ∙ c.if-is_named-13.false);
      cdrom_name = λ e. true≢false (sym (c.is_named-14.ensures.1 (sym e)) ∙ c.if-is_named-14.false);
      vendor_hw_name = λ e. true≢false (sym (c.is_named-15.ensures.1 (sym e)) ∙ c.if-is_named-15.false);
      vendor_msg_name = λ e. true≢false (sym (c.is_named-16.ensures.1 (sym e)) ∙ c.if-is_named-16.false);
      vendor_media_name = λ e. true≢false (sym (c.is_named-17.ensures.1 (sym e)) ∙ c.if-is_named-17.false);
      generic_name = λ e. true≢false (sym (c.is_named-18.ensures.1 (sym e)) ∙ c.if-is_named-18.false);
    }) m)
