-- Segments of numbers that the reader's functions read are those of the definitions.
use Rattle.std.proofs.Common.{◌≡◌, ◌<◌, ℕ, List, [], ◌∷◌, ap, sym, subst, ◌+◌, lit<, arith}
use Rattle.std.specs.Prelude.{Some, codes}
use Rattle.uefi_path.specs.declared.node.Node.{Node}
use Rattle.uefi_path.specs.declared.node.Node.TheVariants.{Pci, Acpi, Usb, Sata, Vlan, Cdrom}
use Rattle.uefi_text.specs.Segment.{named}
use Rattle.uefi_path.specs.Standard.{pci_root_hid, pcie_root_hid}
use Rattle.uefi_text.specs.Node.{pci, usb, sata, vlan, pci_root, pcie_root, cdrom}
use Rattle.uefi_text.specs.Path.{IsNodeText}
use Rattle.uefi_text.specs.Reader.{two_of, three_of, number_up_to, pci_of, usb_of, sata_of, vlan_of, root_of, cdrom_of}
use Rattle.uefi_text.proofs.Read.Numbers.{bind_some, some_same, up_to_found, up_to_again}
use Rattle.uefi_text.proofs.Means.Forms.{
  pci_count,
  pci_arguments,
  usb_count,
  usb_arguments,
  sata_count,
  sata_arguments,
  vlan_count,
  vlan_arguments,
  cdrom_count,
  cdrom_arguments,
  pci_root_count,
  pci_root_arguments,
  pcie_root_count,
  pcie_root_arguments,
}

pub pci_found : (arguments : List (List ℕ)) (node : Node) → pci_of arguments ≡ Some node → IsNodeText (named (codes "Pci") arguments) node
unfolding pci_of two_of
pci_found ([]) node e = cc
pci_found (_ ∷ []) node e = cc
pci_found (_ ∷ _ ∷ _ ∷ more) node e = cc
pci_found (device ∷ function ∷ []) node e =
    let r0 = bind_some (number_up_to 0xFF device) _ node e in
    let n0 = up_to_found 0xFF device r0.0 r0.1 in
    let r1 = bind_some (number_up_to 0xFF function) _ node r0.2 in
    let n1 = up_to_found 0xFF function r1.0 r1.1 in
    let under0 : r0.0 < 0xFF + 1 = let le = n0.1 in omega arith in
    let under1 : r1.0 < 0xFF + 1 = let le = n1.1 in omega arith in
    subst (IsNodeText (named (codes "Pci") (device ∷ function ∷ []))) (some_same (Pci r1.0 r0.0) node r1.2)
    (record { valid = (under1, under0); means = pci n0.0 n1.0 })

pub pci_again : (arguments : List (List ℕ)) (node : Node) → IsNodeText (named (codes "Pci") arguments) node → pci_of arguments ≡ Some node
unfolding pci_of two_of
pci_again ([]) node is = let len = pci_count _ node is in absurd (omega (arith, len))
pci_again (_ ∷ []) node is = let len = pci_count _ node is in absurd (omega (arith, len))
pci_again (_ ∷ _ ∷ _ ∷ more) node is = let len = pci_count _ node is in absurd (omega (arith, len))
pci_again (device ∷ function ∷ []) node is =
    let p = pci_arguments device function node is in
    let a0 = up_to_again 0xFF device p.0 p.2.is (let fits = p.2.fits in omega arith) in
    let a1 = up_to_again 0xFF function p.1 p.3.is (let fits = p.3.fits in omega arith) in
    rw (a0, a1) (ap (λ (n : Node). Some n) (sym p.4))

pub usb_found : (arguments : List (List ℕ)) (node : Node) → usb_of arguments ≡ Some node → IsNodeText (named (codes "USB") arguments) node
unfolding usb_of two_of
usb_found ([]) node e = cc
usb_found (_ ∷ []) node e = cc
usb_found (_ ∷ _ ∷ _ ∷ more) node e = cc
usb_found (port ∷ interface ∷ []) node e =
    let r0 = bind_some (number_up_to 0xFF port) _ node e in
    let n0 = up_to_found 0xFF port r0.0 r0.1 in
    let r1 = bind_some (number_up_to 0xFF interface) _ node r0.2 in
    let n1 = up_to_found 0xFF interface r1.0 r1.1 in
    let under0 : r0.0 < 0xFF + 1 = let le = n0.1 in omega arith in
    let under1 : r1.0 < 0xFF + 1 = let le = n1.1 in omega arith in
    subst (IsNodeText (named (codes "USB") (port ∷ interface ∷ []))) (some_same (Usb r0.0 r1.0) node r1.2)
    (record { valid = (under0, under1); means = usb n0.0 n1.0 })

pub usb_again : (arguments : List (List ℕ)) (node : Node) → IsNodeText (named (codes "USB") arguments) node → usb_of arguments ≡ Some node
unfolding usb_of two_of
usb_again ([]) node is = let len = usb_count _ node is in absurd (omega (arith, len))
usb_again (_ ∷ []) node is = let len = usb_count _ node is in absurd (omega (arith, len))
usb_again (_ ∷ _ ∷ _ ∷ more) node is = let len = usb_count _ node is in absurd (omega (arith, len))
usb_again (port ∷ interface ∷ []) node is =
    let p = usb_arguments port interface node is in
    let a0 = up_to_again 0xFF port p.0 p.2.is (let fits = p.2.fits in omega arith) in
    let a1 = up_to_again 0xFF interface p.1 p.3.is (let fits = p.3.fits in omega arith) in
    rw (a0, a1) (ap (λ (n : Node). Some n) (sym p.4))

pub sata_found : (arguments : List (List ℕ)) (node : Node) → sata_of arguments ≡ Some node → IsNodeText (named (codes "Sata") arguments) node
unfolding sata_of three_of two_of
sata_found ([]) node e = cc
sata_found (_ ∷ []) node e = cc
sata_found (_ ∷ _ ∷ []) node e = cc
sata_found (_ ∷ _ ∷ _ ∷ _ ∷ more) node e = cc
sata_found (hba ∷ multiplier ∷ lun ∷ []) node e =
    let r0 = bind_some (number_up_to 0xFFFF hba) _ node e in
    let n0 = up_to_found 0xFFFF hba r0.0 r0.1 in
    let r1 = bind_some (number_up_to 0xFFFF multiplier) _ node r0.2 in
    let n1 = up_to_found 0xFFFF multiplier r1.0 r1.1 in
    let r2 = bind_some (number_up_to 0xFFFF lun) _ node r1.2 in
    let n2 = up_to_found 0xFFFF lun r2.0 r2.1 in
    let under0 : r0.0 < 0xFFFF + 1 = let le = n0.1 in omega arith in
    let under1 : r1.0 < 0xFFFF + 1 = let le = n1.1 in omega arith in
    let under2 : r2.0 < 0xFFFF + 1 = let le = n2.1 in omega arith in
    subst (IsNodeText (named (codes "Sata") (hba ∷ multiplier ∷ lun ∷ [])))
    (some_same (Sata r0.0 r1.0 r2.0) node r2.2) (record { valid = (under0, under1, under2); means = sata n0.0 n1.0 n2.0 })

pub sata_again : (arguments : List (List ℕ)) (node : Node) → IsNodeText (named (codes "Sata") arguments) node → sata_of arguments ≡ Some node
unfolding sata_of three_of two_of
sata_again ([]) node is = let len = sata_count _ node is in absurd (omega (arith, len))
sata_again (_ ∷ []) node is = let len = sata_count _ node is in absurd (omega (arith, len))
sata_again (_ ∷ _ ∷ []) node is = let len = sata_count _ node is in absurd (omega (arith, len))
sata_again (_ ∷ _ ∷ _ ∷ _ ∷ more) node is = let len = sata_count _ node is in absurd (omega (arith, len))
sata_again (hba ∷ multiplier ∷ lun ∷ []) node is =
    let p = sata_arguments hba multiplier lun node is in
    let a0 = up_to_again 0xFFFF hba p.0 p.3.is (let fits = p.3.fits in omega arith) in
    let a1 = up_to_again 0xFFFF multiplier p.1 p.4.is (let fits = p.4.fits in omega arith) in
    let a2 = up_to_again 0xFFFF lun p.2 p.5.is (let fits = p.5.fits in omega arith) in
    rw (a0, a1, a2) (ap (λ (n : Node). Some n) (sym p.6))

pub vlan_found : (arguments : List (List ℕ)) (node : Node) → vlan_of arguments ≡ Some node → IsNodeText (named (codes "Vlan") arguments) node
unfolding vlan_of
vlan_found ([]) node e = cc
vlan_found (_ ∷ _ ∷ more) node e = cc
vlan_found (id ∷ []) node e =
    let r0 = bind_some (number_up_to 0xFFFF id) _ node e in
    let n0 = up_to_found 0xFFFF id r0.0 r0.1 in
    let under0 : r0.0 < 0xFFFF + 1 = let le = n0.1 in omega arith in
    subst (IsNodeText (named (codes "Vlan") (id ∷ []))) (some_same (Vlan r0.0) node r0.2) (record { valid = under0; means = vlan n0.0 })

pub vlan_again : (arguments : List (List ℕ)) (node : Node) → IsNodeText (named (codes "Vlan") arguments) node → vlan_of arguments ≡ Some node
unfolding vlan_of
vlan_again ([]) node is = let len = vlan_count _ node is in absurd (omega (arith, len))
vlan_again (_ ∷ _ ∷ more) node is = let len = vlan_count _ node is in absurd (omega (arith, len))
vlan_again (id ∷ []) node is =
    let p = vlan_arguments id node is in
    let a0 = up_to_again 0xFFFF id p.0 p.1.is (let fits = p.1.fits in omega arith) in
    rw a0 (ap (λ (n : Node). Some n) (sym p.2))

pub root_found : (arguments : List (List ℕ)) (node : Node) → root_of pci_root_hid arguments ≡ Some node → IsNodeText (named (codes "PciRoot") arguments) node
unfolding root_of
root_found ([]) node e = cc
root_found (_ ∷ _ ∷ more) node e = cc
root_found (uid ∷ []) node e =
    let r0 = bind_some (number_up_to 0xFFFFFFFF uid) _ node e in
    let n0 = up_to_found 0xFFFFFFFF uid r0.0 r0.1 in
    let under0 : r0.0 < 0xFFFFFFFF + 1 = let le = n0.1 in omega arith in
    subst (IsNodeText (named (codes "PciRoot") (uid ∷ []))) (some_same (Acpi pci_root_hid r0.0) node r0.2)
    (record { valid = (lit< tt, under0); means = pci_root n0.0 })

pub root_again : (arguments : List (List ℕ)) (node : Node) → IsNodeText (named (codes "PciRoot") arguments) node → root_of pci_root_hid arguments ≡ Some node
unfolding root_of
root_again ([]) node is = let len = pci_root_count _ node is in absurd (omega (arith, len))
root_again (_ ∷ _ ∷ more) node is = let len = pci_root_count _ node is in absurd (omega (arith, len))
root_again (uid ∷ []) node is =
    let p = pci_root_arguments uid node is in
    let a0 = up_to_again 0xFFFFFFFF uid p.0 p.1.is (let fits = p.1.fits in omega arith) in
    rw a0 (ap (λ (n : Node). Some n) (sym p.2))

pub pcie_found : (arguments : List (List ℕ)) (node : Node) → root_of pcie_root_hid arguments ≡ Some node → IsNodeText (named (codes "PcieRoot") arguments) node
unfolding root_of
pcie_found ([]) node e = cc
pcie_found (_ ∷ _ ∷ more) node e = cc
pcie_found (uid ∷ []) node e =
    let r0 = bind_some (number_up_to 0xFFFFFFFF uid) _ node e in
    let n0 = up_to_found 0xFFFFFFFF uid r0.0 r0.1 in
    let under0 : r0.0 < 0xFFFFFFFF + 1 = let le = n0.1 in omega arith in
    subst (IsNodeText (named (codes "PcieRoot") (uid ∷ []))) (some_same (Acpi pcie_root_hid r0.0) node r0.2)
    (record { valid = (lit< tt, under0); means = pcie_root n0.0 })

pub pcie_again : (arguments : List (List ℕ)) (node : Node) → IsNodeText (named (codes "PcieRoot") arguments) node → root_of pcie_root_hid arguments ≡ Some node
unfolding root_of
pcie_again ([]) node is = let len = pcie_root_count _ node is in absurd (omega (arith, len))
pcie_again (_ ∷ _ ∷ more) node is = let len = pcie_root_count _ node is in absurd (omega (arith, len))
pcie_again (uid ∷ []) node is =
    let p = pcie_root_arguments uid node is in
    let a0 = up_to_again 0xFFFFFFFF uid p.0 p.1.is (let fits = p.1.fits in omega arith) in
    rw a0 (ap (λ (n : Node). Some n) (sym p.2))

pub cdrom_found : (arguments : List (List ℕ)) (node : Node) → cdrom_of arguments ≡ Some node → IsNodeText (named (codes "CDROM") arguments) node
unfolding cdrom_of three_of two_of
cdrom_found ([]) node e = cc
cdrom_found (_ ∷ []) node e = cc
cdrom_found (_ ∷ _ ∷ []) node e = cc
cdrom_found (_ ∷ _ ∷ _ ∷ _ ∷ more) node e = cc
cdrom_found (entry ∷ start ∷ size ∷ []) node e =
    let r0 = bind_some (number_up_to 0xFFFFFFFF entry) _ node e in
    let n0 = up_to_found 0xFFFFFFFF entry r0.0 r0.1 in
    let r1 = bind_some (number_up_to 0xFFFFFFFFFFFFFFFF start) _ node r0.2 in
    let n1 = up_to_found 0xFFFFFFFFFFFFFFFF start r1.0 r1.1 in
    let r2 = bind_some (number_up_to 0xFFFFFFFFFFFFFFFF size) _ node r1.2 in
    let n2 = up_to_found 0xFFFFFFFFFFFFFFFF size r2.0 r2.1 in
    let under0 : r0.0 < 0xFFFFFFFF + 1 = let le = n0.1 in omega arith in
    let under1 : r1.0 < 0xFFFFFFFFFFFFFFFF + 1 = let le = n1.1 in omega arith in
    let under2 : r2.0 < 0xFFFFFFFFFFFFFFFF + 1 = let le = n2.1 in omega arith in
    subst (IsNodeText (named (codes "CDROM") (entry ∷ start ∷ size ∷ [])))
    (some_same (Cdrom r0.0 r1.0 r2.0) node r2.2) (record { valid = (under0, under1, under2); means = cdrom n0.0 n1.0 n2.0 })

pub cdrom_again : (arguments : List (List ℕ)) (node : Node) → IsNodeText (named (codes "CDROM") arguments) node → cdrom_of arguments ≡ Some node
unfolding cdrom_of three_of two_of
cdrom_again ([]) node is = let len = cdrom_count _ node is in absurd (omega (arith, len))
cdrom_again (_ ∷ []) node is = let len = cdrom_count _ node is in absurd (omega (arith, len))
cdrom_again (_ ∷ _ ∷ []) node is = let len = cdrom_count _ node is in absurd (omega (arith, len))
cdrom_again (_ ∷ _ ∷ _ ∷ _ ∷ more) node is = let len = cdrom_count _ node is in absurd (omega (arith, len))
cdrom_again (entry ∷ start ∷ size ∷ []) node is =
    let p = cdrom_arguments entry start size node is in
    let a0 = up_to_again 0xFFFFFFFF entry p.0 p.3.is (let fits = p.3.fits in omega arith) in
    let a1 = up_to_again 0xFFFFFFFFFFFFFFFF start p.1 p.4.is (let fits = p.4.fits in omega arith) in
    let a2 = up_to_again 0xFFFFFFFFFFFFFFFF size p.2 p.5.is (let fits = p.5.fits in omega arith) in
    rw (a0, a1, a2) (ap (λ (n : Node). Some n) (sym p.6))
