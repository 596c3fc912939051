-- The standard's numbers: the limits of nodes, and identifiers that have a meaning.
use Rattle.std.specs.Prelude.{ℕ}

-- the most bytes of data: with the four before them, two bytes state how many (UEFI 2.10, 10.3.1)
abbrev pub body_max : ℕ
body_max = 65531

-- the most bytes of data after a vendor's identifier (UEFI 2.10, 10.3.2.4, 10.3.4.17, 10.3.5.3)
abbrev pub vendor_body_max : ℕ
vendor_body_max = 65515

-- the most units of a path name, without the zero after them (UEFI 2.10, 10.3.5.4)
abbrev pub path_name_max : ℕ
path_name_max = 32764

-- PNP0A03 and PNP0A08, the roots of a PCI and of a PCI Express bus, as compressed EISA identifiers (UEFI 2.10, 10.3.3):
-- the four digits in the upper two bytes, the three letters in the lower two
abbrev pub pci_root_hid : ℕ
pci_root_hid = 0x0A0341D0

abbrev pub pcie_root_hid : ℕ
pcie_root_hid = 0x0A0841D0
