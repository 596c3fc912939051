use Rattle.std.proofs.Common.{[], ◌∷◌, refl}
use Rattle.uefi_names.specs.Standard.{standard_table}
use Rattle.uefi_names.proofs.Standard.{is_table, are_whole}
use Rattle.uefi_names.proofs.table.NodeTable.standard.Goals as goal

pub returns-clause-rows : goal.returns-clause-rows
unfolding standard_table
returns-clause-rows c =
    rw (
      c.hardware.ensures,
      c.acpi.ensures,
      c.storage.ensures,
      c.vendors.ensures,
      c.networks.ensures,
      c.usb.ensures,
      c.media.ensures,
      c.bios_boot.ensures,
    ) refl

pub returns-clause-distinct : goal.returns-clause-distinct
unfolding standard_table
returns-clause-distinct c =
    is_table
    (record {
      groups =
          c.hardware.result ∷ c.acpi.result ∷ c.storage.result ∷ c.vendors.result ∷ c.networks.result ∷ c.usb.result
          ∷ c.media.result ∷ c.bios_boot.result ∷ [];
    })
    (returns-clause-rows c) refl

pub returns-clause-whole : goal.returns-clause-whole
unfolding standard_table
returns-clause-whole c =
    are_whole
    (record {
      groups =
          c.hardware.result ∷ c.acpi.result ∷ c.storage.result ∷ c.vendors.result ∷ c.networks.result ∷ c.usb.result
          ∷ c.media.result ∷ c.bios_boot.result ∷ [];
    })
    (returns-clause-rows c) refl
