-- The number of a device.
use Rattle.std.specs.Prelude.{ℕ, ◌+◌, ◌*◌, ◌/◌, ◌%◌, List, Option, Some, option_and_then}
use Rattle.partitions.specs.Cut.{cut_of, colon}
use Rattle.partitions.specs.Number.{number_of}
use Rattle.partitions.specs.declared.device.DeviceNumber.{DeviceNumber}

-- the second step, if the first gave a value
infixl 10 ◌>>=◌
abbrev pub ◌>>=◌ : {A B : Type 0} → Option A → (A → Option B) → Option B
o >>= f = option_and_then f o

-- two decimal numbers of at most 32 bits, joined by a colon
unfoldable pub device_of : List ℕ → Option DeviceNumber
device_of text = do
  parts ← cut_of colon text
  major ← number_of 10 0xFFFFFFFF parts.0
  minor ← number_of 10 0xFFFFFFFF parts.1
  Some (record { major = major; minor = minor })

-- the last 12 bits of the major number are at bit 8 and the others at bit 44, the last 8 of the minor number at bit 0 and
-- the others at bit 20
abbrev pub device_of_stat : ℕ → DeviceNumber
device_of_stat n = record {
  major = n / 0x100 % 0x1000 + n / 0x100000000000 * 0x1000;
  minor = n % 0x100 + n / 0x100000 % 0x1000000 * 0x100;
}
