-- A line of /proc/self/mountinfo (Documentation/filesystems/proc.rst, 3.5).
use Rattle.std.specs.Prelude.{ℕ, ◌==◌, List, [], ◌∷◌, take, drop, codes, Option, Some, None, Result, Ok, Err, if◌then◌else◌}
use Rattle.std.specs.Option.{ok_or}
use Rattle.std.specs.Cmp.Lexicographic.{pointwise}
use Rattle.partitions.specs.Cut.{cut_of, blank}
use Rattle.partitions.specs.Number.{number_of}
use Rattle.partitions.specs.Device.{◌>>=◌, device_of}
use Rattle.partitions.specs.Escape.{unescaped}
use Rattle.partitions.specs.declared.device.DeviceNumber.{DeviceNumber}
use Rattle.partitions.specs.declared.mount.Mount.{Mount}
use Rattle.partitions.specs.declared.mount.LineFields.{LineFields}
use Rattle.partitions.specs.declared.fault.MountFault.{MountFault}
use Rattle.partitions.specs.declared.fault.MountFault.TheVariants as fault

-- the fields of a line that count, as they are written
pub record LineParts : Type 0 where
  pub id : List ℕ
  pub parent : List ℕ
  pub device : List ℕ
  pub root : List ℕ
  pub point : List ℕ
  pub kind : List ℕ

abbrev pub line_parts : List ℕ → List ℕ → List ℕ → List ℕ → List ℕ → List ℕ → LineParts
line_parts id parent device root point kind =
    record { id = id; parent = parent; device = device; root = root; point = point; kind = kind }

abbrev pub parts_of_fields : LineFields → LineParts
parts_of_fields f = line_parts f.id.now f.parent.now f.device.now f.root.now f.point.now f.kind.now

-- what is after the first ` - `
abbrev pub after_dash : List ℕ → Option (List ℕ)
after_dash [] = None
after_dash (byte ∷ rest) =
    if pointwise ◌==◌ (take 3 (byte ∷ rest)) (codes " - ") then Some (drop 3 (byte ∷ rest)) else after_dash rest

-- the fields of a line: its number, the number of the mount that it is on, the device, the folder that is mounted, and where
-- it is; options and more, up to ` - `; the type of the file system, its source, and options
unfoldable pub parts_of_line : List ℕ → Option LineParts
parts_of_line line = do
  id ← cut_of blank line
  parent ← cut_of blank id.1
  device ← cut_of blank parent.1
  root ← cut_of blank device.1
  point ← cut_of blank root.1
  system ← after_dash point.1
  kind ← cut_of blank system
  source ← cut_of blank kind.1
  Some (line_parts id.0 parent.0 device.0 root.0 point.0 kind.0)

-- what contracts see of a mount
pub record MountParts : Type 0 where
  pub device : DeviceNumber
  pub root : List ℕ
  pub point : List ℕ
  pub kind : List ℕ

abbrev pub mount_parts : Mount → MountParts
mount_parts mount =
    record { device = mount.device; root = mount.root.items; point = mount.point.items; kind = mount.kind.items }

-- the second step, if the first gave a value
infixl 10 ◌>>◌
abbrev pub ◌>>◌ : {A B E : Type 0} → Result A E → (A → Result B E) → Result B E
Ok a >> f = f a
Err e >> f = Err e

-- the mount that the fields tell of, or the fault of the first that tells of none
unfoldable pub mount_of_parts : LineParts → Result MountParts MountFault
mount_of_parts line =
    ok_or (number_of 10 0xFFFFFFFF line.id) fault.BadId >> λ id.
    ok_or (number_of 10 0xFFFFFFFF line.parent) fault.BadParent >> λ parent.
    ok_or (device_of line.device) fault.BadDevice >> λ device.
    ok_or (unescaped line.root) fault.BadRoot >> λ root.
    ok_or (unescaped line.point) fault.BadPoint >> λ point.
    ok_or (unescaped line.kind) fault.BadKind >> λ kind.
    Ok (record { device = device; root = root; point = point; kind = kind })

-- the mount that a line tells of, or its first fault: that it ends too early comes before what is wrong with a field
unfoldable pub mount_of : List ℕ → Result MountParts MountFault
mount_of line = ok_or (parts_of_line line) fault.Cut >> mount_of_parts
