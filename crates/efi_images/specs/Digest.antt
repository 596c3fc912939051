-- The Authenticode digest of an image, by SHA-256 (Microsoft, Windows Authenticode Portable Executable Signature Format).
use Rattle.std.specs.Prelude.{◌≡◌, ℕ, ◌+◌, ◌-◌, ◌<◌, ◌≤◌, ◌&&◌, nat_lt, List, [], ◌∷◌, ◌++◌, length, map, take, drop, Option, Some, None, if◌then◌else◌}
use Rattle.std.specs.List.{All, flat_map, sum_by}
use Rattle.std.specs.List.Sorted.{IsPermutation, IsNonDecreasingBy, IsStableByKey}
use Rattle.std.specs.Ordering.{nat_cmp}
use Rattle.sha2.specs.Sha256.{sha256}
use Rattle.efi_images.specs.Headers.{pe_place, headers_size, directory_count, directory_place, directory_size}
use Rattle.efi_images.specs.Sections.{sections}
use Rattle.efi_images.specs.Check.{first_fault}
use Rattle.efi_images.specs.Checks.{boot_manager_checks, form_checks}
use Rattle.efi_images.specs.declared.section.Section.{Section}
use Rattle.efi_images.specs.declared.fault.ImageFault.{ImageFault}
use Rattle.efi_images.specs.declared.ranges.DigestRange.{DigestRange}
use Rattle.efi_images.specs.declared.ranges.RangesRead.{RangesRead}
use Rattle.efi_images.specs.declared.ranges.RangesRead.TheVariants as read
use Rattle.efi_images.specs.declared.digest_fault.DigestFault.{DigestFault}
use Rattle.efi_images.specs.declared.digest_fault.DigestFault.TheVariants as fault

-- as many of the bytes from an offset on as there are
abbrev pub part : List ℕ → ℕ → ℕ → List ℕ
part file start size = take size (drop start file)

-- ---- what is digested

-- the range from one offset to another
abbrev pub between : ℕ → ℕ → DigestRange
between start end = record { place = start; len = end - start }

-- ---- the ranges: the first bytes of a file tell them, if they hold its headers and its section table

-- those behind CheckSum, which is 88 bytes after the PE signature, up to the end of the headers, without directory 4
abbrev pub behind_sum : List ℕ → List DigestRange
behind_sum file =
    if nat_lt 4 (directory_count file)
    then between (pe_place file + 92) (directory_place file 4) ∷ between (directory_place file 5) (headers_size file) ∷ []
    else between (pe_place file + 92) (headers_size file) ∷ []

-- those of the headers, without CheckSum and directory 4
unfoldable pub header_ranges : List ℕ → List DigestRange
header_ranges file = between 0 (pe_place file + 88) ∷ behind_sum file

-- that of a section
abbrev pub section_range : Section → DigestRange
section_range s = record { place = s.raw_place; len = s.raw_size }

-- how many bytes the headers and the sections have
unfoldable pub total_size : List ℕ → ℕ
total_size file = headers_size file + sum_by (λ (s : Section). s.raw_size) (sections file)

-- how many bytes the certificate table has
abbrev pub certificates_size : List ℕ → ℕ
certificates_size file = if nat_lt 4 (directory_count file) then directory_size file 4 else 0

-- that of what is left of a file of this length after as many bytes as those, up to the certificate table at its end
unfoldable pub last_range : ℕ → List ℕ → DigestRange
last_range len file = between (total_size file) (len - certificates_size file)

-- all of them, with the sections in this order
unfoldable pub digest_ranges : ℕ → List ℕ → List Section → List DigestRange
digest_ranges len file order = header_ranges file ++ map section_range order ++ last_range len file ∷ []

-- sections in the order of their bytes in the file: those that begin at one offset stay in the table's order
pub record IsFileOrder (all order : List Section) : Type 0 where
  pub permutation : IsPermutation all order
  pub rising : IsNonDecreasingBy (λ (s : Section). s.raw_place) order
  pub stable : IsStableByKey (λ (s : Section). s.raw_place) nat_cmp all order

-- these are the ranges of a file of this length that begins with these bytes
pub record HasRanges (len : ℕ) (file : List ℕ) (ranges : List DigestRange) : Type 0 where
  pub order : List Section
  pub in_order : IsFileOrder (sections file) order
  pub are : ranges ≡ digest_ranges len file order

-- the bytes of ranges, one after the other
abbrev pub range_bytes : List ℕ → List DigestRange → List ℕ
range_bytes file ranges = flat_map (λ (r : DigestRange). part file r.place r.len) ranges

-- the digest of the file: that of the bytes of its ranges
pub record IsDigest (file digest : List ℕ) : Type 0 where
  pub ranges : List DigestRange
  pub are_ranges : HasRanges (length file) file ranges
  pub is : digest ≡ sha256 (range_bytes file ranges)

-- ---- faults

-- the headers and sections have more bytes than the file, or the certificate table more than are left of it
unfoldable pub size_fault : ℕ → List ℕ → Option DigestFault
size_fault len file =
    if nat_lt len (total_size file) then Some (fault.Overlap (total_size file) len)
    else (if nat_lt (total_size file) len && nat_lt (len - total_size file) (certificates_size file)
    then Some (fault.CertificatesOverlap (total_size file) (certificates_size file) len)
    else None)

abbrev pub form_fault : Option ImageFault → Option DigestFault → Option DigestFault
form_fault (Some f) other = Some (fault.Image f)
form_fault None other = other

-- why an image of this length that begins with these bytes has no digest, if it has none
unfoldable pub front_fault : ℕ → List ℕ → Option DigestFault
front_fault len file =
    form_fault (first_fault (boot_manager_checks len file)) (form_fault (first_fault (form_checks len file)) (size_fault len file))

-- the same of an image
abbrev pub digest_fault : List ℕ → Option DigestFault
digest_fault file = front_fault (length file) file

-- ---- what the first bytes of a file tell

-- each file of this length that begins with these bytes has this fault
abbrev pub IsFaultOf : ℕ → List ℕ → DigestFault → Type 0
IsFaultOf len front f = (rest : List ℕ) → length (front ++ rest) ≡ len → digest_fault (front ++ rest) ≡ Some f

-- a range with bytes is in a file of this length
pub record IsWithin (len : ℕ) (r : DigestRange) : Type 0 where
  pub within : 0 < r.len → r.place + r.len ≤ len

-- each file of this length that begins with these bytes has these ranges, which are in it; or so many of its bytes are wanted, which are more
-- than these, and no more than it has
abbrev pub IsRead : ℕ → List ℕ → RangesRead → Type 0
IsRead len front (read.Ranges ranges) =
    All (IsWithin len) ranges.items
    × ((rest : List ℕ) → length (front ++ rest) ≡ len → (digest_fault (front ++ rest) ≡ None) × HasRanges len (front ++ rest) ranges.items)
IsRead len front (read.Cut wanted) = (length front < wanted) × (wanted ≤ len)
