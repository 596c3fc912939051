-- A segment that means a node can be told from what follows it.
use Rattle.std.proofs.Common.{◌≡◌, ◌≢◌, ◌<◌, ◌≤◌, ◌==◌, ◌&&◌, ℕ, Bool, true, false, not, nat_le, List, [], ◌∷◌, refl, sym, subst, inl, inr, codes, arith}
use Rattle.std.proofs.lemmas.Bool.{and_parts}
use Rattle.std.proofs.lemmas.Bool.Decides.{nat_tests}
use Rattle.std.specs.Char.{digit_value}
use Rattle.std.specs.List.{AllByRecursion, list_all}
use Rattle.std.specs.Str.Parse.{AllDigits}
use Rattle.uefi_path.specs.declared.node.Node.{Node}
use Rattle.uefi_path.specs.Parts.{VendorParts}
use Rattle.uefi_text.specs.Number.{IsNumber}
use Rattle.uefi_text.specs.Bytes.{IsHexData, IsOctet, IsAddress, IsByteText, IsEui, dot, hyphen}
use Rattle.uefi_text.specs.Guid.{IsGuid, guid_groups}
use Rattle.uefi_text.specs.Segment.{Segment, comma}
use Rattle.uefi_text.specs.Node as means
use Rattle.uefi_text.specs.Path.{IsNodeText}
use Rattle.uefi_text.specs.Within.{Lacks}
use Rattle.uefi_text.proofs.Cut.Segments.{IsNameByte, IsArgumentByte, takes_all, AreParted, IsPlainNamed, IsPlainSegment, all_from, all_append, all_joined}
use Rattle.uefi_text.proofs.Means.Texts.{digit_is_not, all_from_each}

-- a byte that is neither a parenthesis nor a comma
pub record IsPlainByte (c : ℕ) : Type 0 where
  pub no_open : c ≢ 0x28
  pub no_close : c ≢ 0x29
  pub no_comma : c ≢ comma

abbrev pub ArePlain : List ℕ → Type 0
ArePlain text = AllByRecursion IsPlainByte text

plain_by_test : (c : ℕ) → nat_le 0x2D c ≡ true → IsPlainByte c
plain_by_test c h =
    let low : 0x2D ≤ c = grind (arith, nat_tests) in
    record { no_open = (λ e. omega arith); no_close = (λ e. omega arith); no_comma = (λ e. omega arith) }

-- words of the language
pub words_are_plain : (text : List ℕ) → list_all (nat_le 0x2D) text ≡ true → ArePlain text
words_are_plain [] h = tt
words_are_plain (c ∷ text) h =
    let both = and_parts (nat_le 0x2D c) (list_all (nat_le 0x2D) text) h in
    (plain_by_test c both.0, words_are_plain text both.1)

digit_is_plain : (base c : ℕ) → base ≤ 36 → digit_value c < base → IsPlainByte c
digit_is_plain base c low digit =
    record { no_open = digit_is_not base 0x28 c low digit; no_close = digit_is_not base 0x29 c low digit; no_comma = digit_is_not base comma c low digit }

pub digits_are_plain : (base : ℕ) (text : List ℕ) → base ≤ 36 → AllDigits base text → ArePlain text
digits_are_plain base [] low h = tt
digits_are_plain base (c ∷ text) low h = (digit_is_plain base c low h.0, digits_are_plain base text low h.1)

pub number_is_plain : (text : List ℕ) (n : ℕ) → IsNumber text n → ArePlain text
number_is_plain text n (inl (tail, is, digits)) =
    subst ArePlain (sym is) (all_append IsPlainByte (codes "0x") tail (words_are_plain (codes "0x") refl)
    (digits_are_plain 16 tail (omega arith) digits.numeral.1))
number_is_plain text n (inr digits) = digits_are_plain 10 text (omega arith) digits.numeral.1

pub hex_is_plain : (text bytes : List ℕ) → IsHexData text bytes → ArePlain text
hex_is_plain [] bytes h = tt
hex_is_plain (_ ∷ []) bytes h = absurd h
hex_is_plain (_ ∷ _ ∷ _) [] h = absurd h
hex_is_plain (high ∷ low ∷ text) (byte ∷ bytes) h =
    (digit_is_plain 16 high (omega arith) h.0.high_digit, (digit_is_plain 16 low (omega arith) h.0.low_digit, hex_is_plain text bytes h.1))

dot_is_plain : IsPlainByte dot
dot_is_plain = plain_by_test dot refl

hyphen_is_plain : IsPlainByte hyphen
hyphen_is_plain = plain_by_test hyphen refl

pub address_is_plain : (text bytes : List ℕ) → IsAddress text bytes → ArePlain text
address_is_plain text bytes (parts, is, read) =
    subst ArePlain (sym is) (all_joined IsPlainByte dot parts dot_is_plain
    (all_from_each IsOctet ArePlain (λ x y octet. digits_are_plain 10 x (omega arith) octet.0.numeral.1) parts bytes read))

pub eui_is_plain : (text bytes : List ℕ) → IsEui text bytes → ArePlain text
eui_is_plain text bytes (pairs, is, read) =
    subst ArePlain (sym is) (all_joined IsPlainByte hyphen pairs hyphen_is_plain
    (all_from_each IsByteText ArePlain (λ x y pair. hex_is_plain x (y ∷ []) pair) pairs bytes read))

pub guid_is_plain : (text guid : List ℕ) → IsGuid text guid → ArePlain text
guid_is_plain text guid is =
    subst ArePlain (sym is.joined) (all_joined IsPlainByte hyphen is.groups hyphen_is_plain
    (all_from_each IsHexData ArePlain hex_is_plain is.groups (guid_groups guid) is.read))

pub pnp_is_plain : (text : List ℕ) (hid : ℕ) → means.IsPnp text hid → ArePlain text
pnp_is_plain text hid is =
    subst ArePlain (sym is.is) (all_append IsPlainByte (codes "PNP") is.four (words_are_plain (codes "PNP") refl)
    (digits_are_plain 16 is.four (omega arith) is.all))

pub origin_is_plain : (text : List ℕ) (fixed : ℕ) → means.IsOrigin text fixed → ArePlain text
origin_is_plain text fixed (inl (is, flag)) = subst ArePlain (sym is) (words_are_plain (codes "DHCP") refl)
origin_is_plain text fixed (inr (is, flag)) = subst ArePlain (sym is) (words_are_plain (codes "Static") refl)

-- arguments without parentheses and commas
abbrev pub ArePlainArguments : List (List ℕ) → Type 0
ArePlainArguments arguments = AllByRecursion ArePlain arguments

pub optional_data_is_plain : (arguments : List (List ℕ)) (bytes : List ℕ) → means.IsOptionalData arguments bytes → ArePlainArguments arguments
optional_data_is_plain [] bytes h = tt
optional_data_is_plain (hex ∷ []) bytes h = (hex_is_plain hex bytes h, tt)
optional_data_is_plain (_ ∷ _ ∷ _) bytes h = absurd h

pub vendor_text_is_plain : (arguments : List (List ℕ)) (vendor : VendorParts) → means.IsVendorText arguments vendor → ArePlainArguments arguments
vendor_text_is_plain [] vendor h = absurd h
vendor_text_is_plain (guid ∷ more) vendor h = (guid_is_plain guid vendor.guid h.0, optional_data_is_plain more vendor.body h.1)

vendor_text_some : (arguments : List (List ℕ)) (vendor : VendorParts) → means.IsVendorText arguments vendor → arguments ≢ []
vendor_text_some [] vendor h e = h
vendor_text_some (guid ∷ more) vendor h e = cc

abbrev is_name_byte : ℕ → Bool
is_name_byte c = nat_le 0x30 c && not (c == 0x5C)

name_byte_by_test : (c : ℕ) → is_name_byte c ≡ true → IsNameByte c
name_byte_by_test c h =
    let low : 0x30 ≤ c = grind (arith, nat_tests) in
    let other : c ≢ 0x5C = grind (arith, nat_tests) in
    record { no_open = (λ e. omega arith); no_close = (λ e. omega arith); no_comma = (λ e. omega arith); no_slash = (λ e. omega arith); no_backslash = other }

names_by_test : (name : List ℕ) → list_all is_name_byte name ≡ true → AllByRecursion IsNameByte name
names_by_test [] h = tt
names_by_test (c ∷ name) h =
    let both = and_parts (is_name_byte c) (list_all is_name_byte name) h in
    (name_byte_by_test c both.0, names_by_test name both.1)

argument_byte_of : (c : ℕ) → IsPlainByte c → IsArgumentByte c
argument_byte_of c plain = record { no_open = plain.no_open; no_close = plain.no_close }

parted_of : (whole : Bool) (arguments : List (List ℕ)) → whole ≡ false → ArePlainArguments arguments → AreParted whole arguments
parted_of whole arguments e plain =
    subst (λ w. AreParted w arguments) (sym e)
    (all_from ArePlain (Lacks comma) (λ text. all_from IsPlainByte (λ c. c ≢ comma) (λ c is. is.no_comma) text)
    arguments plain)

-- a segment of a name other than `Uri` and `File`, of arguments without parentheses and commas
pub plain_of_arguments : (name : List ℕ) (arguments : List (List ℕ)) → list_all is_name_byte name ≡ true →
    takes_all name ≡ false → arguments ≢ [] → ArePlainArguments arguments → IsPlainNamed name arguments
plain_of_arguments name arguments letters parted some plain =
    record {
      name_bytes = names_by_test name letters;
      some = some;
      argument_bytes = all_from ArePlain (AllByRecursion IsArgumentByte) (λ text. all_from IsPlainByte IsArgumentByte argument_byte_of text) arguments plain;
      parted = parted_of (takes_all name) arguments parted plain;
    }

-- a segment of one argument without parentheses
pub plain_of_whole : (name argument : List ℕ) → list_all is_name_byte name ≡ true → takes_all name ≡ true →
    AllByRecursion IsArgumentByte argument → IsPlainNamed name (argument ∷ [])
plain_of_whole name argument letters whole plain =
    record {
      name_bytes = names_by_test name letters;
      some = (λ no. cc);
      argument_bytes = (plain, tt);
      parted = subst (λ w. AreParted w (argument ∷ [])) (sym whole) refl;
    }

uri_bytes : (bytes : List ℕ) → AllByRecursion means.IsUriByte bytes → AllByRecursion IsArgumentByte bytes
uri_bytes bytes h = all_from means.IsUriByte IsArgumentByte (λ c is. record { no_open = is.no_open; no_close = is.no_close }) bytes h

name_units : (units : List ℕ) → AllByRecursion means.IsNameUnit units → AllByRecursion IsArgumentByte units
name_units units h = all_from means.IsNameUnit IsArgumentByte (λ c is. record { no_open = is.no_open; no_close = is.no_close }) units h

-- what means a node is plain
pub plain_of_meaning : (s : Segment) (n : Node) → means.MeansNode s n → IsPlainSegment s
plain_of_meaning s n (means.pci a b) = plain_of_arguments (codes "Pci") _ refl refl (λ no. cc) (number_is_plain _ _ a, (number_is_plain _ _ b, tt))
plain_of_meaning s n (means.usb a b) = plain_of_arguments (codes "USB") _ refl refl (λ no. cc) (number_is_plain _ _ a, (number_is_plain _ _ b, tt))
plain_of_meaning s n (means.sata a b c) = plain_of_arguments (codes "Sata") _ refl refl (λ no. cc)
    (number_is_plain _ _ a, (number_is_plain _ _ b, (number_is_plain _ _ c, tt)))
plain_of_meaning s n (means.nvme a b) = plain_of_arguments (codes "NVMe") _ refl refl (λ no. cc) (number_is_plain _ _ a, (eui_is_plain _ _ b, tt))
plain_of_meaning s n (means.pci_root a) = plain_of_arguments (codes "PciRoot") _ refl refl (λ no. cc) (number_is_plain _ _ a, tt)
plain_of_meaning s n (means.pcie_root a) = plain_of_arguments (codes "PcieRoot") _ refl refl (λ no. cc) (number_is_plain _ _ a, tt)
plain_of_meaning s n (means.acpi_pnp a b) = plain_of_arguments (codes "Acpi") _ refl refl (λ no. cc) (pnp_is_plain _ _ a, (number_is_plain _ _ b, tt))
plain_of_meaning s n (means.acpi a b) = plain_of_arguments (codes "Acpi") _ refl refl (λ no. cc) (number_is_plain _ _ a, (number_is_plain _ _ b, tt))
plain_of_meaning s n (means.mac a b c) = plain_of_arguments (codes "MAC") _ refl refl (λ no. cc) (hex_is_plain _ _ a.read, (number_is_plain _ _ b, tt))
plain_of_meaning s n (means.ipv4 a b c d e f) = plain_of_arguments (codes "IPv4") _ refl refl (λ no. cc) (
  address_is_plain _ _ a,
  (
    number_is_plain _ _ b,
    (origin_is_plain _ _ c, (address_is_plain _ _ d, (address_is_plain _ _ e, (address_is_plain _ _ f, tt)))),
  ),
)
plain_of_meaning s n (means.vlan a) = plain_of_arguments (codes "Vlan") _ refl refl (λ no. cc) (number_is_plain _ _ a, tt)
plain_of_meaning s n (means.uri a) = plain_of_whole (codes "Uri") _ refl refl (uri_bytes _ a)
plain_of_meaning s n (means.file a) = plain_of_whole (codes "File") _ refl refl (name_units _ a)
plain_of_meaning s n (means.bare_file a) = a
plain_of_meaning s n (means.hd_gpt a b c d) = plain_of_arguments (codes "HD") _ refl refl (λ no. cc) (
  number_is_plain _ _ a,
  (
    words_are_plain (codes "GPT") refl,
    (guid_is_plain _ _ b, (number_is_plain _ _ c, (number_is_plain _ _ d, tt))),
  ),
)
plain_of_meaning s n (means.hd_mbr a b c d) = plain_of_arguments (codes "HD") _ refl refl (λ no. cc) (
  number_is_plain _ _ a,
  (
    words_are_plain (codes "MBR") refl,
    (number_is_plain _ _ b.read, (number_is_plain _ _ c, (number_is_plain _ _ d, tt))),
  ),
)
plain_of_meaning s n (means.cdrom a b c) = plain_of_arguments (codes "CDROM") _ refl refl (λ no. cc)
    (number_is_plain _ _ a, (number_is_plain _ _ b, (number_is_plain _ _ c, tt)))
plain_of_meaning s n (means.vendor_hw a) = plain_of_arguments (codes "VenHw") _ refl refl (vendor_text_some _ _ a) (vendor_text_is_plain _ _ a)
plain_of_meaning s n (means.vendor_msg a) = plain_of_arguments (codes "VenMsg") _ refl refl (vendor_text_some _ _ a) (vendor_text_is_plain _ _ a)
plain_of_meaning s n (means.vendor_media a) = plain_of_arguments (codes "VenMedia") _ refl refl (vendor_text_some _ _ a) (vendor_text_is_plain _ _ a)
plain_of_meaning s n (means.generic a b c e) = plain_of_arguments (codes "Path") _ refl refl (λ no. cc)
    (number_is_plain _ _ a, (number_is_plain _ _ b, optional_data_is_plain _ _ c))

pub plain_of_text : (s : Segment) (n : Node) → IsNodeText s n → IsPlainSegment s
plain_of_text s n is = plain_of_meaning s n is.means
