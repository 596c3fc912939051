-- What the reader's functions read of a segment's arguments is what the definitions say, for forms of more than
-- numbers.
use Rattle.std.proofs.Common.{◌≡◌, ◌<◌, ◌^◌, ℕ, zero, suc, List, [], ◌∷◌, length-append, refl, sym, ap, subst, ◌∙◌, inl, inr, codes, arith}
use Rattle.std.specs.Prelude.{Some, replicate}
use Rattle.std.specs.List.{AllByRecursion}
use Rattle.uefi_path.specs.declared.node.Node.{Node}
use Rattle.uefi_path.specs.declared.node.Node.TheVariants.{Acpi, Mac, Ipv4, Nvme, HardDrive}
use Rattle.uefi_path.specs.Parts.{ipv4_parts, hard_drive_parts}
use Rattle.uefi_path.specs.Row.{IsByte, AreBytes}
use Rattle.uefi_text.specs.Number.{IsNumber}
use Rattle.uefi_text.specs.Bytes.{Each, IsHexData, IsOctet, IsAddress, IsByteText, IsEui, dot, hyphen}
use Rattle.uefi_text.specs.Guid.{IsGuid, guid_groups}
use Rattle.uefi_text.specs.Segment.{named}
use Rattle.uefi_text.specs.Node as means
use Rattle.uefi_text.specs.Path.{IsNodeText}
use Rattle.uefi_text.specs.Reader.{
  parts_of,
  two_of,
  first_two_of,
  three_of,
  number_up_to,
  address_of,
  eui_of,
  hid_of,
  mac_of,
  origin_of,
  signature_of,
  nvme_of,
  acpi_of,
  mac_node_of,
  ipv4_of,
  hard_drive_of,
}
use Rattle.uefi_text.proofs.Cut.Segments.{all_append}
use Rattle.uefi_text.proofs.Bytes.Guids.{sixteen}
use Rattle.uefi_text.proofs.Means.Forms as forms
use Rattle.uefi_text.proofs.Means.Reads.{IsHid, IsSignature}
use Rattle.uefi_text.proofs.Read.Numbers.{bind_some, some_same, up_to_found, up_to_again}
use Rattle.uefi_text.proofs.Read.Hex.{mac_found, mac_again}
use Rattle.uefi_text.proofs.Read.Arguments.{
  after_some,
  origin_found,
  origin_again,
  address_found,
  address_again,
  hid_found,
  hid_again,
  signature_found,
  signature_again,
}
use Rattle.uefi_text.proofs.Read.Eui.{eui_found, eui_again}

-- what is read is bytes
pub hex_bytes : (text bytes : List ℕ) → IsHexData text bytes → AllByRecursion IsByte bytes
hex_bytes [] [] h = tt
hex_bytes [] (_ ∷ _) h = absurd h
hex_bytes (_ ∷ []) bytes h = absurd h
hex_bytes (_ ∷ _ ∷ _) [] h = tt
hex_bytes (_ ∷ _ ∷ text) (byte ∷ bytes) h = (omega (arith, h.0.high_digit, h.0.low_digit, h.0.value), hex_bytes text bytes h.1)

all_right : {X Y : Type 0} (R : X → Y → Type 0) (P : Y → Type 0) → ((x : X) (y : Y) → R x y → P y) →
    (xs : List X) (ys : List Y) → Each R xs ys → AllByRecursion P ys
all_right R P f [] [] h = tt
all_right R P f [] (_ ∷ _) h = absurd h
all_right R P f (_ ∷ _) [] h = tt
all_right R P f (x ∷ xs) (y ∷ ys) h = (f x y h.0, all_right R P f xs ys h.1)

pub address_bytes : (text bytes : List ℕ) → IsAddress text bytes → AllByRecursion IsByte bytes
address_bytes text bytes (parts, is, read) = all_right IsOctet IsByte (λ x y octet. omega (arith, octet.1)) parts bytes read

pub eui_bytes : (text bytes : List ℕ) → IsEui text bytes → AllByRecursion IsByte bytes
eui_bytes text bytes (parts, is, read) = all_right IsByteText IsByte (λ x y pair. (hex_bytes x (y ∷ []) pair).0) parts bytes read

pub guid_bytes : (text guid : List ℕ) → IsGuid text guid → AreBytes 16 guid
guid_bytes text guid is = (
  is.len,
  sixteen (λ xs. AllByRecursion (AllByRecursion IsByte) (guid_groups xs) → AllByRecursion IsByte xs)
      (λ a0 a1 a2 a3 a4 a5 a6 a7 a8 a9 a10 a11 a12 a13 a14 a15 h. (
        h.0.1.1.1.0,
        (
          h.0.1.1.0,
          (
            h.0.1.0,
            (
              h.0.0,
              (
                h.1.0.1.0,
                (
                  h.1.0.0,
                  (
                    h.1.1.0.1.0,
                    (
                      h.1.1.0.0,
                      (
                        h.1.1.1.0.0,
                        (
                          h.1.1.1.0.1.0,
                          (
                            h.1.1.1.1.0.0,
                            (
                              h.1.1.1.1.0.1.0,
                              (
                                h.1.1.1.1.0.1.1.0,
                                (h.1.1.1.1.0.1.1.1.0, (h.1.1.1.1.0.1.1.1.1.0, (h.1.1.1.1.0.1.1.1.1.1.0, tt))),
                              ),
                            ),
                          ),
                        ),
                      ),
                    ),
                  ),
                ),
              ),
            ),
          ),
        ),
      ))
      guid is.len (all_right IsHexData (AllByRecursion IsByte) hex_bytes is.groups (guid_groups guid) is.read),
)

zeros_fit : (n : ℕ) → AllByRecursion IsByte (replicate n 0)
zeros_fit zero = tt
zeros_fit (suc n) = (omega arith, zeros_fit n)

pub mac_bytes : (text address : List ℕ) → means.IsMacAddress text address → AreBytes 32 address
mac_bytes text address is =
    let six = hex_bytes text is.six is.read in
    subst (AreBytes 32) (sym is.value) (
      omega (arith, length-append is.six (replicate 26 0), is.len),
      all_append IsByte is.six (replicate 26 0) six (zeros_fit 26),
    )

-- NVMe
pub nvme_found : (arguments : List (List ℕ)) (node : Node) → nvme_of arguments ≡ Some node → IsNodeText (named (codes "NVMe") arguments) node
unfolding nvme_of two_of
nvme_found [] node e = cc
nvme_found (_ ∷ []) node e = cc
nvme_found (_ ∷ _ ∷ _ ∷ _) node e = cc
nvme_found (namespace ∷ identifier ∷ []) node e =
    let r0 = bind_some (number_up_to 0xFFFFFFFF namespace) _ node e in
    let n0 = up_to_found 0xFFFFFFFF namespace r0.0 r0.1 in
    let r1 = bind_some (eui_of (parts_of hyphen identifier)) _ node r0.2 in
    let n1 = eui_found identifier r1.0 r1.1 in
    subst (IsNodeText (named (codes "NVMe") (namespace ∷ identifier ∷ []))) (some_same (Nvme r0.0 r1.0) node r1.2)
    (record { valid = (omega (arith, n0.1), (n1.1, eui_bytes identifier r1.0 n1.0)); means = means.nvme n0.0 n1.0 })

pub nvme_again : (arguments : List (List ℕ)) (node : Node) → IsNodeText (named (codes "NVMe") arguments) node → nvme_of arguments ≡ Some node
unfolding nvme_of two_of
nvme_again [] node is = absurd (omega (arith, forms.nvme_count [] node is))
nvme_again (a ∷ []) node is = absurd (omega (arith, forms.nvme_count (a ∷ []) node is))
nvme_again (a ∷ b ∷ c ∷ more) node is = absurd (omega (arith, forms.nvme_count (a ∷ b ∷ c ∷ more) node is))
nvme_again (namespace ∷ identifier ∷ []) node is =
    let p = forms.nvme_arguments namespace identifier node is in
    let a0 = up_to_again 0xFFFFFFFF namespace p.0 p.2.is (omega (arith, p.2.fits)) in
    let a1 = eui_again identifier p.1 p.3 p.4.0 in
    after_some (number_up_to 0xFFFFFFFF namespace) _ p.0 a0 ∙ after_some (eui_of (parts_of hyphen identifier)) _ p.1 a1 ∙ ap (λ (n : Node). Some n) (sym p.5)

-- Acpi
acpi_means : (hid uid : List ℕ) (h u : ℕ) → IsHid hid h → IsNumber uid u → means.MeansNode (named (codes "Acpi") (hid ∷ uid ∷ [])) (Acpi h u)
acpi_means hid uid h u (inl is) number = means.acpi_pnp is number
acpi_means hid uid h u (inr is) number = means.acpi is number

pub acpi_found : (arguments : List (List ℕ)) (node : Node) → acpi_of arguments ≡ Some node → IsNodeText (named (codes "Acpi") arguments) node
unfolding acpi_of two_of
acpi_found [] node e = cc
acpi_found (_ ∷ []) node e = cc
acpi_found (_ ∷ _ ∷ _ ∷ _) node e = cc
acpi_found (hid ∷ uid ∷ []) node e =
    let r0 = bind_some (hid_of hid) _ node e in
    let n0 = hid_found hid r0.0 r0.1 in
    let r1 = bind_some (number_up_to 0xFFFFFFFF uid) _ node r0.2 in
    let n1 = up_to_found 0xFFFFFFFF uid r1.0 r1.1 in
    subst (IsNodeText (named (codes "Acpi") (hid ∷ uid ∷ []))) (some_same (Acpi r0.0 r1.0) node r1.2)
    (record { valid = (omega (arith, n0.1), omega (arith, n1.1)); means = acpi_means hid uid r0.0 r1.0 n0.0 n1.0 })

pub acpi_again : (arguments : List (List ℕ)) (node : Node) → IsNodeText (named (codes "Acpi") arguments) node → acpi_of arguments ≡ Some node
unfolding acpi_of two_of
acpi_again [] node is = absurd (omega (arith, forms.acpi_count [] node is))
acpi_again (a ∷ []) node is = absurd (omega (arith, forms.acpi_count (a ∷ []) node is))
acpi_again (a ∷ b ∷ c ∷ more) node is = absurd (omega (arith, forms.acpi_count (a ∷ b ∷ c ∷ more) node is))
acpi_again (hid ∷ uid ∷ []) node is =
    let p = forms.acpi_arguments hid uid node is in
    let a0 = hid_again hid p.0 p.2 (omega (arith, p.4)) in
    let a1 = up_to_again 0xFFFFFFFF uid p.1 p.3.is (omega (arith, p.3.fits)) in
    after_some (hid_of hid) _ p.0 a0 ∙ after_some (number_up_to 0xFFFFFFFF uid) _ p.1 a1 ∙ ap (λ (n : Node). Some n) (sym p.5)

-- MAC
pub mac_node_found : (arguments : List (List ℕ)) (node : Node) → mac_node_of arguments ≡ Some node → IsNodeText (named (codes "MAC") arguments) node
unfolding mac_node_of two_of
mac_node_found [] node e = cc
mac_node_found (_ ∷ []) node e = cc
mac_node_found (_ ∷ _ ∷ _ ∷ _) node e = cc
mac_node_found (address ∷ if_kind ∷ []) node e =
    let r0 = bind_some (mac_of address) _ node e in
    let n0 = mac_found address r0.0 r0.1 in
    let r1 = bind_some (number_up_to 1 if_kind) _ node r0.2 in
    let n1 = up_to_found 1 if_kind r1.0 r1.1 in
    subst (IsNodeText (named (codes "MAC") (address ∷ if_kind ∷ []))) (some_same (Mac r0.0 r1.0) node r1.2)
    (record { valid = (mac_bytes address r0.0 n0, omega (arith, n1.1)); means = means.mac n0 n1.0 n1.1 })

pub mac_node_again : (arguments : List (List ℕ)) (node : Node) → IsNodeText (named (codes "MAC") arguments) node → mac_node_of arguments ≡ Some node
unfolding mac_node_of two_of
mac_node_again [] node is = absurd (omega (arith, forms.mac_count [] node is))
mac_node_again (a ∷ []) node is = absurd (omega (arith, forms.mac_count (a ∷ []) node is))
mac_node_again (a ∷ b ∷ c ∷ more) node is = absurd (omega (arith, forms.mac_count (a ∷ b ∷ c ∷ more) node is))
mac_node_again (address ∷ if_kind ∷ []) node is =
    let p = forms.mac_arguments address if_kind node is in
    let a0 = mac_again address p.0 p.2 in
    let a1 = up_to_again 1 if_kind p.1 p.3 p.4 in
    after_some (mac_of address) _ p.0 a0 ∙ after_some (number_up_to 1 if_kind) _ p.1 a1 ∙ ap (λ (n : Node). Some n) (sym p.6)

-- IPv4
origin_fits : (text : List ℕ) (fixed : ℕ) → means.IsOrigin text fixed → fixed < 2 ^ 8
origin_fits text fixed (inl (is, none)) = omega (arith, none)
origin_fits text fixed (inr (is, one)) = omega (arith, one)

pub ipv4_found : (arguments : List (List ℕ)) (node : Node) → ipv4_of arguments ≡ Some node → IsNodeText (named (codes "IPv4") arguments) node
unfolding ipv4_of two_of first_two_of
ipv4_found [] node e = cc
ipv4_found (_ ∷ []) node e = cc
ipv4_found (_ ∷ _ ∷ []) node e = cc
ipv4_found (_ ∷ _ ∷ _ ∷ []) node e = cc
ipv4_found (_ ∷ _ ∷ _ ∷ _ ∷ []) node e = cc
ipv4_found (_ ∷ _ ∷ _ ∷ _ ∷ _ ∷ []) node e = cc
ipv4_found (_ ∷ _ ∷ _ ∷ _ ∷ _ ∷ _ ∷ _ ∷ _) node e = cc
ipv4_found (remote ∷ protocol ∷ origin ∷ local ∷ gateway ∷ mask ∷ []) node e =
    let r0 = bind_some (address_of (parts_of dot remote)) _ node e in
    let n0 = address_found remote r0.0 r0.1 in
    let r1 = bind_some (number_up_to 0xFFFF protocol) _ node r0.2 in
    let n1 = up_to_found 0xFFFF protocol r1.0 r1.1 in
    let r2 = bind_some (origin_of origin) _ node r1.2 in
    let n2 = origin_found origin r2.0 r2.1 in
    let r3 = bind_some (address_of (parts_of dot local)) _ node r2.2 in
    let n3 = address_found local r3.0 r3.1 in
    let r4 = bind_some (address_of (parts_of dot gateway)) _ node r3.2 in
    let n4 = address_found gateway r4.0 r4.1 in
    let r5 = bind_some (address_of (parts_of dot mask)) _ node r4.2 in
    let n5 = address_found mask r5.0 r5.1 in
    subst (IsNodeText (named (codes "IPv4") (remote ∷ protocol ∷ origin ∷ local ∷ gateway ∷ mask ∷ [])))
    (some_same (Ipv4 (ipv4_parts r3.0 r0.0 0 0 r1.0 r2.0 r4.0 r5.0)) node r5.2)
    (record {
      valid = record {
        local = (n3.1, address_bytes local r3.0 n3.0);
        remote = (n0.1, address_bytes remote r0.0 n0.0);
        local_port = omega arith;
        remote_port = omega arith;
        protocol = omega (arith, n1.1);
        fixed = origin_fits origin r2.0 n2;
        gateway = (n4.1, address_bytes gateway r4.0 n4.0);
        mask = (n5.1, address_bytes mask r5.0 n5.0);
      };
      means = means.ipv4 n0.0 n1.0 n2 n3.0 n4.0 n5.0;
    })

ipv4_again_of : (remote protocol origin local gateway mask : List ℕ) (node : Node) →
    IsNodeText (named (codes "IPv4") (remote ∷ protocol ∷ origin ∷ local ∷ gateway ∷ mask ∷ [])) node →
    ipv4_of (remote ∷ protocol ∷ origin ∷ local ∷ gateway ∷ mask ∷ []) ≡ Some node
unfolding ipv4_of two_of first_two_of
ipv4_again_of remote protocol origin local gateway mask node is =
    let p = forms.ipv4_arguments remote protocol origin local gateway mask node is in
    after_some (address_of (parts_of dot remote)) _ p.0 (address_again remote p.0 p.6 p.12.0)
    ∙ after_some (number_up_to 0xFFFF protocol) _ p.1 (up_to_again 0xFFFF protocol p.1 p.7.is (omega (arith, p.7.fits)))
    ∙ after_some (origin_of origin) _ p.2 (origin_again origin p.2 p.8)
    ∙ after_some (address_of (parts_of dot local)) _ p.3 (address_again local p.3 p.9 p.13.0)
    ∙ after_some (address_of (parts_of dot gateway)) _ p.4 (address_again gateway p.4 p.10 p.14.0)
    ∙ after_some (address_of (parts_of dot mask)) _ p.5 (address_again mask p.5 p.11 p.15.0)
    ∙ ap (λ (n : Node). Some n) (sym p.16)

pub ipv4_again : (arguments : List (List ℕ)) (node : Node) → IsNodeText (named (codes "IPv4") arguments) node → ipv4_of arguments ≡ Some node
ipv4_again [] node is = absurd (omega (arith, forms.ipv4_count [] node is))
ipv4_again (a ∷ []) node is = absurd (omega (arith, forms.ipv4_count (a ∷ []) node is))
ipv4_again (a ∷ b ∷ []) node is = absurd (omega (arith, forms.ipv4_count (a ∷ b ∷ []) node is))
ipv4_again (a ∷ b ∷ c ∷ []) node is = absurd (omega (arith, forms.ipv4_count (a ∷ b ∷ c ∷ []) node is))
ipv4_again (a ∷ b ∷ c ∷ d ∷ []) node is = absurd (omega (arith, forms.ipv4_count (a ∷ b ∷ c ∷ d ∷ []) node is))
ipv4_again (a ∷ b ∷ c ∷ d ∷ e ∷ []) node is = absurd (omega (arith, forms.ipv4_count (a ∷ b ∷ c ∷ d ∷ e ∷ []) node is))
ipv4_again (a ∷ b ∷ c ∷ d ∷ e ∷ f ∷ []) node is = ipv4_again_of a b c d e f node is
ipv4_again (a ∷ b ∷ c ∷ d ∷ e ∷ f ∷ g ∷ more) node is = absurd (omega (arith, forms.ipv4_count (a ∷ b ∷ c ∷ d ∷ e ∷ f ∷ g ∷ more) node is))

-- HD
signature_fits : (format text : List ℕ) (kind : ℕ) (g : List ℕ) → IsSignature format text kind g → AreBytes 16 g × (kind < 2 ^ 8)
signature_fits format text kind g (inl (is, guid, two)) = (guid_bytes text g guid, omega (arith, two))
signature_fits format text kind g (inr (is, number, one)) =
    (subst (AreBytes 16) (sym number.value) (refl, (omega arith, (omega arith, (omega arith, (omega arith, zeros_fit 12))))), omega (arith, one))

hard_drive_means : (partition format signature start size : List ℕ) (p st si kind : ℕ) (g : List ℕ) →
    IsNumber partition p → IsSignature format signature kind g → IsNumber start st → IsNumber size si
    → means.MeansNode (named (codes "HD") (partition ∷ format ∷ signature ∷ start ∷ size ∷ [])) (HardDrive (hard_drive_parts p st si g kind kind))
hard_drive_means partition format signature start size p st si kind g a (inl (is, guid, two)) b c =
    subst (λ (f : List ℕ). means.MeansNode (named (codes "HD") (partition ∷ f ∷ signature ∷ start ∷ size ∷ []))
    (HardDrive (hard_drive_parts p st si g kind kind))) (sym is)
    (subst (λ k. means.MeansNode (named (codes "HD") (partition ∷ codes "GPT" ∷ signature ∷ start ∷ size ∷ []))
    (HardDrive (hard_drive_parts p st si g k k))) (sym two) (means.hd_gpt a guid b c))
hard_drive_means partition format signature start size p st si kind g a (inr (is, number, one)) b c =
    subst (λ (f : List ℕ). means.MeansNode (named (codes "HD") (partition ∷ f ∷ signature ∷ start ∷ size ∷ []))
    (HardDrive (hard_drive_parts p st si g kind kind))) (sym is)
    (subst (λ k. means.MeansNode (named (codes "HD") (partition ∷ codes "MBR" ∷ signature ∷ start ∷ size ∷ []))
    (HardDrive (hard_drive_parts p st si g k k))) (sym one) (means.hd_mbr a number b c))

pub hard_drive_found : (arguments : List (List ℕ)) (node : Node) → hard_drive_of arguments ≡ Some node → IsNodeText (named (codes "HD") arguments) node
unfolding hard_drive_of three_of two_of first_two_of
hard_drive_found [] node e = cc
hard_drive_found (_ ∷ []) node e = cc
hard_drive_found (_ ∷ _ ∷ []) node e = cc
hard_drive_found (_ ∷ _ ∷ _ ∷ []) node e = cc
hard_drive_found (_ ∷ _ ∷ _ ∷ _ ∷ []) node e = cc
hard_drive_found (_ ∷ _ ∷ _ ∷ _ ∷ _ ∷ _ ∷ _) node e = cc
hard_drive_found (partition ∷ format ∷ signature ∷ start ∷ size ∷ []) node e =
    let r0 = bind_some (number_up_to 0xFFFFFFFF partition) _ node e in
    let n0 = up_to_found 0xFFFFFFFF partition r0.0 r0.1 in
    let r1 = bind_some (signature_of format signature) _ node r0.2 in
    let n1 = signature_found format signature r1.0.0 r1.0.1 r1.1 in
    let r2 = bind_some (number_up_to 0xFFFFFFFFFFFFFFFF start) _ node r1.2 in
    let n2 = up_to_found 0xFFFFFFFFFFFFFFFF start r2.0 r2.1 in
    let r3 = bind_some (number_up_to 0xFFFFFFFFFFFFFFFF size) _ node r2.2 in
    let n3 = up_to_found 0xFFFFFFFFFFFFFFFF size r3.0 r3.1 in
    let fits = signature_fits format signature r1.0.1 r1.0.0 n1 in
    subst (IsNodeText (named (codes "HD") (partition ∷ format ∷ signature ∷ start ∷ size ∷ [])))
    (some_same (HardDrive (hard_drive_parts r0.0 r2.0 r3.0 r1.0.0 r1.0.1 r1.0.1)) node r3.2)
    (record {
      valid = record {
        partition = omega (arith, n0.1);
        start = omega (arith, n2.1);
        size = omega (arith, n3.1);
        signature = fits.0;
        format = fits.1;
        signature_kind = fits.1;
      };
      means = hard_drive_means partition format signature start size r0.0 r2.0 r3.0 r1.0.1 r1.0.0 n0.0 n1 n2.0 n3.0;
    })

hard_drive_again_of : (partition format signature start size : List ℕ) (node : Node) →
    IsNodeText (named (codes "HD") (partition ∷ format ∷ signature ∷ start ∷ size ∷ [])) node →
    hard_drive_of (partition ∷ format ∷ signature ∷ start ∷ size ∷ []) ≡ Some node
unfolding hard_drive_of three_of two_of first_two_of
hard_drive_again_of partition format signature start size node is =
    let p = forms.hard_drive_arguments partition format signature start size node is in
    after_some (number_up_to 0xFFFFFFFF partition) _ p.0 (up_to_again 0xFFFFFFFF partition p.0 p.5.is (omega (arith, p.5.fits)))
    ∙ after_some {A = List ℕ × ℕ} (signature_of format signature) _ (p.2, p.1) (signature_again format signature p.2 p.1 p.6)
    ∙ after_some (number_up_to 0xFFFFFFFFFFFFFFFF start) _ p.3 (up_to_again 0xFFFFFFFFFFFFFFFF start p.3 p.7.is (omega (arith, p.7.fits)))
    ∙ after_some (number_up_to 0xFFFFFFFFFFFFFFFF size) _ p.4 (up_to_again 0xFFFFFFFFFFFFFFFF size p.4 p.8.is (omega (arith, p.8.fits)))
    ∙ ap (λ (n : Node). Some n) (sym p.10)

pub hard_drive_again : (arguments : List (List ℕ)) (node : Node) → IsNodeText (named (codes "HD") arguments) node → hard_drive_of arguments ≡ Some node
hard_drive_again [] node is = absurd (omega (arith, forms.hard_drive_count [] node is))
hard_drive_again (a ∷ []) node is = absurd (omega (arith, forms.hard_drive_count (a ∷ []) node is))
hard_drive_again (a ∷ b ∷ []) node is = absurd (omega (arith, forms.hard_drive_count (a ∷ b ∷ []) node is))
hard_drive_again (a ∷ b ∷ c ∷ []) node is = absurd (omega (arith, forms.hard_drive_count (a ∷ b ∷ c ∷ []) node is))
hard_drive_again (a ∷ b ∷ c ∷ d ∷ []) node is = absurd (omega (arith, forms.hard_drive_count (a ∷ b ∷ c ∷ d ∷ []) node is))
hard_drive_again (a ∷ b ∷ c ∷ d ∷ e ∷ []) node is = hard_drive_again_of a b c d e node is
hard_drive_again (a ∷ b ∷ c ∷ d ∷ e ∷ f ∷ more) node is = absurd (omega (arith, forms.hard_drive_count (a ∷ b ∷ c ∷ d ∷ e ∷ f ∷ more) node is))
