-- What the exact reader reads is read by names too.
use Rattle.std.proofs.Common.{◌≡◌, ◌≢◌, ◌==◌, ◌&&◌, ℕ, suc, Bool, true, false, List, [], ◌∷◌, ◌++◌, map, length, ◌-◌, ◌≤◌, length-append, append-nil, refl, ap, sym, subst, ◌∙◌, arith, inl, codes, ne_eqb}
use Rattle.std.specs.Prelude.{Option, Some, None, nat_lt, if◌then◌else◌}
use Rattle.std.specs.List.{AllByRecursion, list_all, join_with_byte}
use Rattle.std.proofs.Math.Seq.{get_or-append_seam, take-append_seam}
use Rattle.std.proofs.lemmas.Bool.Decides.{nat_tests}
use Rattle.uefi_path.specs.declared.node.Node.{Node}
use Rattle.uefi_path.specs.Row.{Row}
use Rattle.uefi_text.specs.Bytes.{Each}
use Rattle.uefi_text.specs.Segment.{Segment, named, bare, comma, slash, segment_text, instance_text}
use Rattle.uefi_text.specs.Node.{MeansNode, IsBareName, IsBareUnit, IsUriByte, IsNameUnit, IsMacAddress, pci, usb, sata, nvme, pci_root, pcie_root, acpi_pnp, acpi, mac, ipv4, vlan, uri, file, bare_file, hd_gpt, hd_mbr, cdrom, vendor_hw, vendor_msg, vendor_media, generic}
use Rattle.uefi_text.specs.Path.{IsNodeText, IsPathText}
use Rattle.uefi_text.specs.Cuts.{open_mark, close_mark}
use Rattle.uefi_text.specs.Within.{Lacks}
use Rattle.uefi_text.specs.Reader.{◌>>=◌}
use Rattle.uefi_text.proofs.Cut.Segments.{IsNameByte, IsArgumentByte, IsPlainNamed, all_from, all_joined, named_text}
use Rattle.uefi_text.proofs.Means.Plain.{plain_of_text, plain_of_meaning}
use Rattle.uefi_text.proofs.Bytes.Guids.{hex_length}
use Rattle.uefi_names.specs.declared.table.NodeTable.{NodeTable}
use Rattle.uefi_names.specs.Cut.{deeper, first_outside, depth_after, trimmed, arguments_in, before_close}
use Rattle.uefi_names.specs.Read.{table_read}
use Rattle.uefi_names.specs.Reading.{is_flat_ascii, may_have, may_be_exact, named_row, segment_row, IsOneNode, IsNamedSegment, IsNamedText}
use Rattle.uefi_names.proofs.Pieces.{IsWhole, IsSegmentText, whole_on, joined_pieces, path_again, suc_some}

-- a byte that opens and closes nothing
record IsFlat (byte : ℕ) : Type 0 where
  no_open : byte ≢ 0x28
  no_close : byte ≢ 0x29

same_depth : (depth byte : ℕ) → IsFlat byte → deeper depth byte ≡ depth
same_depth depth byte flat = rw (ne_eqb byte 0x28 flat.no_open, ne_eqb byte 0x29 flat.no_close) refl

flat_depth : (depth : ℕ) (text : List ℕ) → AllByRecursion IsFlat text → depth_after depth text ≡ depth
flat_depth depth [] all = refl
flat_depth depth (byte ∷ text) all = rw (same_depth depth byte all.0) (flat_depth depth text all.1)

-- text in parentheses
inside_none : (mark depth at : ℕ) (text : List ℕ) → AllByRecursion IsFlat text → first_outside mark (suc depth) at text ≡ None
inside_none mark depth at [] all = refl
inside_none mark depth at (byte ∷ text) all =
    rw (same_depth (suc depth) byte all.0, suc_some depth) (go (byte == mark) (inside_none mark depth (suc at) text all.1))
  where
    go : (b : Bool) → first_outside mark (suc depth) (suc at) text ≡ None → (if b && false then Some at else first_outside mark (suc depth) (suc at) text) ≡ None
    go true e = e
    go false e = e

-- text outside them that has no mark
record IsFree (mark byte : ℕ) : Type 0 where
  flat : IsFlat byte
  other : byte ≢ mark

outside_none : (mark at : ℕ) (text : List ℕ) → AllByRecursion (IsFree mark) text → first_outside mark 0 at text ≡ None
outside_none mark at [] all = refl
outside_none mark at (byte ∷ text) all =
    rw (ne_eqb byte mark all.0.other, same_depth 0 byte all.0.flat) (outside_none mark (suc at) text all.1)

free_flat : (mark : ℕ) (text : List ℕ) → AllByRecursion (IsFree mark) text → AllByRecursion IsFlat text
free_flat mark text all = all_from (IsFree mark) IsFlat (λ byte is. is.flat) text all

free_whole : (mark : ℕ) (text : List ℕ) → AllByRecursion (IsFree mark) text → IsWhole mark 0 text
free_whole mark text all = record { none = λ at. outside_none mark at text all; closed = flat_depth 0 text (free_flat mark text all) }

-- a name and parentheses
named_whole : (mark : ℕ) (name inside : List ℕ) → (0x28 == mark) ≡ false → AllByRecursion (IsFree mark) name → AllByRecursion IsFlat inside → IsWhole mark 0 (name ++ (0x28 ∷ (inside ++ 0x29 ∷ [])))
named_whole mark name inside other free flat =
    whole_on mark 0 name (0x28 ∷ (inside ++ 0x29 ∷ [])) (λ at. outside_none mark at name free)
    (subst (λ depth. IsWhole mark depth (0x28 ∷ (inside ++ 0x29 ∷ []))) (sym (flat_depth 0 name (free_flat mark name free)))
    (let last : IsWhole mark (depth_after 1 inside) (0x29 ∷ []) = subst (λ depth. IsWhole mark depth (0x29 ∷ [])) (sym (flat_depth 1 inside flat)) (record { none = λ at. closing mark at; closed = refl }) in
    let after = whole_on mark 1 inside (0x29 ∷ []) (λ at. inside_none mark 0 at inside flat) last in
    record { none = λ at. rw other (after.none (suc at)); closed = after.closed }))
  where
    closing : (m at : ℕ) → first_outside m 1 at (0x29 ∷ []) ≡ None
    closing m at = go (0x29 == m)
      where
        go : (b : Bool) → (if b && (1 == 0) then Some at else None) ≡ None
        go true = refl
        go false = refl

name_free : (mark : ℕ) → ((byte : ℕ) → IsNameByte byte → byte ≢ mark) → (name : List ℕ) → AllByRecursion IsNameByte name → AllByRecursion (IsFree mark) name
name_free mark other name all =
    all_from IsNameByte (IsFree mark) (λ byte is. record { flat = record { no_open = is.no_open; no_close = is.no_close }; other = other byte is }) name all

inside_flat : (arguments : List (List ℕ)) → AllByRecursion (AllByRecursion IsArgumentByte) arguments → AllByRecursion IsFlat (join_with_byte comma arguments)
inside_flat arguments all =
    all_from IsArgumentByte IsFlat (λ byte is. record { no_open = is.no_open; no_close = is.no_close }) (join_with_byte comma arguments)
    (all_joined IsArgumentByte comma arguments (record { no_open = (λ e. omega arith); no_close = (λ e. omega arith) }) all)

bare_free : (mark : ℕ) → ((byte : ℕ) → IsBareUnit byte → byte ≢ mark) → (0x5C ≢ mark) → (text : List ℕ) → IsBareName text → AllByRecursion (IsFree mark) text
bare_free mark other first [] is = absurd is
bare_free mark other first (byte ∷ text) is = (
  record { flat = record { no_open = (λ e. let same = is.0 in omega arith); no_close = (λ e. let same = is.0 in omega arith) }; other = (λ e. first (sym is.0 ∙ e)) },
  all_from IsBareUnit (IsFree mark) (λ unit u. record { flat = record { no_open = u.plain.no_open; no_close = u.plain.no_close }; other = other unit u }) text is.1,
)

named_some : (name inside : List ℕ) → name ++ (0x28 ∷ inside) ≢ []
named_some [] inside e = cc
named_some (byte ∷ name) inside e = cc

-- the text of a segment that stands for a node
pub exact_text : (s : Segment) (node : Node) → IsNodeText s node → IsSegmentText (segment_text s)
exact_text (named name arguments) node is =
    let plain : IsPlainNamed name arguments = plain_of_text (named name arguments) node is in
    let inside = inside_flat arguments plain.argument_bytes in
    let same : segment_text (named name arguments) ≡ name ++ (0x28 ∷ (join_with_byte comma arguments ++ 0x29 ∷ [])) = sym (append-nil (segment_text (named name arguments))) ∙ named_text name arguments [] in
    subst IsSegmentText (sym same) (record {
      no_comma = named_whole comma name (join_with_byte comma arguments) refl (name_free comma (λ byte b. b.no_comma) name plain.name_bytes) inside;
      no_slash = named_whole slash name (join_with_byte comma arguments) refl (name_free slash (λ byte b. b.no_slash) name plain.name_bytes) inside;
      some = named_some name (join_with_byte comma arguments ++ 0x29 ∷ []);
    })
exact_text (bare text) node is =
    let plain : IsBareName text = plain_of_text (bare text) node is in
    record {
      no_comma = free_whole comma text (bare_free comma (λ unit u. u.no_comma) (λ e. omega arith) text plain);
      no_slash = free_whole slash text (bare_free slash (λ unit u. u.no_slash) (λ e. omega arith) text plain);
      some = λ e. none text plain e;
    }
  where
    none : (t : List ℕ) → IsBareName t → t ≡ [] → ⊥
    none [] p e = p
    none (_ ∷ _) p e = cc

-- ---- no name of a table

row_taken : (table : NodeTable) (name inside : List ℕ) → may_be_exact name inside ≡ true → named_row table name inside ≡ None
row_taken table name inside may = ap (λ (b : Bool). if b then None else table_read table name inside) may

-- what a name and what is closed after it spell by a table
abbrev row_after : NodeTable → List ℕ → Option (List ℕ) → Option Row
row_after table name inside =
    (inside >>= λ text. Some (name, text)) >>= λ (parts : List ℕ × List ℕ). named_row table parts.0 parts.1

-- whatever is in the parentheses
known_none : (table : NodeTable) (name : List ℕ) → ((text : List ℕ) → may_be_exact name text ≡ true) → (inside : Option (List ℕ))
    → row_after table name inside ≡ None
known_none table name may None = refl
known_none table name may (Some text) = row_taken table name text (may text)

flat_no_open : (at : ℕ) (text : List ℕ) → AllByRecursion IsFlat text → first_outside open_mark 0 at text ≡ None
flat_no_open at text all = outside_none open_mark at text (all_from IsFlat (IsFree open_mark) (λ byte flat. record { flat = flat; other = flat.no_open }) text all)

-- what comes after the name, if it is closed
abbrev closed : List (List ℕ) → Option (List ℕ)
closed arguments = before_close (join_with_byte comma arguments ++ codes ")")

-- a text that is closed ends with its parenthesis
closed_before : (text : List ℕ) → before_close (text ++ codes ")") ≡ Some text
closed_before text =
    let len : length (text ++ codes ")") - 1 ≡ length text = omega (arith, length-append text (codes ")")) in
    rw (len, get_or-append_seam text close_mark [] 0, take-append_seam text (codes ")")) refl

-- what an exact text of the name may have in its parentheses
closed_none : (table : NodeTable) (name inside : List ℕ) → may_be_exact name inside ≡ true → row_after table name (before_close (inside ++ codes ")")) ≡ None
closed_none table name inside may = ap (row_after table name) (closed_before inside) ∙ row_taken table name inside may

-- a whole argument of such bytes
flat_all : {P : ℕ → Type 0} → ((byte : ℕ) → P byte → is_flat_ascii byte ≡ true) → (text : List ℕ) → AllByRecursion P text → list_all is_flat_ascii text ≡ true
flat_all flat [] all = refl
flat_all flat (byte ∷ text) all = rw (flat byte all.0, flat_all flat text all.1) refl

uri_flat : (byte : ℕ) → IsUriByte byte → is_flat_ascii byte ≡ true
uri_flat byte is = grind (arith, nat_tests, is.high, is.no_open, is.no_close)

name_flat : (unit : ℕ) → IsNameUnit unit → is_flat_ascii unit ≡ true
name_flat unit is = grind (arith, nat_tests, is.high, is.no_open, is.no_close)

free_argument : (text : List ℕ) → AllByRecursion IsArgumentByte text → Lacks comma text → AllByRecursion (IsFree comma) text
free_argument [] bytes lacks = tt
free_argument (byte ∷ text) bytes lacks = (
  record { flat = record { no_open = bytes.0.no_open; no_close = bytes.0.no_close }; other = lacks.0 },
  free_argument text bytes.1 lacks.1,
)

whole_arguments : (arguments : List (List ℕ)) → AllByRecursion (AllByRecursion IsArgumentByte) arguments → AllByRecursion (Lacks comma) arguments
    → AllByRecursion (IsWhole comma 0) arguments
whole_arguments [] bytes lacks = tt
whole_arguments (text ∷ others) bytes lacks =
    (free_whole comma text (free_argument text bytes.0 lacks.0), whole_arguments others bytes.1 lacks.1)

-- arguments that an exact text of the name may have
arguments_again : (name : List ℕ) (arguments : List (List ℕ)) → IsPlainNamed name arguments → AllByRecursion (Lacks comma) arguments
    → arguments_in (join_with_byte comma arguments) ≡ map trimmed arguments
arguments_again name arguments plain lacks =
    ap (map trimmed) (joined_pieces comma refl arguments (whole_arguments arguments plain.argument_bytes lacks) plain.some)

trimmed_length : (text : List ℕ) → length (trimmed text) ≤ length text
trimmed_length [] = omega arith
trimmed_length (byte ∷ text) = go (byte == 0x20) (trimmed_length text)
  where
    go : (b : Bool) → length (trimmed text) ≤ length text → length (if b then trimmed text else byte ∷ text) ≤ length (byte ∷ text)
    go true less = omega (arith, less)
    go false less = omega arith

-- an address has twelve digits
short_address : (address bytes : List ℕ) → IsMacAddress address bytes → nat_lt (length (trimmed address)) 64 ≡ true
short_address address bytes is =
    let twelve : length address ≡ 12 = omega (arith, hex_length address is.six is.read, is.len) in
    grind (arith, nat_tests, trimmed_length address, twelve)

pub no_row : (table : NodeTable) (s : Segment) (node : Node) → MeansNode s node → segment_row table (segment_text s) ≡ None
no_row table _ _ (bare_file {units} x0) =
    rw (flat_no_open 0 units (free_flat slash units (bare_free slash (λ unit u. u.no_slash) (λ e. omega arith) units x0))) refl
no_row table _ _ (pci {device} {function} x0 x1) = known_none table (codes "Pci") (λ text. refl) (closed (device ∷ function ∷ []))
no_row table _ _ (usb {port} {interface} x0 x1) = known_none table (codes "USB") (λ text. refl) (closed (port ∷ interface ∷ []))
no_row table _ _ (sata {hba} {multiplier} {lun} x0 x1 x2) = known_none table (codes "Sata") (λ text. refl) (closed (hba ∷ multiplier ∷ lun ∷ []))
no_row table _ _ (nvme {namespace} {identifier} x0 x1) = known_none table (codes "NVMe") (λ text. refl) (closed (namespace ∷ identifier ∷ []))
no_row table _ _ (pci_root {uid} x0) = known_none table (codes "PciRoot") (λ text. refl) (closed (uid ∷ []))
no_row table _ _ (pcie_root {uid} x0) = known_none table (codes "PcieRoot") (λ text. refl) (closed (uid ∷ []))
no_row table _ _ (acpi_pnp {hid} {uid} x0 x1) = known_none table (codes "Acpi") (λ text. refl) (closed (hid ∷ uid ∷ []))
no_row table _ _ (acpi {hid} {uid} x0 x1) = known_none table (codes "Acpi") (λ text. refl) (closed (hid ∷ uid ∷ []))
no_row table _ _ (mac {address} {if_kind} x0 x1 x2) =
    let plain : IsPlainNamed (codes "MAC") (address ∷ if_kind ∷ []) = plain_of_meaning (named (codes "MAC") (address ∷ if_kind ∷ [])) _ (mac x0 x1 x2) in
    closed_none table (codes "MAC") (join_with_byte comma (address ∷ if_kind ∷ []))
    (ap (may_have (codes "MAC")) (arguments_again (codes "MAC") (address ∷ if_kind ∷ []) plain plain.parted) ∙ short_address address _ x0)
no_row table _ _ (ipv4 {remote} {protocol} {origin} {local} {gateway} {mask} x0 x1 x2 x3 x4 x5) =
    let plain : IsPlainNamed (codes "IPv4") (remote ∷ protocol ∷ origin ∷ local ∷ gateway ∷ mask ∷ []) = plain_of_meaning (named (codes "IPv4") (remote ∷ protocol ∷ origin ∷ local ∷ gateway ∷ mask ∷ [])) _ (ipv4 x0 x1 x2 x3 x4 x5) in
    closed_none table (codes "IPv4") (join_with_byte comma (remote ∷ protocol ∷ origin ∷ local ∷ gateway ∷ mask ∷ []))
    (ap (may_have (codes "IPv4")) (arguments_again (codes "IPv4") (remote ∷ protocol ∷ origin ∷ local ∷ gateway ∷ mask ∷ []) plain plain.parted) ∙ refl)
no_row table _ _ (vlan {id} x0) = known_none table (codes "Vlan") (λ text. refl) (closed (id ∷ []))
no_row table _ _ (uri {bytes} x0) = closed_none table (codes "Uri") bytes (flat_all uri_flat bytes x0)
no_row table _ _ (file {units} x0) = closed_none table (codes "File") units (flat_all name_flat units x0)
no_row table _ _ (hd_gpt {partition} {guid} {start} {size} x0 x1 x2 x3) =
    let plain : IsPlainNamed (codes "HD") (partition ∷ codes "GPT" ∷ guid ∷ start ∷ size ∷ []) = plain_of_meaning (named (codes "HD") (partition ∷ codes "GPT" ∷ guid ∷ start ∷ size ∷ [])) _ (hd_gpt x0 x1 x2 x3) in
    closed_none table (codes "HD") (join_with_byte comma (partition ∷ codes "GPT" ∷ guid ∷ start ∷ size ∷ []))
    (ap (may_have (codes "HD")) (arguments_again (codes "HD") (partition ∷ codes "GPT" ∷ guid ∷ start ∷ size ∷ []) plain plain.parted) ∙ refl)
no_row table _ _ (hd_mbr {partition} {signature} {start} {size} x0 x1 x2 x3) =
    let plain : IsPlainNamed (codes "HD") (partition ∷ codes "MBR" ∷ signature ∷ start ∷ size ∷ []) = plain_of_meaning (named (codes "HD") (partition ∷ codes "MBR" ∷ signature ∷ start ∷ size ∷ [])) _ (hd_mbr x0 x1 x2 x3) in
    closed_none table (codes "HD") (join_with_byte comma (partition ∷ codes "MBR" ∷ signature ∷ start ∷ size ∷ []))
    (ap (may_have (codes "HD")) (arguments_again (codes "HD") (partition ∷ codes "MBR" ∷ signature ∷ start ∷ size ∷ []) plain plain.parted) ∙ refl)
no_row table _ _ (cdrom {entry} {start} {size} x0 x1 x2) = known_none table (codes "CDROM") (λ text. refl) (closed (entry ∷ start ∷ size ∷ []))
no_row table _ _ (vendor_hw {arguments} x0) = known_none table (codes "VenHw") (λ text. refl) (closed (arguments))
no_row table _ _ (vendor_msg {arguments} x0) = known_none table (codes "VenMsg") (λ text. refl) (closed (arguments))
no_row table _ _ (vendor_media {arguments} x0) = known_none table (codes "VenMedia") (λ text. refl) (closed (arguments))
no_row table _ _ (generic {kind} {sub} {more} x0 x1 x2 x3) = known_none table (codes "Path") (λ text. refl) (closed (kind ∷ sub ∷ more))

-- a segment that stands for a node is the text of a path of that node
pub one_node : (s : Segment) (node : Node) → IsNodeText s node → IsOneNode (segment_text s) node
one_node s node is = record {
  valid = record { nodes = ((is.valid, tt), tt); some = λ e. cc };
  cut = (s ∷ []) ∷ [];
  is = refl;
  nodes = ((is, tt), tt);
}

pub exact_named : (table : NodeTable) (s : Segment) (node : Node) → IsNodeText s node → IsNamedSegment table (segment_text s) node
exact_named table s node is = rw (no_row table s node is.means) (inl (one_node s node is))

-- ---- paths

nodes_named : (table : NodeTable) (segments : List Segment) (nodes : List Node) → Each IsNodeText segments nodes
    → Each (IsNamedSegment table) (map segment_text segments) nodes × AllByRecursion IsSegmentText (map segment_text segments)
nodes_named table [] [] h = (tt, tt)
nodes_named table [] (_ ∷ _) h = absurd h
nodes_named table (_ ∷ _) [] h = absurd h
nodes_named table (s ∷ segments) (node ∷ nodes) h =
    let more = nodes_named table segments nodes h.1 in
    ((exact_named table s node h.0, more.0), (exact_text s node h.0, more.1))

path_named : (table : NodeTable) (cut : List (List Segment)) (path : List (List Node)) → Each (Each IsNodeText) cut path
    → Each (Each (IsNamedSegment table)) (map (map segment_text) cut) path × AllByRecursion (AllByRecursion IsSegmentText) (map (map segment_text) cut)
path_named table [] [] h = (tt, tt)
path_named table [] (_ ∷ _) h = absurd h
path_named table (_ ∷ _) [] h = absurd h
path_named table (segments ∷ cut) (nodes ∷ path) h =
    let first = nodes_named table segments nodes h.0 in
    let more = path_named table cut path h.1 in
    ((first.0, more.0), (first.1, more.1))

texts_same : (cut : List (List Segment)) → map instance_text cut ≡ map (join_with_byte slash) (map (map segment_text) cut)
texts_same [] = refl
texts_same (segments ∷ cut) = ap (λ (more : List (List ℕ)). instance_text segments ∷ more) (texts_same cut)

cut_some : (cut : List (List Segment)) (path : List (List Node)) → Each (Each IsNodeText) cut path → path ≢ [] → map (map segment_text) cut ≢ []
cut_some [] [] h some = λ e. some refl
cut_some [] (_ ∷ _) h some = absurd h
cut_some (_ ∷ _) path h some = λ e. cc

-- each text that is read exactly stands for the same path by names
pub exact_path : (table : NodeTable) (text : List ℕ) (path : List (List Node)) → IsPathText text path → IsNamedText table text path
exact_path table text path is =
    let named = path_named table is.cut path is.nodes in
    let same : text ≡ join_with_byte comma (map (join_with_byte slash) (map (map segment_text) is.cut)) = is.is ∙ ap (join_with_byte comma) (texts_same is.cut) in
    record {
      valid = is.valid;
      nodes = rw (same, path_again (map (map segment_text) is.cut) named.1 (cut_some is.cut path is.nodes is.valid.some)) named.0;
    }
