-- The printed text of a node, as the code writes it.
use Rattle.std.proofs.Common.{
  ◌≡◌,
  ◌<◌,
  ◌≤◌,
  take,
  ◌/◌,
  ◌%◌,
  ℕ,
  false,
  true,
  List,
  [],
  ◌∷◌,
  ◌++◌,
  map,
  length,
  length-append,
  append_assoc,
  append-nil,
  get_or,
  refl,
  ap,
  sym,
  ◌∙◌,
  arith,
}
use Rattle.std.specs.Prelude.{codes, flat_map}
use Rattle.std.specs.Fmt.{digits}
use Rattle.std.specs.List.{concat, join_with_byte}
use Rattle.std.specs.Int.{w8, w16, w32, w64, to_le_bytes, to_be_bytes, from_le_bytes}
use Rattle.std.proofs.lemmas.Grind.{flat_map-append}
use Rattle.uefi_path.specs.declared.node.Node.TheVariants.{HardDrive}
use Rattle.uefi_path.specs.Node.{row_of}
use Rattle.uefi_path.specs.Parts.{name_bytes, HardDriveParts, hard_drive_fields}
use Rattle.uefi_path.specs.Row.{row}
use Rattle.uefi_text.specs.Bytes.{hex_text, pair_text}
use Rattle.std.proofs.lemmas.List.{take_all}
use Rattle.uefi_path.specs.declared.node.Node.{Node}
use Rattle.uefi_text.specs.Segment.{segment_text, instance_text, slash, comma}
use Rattle.uefi_text.specs.Printed.{generic_segment, hid_text, is_gpt, is_mbr, partition_segment, eight_digits, segment_of, node_text, canonical}

pub pnp_text : (hid : ℕ) (bytes : List ℕ) → hid % 0x10000 ≡ 0x41D0 → bytes ≡ to_be_bytes w16 (hid / 0x10000)
    → codes "PNP" ++ (pair_text true (get_or bytes 0 0) ++ pair_text true (get_or bytes 1 0)) ≡ hid_text hid
pnp_text hid bytes e b = rw (e, b) refl

pub generic_text : (kind sub : ℕ) (body : List ℕ) → 0 < length body
    → codes "Path(0x" ++ (digits 16 false kind
    ++ (codes ",0x" ++ (digits 16 false sub ++ (codes "," ++ (hex_text body ++ codes ")"))))) ≡ segment_text
    (generic_segment (row kind sub body))
generic_text kind sub [] h = absurd (omega arith)
generic_text kind sub (byte ∷ bytes) h =
    let behind = codes "," ++ hex_text (byte ∷ bytes) in
    ap (λ (text : List ℕ). codes "Path(0x" ++ (digits 16 false kind ++ (codes ",0x" ++ text))) (sym (append_assoc (digits 16 false sub) behind (codes ")")))
    ∙ ap (λ (text : List ℕ). codes "Path(0x" ++ text) (sym (append_assoc (digits 16 false kind) (codes ",0x" ++ (digits 16 false sub ++ behind)) (codes ")")))

pub name_bytes-some : (units : List ℕ) → 0 < length (name_bytes units)
name_bytes-some units = omega (arith, length-append (flat_map (to_le_bytes w16) units) (to_le_bytes w16 0))

hex_text-concat : (fields : List (List ℕ)) → hex_text (concat fields) ≡ flat_map hex_text fields
hex_text-concat [] = refl
hex_text-concat (x ∷ xs) = flat_map-append (pair_text false) x (concat xs) ∙ ap (λ text. hex_text x ++ text) (hex_text-concat xs)

five_fields : (a b c d e behind : List ℕ)
    → hex_text a ++ (hex_text b ++ (hex_text c ++ (hex_text d ++ (hex_text e ++ behind)))) ≡ hex_text (concat (a ∷ b ∷ c ∷ d ∷ e ∷ [])) ++ behind
five_fields a b c d e behind = rw (hex_text-concat (a ∷ b ∷ c ∷ d ∷ e ∷ [])) (simp (append_assoc, append-nil))

-- a partition without a form of its own, whose fields are these
pub drive_text : (node : HardDriveParts) (partition start size signature kinds : List ℕ)
    → partition ≡ to_le_bytes w32 node.partition → start ≡ to_le_bytes w64 node.start → size ≡ to_le_bytes w64 node.size → signature ≡ node.signature
    → kinds ≡ to_le_bytes w8 node.format ++ to_le_bytes w8 node.signature_kind
    → codes "Path(0x" ++ (digits 16 false 4
    ++ (codes ",0x" ++ (digits 16 false 1
    ++ (codes "," ++ (hex_text partition
    ++ (hex_text start ++ (hex_text size ++ (hex_text signature ++ (hex_text kinds ++ codes ")")))))))))
    ≡ segment_text (generic_segment (row_of (HardDrive node)))
drive_text node partition start size signature kinds p st si sg k =
    let written = concat (partition ∷ start ∷ size ∷ signature ∷ kinds ∷ []) in
    let body : written ≡ concat (hard_drive_fields node) = rw (p, st, si, sg, k) refl in
    ap (λ (text : List ℕ). codes "Path(0x" ++ (digits 16 false 4 ++ (codes ",0x" ++ (digits 16 false 1 ++ (codes "," ++ text)))))
    (five_fields partition start size signature kinds (codes ")") ∙ ap (λ (bytes : List ℕ). hex_text bytes ++ codes ")") body)
    ∙ generic_text 4 1 (concat (hard_drive_fields node)) (omega (arith, length-append {A = ℕ}))

pub two_bytes : (a b f k : ℕ) → a ≡ f → b ≡ k → a < 256 → b < 256 → a ∷ b ∷ [] ≡ to_le_bytes w8 f ++ to_le_bytes w8 k
two_bytes a b f k e h small-a small-b =
    let first : a ≡ f % 256 = omega arith in
    let second : b ≡ k % 256 = omega arith in
    cc

-- the first four of more bytes
pub first_four : (bytes : List ℕ) → 4 ≤ length bytes → get_or bytes 0 0 ∷ get_or bytes 1 0 ∷ get_or bytes 2 0 ∷ get_or bytes 3 0 ∷ [] ≡ take 4 bytes
first_four (a ∷ b ∷ c ∷ d ∷ more) h = refl
first_four [] h = absurd (omega (arith, h))
first_four (_ ∷ []) h = absurd (omega (arith, h))
first_four (_ ∷ _ ∷ []) h = absurd (omega (arith, h))
first_four (_ ∷ _ ∷ _ ∷ []) h = absurd (omega (arith, h))

pub mbr_segment : (p : HardDriveParts) (number : List ℕ) → is_gpt p ≡ false → is_mbr p ≡ true → number ≡ take 4 p.signature
    → segment_text (partition_segment p (codes "MBR") (eight_digits (from_le_bytes w32 number))) ≡ segment_text (segment_of (HardDrive p))
mbr_segment p number gpt mbr e = rw (gpt, mbr, e) refl

pub other_segment : (p : HardDriveParts) → is_gpt p ≡ false → is_mbr p ≡ false
    → segment_text (generic_segment (row_of (HardDrive p))) ≡ segment_text (segment_of (HardDrive p))
other_segment p gpt mbr = rw (gpt, mbr) refl

-- what is joined is the first, and each other after the mark
pub join-first : {X : Type 0} (mark : ℕ) (text : X → List ℕ) (first : X) (others : List X)
    → join_with_byte mark (map text (first ∷ others)) ≡ text first ++ flat_map (λ x. mark ∷ text x) others
join-first mark text first [] = sym (append-nil (text first))
join-first mark text first (second ∷ others) =
    ap (λ rest. text first ++ (mark ∷ rest)) (join-first mark text second others)

pub joined_text : {X : Type 0} (mark : ℕ) (text : X → List ℕ) (all : List X) (first : X) (others : List X) (i : ℕ)
    → all ≡ first ∷ others → length others ≤ i
    → text first ++ flat_map (λ x. mark ∷ text x) (take i others) ≡ join_with_byte mark (map text all)
joined_text mark text all first others i parts past =
    rw (take_all i others past, parts) (sym (join-first mark text first others))

-- a map of a map
map-twice : {X Y Z : Type 0} (f : Y → Z) (h : X → Y) (xs : List X) → map f (map h xs) ≡ map (λ x. f (h x)) xs
map-twice f h [] = refl
map-twice f h (x ∷ xs) = ap (λ rest. f (h x) ∷ rest) (map-twice f h xs)

pub instance_written : (all : List Node) (first : Node) (others : List Node) (i : ℕ) → all ≡ first ∷ others → length others ≤ i
    → node_text first ++ flat_map (λ node. slash ∷ node_text node) (take i others) ≡ instance_text (map segment_of all)
instance_written all first others i parts past =
    joined_text slash node_text all first others i parts past ∙ ap (join_with_byte slash) (sym (map-twice segment_text segment_of all))

-- the instances of a path, and those that the code goes over
pub path_written : {V : Type 0} (items : V → List Node) (path : List (List Node)) (all : List V) (first : V) (others : List V) (i : ℕ)
    → map items all ≡ path → all ≡ first ∷ others → length others ≤ i
    → instance_text (map segment_of (items first)) ++ flat_map (λ nodes. comma ∷ instance_text (map segment_of (items nodes))) (take i others) ≡ canonical path
path_written items path all first others i same parts past =
    joined_text comma (λ nodes. instance_text (map segment_of (items nodes))) all first others i parts past
    ∙ ap (join_with_byte comma) (
    sym (map-twice (λ nodes. instance_text (map segment_of nodes)) items all) ∙ ap (map (λ nodes. instance_text (map segment_of nodes))) same
    ∙ sym (map-twice instance_text (map segment_of) path))
