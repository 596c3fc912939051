-- Joined texts, as the code writes them: what is done, and what is left.
use Rattle.std.proofs.Common.{◌≡◌, ◌<◌, ◌≤◌, ◌-◌, ℕ, zero, suc, List, [], ◌∷◌, ◌++◌, map, take, drop, length, append_assoc, append-nil, refl, ap, sym, ◌∙◌, arith, flat_map, ◌==◌, false}
use Rattle.std.specs.List.{join_with_byte}
use Rattle.std.specs.Int.{w16, from_le_bytes}
use Rattle.std.proofs.lemmas.List.{take_all}
use Rattle.uefi_text.specs.Bytes.{hex_text}
use Rattle.uefi_text.specs.Segment.{comma}
use Rattle.uefi_path.specs.declared.node.Node.{Node}
use Rattle.uefi_names.specs.declared.table.Item.{Item}
use Rattle.uefi_names.specs.Shown.{escaped, nth_text, units_in, in_twos, colon, ipv6_text, item_text, items_in, items_text, item_count}

-- what is joined is the first, and each other after the mark
pub join-first : {X : Type 0} (mark : ℕ) (text : X → List ℕ) (first : X) (others : List X)
    → join_with_byte mark (map text (first ∷ others)) ≡ text first ++ flat_map (λ x. mark ∷ text x) others
join-first mark text first [] = sym (append-nil (text first))
join-first mark text first (second ∷ others) =
    ap (λ rest. text first ++ (mark ∷ rest)) (join-first mark text second others)

pub joined : {X : Type 0} (mark : ℕ) (text : X → List ℕ) (all : List X) (first : X) (others : List X) (i : ℕ)
    → all ≡ first ∷ others → length others ≤ i
    → text first ++ flat_map (λ x. mark ∷ text x) (take i others) ≡ join_with_byte mark (map text all)
joined mark text all first others i parts past =
    rw (take_all i others past, parts) (sym (join-first mark text first others))

-- one more of those that are left is done
pub one-more : {X : Type 0} (text : X → List ℕ) (done : List ℕ) (x : X) (left : List X) (all : List ℕ)
    → done ++ flat_map text (x ∷ left) ≡ all → (done ++ text x) ++ flat_map text left ≡ all
one-more text done x left all e = append_assoc done (text x) (flat_map text left) ∙ e

-- the first of those that are left is done, where what is left is known to begin so
pub one-done : {X : Type 0} (text : X → List ℕ) (done : List ℕ) (x : X) (after left : List X) (all : List ℕ)
    → x ∷ after ≡ left → done ++ flat_map text left ≡ all → (done ++ text x) ++ flat_map text after ≡ all
one-done text done x after left all begins e =
    one-more text done x after all (ap (λ xs. done ++ flat_map text xs) begins ∙ e)

nth-begins : (rest : List ℕ) (byte : ℕ) (after : List ℕ) (before : ℕ)
    → rest ≡ byte ∷ after → before ≡ 0 → (byte == 0) ≡ false → byte ∷ nth_text before after ≡ nth_text before rest
nth-begins rest byte after before r b some = rw (r, b, some) refl

pub ascii-more : (done rest : List ℕ) (byte : ℕ) (after : List ℕ) (before : ℕ) (all : List ℕ)
    → rest ≡ byte ∷ after → before ≡ 0 → (byte == 0) ≡ false
    → done ++ flat_map escaped (nth_text before rest) ≡ all → (done ++ escaped byte) ++ flat_map escaped (nth_text before after) ≡ all
ascii-more done rest byte after before all r b some e =
    one-done escaped done byte (nth_text before after) (nth_text before rest) all (nth-begins rest byte after before r b some) e

units-begin : (rest : List ℕ) (unit : ℕ) (after : List ℕ)
    → 2 ≤ length rest → after ≡ drop 2 rest → unit ≡ from_le_bytes w16 (take 2 rest) → (unit == 0) ≡ false
    → unit ∷ units_in after ≡ units_in rest
units-begin (low ∷ high ∷ rest) unit after long b u some =
    let nonzero : (from_le_bytes w16 (low ∷ high ∷ []) == 0) ≡ false = ap (λ n. n == 0) (sym u) ∙ some in
    rw (b, u, nonzero) refl
units-begin [] unit after long b u some = absurd (omega (arith, long))
units-begin (_ ∷ []) unit after long b u some = absurd (omega (arith, long))

pub units-more : (done rest : List ℕ) (unit : ℕ) (chunk after : List ℕ) (all : List ℕ)
    → chunk ≡ take 2 rest → after ≡ drop 2 rest → 2 ≤ length rest → unit ≡ from_le_bytes w16 chunk → (unit == 0) ≡ false
    → done ++ flat_map escaped (units_in rest) ≡ all → (done ++ escaped unit) ++ flat_map escaped (units_in after) ≡ all
units-more done rest unit chunk after all c b long u some e =
    one-done escaped done unit (units_in after) (units_in rest) all
    (units-begin rest unit after long b (u ∙ ap (from_le_bytes w16) c) some) e

twos-begin : (rest chunk after : List ℕ) → 2 ≤ length rest → chunk ≡ take 2 rest → after ≡ drop 2 rest
    → chunk ∷ in_twos after ≡ in_twos rest
twos-begin (first ∷ second ∷ rest) chunk after long c b = rw (c, b) refl
twos-begin [] chunk after long c b = absurd (omega (arith, long))
twos-begin (_ ∷ []) chunk after long c b = absurd (omega (arith, long))

pub twos-more : (text : List ℕ → List ℕ) (done rest chunk after all : List ℕ)
    → chunk ≡ take 2 rest → after ≡ drop 2 rest → 2 ≤ length rest
    → done ++ flat_map text (in_twos rest) ≡ all → (done ++ text chunk) ++ flat_map text (in_twos after) ≡ all
twos-more text done rest chunk after all c b long e =
    one-done text done chunk (in_twos after) (in_twos rest) all (twos-begin rest chunk after long c b) e

no-twos : (rest : List ℕ) → length rest < 2 → in_twos rest ≡ []
no-twos [] short = refl
no-twos (_ ∷ []) short = refl
no-twos (_ ∷ _ ∷ rest) short = absurd (omega (arith, short))

-- none is left
pub none-left : {X : Type 0} (text : X → List ℕ) (done : List ℕ) (left : List X) (all : List ℕ)
    → left ≡ [] → done ++ flat_map text left ≡ all → done ≡ all
none-left text done left all none e =
    sym (append-nil done) ∙ (ap (λ xs. done ++ flat_map text xs) (sym none) ∙ e)

pub twos-end : (bytes first others rest done : List ℕ)
    → first ≡ take 2 bytes → others ≡ drop 2 bytes → 2 ≤ length bytes → length rest < 2
    → done ++ flat_map (λ group. colon ∷ hex_text group) (in_twos rest) ≡ flat_map (λ group. colon ∷ hex_text group) (in_twos others)
    → hex_text first ++ done ≡ ipv6_text bytes
twos-end bytes first others rest done f o long short e =
    ap (λ text. hex_text first ++ text) (none-left (λ group. colon ∷ hex_text group) done (in_twos rest) _ (no-twos rest short) e)
    ∙ (sym (join-first colon hex_text first (in_twos others))
    ∙ ap (λ groups. join_with_byte colon (map hex_text groups)) (twos-begin bytes first others long f o))

items-begin : (len left : ℕ) (rest item after : List ℕ) → 0 < left → item ≡ take len rest → after ≡ drop len rest
    → item ∷ items_in (left - 1) len after ≡ items_in left len rest
items-begin len (suc left) rest item after some i b =
    let less : suc left - 1 ≡ left = omega arith in
    rw (i, b, less) refl
items-begin len zero rest item after some i b = absurd (omega (arith, some))

pub items-more : (text : List ℕ → List ℕ) (len left : ℕ) (done rest item after all : List ℕ)
    → item ≡ take len rest → after ≡ drop len rest → 0 < left
    → done ++ flat_map text (items_in left len rest) ≡ all → (done ++ text item) ++ flat_map text (items_in (left - 1) len after) ≡ all
items-more text len left done rest item after all i b some e =
    one-done text done item (items_in (left - 1) len after) (items_in left len rest) all (items-begin len left rest item after some i b) e

no-items : (left len : ℕ) (rest : List ℕ) → left ≡ 0 → items_in left len rest ≡ []
no-items left len rest none = rw none refl

pub items-end : (item : Item) (len count left : ℕ) (bytes first others rest done : List ℕ)
    → count ≡ item_count len bytes → 0 < count → first ≡ take len bytes → others ≡ drop len bytes → left ≡ 0
    → done ++ flat_map (λ one. comma ∷ item_text item one) (items_in left len rest) ≡ flat_map (λ one. comma ∷ item_text item one) (items_in (count - 1) len others)
    → item_text item first ++ done ≡ items_text item len bytes
items-end item len count left bytes first others rest done counted some f o none e =
    ap (λ text. item_text item first ++ text) (none-left (λ one. comma ∷ item_text item one) done (items_in left len rest) _ (no-items left len rest none) e)
    ∙ (sym (join-first comma (item_text item) first (items_in (count - 1) len others))
    ∙ (ap (λ items. join_with_byte comma (map (item_text item) items)) (items-begin len count bytes first others some f o)
    ∙ ap (λ n. join_with_byte comma (map (item_text item) (items_in n len bytes))) counted))

map-twice : {X Y Z : Type 0} (f : Y → Z) (h : X → Y) (xs : List X) → map f (map h xs) ≡ map (λ x. f (h x)) xs
map-twice f h [] = refl
map-twice f h (x ∷ xs) = ap (λ rest. f (h x) ∷ rest) (map-twice f h xs)

-- the instances of a path, and those that the code goes over
pub path-joined : {V : Type 0} (text : List Node → List ℕ) (items : V → List Node) (path : List (List Node)) (all : List V) (first : V) (others : List V) (i : ℕ)
    → map items all ≡ path → all ≡ first ∷ others → length others ≤ i
    → text (items first) ++ flat_map (λ nodes. comma ∷ text (items nodes)) (take i others) ≡ join_with_byte comma (map text path)
path-joined text items path all first others i same parts past =
    joined comma (λ nodes. text (items nodes)) all first others i parts past
    ∙ ap (join_with_byte comma) (sym (map-twice text items all) ∙ ap (map text) same)
