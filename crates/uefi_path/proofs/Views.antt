-- The rows that are in some bytes one after the other.
use Rattle.std.proofs.Common.{
  ◌≡◌,
  ℕ,
  zero,
  suc,
  ◌+◌,
  ◌-◌,
  ◌<◌,
  ◌≤◌,
  ◌^◌,
  List,
  [],
  ◌∷◌,
  ◌++◌,
  length,
  take,
  drop,
  get_or,
  refl,
  sym,
  ap,
  ◌∙◌,
  le-leb,
  arith,
  append_assoc,
}
use Rattle.std.specs.Int.{w16, from_le_bytes}
use Rattle.std.specs.List.{flat_map, AllByRecursion}
use Rattle.std.proofs.lemmas.List.{drop-drop, length-append, take_at, drop_at, take_all}
use Rattle.std.proofs.lemmas.List.Concat.{flat_map-append}
use Rattle.uefi_path.specs.declared.node.Node.{Node}
use Rattle.uefi_path.specs.Row.{Row, IsRow, row, header_bytes, row_bytes, end_entire}
use Rattle.uefi_path.specs.Path.{IsPathFront, path_rows}
use Rattle.uefi_path.specs.Fault.{IsBeforeEnd}
use Rattle.uefi_path.specs.Views.{rows_behind, AreAtTheirPlaces}
use Rattle.uefi_path.proofs.Numbers.{wide_16}
use Rattle.uefi_path.proofs.Paths.{front_splits, front_len, rows_of_path, path_bytes_of_rows, path_rows_are_inner}
use Rattle.uefi_path.proofs.Split.{data_of_front}

pub rows_passed : (n : ℕ) (bytes : List ℕ) → rows_behind n bytes ≡ rows_behind 0 (drop n bytes)
rows_passed zero bytes = refl
rows_passed (suc n) [] = refl
rows_passed (suc n) (b ∷ bytes) = rows_passed n bytes

-- the row at the start of some bytes, of which these are the first ones
pub first_row : (bytes : List ℕ) (len : ℕ) (node rest : List ℕ) → 4 ≤ length bytes →
    len ≡ from_le_bytes w16 (get_or bytes 2 0 ∷ get_or bytes 3 0 ∷ []) → 4 ≤ len → len ≤ length bytes →
    node ≡ take len bytes → rest ≡ drop len bytes
    → rows_behind 0 bytes ≡ row (get_or bytes 0 0) (get_or bytes 1 0) (take (length node - 4) (drop 4 node)) ∷ rows_behind 0 rest
first_row [] len node rest long is least within front back = absurd (omega arith)
first_row (a ∷ []) len node rest long is least within front back = absurd (omega arith)
first_row (a ∷ b ∷ []) len node rest long is least within front back = absurd (omega arith)
first_row (a ∷ b ∷ c ∷ []) len node rest long is least within front back = absurd (omega arith)
first_row (a ∷ b ∷ c ∷ d ∷ bytes) len node rest long is least within front back =
    let all = a ∷ b ∷ c ∷ d ∷ bytes in
    let n = from_le_bytes w16 (c ∷ d ∷ []) in
    let behind : rows_behind (n - 4) bytes ≡ rows_behind 0 rest =
    rows_passed (n - 4) bytes ∙ ap (rows_behind 0)
    (drop-drop (n - 4) 4 all ∙ ap (λ (k : ℕ). drop k all)
    (let same : 4 + (n - 4) ≡ len = omega (arith, is, least) in same) ∙ sym back) in
    let body : take (length node - 4) (drop 4 node) ≡ take (n - 4) bytes =
    data_of_front all node len least within front ∙ ap (λ (k : ℕ). take (k - 4) bytes) is in
    let low : 4 ≤ n = omega (arith, is, least) in
    let high : n ≤ 4 + length bytes = omega (arith, is, within) in
    rw (le-leb 4 n low, le-leb n (4 + length bytes) high, body, behind) refl

-- ---- the rows of a path

one_first : (r : Row) (rest : List ℕ) → IsRow r → rows_behind 0 (row_bytes r ++ rest) ≡ r ∷ rows_behind 0 rest
one_first r rest is =
    let bytes = row_bytes r ++ rest in
    let len = 4 + length r.body in
    let stated : len ≡ from_le_bytes w16 (get_or bytes 2 0 ∷ get_or bytes 3 0 ∷ []) =
    sym (wide_16.again len (let fits : len < 2 ^ 16 = omega (arith, is.len) in fits)) in
    let size : length bytes ≡ 4 + (length r.body + length rest) = omega (arith, length-append r.body rest) in
    let front : row_bytes r ≡ take len bytes = sym (take_at (row_bytes r) rest len (omega arith)) in
    let back : rest ≡ drop len bytes = sym (drop_at (row_bytes r) rest len (omega arith)) in
    first_row bytes len (row_bytes r) rest (omega (arith, size)) stated (omega arith) (omega (arith, size)) front back
    ∙ ap (λ (b : List ℕ). row r.kind r.sub b ∷ rows_behind 0 rest) (take_all (length (row_bytes r) - 4) r.body (omega arith))

pub rows_again : (rows : List Row) → AllByRecursion IsBeforeEnd rows → rows_behind 0 (flat_map row_bytes rows) ≡ rows
rows_again [] inner = refl
rows_again (r ∷ rows) inner = one_first r (flat_map row_bytes rows) inner.0.row ∙ ap (λ (rs : List Row). r ∷ rs) (rows_again rows inner.1)

pub at_their_places : (input : List ℕ) (rows : List Row) (more : List ℕ) → input ≡ flat_map row_bytes rows ++ more → AreAtTheirPlaces input rows
at_their_places input rows more parts before after r is =
    let first = flat_map row_bytes before in
    let header = header_bytes r.kind r.sub (4 + length r.body) in
    let last = flat_map row_bytes after in
    let front = first ++ header in
    let whole : input ≡ front ++ (r.body ++ (last ++ more)) =
    parts ∙ ap (λ (rs : List Row). flat_map row_bytes rs ++ more) is ∙ ap (λ (t : List ℕ). t ++ more) (flat_map-append row_bytes before (r ∷ after))
    ∙ append_assoc first ((header ++ r.body) ++ last) more ∙ ap (λ (t : List ℕ). first ++ t)
    (append_assoc (header ++ r.body) last more ∙ append_assoc header r.body (last ++ more))
    ∙ sym (append_assoc first header (r.body ++ (last ++ more))) in
    let size : length front ≡ length first + 4 = length-append first header in
    let all : length input ≡ length front + (length r.body + length (last ++ more)) = ap length whole
    ∙ omega (arith, length-append front (r.body ++ (last ++ more)), length-append r.body (last ++ more)) in
    record {
      within = omega (arith, size, all);
      is = sym (ap (λ (t : List ℕ). take (length r.body) (drop (length first + 4) t)) whole
          ∙ ap (take (length r.body)) (drop_at front (r.body ++ (last ++ more)) (length first + 4) size)
          ∙ take_at r.body (last ++ more) (length r.body) refl);
    }

-- the rows of the path at the start of some bytes, and what comes after them
pub front_rows : (input : List ℕ) (path : List (List Node)) (n : ℕ) → IsPathFront input path n →
    input ≡ flat_map row_bytes (path_rows path) ++ (row_bytes end_entire ++ drop n input)
front_rows input path n front = front_splits input path n front ∙ rows_of_path path (drop n input) front.spelled.0

pub front_size : (input : List ℕ) (path : List (List Node)) (n : ℕ) → IsPathFront input path n → n ≡ length (flat_map row_bytes (path_rows path)) + 4
front_size input path n front =
    front_len input path n front ∙ ap length (path_bytes_of_rows path front.spelled.0)
    ∙ length-append (flat_map row_bytes (path_rows path)) (row_bytes end_entire)

pub before_end : (input : List ℕ) (path : List (List Node)) (n : ℕ) (nodes : List ℕ) → IsPathFront input path n →
    nodes ≡ take (n - 4) input → rows_behind 0 nodes ≡ path_rows path
before_end input path n nodes front is =
    let rows = path_rows path in
    let size = front_size input path n front in
    let bytes : nodes ≡ flat_map row_bytes rows = is ∙ ap (take (n - 4)) (front_rows input path n front)
    ∙ take_at (flat_map row_bytes rows) (row_bytes end_entire ++ drop n input) (n - 4) (omega (arith, size)) in
    ap (rows_behind 0) bytes ∙ rows_again rows (path_rows_are_inner path front.spelled.0.nodes)
