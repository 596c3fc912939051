-- The first fault of some bytes is one, and bytes with a first fault begin with no path.
use Rattle.std.proofs.Common.{◌≡◌, ℕ, ◌+◌, ◌<◌, ◌≤◌, cond, eqb, ltb, List, ◌++◌, length, drop, refl, sym, ap, ◌∙◌, inl, inr, arith}
use Rattle.std.specs.Int.{w16, from_le_bytes}
use Rattle.std.specs.List.{flat_map}
use Rattle.std.proofs.lemmas.Bool.{eq-eqb, ne_eqb, lt-ltb, le-ltb}
use Rattle.std.proofs.lemmas.List.{length-append}
use Rattle.uefi_path.specs.declared.fault.PathFault.{PathFault}
use Rattle.uefi_path.specs.declared.fault.PathFault.TheVariants.{NoEnd, ShortHeader, BadLength, PastEnd, BadEnd, OutOfMemory}
use Rattle.uefi_path.specs.Row.{Row, IsRow, row_bytes, end_entire}
use Rattle.uefi_path.specs.Fault.{HasHeader, IsFaultAt, IsFirstFault}
use Rattle.uefi_path.proofs.Numbers.{wide_16}
use Rattle.uefi_path.proofs.Rows.{same_header, same_rows, entire_is_row, Stops}

-- the length that a header states, and that there are its four bytes
header_len : (rest : List ℕ) (kind sub len : ℕ) → HasHeader rest kind sub len → (from_le_bytes w16 (drop 2 rest) ≡ len) × (4 ≤ length rest)
header_len rest kind sub len header =
    let stated : from_le_bytes w16 (drop 2 rest) ≡ len = ap (λ (b : List ℕ). from_le_bytes w16 (drop 2 b)) header.is ∙ wide_16.again len header.two_bytes in
    let size : length rest ≡ 4 + length header.behind = ap length header.is ∙ omega arith in
    (stated, omega arith)

-- the fault at an offset where no row begins, by how many bytes remain and the length that the first four state
fault_by : ℕ → ℕ → ℕ → PathFault
fault_by offset size len =
    cond (eqb size 0) (NoEnd offset)
    (cond (ltb size 4) (ShortHeader offset size)
    (cond (ltb len 4) (BadLength offset) (cond (ltb size len) (PastEnd offset len size) (BadEnd offset))))

by_short : (offset size len : ℕ) → 0 < size → size < 4 → fault_by offset size len ≡ ShortHeader offset size
unfolding fault_by
by_short offset size len some short = rw (ne_eqb size 0 (λ e. omega arith), lt-ltb size 4 short) refl

by_length : (offset size len : ℕ) → 4 ≤ size → len < 4 → fault_by offset size len ≡ BadLength offset
unfolding fault_by
by_length offset size len long below = rw (ne_eqb size 0 (λ e. omega arith), le-ltb size 4 long, lt-ltb len 4 below) refl

by_past : (offset size len : ℕ) → 4 ≤ size → 4 ≤ len → size < len → fault_by offset size len ≡ PastEnd offset len size
unfolding fault_by
by_past offset size len long least past = rw (ne_eqb size 0 (λ e. omega arith), le-ltb size 4 long, le-ltb len 4 least, lt-ltb size len past) refl

by_end : (offset size len : ℕ) → 4 ≤ size → 4 ≤ len → len ≤ size → fault_by offset size len ≡ BadEnd offset
unfolding fault_by
by_end offset size len long least within = rw (ne_eqb size 0 (λ e. omega arith), le-ltb size 4 long, le-ltb len 4 least, le-ltb size len within) refl

fault_at : ℕ → List ℕ → PathFault
fault_at offset rest = fault_by offset (length rest) (from_le_bytes w16 (drop 2 rest))

at_header : (offset : ℕ) (rest : List ℕ) (kind sub len : ℕ) → HasHeader rest kind sub len → fault_at offset rest ≡ fault_by offset (length rest) len
unfolding fault_at
at_header offset rest kind sub len header = ap (fault_by offset (length rest)) (header_len rest kind sub len header).0

fault_is : (fault : PathFault) (offset : ℕ) (rest : List ℕ) → IsFaultAt fault offset rest → fault_at offset rest ≡ fault
unfolding fault_at fault_by
fault_is (NoEnd at) offset rest (at-is, empty) = rw (eq-eqb (length rest) 0 (ap length empty), at-is) refl
fault_is (ShortHeader at left) offset rest (at-is, left-is, some, short) =
    by_short offset (length rest) _ some short ∙ ap (λ (o : ℕ). ShortHeader o (length rest)) (sym at-is)
    ∙ ap (λ (n : ℕ). ShortHeader at n) (sym left-is)
fault_is (BadLength at) offset rest (at-is, len, (kind, sub, header), below) =
    at_header offset rest kind sub len header ∙ by_length offset (length rest) len
    (header_len rest kind sub len header).1 below ∙ ap (λ (o : ℕ). BadLength o) (sym at-is)
fault_is (PastEnd at len left) offset rest (at-is, left-is, (kind, sub, header), least, past) =
    at_header offset rest kind sub len header ∙ by_past offset (length rest) len
    (header_len rest kind sub len header).1 least past ∙ ap (λ (o : ℕ). PastEnd o len (length rest)) (sym at-is)
    ∙ ap (λ (n : ℕ). PastEnd at len n) (sym left-is)
fault_is (BadEnd at) offset rest (at-is, sub, len, header, least, within, no_end) =
    at_header offset rest 127 sub len header ∙ by_end offset (length rest) len (header_len rest 127 sub len header).1
    least within ∙ ap (λ (o : ℕ). BadEnd o) (sym at-is)
fault_is OutOfMemory offset rest h = absurd h

-- the header of a row
row_header : (r : Row) (behind rest : List ℕ) (kind sub len : ℕ) → IsRow r → HasHeader rest kind sub len →
    rest ≡ row_bytes r ++ behind → (kind ≡ r.kind) × (sub ≡ r.sub) × (len ≡ 4 + length r.body)
    × (length rest ≡ 4 + (length r.body + length behind))
row_header r behind rest kind sub len is header e =
    let same = same_header kind sub len r.kind r.sub (4 + length r.body) header.behind
    (r.body ++ behind) header.two_bytes (omega (arith, is.len)) (sym header.is ∙ e) in
    (same.kind, same.sub, same.len, ap length e ∙ omega (arith, length-append r.body behind))

-- where there is a fault no row begins
fault_stops : (fault : PathFault) (offset : ℕ) (rest : List ℕ) → IsFaultAt fault offset rest → Stops rest
fault_stops (NoEnd at) offset rest (at-is, empty) r behind inner e =
    let size : length rest ≡ 0 = ap length empty in
    let more : length rest ≡ 4 + (length r.body + length behind) = ap length e ∙ omega (arith, length-append r.body behind) in
    omega arith
fault_stops (ShortHeader at left) offset rest (at-is, left-is, some, short) r behind inner e =
    let more : length rest ≡ 4 + (length r.body + length behind) = ap length e ∙ omega (arith, length-append r.body behind) in
    omega arith
fault_stops (BadLength at) offset rest (at-is, len, (kind, sub, header), below) r behind inner e =
    let stated = row_header r behind rest kind sub len inner.row header e in
    omega (arith, stated.2)
fault_stops (PastEnd at len left) offset rest (at-is, left-is, (kind, sub, header), least, past) r behind inner e =
    let stated = row_header r behind rest kind sub len inner.row header e in
    omega (arith, stated.2, stated.3)
fault_stops (BadEnd at) offset rest (at-is, sub, len, header, least, within, no_end) r behind inner e =
    let stated = row_header r behind rest 127 sub len inner.row header e in
    elim inner.no_end [
      | inl other ↦ other (sym stated.0)
      | inr ends ↦ no_end (inl (stated.1 ∙ ap (λ (q : Row). q.sub) ends), stated.2 ∙ ap (λ (q : Row). 4 + length q.body) ends)
    ]
fault_stops OutOfMemory offset rest h r behind inner e = h

-- where the whole path ends there is no fault
pub no_fault_at_end : (fault : PathFault) (offset : ℕ) (rest behind : List ℕ) → IsFaultAt fault offset rest → rest ≡ row_bytes end_entire ++ behind → ⊥
no_fault_at_end (NoEnd at) offset rest behind (at-is, empty) e =
    let size : length rest ≡ 0 = ap length empty in
    let more : length rest ≡ 4 + length behind = ap length e ∙ omega arith in
    omega arith
no_fault_at_end (ShortHeader at left) offset rest behind (at-is, left-is, some, short) e =
    let more : length rest ≡ 4 + length behind = ap length e ∙ omega arith in
    omega arith
no_fault_at_end (BadLength at) offset rest behind (at-is, len, (kind, sub, header), below) e =
    let stated = row_header end_entire behind rest kind sub len entire_is_row header e in
    omega (arith, stated.2)
no_fault_at_end (PastEnd at len left) offset rest behind (at-is, left-is, (kind, sub, header), least, past) e =
    let stated = row_header end_entire behind rest kind sub len entire_is_row header e in
    omega (arith, stated.2, stated.3)
no_fault_at_end (BadEnd at) offset rest behind (at-is, sub, len, header, least, within, no_end) e =
    let stated = row_header end_entire behind rest 127 sub len entire_is_row header e in
    no_end (inr stated.1, stated.2)
no_fault_at_end OutOfMemory offset rest behind h e = h

-- the first fault is one
pub same_fault : (input : List ℕ) (f g : PathFault) → IsFirstFault input f → IsFirstFault input g → f ≡ g
same_fault input f g first second =
    let stops-f = fault_stops f (length (flat_map row_bytes first.before)) first.rest first.fault_at in
    let stops-g = fault_stops g (length (flat_map row_bytes second.before)) second.rest second.fault_at in
    let same = same_rows first.before second.before first.rest second.rest first.inner second.inner stops-f stops-g (sym first.parts ∙ second.parts) in
    let place : length (flat_map row_bytes first.before) ≡ length (flat_map row_bytes second.before) =
    ap (λ (rows : List Row). length (flat_map row_bytes rows)) same.0 in
    sym (fault_is f (length (flat_map row_bytes first.before)) first.rest first.fault_at) ∙ ap (λ (o : ℕ). fault_at o first.rest) place
    ∙ ap (fault_at (length (flat_map row_bytes second.before))) same.1 ∙ fault_is g (length (flat_map row_bytes second.before)) second.rest second.fault_at

pub first_fault_stops : (input : List ℕ) (f : PathFault) (first : IsFirstFault input f) → Stops first.rest
first_fault_stops input f first = fault_stops f (length (flat_map row_bytes first.before)) first.rest first.fault_at
