-- How far the bytes of a path were looked at, row by row.
use Rattle.std.proofs.Common.{◌≡◌, ◌≢◌, ◌⊎◌, ℕ, ◌+◌, ◌-◌, List, [], ◌∷◌, ◌++◌, length, take, refl, sym, ap, subst, ◌∙◌, inl, inr, arith, append_assoc}
use Rattle.std.specs.List.{flat_map, AllByRecursion}
use Rattle.std.proofs.lemmas.List.{append-nil, length-append, take_at}
use Rattle.std.proofs.lemmas.List.Concat.{flat_map-append}
use Rattle.uefi_path.specs.declared.node.Node.{Node}
use Rattle.uefi_path.specs.declared.fault.PathFault.{PathFault}
use Rattle.uefi_path.specs.Row.{Row, row_bytes, end_entire}
use Rattle.uefi_path.specs.Path.{IsPathFront, path_bytes}
use Rattle.uefi_path.specs.Fault.{IsBeforeEnd, IsFaultAt, IsFirstFault}
use Rattle.uefi_path.specs.Reader.{SplitsRow}
use Rattle.uefi_path.proofs.Bytes.{AllByRecursion-append}
use Rattle.uefi_path.proofs.Paths.{rows_of_path, some_path}

-- The bytes are those of rows that are before the end of a path, and the rest.
pub record HasRows (bytes rest : List ℕ) : Type 0 where
  pub rows : List Row
  pub inner : AllByRecursion IsBeforeEnd rows
  pub parts : bytes ≡ flat_map row_bytes rows ++ rest

pub no_rows : (bytes : List ℕ) → HasRows bytes bytes
no_rows bytes = record { rows = []; inner = tt; parts = refl }

rows_len : (bytes rest : List ℕ) (h : HasRows bytes rest) → length bytes ≡ length (flat_map row_bytes h.rows) + length rest
rows_len bytes rest h = ap length h.parts ∙ length-append (flat_map row_bytes h.rows) rest

-- the row that was split off is before the end, or is the end
before_or_end : (rest : List ℕ) (r : Row) (behind : List ℕ) → SplitsRow rest r behind → ((r.kind ≢ 127) ⊎ (r.sub ≢ 255)) → IsBeforeEnd r
before_or_end rest r behind split more =
    record {
      row = split.row;
      no_end = elim split.ends [
        | inl node ↦ inl node
        | inr ends ↦ elim ends [
          | inl one ↦ inr one
          | inr all ↦ elim more [ inl kind ↦ absurd (kind (ap (λ (q : Row). q.kind) all)) | inr sub ↦ absurd (sub (ap (λ (q : Row). q.sub) all)) ]
        ]
      ];
    }

pub one_row : (bytes rest behind : List ℕ) (r : Row) → HasRows bytes rest → SplitsRow rest r behind → ((r.kind ≢ 127) ⊎ (r.sub ≢ 255)) → HasRows bytes behind
one_row bytes rest behind r h split more =
    let front = flat_map row_bytes h.rows in
    let cut : flat_map row_bytes (h.rows ++ r ∷ []) ≡ front ++ row_bytes r = flat_map-append row_bytes h.rows (r ∷ [])
    ∙ ap (λ (t : List ℕ). front ++ t) (append-nil (row_bytes r)) in
    record {
      rows = h.rows ++ r ∷ [];
      inner = AllByRecursion-append IsBeforeEnd h.rows (r ∷ []) h.inner (before_or_end rest r behind split more, tt);
      parts = h.parts ∙ ap (λ (t : List ℕ). front ++ t) split.parts ∙ sym (append_assoc front (row_bytes r) behind)
          ∙ ap (λ (t : List ℕ). t ++ behind) (sym cut);
    }

-- the row that was split off is the end of the whole path
entire : (rest : List ℕ) (r : Row) (behind : List ℕ) → SplitsRow rest r behind → r.kind ≡ 127 → r.sub ≡ 255 → r ≡ end_entire
entire rest r behind split kind sub =
    elim split.ends [
      | inl other ↦ absurd (other kind)
      | inr ends ↦ elim ends [
        | inl one ↦ let bad : ◌≡◌ {A = ℕ} 255 1 = sym sub ∙ ap (λ (q : Row). q.sub) one in absurd (omega arith)
        | inr all ↦ all
      ]
    ]

pub path_ends : (bytes rest behind : List ℕ) (r : Row) → HasRows bytes rest → SplitsRow rest r behind → r.kind ≡ 127 → r.sub ≡ 255
    → (path : List (List Node)) × IsPathFront bytes path (length bytes - length behind)
path_ends bytes rest behind r h split kind sub =
    let p = some_path h.rows h.inner in
    let path = p.0 in
    let ends = entire rest r behind split kind sub in
    let whole : bytes ≡ path_bytes path ++ behind =
    h.parts ∙ ap (λ (t : List ℕ). flat_map row_bytes h.rows ++ t) (split.parts ∙ ap (λ (q : Row). row_bytes q ++ behind) ends)
    ∙ sym (rows_of_path path behind p.1 ∙ ap (λ (rs : List Row). flat_map row_bytes rs ++ (row_bytes end_entire ++ behind)) p.2) in
    let size : length bytes ≡ length (path_bytes path) + length behind = ap length whole ∙ length-append (path_bytes path) behind in (
      path,
      record {
        within = omega arith;
        spelled = (
          p.1,
          ap (take (length bytes - length behind)) whole ∙ take_at (path_bytes path) behind
              (length bytes - length behind) (omega arith),
        );
      },
    )

pub fault_stands : (bytes rest : List ℕ) (fault : PathFault) → HasRows bytes rest → IsFaultAt fault (length bytes - length rest) rest → IsFirstFault bytes fault
fault_stands bytes rest fault h at =
    let place : length bytes - length rest ≡ length (flat_map row_bytes h.rows) = omega (arith, rows_len bytes rest h) in
    record { before = h.rows; rest = rest; inner = h.inner; parts = h.parts; fault_at = subst (λ (o : ℕ). IsFaultAt fault o rest) place at }
