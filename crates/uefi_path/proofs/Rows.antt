-- Bytes are cut into rows in one way.
use Rattle.std.proofs.Common.{◌≡◌, ℕ, ◌+◌, ◌<◌, ◌^◌, List, [], ◌∷◌, ◌++◌, length, refl, sym, ap, ◌∙◌, inl, inr, arith, append_assoc}
use Rattle.std.specs.Int.{w16, to_le_bytes, from_le_bytes}
use Rattle.std.specs.List.{flat_map, AllByRecursion}
use Rattle.uefi_path.specs.Row.{Row, row, IsRow, header_bytes, row_bytes, end_instance, end_entire}
use Rattle.uefi_path.specs.Fault.{IsBeforeEnd}
use Rattle.uefi_path.proofs.Numbers.{wide_16}

-- lists of one length at the start of two lists that are one
pub same_parts : {X : Type 0} (a b x y : List X) → length a ≡ length b → a ++ x ≡ b ++ y → (a ≡ b) × (x ≡ y)
same_parts [] [] x y len e = (refl, e)
same_parts [] (b ∷ bs) x y len e = absurd (omega arith)
same_parts (a ∷ as') [] x y len e = absurd (omega arith)
same_parts (a ∷ as') (b ∷ bs) x y len e =
    let head : a ≡ b = cc in
    let tail : as' ++ x ≡ bs ++ y = cc in
    let size : length as' ≡ length bs = omega arith in
    let parts = same_parts as' bs x y size tail in
    (cc, parts.1)

-- two headers at the start of bytes that are one
pub record SameHeader (k s l k' s' l' : ℕ) (t t' : List ℕ) : Type 0 where
  pub kind : k ≡ k'
  pub sub : s ≡ s'
  pub len : l ≡ l'
  pub behind : t ≡ t'

pub same_header : (k s l k' s' l' : ℕ) (t t' : List ℕ) → l < 2 ^ 16 → l' < 2 ^ 16 →
    header_bytes k s l ++ t ≡ header_bytes k' s' l' ++ t' → SameHeader k s l k' s' l' t t'
same_header k s l k' s' l' t t' fits fits' e =
    let cells : to_le_bytes w16 l ≡ to_le_bytes w16 l' = cc in
    let len : l ≡ l' = sym (wide_16.again l fits) ∙ ap (from_le_bytes w16) cells ∙ wide_16.again l' fits' in
    record { kind = cc; sub = cc; len = len; behind = cc }

-- one row and the bytes after it
pub same_row : (r s : Row) (x y : List ℕ) → IsRow r → IsRow s → row_bytes r ++ x ≡ row_bytes s ++ y → (r ≡ s) × (x ≡ y)
same_row r s x y is-r is-s e =
    let header = same_header r.kind r.sub (4 + length r.body) s.kind s.sub (4 + length s.body) (r.body ++ x)
    (s.body ++ y) (omega (arith, is-r.len)) (omega (arith, is-s.len)) e in
    let parts = same_parts r.body s.body x y (omega (arith, header.len)) header.behind in
    (ap (λ (k : ℕ). row k r.sub r.body) header.kind ∙ ap (λ (n : ℕ). row s.kind n r.body) header.sub ∙ ap (λ (b : List ℕ). row s.kind s.sub b) parts.0, parts.1)

-- no row that may be before the end of a path begins here
abbrev pub Stops : List ℕ → Type 0
Stops rest = (r : Row) (behind : List ℕ) → IsBeforeEnd r → rest ≡ row_bytes r ++ behind → ⊥

pub same_rows : (rs ss : List Row) (x y : List ℕ) → AllByRecursion IsBeforeEnd rs → AllByRecursion IsBeforeEnd ss →
    Stops x → Stops y → flat_map row_bytes rs ++ x ≡ flat_map row_bytes ss ++ y → (rs ≡ ss) × (x ≡ y)
same_rows [] [] x y inner-r inner-s stops-x stops-y e = (refl, e)
same_rows [] (s ∷ ss) x y inner-r inner-s stops-x stops-y e =
    absurd (stops-x s (flat_map row_bytes ss ++ y) inner-s.0 (e ∙ append_assoc (row_bytes s) (flat_map row_bytes ss) y))
same_rows (r ∷ rs) [] x y inner-r inner-s stops-x stops-y e =
    absurd (stops-y r (flat_map row_bytes rs ++ x) inner-r.0 (sym e ∙ append_assoc (row_bytes r) (flat_map row_bytes rs) x))
same_rows (r ∷ rs) (s ∷ ss) x y inner-r inner-s stops-x stops-y e =
    let regrouped : row_bytes r ++ (flat_map row_bytes rs ++ x) ≡ row_bytes s ++ (flat_map row_bytes ss ++ y) =
    sym (append_assoc (row_bytes r) (flat_map row_bytes rs) x) ∙ e ∙ append_assoc (row_bytes s) (flat_map row_bytes ss) y in
    let first = same_row r s (flat_map row_bytes rs ++ x) (flat_map row_bytes ss ++ y) inner-r.0.row inner-s.0.row regrouped in
    let others = same_rows rs ss x y inner-r.1 inner-s.1 stops-x stops-y first.1 in
    (ap (λ (h : Row). h ∷ rs) first.0 ∙ ap (λ (t : List Row). s ∷ t) others.0, others.1)

-- the end of the whole path isn't a row before it
pub entire_is_row : IsRow end_entire
entire_is_row = record { kind = omega arith; sub = omega arith; body = tt; len = omega arith }

pub instance_is_row : IsRow end_instance
instance_is_row = record { kind = omega arith; sub = omega arith; body = tt; len = omega arith }

pub entire_stops : (behind : List ℕ) → Stops (row_bytes end_entire ++ behind)
entire_stops behind r more inner e =
    let same : end_entire ≡ r = (same_row end_entire r behind more entire_is_row inner.row e).0 in
    elim inner.no_end [
      | inl no_end ↦ no_end (ap (λ (q : Row). q.kind) (sym same))
      | inr ends ↦ let bad : ◌≡◌ {A = ℕ} 255 1 = ap (λ (q : Row). q.sub) (same ∙ ends) in absurd (omega arith)
    ]
