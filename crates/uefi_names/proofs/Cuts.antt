-- Where a text is cut.
use Rattle.std.proofs.Common.{◌≡◌, ◌<◌, ◌+◌, ◌==◌, ◌&&◌, ℕ, zero, suc, Bool, true, false, List, [], ◌∷◌, ◌++◌, take, drop, length, get_or, append_assoc, append-nil, refl, ap, sym, subst, ◌∙◌, arith}
use Rattle.std.specs.Prelude.{Option, Some, None, if◌then◌else◌}
use Rattle.std.proofs.lemmas.Bool.{and_parts, eqb-true}
use Rattle.uefi_text.specs.Reader.{◌>>=◌}
use Rattle.uefi_names.specs.Cut.{deeper, first_outside, pieces_from, pieces, around_mark, begins_with_space, trimmed}

-- what is told of the place of a mark
pub record IsOutside (mark depth at i : ℕ) (text : List ℕ) : Type 0 where
  pub before : ℕ
  pub is : i ≡ at + before
  pub under : before < length text
  pub byte : get_or text before 0 ≡ mark
  pub cut : (done : List ℕ) → pieces_from mark done depth text ≡ (done ++ take before text) ∷ pieces mark (drop (suc before) text)

pub outside : (mark depth at i : ℕ) (text : List ℕ) → first_outside mark depth at text ≡ Some i → IsOutside mark depth at i text
outside mark depth at i [] e = cc
outside mark depth at i (byte ∷ text) e = go ((byte == mark) && (depth == 0)) refl e (outside mark (deeper depth byte) (suc at) i text)
  where
    go : (b : Bool) → ((byte == mark) && (depth == 0)) ≡ b → (if b then Some at else first_outside mark (deeper depth byte) (suc at) text) ≡ Some i
        → (first_outside mark (deeper depth byte) (suc at) text ≡ Some i → IsOutside mark (deeper depth byte) (suc at) i text) → IsOutside mark depth at i (byte ∷ text)
    go true is e later =
        let same : at ≡ i = cc in
        record {
          before = zero;
          is = omega (arith, same);
          under = omega arith;
          byte = eqb-true byte mark (and_parts (byte == mark) (depth == 0) is).0;
          cut = λ done. rw is (ap (λ (front : List ℕ). front ∷ pieces mark text) (sym (append-nil done)));
        }
    go false is e later =
        let more = later e in
        record {
          before = suc more.before;
          is = omega (arith, more.is);
          under = omega (arith, more.under);
          byte = more.byte;
          cut = λ done. rw is (more.cut (done ++ byte ∷ []) ∙ ap (λ (front : List ℕ). front ∷ pieces mark (drop (suc more.before) text)) (append_assoc done (byte ∷ []) (take more.before text)));
        }

pub none_outside : (mark depth at : ℕ) (text : List ℕ) → first_outside mark depth at text ≡ None → (done : List ℕ) → pieces_from mark done depth text ≡ (done ++ text) ∷ []
none_outside mark depth at [] e done = ap (λ (front : List ℕ). front ∷ []) (sym (append-nil done))
none_outside mark depth at (byte ∷ text) e done =
    go ((byte == mark) && (depth == 0)) refl e (λ later. none_outside mark (deeper depth byte) (suc at) text later (done ++ byte ∷ []))
  where
    go : (b : Bool) → ((byte == mark) && (depth == 0)) ≡ b → (if b then Some at else first_outside mark (deeper depth byte) (suc at) text) ≡ None
        → (first_outside mark (deeper depth byte) (suc at) text ≡ None → pieces_from mark (done ++ byte ∷ []) (deeper depth byte) text ≡ ((done ++ byte ∷ []) ++ text) ∷ [])
        → pieces_from mark done depth (byte ∷ text) ≡ (done ++ byte ∷ text) ∷ []
    go true is e more = cc
    go false is e more = rw is (more e ∙ ap (λ (front : List ℕ). front ∷ []) (append_assoc done (byte ∷ []) text))

-- the same of a text that is cut from its start on
pub record IsCutAt (mark : ℕ) (text : List ℕ) (at : ℕ) : Type 0 where
  pub under : at < length text
  pub byte : get_or text at 0 ≡ mark
  pub cut : pieces mark text ≡ take at text ∷ pieces mark (drop (suc at) text)

pub cut_at : (mark at : ℕ) (text : List ℕ) → first_outside mark 0 0 text ≡ Some at → IsCutAt mark text at
cut_at mark at text e =
    let o = outside mark 0 0 at text e in
    let same : o.before ≡ at = omega (arith, o.is) in
    subst (IsCutAt mark text) same (record { under = o.under; byte = o.byte; cut = o.cut [] })

pub first_piece : (mark : ℕ) (text front after : List ℕ) → ◌≡◌ {A = Option (List ℕ × List ℕ)} (Some (front, after)) (around_mark mark text) → pieces mark text ≡ front ∷ pieces mark after
first_piece mark text front after e = go (first_outside mark 0 0 text) refl e
  where
    go : (o : Option ℕ) → first_outside mark 0 0 text ≡ o → ◌≡◌ {A = Option (List ℕ × List ℕ)} (Some (front, after)) (o >>= λ at. Some (take at text, drop (suc at) text)) → pieces mark text ≡ front ∷ pieces mark after
    go None is e = cc
    go (Some at) is e =
        let same : ◌≡◌ {A = List ℕ × List ℕ} (front, after) (take at text, drop (suc at) text) = cc in
        let a : front ≡ take at text = ap (λ (p : List ℕ × List ℕ). p.0) same in
        let b : after ≡ drop (suc at) text = ap (λ (p : List ℕ × List ℕ). p.1) same in
        rw (a, b) (cut_at mark at text is).cut

pub only_piece : (mark : ℕ) (text : List ℕ) → ◌≡◌ {A = Option (List ℕ × List ℕ)} None (around_mark mark text) → pieces mark text ≡ text ∷ []
only_piece mark text e = go (first_outside mark 0 0 text) refl e
  where
    go : (o : Option ℕ) → first_outside mark 0 0 text ≡ o → ◌≡◌ {A = Option (List ℕ × List ℕ)} None (o >>= λ at. Some (take at text, drop (suc at) text)) → pieces mark text ≡ text ∷ []
    go None is e = none_outside mark 0 0 text is []
    go (Some at) is e = cc

pub trimmed_more : (text : List ℕ) → begins_with_space text ≡ true → trimmed (drop 1 text) ≡ trimmed text
trimmed_more [] h = cc
trimmed_more (byte ∷ text) h = rw h refl

pub trimmed_done : (text : List ℕ) → begins_with_space text ≡ false → text ≡ trimmed text
trimmed_done [] h = refl
trimmed_done (byte ∷ text) h = rw h refl

pub space_under : (text : List ℕ) → begins_with_space text ≡ true → 0 < length text
space_under [] h = cc
space_under (byte ∷ text) h = omega arith
