-- Segments that are joined are cut again as they were.
use Rattle.std.proofs.Common.{◌≡◌, ◌≢◌, ◌==◌, ◌&&◌, ℕ, suc, Bool, true, false, List, [], ◌∷◌, ◌++◌, map, length, append_assoc, append-nil, refl, ap, sym, subst, ◌∙◌, arith, ne_eqb}
use Rattle.std.specs.Prelude.{Option, Some, None, is_none, if◌then◌else◌}
use Rattle.std.specs.List.{AllByRecursion, join_with_byte}
use Rattle.std.proofs.lemmas.Bool.{and_parts, eqb-true}
use Rattle.uefi_text.specs.Segment.{comma, slash}
use Rattle.uefi_names.specs.Cut.{deeper, first_outside, depth_after, is_whole_for, pieces_from, pieces, segments_in, cut_named}
use Rattle.uefi_names.proofs.Cuts.{none_outside}

-- no mark is outside parentheses in the text, which begins at this depth and ends at depth 0
pub record IsWhole (mark depth : ℕ) (text : List ℕ) : Type 0 where
  pub none : (at : ℕ) → first_outside mark depth at text ≡ None
  pub closed : depth_after depth text ≡ 0

-- the place of a text doesn't matter
none_anywhere : (mark depth at other : ℕ) (text : List ℕ) → first_outside mark depth at text ≡ None → first_outside mark depth other text ≡ None
none_anywhere mark depth at other [] e = refl
none_anywhere mark depth at other (byte ∷ text) e = go ((byte == mark) && (depth == 0)) refl e (none_anywhere mark (deeper depth byte) (suc at) (suc other) text)
  where
    go : (b : Bool) → ((byte == mark) && (depth == 0)) ≡ b → (if b then Some at else first_outside mark (deeper depth byte) (suc at) text) ≡ None
        → (first_outside mark (deeper depth byte) (suc at) text ≡ None → first_outside mark (deeper depth byte) (suc other) text ≡ None)
        → first_outside mark depth other (byte ∷ text) ≡ None
    go true is e later = cc
    go false is e later = rw is (later e)

none_is : {X : Type 0} (o : Option X) → is_none o ≡ true → o ≡ None
none_is None e = refl
none_is (Some x) e = cc

pub whole_for : (mark : ℕ) (text : List ℕ) → is_whole_for mark text ≡ true → IsWhole mark 0 text
whole_for mark text e =
    let both = and_parts (is_none (first_outside mark 0 0 text)) (depth_after 0 text == 0) e in
    record {
      none = λ at. none_anywhere mark 0 0 at text (none_is (first_outside mark 0 0 text) both.0);
      closed = eqb-true (depth_after 0 text) 0 both.1;
    }

-- a text that goes on after one in which there is no mark
depth_on : (depth : ℕ) (x y : List ℕ) → depth_after depth (x ++ y) ≡ depth_after (depth_after depth x) y
depth_on depth [] y = refl
depth_on depth (byte ∷ x) y = depth_on (deeper depth byte) x y

none_on : (mark depth : ℕ) (x y : List ℕ) → ((at : ℕ) → first_outside mark depth at x ≡ None) → ((at : ℕ) → first_outside mark (depth_after depth x) at y ≡ None)
    → (at : ℕ) → first_outside mark depth at (x ++ y) ≡ None
none_on mark depth [] y none more at = more at
none_on mark depth (byte ∷ x) y none more at =
    go ((byte == mark) && (depth == 0)) refl (none at) (λ later. none_on mark (deeper depth byte) x y later more (suc at))
  where
    go : (b : Bool) → ((byte == mark) && (depth == 0)) ≡ b → (if b then Some at else first_outside mark (deeper depth byte) (suc at) x) ≡ None
        → (((other : ℕ) → first_outside mark (deeper depth byte) other x ≡ None) → first_outside mark (deeper depth byte) (suc at) (x ++ y) ≡ None)
        → first_outside mark depth at (byte ∷ (x ++ y)) ≡ None
    go true is e on = cc
    go false is e on = rw is (on (λ other. none_anywhere mark (deeper depth byte) (suc at) other x e))

pub whole_on : (mark depth : ℕ) (x y : List ℕ) → ((at : ℕ) → first_outside mark depth at x ≡ None) → IsWhole mark (depth_after depth x) y → IsWhole mark depth (x ++ y)
whole_on mark depth x y none more = record {
  none = none_on mark depth x y none more.none;
  closed = depth_on depth x y ∙ more.closed;
}

-- the first piece is that text
cut_on : (mark depth : ℕ) (done x y : List ℕ) → ((at : ℕ) → first_outside mark depth at x ≡ None) → pieces_from mark done depth (x ++ y) ≡ pieces_from mark (done ++ x) (depth_after depth x) y
cut_on mark depth done [] y none = ap (λ (front : List ℕ). pieces_from mark front depth y) (sym (append-nil done))
cut_on mark depth done (byte ∷ x) y none =
    go ((byte == mark) && (depth == 0)) refl (none 0) (cut_on mark (deeper depth byte) (done ++ byte ∷ []) x y)
  where
    go : (b : Bool) → ((byte == mark) && (depth == 0)) ≡ b → (if b then Some 0 else first_outside mark (deeper depth byte) 1 x) ≡ None
        → (((other : ℕ) → first_outside mark (deeper depth byte) other x ≡ None)
        → pieces_from mark (done ++ byte ∷ []) (deeper depth byte) (x ++ y) ≡ pieces_from mark ((done ++ byte ∷ []) ++ x) (depth_after (deeper depth byte) x) y)
        → pieces_from mark done depth (byte ∷ (x ++ y)) ≡ pieces_from mark (done ++ byte ∷ x) (depth_after (deeper depth byte) x) y
    go true is e on = cc
    go false is e on =
        rw is (on (λ other. none_anywhere mark (deeper depth byte) 1 other x e)
        ∙ ap (λ (front : List ℕ). pieces_from mark front (depth_after (deeper depth byte) x) y) (append_assoc done (byte ∷ []) x))

-- ---- texts that a mark joins

pub joined_pieces : (mark : ℕ) → (mark == mark) ≡ true → (texts : List (List ℕ)) → AllByRecursion (IsWhole mark 0) texts → texts ≢ [] → pieces mark (join_with_byte mark texts) ≡ texts
joined_pieces mark same [] all some = absurd (some refl)
joined_pieces mark same (x ∷ []) all some = none_outside mark 0 0 x (all.0.none 0) []
joined_pieces mark same (x ∷ y ∷ texts) all some =
    cut_on mark 0 [] x (mark ∷ join_with_byte mark (y ∷ texts)) all.0.none
    ∙ rw (all.0.closed, same) (ap (λ (more : List (List ℕ)). x ∷ more) (joined_pieces mark same (y ∷ texts) all.1 (λ e. cc)))

-- texts that slashes join have no comma outside parentheses if none of them has
pub joined_whole : (texts : List (List ℕ)) → AllByRecursion (IsWhole comma 0) texts → IsWhole comma 0 (join_with_byte slash texts)
joined_whole [] all = record { none = λ at. refl; closed = refl }
joined_whole (x ∷ []) all = all.0
joined_whole (x ∷ y ∷ texts) all =
    let more = joined_whole (y ∷ texts) all.1 in
    whole_on comma 0 x (slash ∷ join_with_byte slash (y ∷ texts)) all.0.none
    (subst (λ depth. IsWhole comma depth (slash ∷ join_with_byte slash (y ∷ texts))) (sym all.0.closed)
    (record { none = λ at. more.none (suc at); closed = more.closed }))

-- ---- paths

-- the text of a segment wherever it stands
pub record IsSegmentText (text : List ℕ) : Type 0 where
  pub no_comma : IsWhole comma 0 text
  pub no_slash : IsWhole slash 0 text
  pub some : text ≢ []

all_of : {X : Type 0} (P Q : X → Type 0) → ((x : X) → P x → Q x) → (xs : List X) → AllByRecursion P xs → AllByRecursion Q xs
all_of P Q f [] h = tt
all_of P Q f (x ∷ xs) h = (f x h.0, all_of P Q f xs h.1)

pub suc_some : (n : ℕ) → (suc n == 0) ≡ false
suc_some n = ne_eqb (suc n) 0 (λ e. omega (arith, e))

joined_some : (mark : ℕ) (x : List ℕ) (texts : List (List ℕ)) → x ≢ [] → (length (join_with_byte mark (x ∷ texts)) == 0) ≡ false
joined_some mark [] texts some = absurd (some refl)
joined_some mark (byte ∷ x) [] some = suc_some (length x)
joined_some mark (byte ∷ x) (y ∷ texts) some = suc_some (length (x ++ mark ∷ join_with_byte mark (y ∷ texts)))

pub instance_again : (texts : List (List ℕ)) → AllByRecursion IsSegmentText texts → segments_in (join_with_byte slash texts) ≡ texts
instance_again [] all = refl
instance_again (x ∷ texts) all =
    rw (joined_some slash x texts all.0.some)
    (joined_pieces slash refl (x ∷ texts) (all_of IsSegmentText (IsWhole slash 0) (λ text is. is.no_slash) (x ∷ texts) all) (λ e. cc))

instances_whole : (cut : List (List (List ℕ))) → AllByRecursion (AllByRecursion IsSegmentText) cut → AllByRecursion (IsWhole comma 0) (map (join_with_byte slash) cut)
instances_whole [] all = tt
instances_whole (texts ∷ cut) all =
    (joined_whole texts (all_of IsSegmentText (IsWhole comma 0) (λ text is. is.no_comma) texts all.0), instances_whole cut all.1)

instances_again : (cut : List (List (List ℕ))) → AllByRecursion (AllByRecursion IsSegmentText) cut → map segments_in (map (join_with_byte slash) cut) ≡ cut
instances_again [] all = refl
instances_again (texts ∷ cut) all = rw (instance_again texts all.0, instances_again cut all.1) refl

pub path_again : (cut : List (List (List ℕ))) → AllByRecursion (AllByRecursion IsSegmentText) cut → cut ≢ [] → cut_named (join_with_byte comma (map (join_with_byte slash) cut)) ≡ cut
path_again [] all some = absurd (some refl)
path_again (texts ∷ cut) all some =
    ap (map segments_in) (joined_pieces comma refl (map (join_with_byte slash) (texts ∷ cut)) (instances_whole (texts ∷ cut) all) (λ e. cc))
    ∙ instances_again (texts ∷ cut) all
