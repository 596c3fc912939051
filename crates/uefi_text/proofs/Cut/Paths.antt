-- A text is cut into instances of segments in one way.
use Rattle.std.proofs.Common.{◌≡◌, ◌≢◌, ℕ, List, [], ◌∷◌, ◌++◌, refl, sym, ap, ◌∙◌, append_assoc, append-nil, inl, inr, arith, subst, ◌⊎◌}
use Rattle.std.specs.List.{AllByRecursion, flat_map}
use Rattle.uefi_text.specs.Segment.{Segment, comma, slash, segment_text, instance_text, cut_text}
use Rattle.uefi_text.specs.Fault.{EndsOr, ClosesSegment, closed_text}
use Rattle.uefi_text.proofs.Cut.Segments.{IsPlainSegment, same_segment, begins_plain, all_from}

abbrev pub IsPlainInstance : List Segment → Type 0
IsPlainInstance segments = AllByRecursion IsPlainSegment segments

-- what comes after the first segment of an instance
abbrev pub behind_segment : List Segment → List ℕ
behind_segment [] = []
behind_segment (s ∷ segments) = slash ∷ instance_text (s ∷ segments)

-- what comes after the first instance of a text
abbrev pub behind_instance : List (List Segment) → List ℕ
behind_instance [] = []
behind_instance (i ∷ instances) = comma ∷ cut_text (i ∷ instances)

pub instance_parts : (s : Segment) (segments : List Segment) → instance_text (s ∷ segments) ≡ segment_text s ++ behind_segment segments
instance_parts s [] = sym (append-nil (segment_text s))
instance_parts s (t ∷ segments) = refl

pub text_parts : (i : List Segment) (instances : List (List Segment)) → cut_text (i ∷ instances) ≡ instance_text i ++ behind_instance instances
text_parts i [] = sym (append-nil (instance_text i))
text_parts i (j ∷ instances) = refl

-- an instance before something, by its first segment
pub instance_front : (s : Segment) (segments : List Segment) (x : List ℕ) → instance_text (s ∷ segments) ++ x ≡ segment_text s ++ (behind_segment segments ++ x)
instance_front s segments x =
    ap (λ (t : List ℕ). t ++ x) (instance_parts s segments) ∙ append_assoc (segment_text s) (behind_segment segments) x

pub closed_behind : (segments : List Segment) (x : List ℕ) → EndsOr comma x → ClosesSegment (behind_segment segments ++ x)
closed_behind [] x closed = inr closed
closed_behind (s ∷ segments) x closed = inl refl

-- no segment begins where a text ends or goes on with a comma
no_segment : (s : Segment) (x y : List ℕ) → IsPlainSegment s → EndsOr comma x → x ≡ segment_text s ++ y → ⊥
no_segment s [] y plain closed e =
    let begins = begins_plain s plain in
    let whole : [] ≡ begins.first ∷ (begins.others ++ y) = e ∙ ap (λ (t : List ℕ). t ++ y) begins.is in
    cc
no_segment s (c ∷ x) y plain closed e =
    let begins = begins_plain s plain in
    let whole : c ∷ x ≡ begins.first ∷ (begins.others ++ y) = e ∙ ap (λ (t : List ℕ). t ++ y) begins.is in
    let head : begins.first ≡ c = cc in
    absurd (begins.no_comma (head ∙ closed))

marks_differ : comma ≡ slash → ⊥
marks_differ e = omega arith

-- if a comma or the end follows, no slash does
no_slash : (x y : List ℕ) → EndsOr comma x → x ≡ slash ∷ y → ⊥
no_slash [] y closed e = cc
no_slash (c ∷ x) y closed e = let head : c ≡ slash = cc in absurd (marks_differ (sym closed ∙ head))

-- an instance before a comma or the end is cut off in one way
pub same_instance : (a b : List Segment) (x y : List ℕ) → IsPlainInstance a → IsPlainInstance b → EndsOr comma x →
    EndsOr comma y → instance_text a ++ x ≡ instance_text b ++ y → (a ≡ b) × (x ≡ y)
same_instance [] [] x y plain-a plain-b closed-x closed-y e = (refl, e)
same_instance [] (t ∷ ts) x y plain-a plain-b closed-x closed-y e =
    absurd (no_segment t x (behind_segment ts ++ y) plain-b.0 closed-x (e ∙ instance_front t ts y))
same_instance (s ∷ ss) [] x y plain-a plain-b closed-x closed-y e =
    absurd (no_segment s y (behind_segment ss ++ x) plain-a.0 closed-y (sym e ∙ instance_front s ss x))
same_instance (s ∷ []) (t ∷ []) x y plain-a plain-b closed-x closed-y e =
    let parts = same_segment s t x y plain-a.0 plain-b.0 (inr closed-x) (inr closed-y) e in
    (ap (λ (h : Segment). h ∷ []) parts.0, parts.1)
same_instance (s ∷ []) (t ∷ u ∷ ts) x y plain-a plain-b closed-x closed-y e =
    let parts = same_segment s t x (slash ∷ (instance_text (u ∷ ts) ++ y)) plain-a.0 plain-b.0 (inr closed-x) (inl refl) (e ∙ instance_front t (u ∷ ts) y) in
    absurd (no_slash x (instance_text (u ∷ ts) ++ y) closed-x parts.1)
same_instance (s ∷ r ∷ ss) (t ∷ []) x y plain-a plain-b closed-x closed-y e =
    let parts = same_segment s t (slash ∷ (instance_text (r ∷ ss) ++ x)) y plain-a.0 plain-b.0 (inl refl)
    (inr closed-y) (sym (instance_front s (r ∷ ss) x) ∙ e) in
    absurd (no_slash y (instance_text (r ∷ ss) ++ x) closed-y (sym parts.1))
same_instance (s ∷ r ∷ ss) (t ∷ u ∷ ts) x y plain-a plain-b closed-x closed-y e =
    let parts = same_segment s t (slash ∷ (instance_text (r ∷ ss) ++ x)) (slash ∷ (instance_text (u ∷ ts) ++ y))
    plain-a.0 plain-b.0 (inl refl) (inl refl) (sym (instance_front s (r ∷ ss) x) ∙ e ∙ instance_front t (u ∷ ts) y) in
    let cells : slash ∷ (instance_text (r ∷ ss) ++ x) ≡ slash ∷ (instance_text (u ∷ ts) ++ y) = parts.1 in
    let tails : instance_text (r ∷ ss) ++ x ≡ instance_text (u ∷ ts) ++ y = cc in
    let others = same_instance (r ∷ ss) (u ∷ ts) x y plain-a.1 plain-b.1 closed-x closed-y tails in
    (ap (λ (h : Segment). h ∷ r ∷ ss) parts.0 ∙ ap (λ (l : List Segment). t ∷ l) others.0, others.1)

pub closed_behind_instance : (instances : List (List Segment)) → EndsOr comma (behind_instance instances)
closed_behind_instance [] = tt
closed_behind_instance (i ∷ instances) = refl

-- two cuts of a text are one
pub same_cut : (a b : List (List Segment)) → AllByRecursion IsPlainInstance a → AllByRecursion IsPlainInstance b →
    a ≢ [] → b ≢ [] → cut_text a ≡ cut_text b → a ≡ b
same_cut [] b plain-a plain-b some-a some-b e = absurd (some-a refl)
same_cut (i ∷ a) [] plain-a plain-b some-a some-b e = absurd (some-b refl)
same_cut (i ∷ []) (j ∷ []) plain-a plain-b some-a some-b e =
    let parts = same_instance i j [] [] plain-a.0 plain-b.0 tt tt (sym (text_parts i []) ∙ e ∙ text_parts j []) in
    ap (λ (h : List Segment). h ∷ []) parts.0
same_cut (i ∷ []) (j ∷ k ∷ b) plain-a plain-b some-a some-b e =
    let parts = same_instance i j [] (comma ∷ cut_text (k ∷ b)) plain-a.0 plain-b.0 tt refl (sym (text_parts i []) ∙ e) in
    let cells : [] ≡ comma ∷ cut_text (k ∷ b) = parts.1 in
    absurd (cc)
same_cut (i ∷ h ∷ a) (j ∷ []) plain-a plain-b some-a some-b e =
    let parts = same_instance i j (comma ∷ cut_text (h ∷ a)) [] plain-a.0 plain-b.0 refl tt (e ∙ text_parts j []) in
    let cells : comma ∷ cut_text (h ∷ a) ≡ [] = parts.1 in
    absurd (cc)
same_cut (i ∷ h ∷ a) (j ∷ k ∷ b) plain-a plain-b some-a some-b e =
    let parts = same_instance i j (comma ∷ cut_text (h ∷ a)) (comma ∷ cut_text (k ∷ b)) plain-a.0 plain-b.0 refl refl e in
    let cells : comma ∷ cut_text (h ∷ a) ≡ comma ∷ cut_text (k ∷ b) = parts.1 in
    let tails : cut_text (h ∷ a) ≡ cut_text (k ∷ b) = cc in
    let others = same_cut (h ∷ a) (k ∷ b) plain-a.1 plain-b.1 (λ no. cc) (λ no. cc) tails in
    ap (λ (m : List Segment). m ∷ h ∷ a) parts.0 ∙ ap (λ (l : List (List Segment)). j ∷ l) others

-- the text begins with a whole segment of the kind
pub record BeginsWith (Q : Segment → Type 0) (text : List ℕ) : Type 0 where
  pub segment : Segment
  pub behind : List ℕ
  pub parts : text ≡ segment_text segment ++ behind
  pub holds : Q segment
  pub closed : ClosesSegment behind

-- a segment's text, and the slash after it
abbrev pub before_slash : Segment → List ℕ
before_slash segment = segment_text segment ++ slash ∷ []

abbrev pub GoesOn : (Segment → Type 0) → List Segment → List Segment → List ℕ → Type 0
GoesOn Q segments instance rest = BeginsWith Q rest ⊎ ((segments ≡ []) × (instance ≡ []) × EndsOr comma rest)

first_segment : (s : Segment) (segments : List Segment) (rest : List ℕ) → flat_map before_slash (s ∷ segments) ++ rest
    ≡ segment_text s ++ (slash ∷ (flat_map before_slash segments ++ rest))
first_segment s segments rest = simp append_assoc

first_instance : (i : List Segment) (instances : List (List Segment)) (segments : List Segment) (rest : List ℕ) →
    closed_text (i ∷ instances) segments ++ rest ≡ instance_text i ++ (comma ∷ (closed_text instances segments ++ rest))
first_instance i instances segments rest = simp append_assoc

-- after whole segments an instance goes on with a segment, or there are none on either side
pub instance_goes_on : (Q : Segment → Type 0) → ((s : Segment) → Q s → IsPlainSegment s) →
    (segments : List Segment) (rest : List ℕ) (i : List Segment) (x : List ℕ) → IsPlainInstance segments →
    AllByRecursion Q i → EndsOr comma x
    → flat_map before_slash segments ++ rest ≡ instance_text i ++ x → GoesOn Q segments i rest
instance_goes_on Q plain-of [] rest [] x plain holds closed e = inr (refl, refl, subst (EndsOr comma) (sym e) closed)
instance_goes_on Q plain-of [] rest (t ∷ ts) x plain holds closed e =
    inl (record { segment = t; behind = behind_segment ts ++ x; parts = e ∙ instance_front t ts x; holds = holds.0; closed = closed_behind ts x closed })
instance_goes_on Q plain-of (s ∷ ss) rest [] x plain holds closed e =
    absurd (no_segment s x (slash ∷ (flat_map before_slash ss ++ rest)) plain.0 closed (sym e ∙ first_segment s ss rest))
instance_goes_on Q plain-of (s ∷ ss) rest (t ∷ []) x plain holds closed e =
    let parts = same_segment s t (slash ∷ (flat_map before_slash ss ++ rest)) x plain.0 (plain-of t holds.0)
    (inl refl) (inr closed) (sym (first_segment s ss rest) ∙ e) in
    absurd (no_slash x (flat_map before_slash ss ++ rest) closed (sym parts.1))
instance_goes_on Q plain-of (s ∷ ss) rest (t ∷ u ∷ us) x plain holds closed e =
    let parts = same_segment s t (slash ∷ (flat_map before_slash ss ++ rest)) (slash ∷ (instance_text (u ∷ us) ++ x))
    plain.0 (plain-of t holds.0) (inl refl) (inl refl) (sym (first_segment s ss rest) ∙ e ∙ instance_front t (u ∷ us) x) in
    let cells : slash ∷ (flat_map before_slash ss ++ rest) ≡ slash ∷ (instance_text (u ∷ us) ++ x) = parts.1 in
    let tails : flat_map before_slash ss ++ rest ≡ instance_text (u ∷ us) ++ x = cc in
    elim (instance_goes_on Q plain-of ss rest (u ∷ us) x plain.1 holds.1 closed tails) [
      | inl begins ↦ inl begins
      | inr none ↦ let empty : u ∷ us ≡ [] = none.1 in absurd (cc)
    ]

-- after whole instances and segments a text goes on with a segment, or an empty instance closes
pub text_goes_on : (Q : Segment → Type 0) → ((s : Segment) → Q s → IsPlainSegment s) →
    (instances : List (List Segment)) (segments : List Segment) (rest : List ℕ) (cut : List (List Segment)) →
    AllByRecursion IsPlainInstance instances → IsPlainInstance segments → AllByRecursion (AllByRecursion Q) cut → cut ≢ []
    → closed_text instances segments ++ rest ≡ cut_text cut → BeginsWith Q rest ⊎ ((segments ≡ []) × EndsOr comma rest)
text_goes_on Q plain-of instances segments rest [] plain-i plain-s holds some e = absurd (some refl)
text_goes_on Q plain-of [] segments rest (c ∷ cut) plain-i plain-s holds some e =
    elim (instance_goes_on Q plain-of segments rest c (behind_instance cut) plain-s holds.0 (closed_behind_instance cut) (e ∙ text_parts c cut)) [
      | inl begins ↦ inl begins
      | inr none ↦ inr (none.0, none.2)
    ]
text_goes_on Q plain-of (i ∷ instances) segments rest (c ∷ []) plain-i plain-s holds some e =
    let parts = same_instance i c (comma ∷ (closed_text instances segments ++ rest)) [] plain-i.0
    (all_from Q IsPlainSegment plain-of c holds.0) refl tt
    (sym (first_instance i instances segments rest) ∙ e ∙ text_parts c []) in
    let cells : comma ∷ (closed_text instances segments ++ rest) ≡ [] = parts.1 in
    absurd (cc)
text_goes_on Q plain-of (i ∷ instances) segments rest (c ∷ d ∷ cut) plain-i plain-s holds some e =
    let parts = same_instance i c (comma ∷ (closed_text instances segments ++ rest))
    (comma ∷ cut_text (d ∷ cut)) plain-i.0 (all_from Q IsPlainSegment plain-of c holds.0) refl refl
    (sym (first_instance i instances segments rest) ∙ e) in
    let cells : comma ∷ (closed_text instances segments ++ rest) ≡ comma ∷ cut_text (d ∷ cut) = parts.1 in
    let tails : closed_text instances segments ++ rest ≡ cut_text (d ∷ cut) = cc in
    text_goes_on Q plain-of instances segments rest (d ∷ cut) plain-i.1 plain-s holds.1 (λ no. cc) tails

-- whole segments before what begins with none
same_segments : (Q : Segment → Type 0) → ((s : Segment) → Q s → IsPlainSegment s) →
    (a b : List Segment) (x y : List ℕ) → AllByRecursion Q a → AllByRecursion Q b → (BeginsWith Q x → ⊥) → (BeginsWith Q y → ⊥)
    → flat_map before_slash a ++ x ≡ flat_map before_slash b ++ y → a ≡ b
same_segments Q plain-of [] [] x y holds-a holds-b none-x none-y e = refl
same_segments Q plain-of [] (t ∷ ts) x y holds-a holds-b none-x none-y e =
    absurd (none-x (record {
      segment = t;
      behind = slash ∷ (flat_map before_slash ts ++ y);
      parts = e
          ∙ first_segment t ts y;
      holds = holds-b.0;
      closed = inl refl;
    }))
same_segments Q plain-of (s ∷ ss) [] x y holds-a holds-b none-x none-y e =
    absurd (none-y (record {
      segment = s;
      behind = slash ∷ (flat_map before_slash ss ++ x);
      parts = sym e
          ∙ first_segment s ss x;
      holds = holds-a.0;
      closed = inl refl;
    }))
same_segments Q plain-of (s ∷ ss) (t ∷ ts) x y holds-a holds-b none-x none-y e =
    let parts = same_segment s t (slash ∷ (flat_map before_slash ss ++ x)) (slash ∷ (flat_map before_slash ts ++ y))
    (plain-of s holds-a.0) (plain-of t holds-b.0) (inl refl) (inl refl)
    (sym (first_segment s ss x) ∙ e ∙ first_segment t ts y) in
    let cells : slash ∷ (flat_map before_slash ss ++ x) ≡ slash ∷ (flat_map before_slash ts ++ y) = parts.1 in
    let tails : flat_map before_slash ss ++ x ≡ flat_map before_slash ts ++ y = cc in
    let others = same_segments Q plain-of ss ts x y holds-a.1 holds-b.1 none-x none-y tails in
    ap (λ (h : Segment). h ∷ ss) parts.0 ∙ ap (λ (l : List Segment). t ∷ l) others

-- what goes on with neither a segment nor an empty instance that a comma or the end closes
pub record IsStuck (Q : Segment → Type 0) (segments : List Segment) (rest : List ℕ) : Type 0 where
  pub no_segment : BeginsWith Q rest → ⊥
  pub no_empty : segments ≡ [] → EndsOr comma rest → ⊥

instance_is_not_stuck : (Q : Segment → Type 0) → ((s : Segment) → Q s → IsPlainSegment s) →
    (segments : List Segment) (rest : List ℕ) (i : List Segment) (x : List ℕ) → AllByRecursion Q segments →
    AllByRecursion Q i → EndsOr comma x → IsStuck Q segments rest
    → flat_map before_slash segments ++ rest ≡ instance_text i ++ x → ⊥
instance_is_not_stuck Q plain-of segments rest i x holds holds-i closed stuck e =
    elim (instance_goes_on Q plain-of segments rest i x (all_from Q IsPlainSegment plain-of segments holds) holds-i closed e) [
      | inl begins ↦ stuck.no_segment begins
      | inr none ↦ stuck.no_empty none.0 none.2
    ]

-- whole instances and segments before the place where a text is stuck
pub same_closed : (Q : Segment → Type 0) → ((s : Segment) → Q s → IsPlainSegment s) →
    (a b : List (List Segment)) (s t : List Segment) (x y : List ℕ) → AllByRecursion (AllByRecursion Q) a →
    AllByRecursion (AllByRecursion Q) b → AllByRecursion Q s → AllByRecursion Q t → IsStuck Q s x → IsStuck Q t y
    → closed_text a s ++ x ≡ closed_text b t ++ y → (a ≡ b) × (s ≡ t)
same_closed Q plain-of [] [] s t x y holds-a holds-b holds-s holds-t stuck-x stuck-y e =
    (refl, same_segments Q plain-of s t x y holds-s holds-t stuck-x.no_segment stuck-y.no_segment e)
same_closed Q plain-of [] (j ∷ b) s t x y holds-a holds-b holds-s holds-t stuck-x stuck-y e =
    absurd (instance_is_not_stuck Q plain-of s x j (comma ∷ (closed_text b t ++ y)) holds-s holds-b.0 refl stuck-x (e ∙ first_instance j b t y))
same_closed Q plain-of (i ∷ a) [] s t x y holds-a holds-b holds-s holds-t stuck-x stuck-y e =
    absurd (instance_is_not_stuck Q plain-of t y i (comma ∷ (closed_text a s ++ x)) holds-t holds-a.0 refl stuck-y (sym e ∙ first_instance i a s x))
same_closed Q plain-of (i ∷ a) (j ∷ b) s t x y holds-a holds-b holds-s holds-t stuck-x stuck-y e =
    let parts = same_instance i j (comma ∷ (closed_text a s ++ x)) (comma ∷ (closed_text b t ++ y))
    (all_from Q IsPlainSegment plain-of i holds-a.0) (all_from Q IsPlainSegment plain-of j holds-b.0) refl refl
    (sym (first_instance i a s x) ∙ e ∙ first_instance j b t y) in
    let cells : comma ∷ (closed_text a s ++ x) ≡ comma ∷ (closed_text b t ++ y) = parts.1 in
    let tails : closed_text a s ++ x ≡ closed_text b t ++ y = cc in
    let others = same_closed Q plain-of a b s t x y holds-a.1 holds-b.1 holds-s holds-t stuck-x stuck-y tails in
    (ap (λ (h : List Segment). h ∷ a) parts.0 ∙ ap (λ (l : List (List Segment)). j ∷ l) others.0, others.1)
