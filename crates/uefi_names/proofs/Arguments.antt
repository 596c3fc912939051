-- Arguments that are left.
use Rattle.std.proofs.Common.{◌≡◌, ◌+◌, ◌-◌, ℕ, zero, suc, List, [], ◌∷◌, map, take, drop, length, length-drop, refl, ap, sym, ◌∙◌, arith, Bor}
use Rattle.std.proofs.lemmas.List.{take_all}
use Rattle.std.specs.Prelude.{Option, Some, None}
use Rattle.uefi_names.specs.declared.table.Item.{Item}
use Rattle.uefi_names.specs.declared.table.Show.{Show}
use Rattle.uefi_names.specs.Spelled.{shown_read}
use Rattle.uefi_names.specs.Read.{items_read, all_read, first_read}

pub mapped_drop : {X Y : Type 0} (f : X → Y) (n : ℕ) (xs : List X) → map f (drop n xs) ≡ drop n (map f xs)
mapped_drop f zero xs = refl
mapped_drop f (suc n) [] = refl
mapped_drop f (suc n) (x ∷ xs) = mapped_drop f n xs

-- a range to the end
whole_rest : {X : Type 0} (n : ℕ) (xs : List X) → take (length xs - n) (drop n xs) ≡ drop n xs
whole_rest n xs = take_all (length xs - n) (drop n xs) (omega (arith, length-drop n xs))

pub rest_is : {X : Type 0} (n : ℕ) (xs found : List X) → take (length xs - n) (drop n xs) ≡ found → drop n xs ≡ found
rest_is n xs found e = sym (whole_rest n xs) ∙ e

none_behind : {X Y : Type 0} (f : X → Y) (xs : List X) → drop (length xs) (map f xs) ≡ []
none_behind f [] = refl
none_behind f (x ∷ xs) = none_behind f xs

next_behind : {X Y : Type 0} (f : X → Y) (n : ℕ) (xs : List X) (x : X) (others : List X) → drop n xs ≡ x ∷ others → map f others ≡ drop (n + 1) (map f xs)
next_behind f zero [] x others e = cc
next_behind f zero (y ∷ xs) x others e = let same : others ≡ xs = cc in ap (map f) same
next_behind f (suc n) [] x others e = cc
next_behind f (suc n) (y ∷ xs) x others e =
    let next : suc n + 1 ≡ suc (n + 1) = omega arith in
    rw next (next_behind f n xs x others e)

abbrev pub Text : Type 0
Text = Bor (List ℕ)

abbrev pub texts : List Text → List (List ℕ)
texts all = map (λ argument. argument.now) all

abbrev pub Taken : Type 0
Taken = Option (List ℕ × List (List ℕ))

-- what is read of the range is read of what is left
read_rest : (item : Item) (size n : ℕ) (all : List Text) → items_read item size [] (drop n (texts all)) ≡ items_read item size [] (texts (take (length all - n) (drop n all)))
read_rest item size n all = ap (items_read item size []) (sym (mapped_drop (λ (a : Text). a.now) n all) ∙ ap texts (sym (whole_rest n all)))

pub all_taken : (item : Item) (size n : ℕ) (all : List Text) (bytes : List ℕ) → Some bytes ≡ items_read item size [] (texts (take (length all - n) (drop n all)))
    → ◌≡◌ {A = Taken} (Some (bytes, drop (length all) (texts all))) (all_read item size (drop n (texts all)))
all_taken item size n all bytes e =
    let read : items_read item size [] (drop n (texts all)) ≡ Some bytes = read_rest item size n all ∙ sym e in
    rw (read, none_behind (λ (a : Text). a.now) all) refl

pub all_refused : (item : Item) (size n : ℕ) (all : List Text) → None ≡ items_read item size [] (texts (take (length all - n) (drop n all)))
    → ◌≡◌ {A = Taken} None (all_read item size (drop n (texts all)))
all_refused item size n all e =
    let read : items_read item size [] (drop n (texts all)) ≡ None = read_rest item size n all ∙ sym e in
    rw read refl

pub first_taken : (show : Show) (len n : ℕ) (all : List Text) (first : Text) (others : List Text) (bytes : List ℕ) → drop n all ≡ first ∷ others → Some bytes ≡ shown_read show len first.now
    → ◌≡◌ {A = Taken} (Some (bytes, drop (n + 1) (texts all))) (first_read show len (drop n (texts all)))
first_taken show len n all first others bytes begins e =
    let left : drop n (texts all) ≡ first.now ∷ texts others = sym (mapped_drop (λ (a : Text). a.now) n all) ∙ ap texts begins in
    rw (left, sym (next_behind (λ (a : Text). a.now) n all first others begins), sym e) refl

pub first_refused : (show : Show) (len n : ℕ) (all : List Text) (first : Text) (others : List Text) → drop n all ≡ first ∷ others → None ≡ shown_read show len first.now
    → ◌≡◌ {A = Taken} None (first_read show len (drop n (texts all)))
first_refused show len n all first others begins e =
    let left : drop n (texts all) ≡ first.now ∷ texts others = sym (mapped_drop (λ (a : Text). a.now) n all) ∙ ap texts begins in
    rw (left, sym e) refl

pub none_left : (show : Show) (len n : ℕ) (all : List Text) → drop n all ≡ [] → ◌≡◌ {A = Taken} None (first_read show len (drop n (texts all)))
none_left show len n all none =
    let left : drop n (texts all) ≡ [] = sym (mapped_drop (λ (a : Text). a.now) n all) ∙ ap texts none in
    rw left refl

-- the text at a place
pub text_here : (n : ℕ) (all : List Text) (first : Text) (others : List Text) → drop n all ≡ first ∷ others → drop n (texts all) ≡ first.now ∷ drop (n + 1) (texts all)
text_here n all first others begins =
    sym (mapped_drop (λ (a : Text). a.now) n all) ∙ (ap texts begins ∙ ap (λ (more : List (List ℕ)). first.now ∷ more) (next_behind (λ (a : Text). a.now) n all first others begins))

pub no_text_here : (n : ℕ) (all : List Text) → drop n all ≡ [] → drop n (texts all) ≡ []
no_text_here n all none = sym (mapped_drop (λ (a : Text). a.now) n all) ∙ ap texts none
