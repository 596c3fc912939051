-- One load option for each spelling, and one first fault if there is none.
use Rattle.std.proofs.Common.{◌≡◌, ◌≢◌, ◌⊎◌, ℕ, ◌+◌, ◌<◌, ◌≤◌, List, [], ◌∷◌, ◌++◌, length, take, drop, refl, sym, ap, subst, ◌∙◌, inl}
use Rattle.std.proofs.Common.{inr, arith, append_assoc}
use Rattle.std.specs.Int.{w16, to_le_bytes}
use Rattle.std.specs.List.{AllByRecursion}
use Rattle.std.proofs.lemmas.List.{length-append, append-nil, take_at, drop_at, nil_from_length}
use Rattle.uefi_path.specs.declared.fault.PathFault.{PathFault}
use Rattle.uefi_path.specs.Units.{units_bytes}
use Rattle.uefi_path.specs.Row.{IsByte}
use Rattle.uefi_path.specs.Path.{IsPath, SpellsPath, path_bytes}
use Rattle.uefi_path.specs.Fault.{IsFirstFault as IsFirstPathFault}
use Rattle.uefi_option.specs.declared.fault.OptionFault.{OptionFault}
use Rattle.uefi_option.specs.declared.fault.OptionFault.TheVariants as fault
use Rattle.uefi_option.specs.LoadOption.{OptionParts, option_parts, header_bytes, description_bytes, list_bytes, option_bytes, IsOption, SpellsOption}
use Rattle.uefi_option.specs.Fault.{IsFront, IsFirstFault}
use Rattle.uefi_option.proofs.Bytes.{AllByRecursion-append}
use Rattle.uefi_option.proofs.Fronts.{AreFront, SameFront, same_front, unclosed}
use Rattle.uefi_option.proofs.Units.{TwoBytesEach}
use Rattle.uefi_option.proofs.Lists.{Path, OnePath, NoneBegins, NoFault, HasFault, same_paths, list_some, end_stops, fault_stops}

abbrev pub OneFault : Type 0
OneFault = (bytes : List ℕ) (f g : PathFault) → IsFirstPathFault bytes f → IsFirstPathFault bytes g → f ≡ g

abbrev pub EachSpelled : Type 0
EachSpelled = (path : Path) → IsPath path → (bytes : List ℕ) × SpellsPath bytes path × AllByRecursion IsByte bytes

-- ---- what comes after the prefix

-- the input is a prefix that states this length, and a rest
record HasFront (input : List ℕ) (attributes len : ℕ) (units rest : List ℕ) : Type 0 where
  front : AreFront attributes len units
  parts : input ≡ header_bytes attributes len ++ (description_bytes units ++ rest)

same_behind : (input : List ℕ) (a b l m : ℕ) (us vs x y : List ℕ) → HasFront input a l us x → HasFront input b m vs y → SameFront a b l m us vs x y
same_behind input a b l m us vs x y first second = same_front a b l m us vs x y first.front second.front (sym first.parts ∙ second.parts)

front_of : (input front : List ℕ) (len : ℕ) (rest : List ℕ) (is : IsFront front len) → input ≡ front ++ rest → HasFront input is.attributes len is.units rest
front_of input front len rest is parts = record {
  front = record { four_bytes = is.four_bytes; two_bytes = is.two_bytes; nonzero = is.nonzero };
  parts = parts ∙ ap (λ (t : List ℕ). t ++ rest) is.is ∙ append_assoc (header_bytes is.attributes len) (description_bytes is.units) rest;
}

option_front : (input : List ℕ) (o : OptionParts) → SpellsOption input o →
    HasFront input o.attributes (length (list_bytes o.paths)) o.description (list_bytes o.paths ++ o.optional)
option_front input o spelled = record {
  front = record { four_bytes = spelled.0.attributes; two_bytes = let len = spelled.0.len in omega (arith, len); nonzero = spelled.0.description };
  parts = spelled.1;
}

-- lists of one length at the start are one list
same_size : (a b x y : List ℕ) → length a ≡ length b → a ++ x ≡ b ++ y → (a ≡ b) × (x ≡ y)
same_size a b x y size e = (
  sym (take_at a x (length b) size) ∙ ap (take (length b)) e ∙ take_at b y (length b) refl,
  sym (drop_at a x (length b) size) ∙ ap (drop (length b)) e ∙ drop_at b y (length b) refl,
)

-- ---- one option

pub same_option : OnePath → NoneBegins → (bytes : List ℕ) (o p : OptionParts) → SpellsOption bytes o → SpellsOption bytes p → o ≡ p
same_option one none bytes o p first second =
    let same = same_behind bytes _ _ _ _ _ _ _ _ (option_front bytes o first) (option_front bytes p second) in
    let lists = same_size (list_bytes o.paths) (list_bytes p.paths) o.optional p.optional same.len same.rest in
    let paths = same_paths one none o.paths p.paths [] [] first.0.paths second.0.paths end_stops end_stops (ap (λ (t : List ℕ). t ++ []) lists.0) in
    ap (λ (n : ℕ). option_parts n o.description o.paths o.optional) same.attributes
    ∙ ap (λ (t : List ℕ). option_parts p.attributes t o.paths o.optional) same.units
    ∙ ap (λ (t : List Path). option_parts p.attributes p.description t o.optional) paths.0
    ∙ ap (λ (t : List ℕ). option_parts p.attributes p.description p.paths t) lists.1

-- ---- each option is spelled by bytes

list_is_bytes : EachSpelled → (paths : List Path) → AllByRecursion IsPath paths → AllByRecursion IsByte (list_bytes paths)
list_is_bytes each [] are = tt
list_is_bytes each (path ∷ paths) are =
    let spelled = each path are.0 in
    AllByRecursion-append IsByte (path_bytes path) (list_bytes paths) (subst (AllByRecursion IsByte) spelled.1.1 spelled.2) (list_is_bytes each paths are.1)

header_is_bytes : (attributes len : ℕ) → AllByRecursion IsByte (header_bytes attributes len)
header_is_bytes attributes len = (omega arith, (omega arith, (omega arith, (omega arith, (omega arith, (omega arith, tt))))))

pub option_is_bytes : EachSpelled → TwoBytesEach → (o : OptionParts) → IsOption o → AllByRecursion IsByte (option_bytes o)
option_is_bytes each two o is =
    let zero : AllByRecursion IsByte (to_le_bytes w16 0) = (omega arith, (omega arith, tt)) in
    AllByRecursion-append IsByte (header_bytes o.attributes (length (list_bytes o.paths)))
    (description_bytes o.description ++ (list_bytes o.paths ++ o.optional))
    (header_is_bytes o.attributes (length (list_bytes o.paths)))
    (AllByRecursion-append IsByte (description_bytes o.description) (list_bytes o.paths ++ o.optional)
    (AllByRecursion-append IsByte (units_bytes o.description) (to_le_bytes w16 0) (two o.description).0 zero)
    (AllByRecursion-append IsByte (list_bytes o.paths) o.optional (list_is_bytes each o.paths is.paths) is.optional))

-- ---- the first fault

-- the rest begins with a list of this length, in which the fault is
record HasPathFault (start len : ℕ) (rest : List ℕ) (f : OptionFault) : Type 0 where
  place : ℕ
  path_fault : PathFault
  paths : List Path
  left : List ℕ
  list : List ℕ
  optional : List ℕ
  is : f ≡ fault.Path place path_fault
  parts : rest ≡ list ++ optional
  size : length list ≡ len
  at : place ≡ start + length (list_bytes paths)
  has : HasFault list paths left path_fault

-- after a prefix that states this length comes this rest, and the fault is one of these
abbrev Behind : ℕ → ℕ → List ℕ → OptionFault → Type 0
Behind start len rest f =
    ((f ≡ fault.ListPastEnd len (length rest)) × (length rest < len)) ⊎ (((f ≡ fault.EmptyList) × (len ≡ 0)) ⊎ HasPathFault start len rest f)

-- how many bytes a prefix with these units has
abbrev start_of : List ℕ → ℕ
start_of units = 8 + length (units_bytes units)

record IsBehind (input : List ℕ) (f : OptionFault) : Type 0 where
  attributes : ℕ
  len : ℕ
  units : List ℕ
  rest : List ℕ
  front : HasFront input attributes len units rest
  behind : Behind (start_of units) len rest f

record IsOpen (input : List ℕ) : Type 0 where
  attributes : ℕ
  len : ℕ
  units : List ℕ
  left : List ℕ
  front : AreFront attributes len units
  half : length left < 2
  parts : input ≡ header_bytes attributes len ++ (units_bytes units ++ left)

-- a first fault is one of three kinds
abbrev Kinds : List ℕ → OptionFault → Type 0
Kinds input f = ((length input < 6) × (f ≡ fault.Short (length input))) ⊎ ((IsOpen input × (f ≡ fault.NoTerminator)) ⊎ IsBehind input f)

front_len : (front : List ℕ) (len : ℕ) (is : IsFront front len) → length front ≡ start_of is.units
front_len front len is = ap length is.is ∙ omega (arith, length-append (units_bytes is.units) (to_le_bytes w16 0))

kind_of : (input : List ℕ) (f : OptionFault) → IsFirstFault input f → Kinds input f
kind_of input (fault.Short found) h = inl (h.1, ap (λ (n : ℕ). fault.Short n) h.0)
kind_of input fault.NoTerminator h =
    inr (inl (
      record {
        attributes = h.attributes;
        len = h.len;
        units = h.units;
        left = h.left;
        front = record { four_bytes = h.four_bytes; two_bytes = h.two_bytes; nonzero = h.nonzero };
        half = h.half;
        parts =
            h.parts;
      },
      refl,
    ))
kind_of input (fault.ListPastEnd stated left) h =
    inr (inr (record {
      attributes = h.before.attributes;
      len = stated;
      units = h.before.units;
      rest = h.rest;
      front = front_of input h.front stated h.rest h.before h.parts;
      behind = inl (ap (λ (n : ℕ). fault.ListPastEnd stated n) h.size, h.past);
    }))
kind_of input fault.EmptyList h =
    inr (inr (record {
      attributes = h.before.attributes;
      len = 0;
      units = h.before.units;
      rest = h.rest;
      front = front_of input h.front 0 h.rest h.before h.parts;
      behind = inr (inl (refl, refl));
    }))
kind_of input (fault.Path place path_fault) h =
    let list = list_bytes h.paths ++ h.rest in
    let start : length h.front ≡ start_of h.before.units = front_len h.front (length list) h.before in
    inr (inr (record {
      attributes = h.before.attributes;
      len = length list;
      units = h.before.units;
      rest = list ++ h.optional;
      front = front_of input h.front (length list) (list ++ h.optional) h.before h.parts;
      behind = inr (inr (record {
        place = place;
        path_fault = path_fault;
        paths = h.paths;
        left = h.rest;
        list = list;
        optional = h.optional;
        is = refl;
        parts = refl;
        size = refl;
        at = h.at ∙ length-append h.front (list_bytes h.paths) ∙ ap (λ (n : ℕ). n + length (list_bytes h.paths)) start;
        has = record { before = record { whole = h.whole; parts = refl }; some = h.some; first = h.first };
      }));
    }))
kind_of input fault.ZeroUnit h = absurd h
kind_of input fault.ListTooLong h = absurd h
kind_of input fault.OutOfMemory h = absurd h

-- two faults after one prefix are one
same_list_fault : OnePath → NoneBegins → NoFault → OneFault →
    (list : List ℕ) (ps qs : List Path) (x y : List ℕ) (f g : PathFault) → HasFault list ps x f → HasFault list qs y g →
    (ps ≡ qs) × (f ≡ g)
same_list_fault one none no_fault one_fault list ps qs x y f g first second =
    let same = same_paths one none ps qs x y first.before.whole second.before.whole (fault_stops no_fault x f first.first)
    (fault_stops no_fault y g second.first) (sym first.before.parts ∙ second.before.parts) in
    (same.0, one_fault y f g (subst (λ (t : List ℕ). IsFirstPathFault t f) same.1 first.first) second.first)

rest_size : (start len : ℕ) (rest : List ℕ) (f : OptionFault) (h : HasPathFault start len rest f) → len ≤ length rest
rest_size start len rest f h = let size : length rest ≡ length h.list + length h.optional =
    ap length h.parts ∙ length-append h.list h.optional in omega (arith, h.size)

list_is_some : (start len : ℕ) (rest : List ℕ) (f : OptionFault) (h : HasPathFault start len rest f) → 0 < len
list_is_some start len rest f h =
    let size : length h.list ≡ length (list_bytes h.paths) + length h.left = ap length h.has.before.parts ∙ length-append (list_bytes h.paths) h.left in
    let left : length h.left ≢ 0 = λ none. h.has.some (nil_from_length h.left none) in
    omega (arith, h.size)

same_path_fault : OnePath → NoneBegins → NoFault → OneFault → (start len : ℕ) (rest : List ℕ) (f g : OptionFault) →
    HasPathFault start len rest f → HasPathFault start len rest g → f ≡ g
same_path_fault one none no_fault one_fault start len rest f g x y =
    let lists = same_size x.list y.list x.optional y.optional (x.size ∙ sym y.size) (sym x.parts ∙ y.parts) in
    let faults = same_list_fault one none no_fault one_fault y.list x.paths y.paths x.left y.left x.path_fault y.path_fault
    (subst (λ (t : List ℕ). HasFault t x.paths x.left x.path_fault) lists.0 x.has) y.has in
    let place : x.place ≡ y.place = x.at ∙ ap (λ (ps : List Path). start + length (list_bytes ps)) faults.0 ∙ sym y.at in
    x.is ∙ ap (λ (n : ℕ). fault.Path n x.path_fault) place ∙ ap (λ (h : PathFault). fault.Path y.place h) faults.1 ∙ sym y.is

same_behind_fault : OnePath → NoneBegins → NoFault → OneFault → (start len : ℕ) (rest : List ℕ) (f g : OptionFault) →
    Behind start len rest f → Behind start len rest g → f ≡ g
same_behind_fault one none no_fault one_fault start len rest f g (inl x) (inl y) = x.0 ∙ sym y.0
same_behind_fault one none no_fault one_fault start len rest f g (inl x) (inr (inl y)) = absurd (omega (arith, x.1, y.1))
same_behind_fault one none no_fault one_fault start len rest f g (inl x) (inr (inr y)) = absurd (omega (arith, x.1, rest_size start len rest g y))
same_behind_fault one none no_fault one_fault start len rest f g (inr (inl x)) (inl y) = absurd (omega (arith, x.1, y.1))
same_behind_fault one none no_fault one_fault start len rest f g (inr (inl x)) (inr (inl y)) = x.0 ∙ sym y.0
same_behind_fault one none no_fault one_fault start len rest f g (inr (inl x)) (inr (inr y)) = absurd (omega (arith, x.1, list_is_some start len rest g y))
same_behind_fault one none no_fault one_fault start len rest f g (inr (inr x)) (inl y) = absurd (omega (arith, y.1, rest_size start len rest f x))
same_behind_fault one none no_fault one_fault start len rest f g (inr (inr x)) (inr (inl y)) = absurd (omega (arith, y.1, list_is_some start len rest f x))
same_behind_fault one none no_fault one_fault start len rest f g (inr (inr x)) (inr (inr y)) =
    same_path_fault one none no_fault one_fault start len rest f g x y

front_size : (input : List ℕ) (a l : ℕ) (us x : List ℕ) → HasFront input a l us x → 6 ≤ length input
front_size input a l us x h = let size : length input ≡ 6 + length (description_bytes us ++ x) = ap length h.parts ∙ omega arith in omega arith

open_size : (input : List ℕ) → IsOpen input → 6 ≤ length input
open_size input h = let size : length input ≡ 6 + length (units_bytes h.units ++ h.left) = ap length h.parts ∙ omega arith in omega arith

not_open : (input : List ℕ) (a l : ℕ) (us x : List ℕ) → IsOpen input → HasFront input a l us x → ⊥
not_open input a l us x h front = unclosed h.attributes a h.len l h.units us h.left x h.front front.front h.half (sym h.parts ∙ front.parts)

same_kind : OnePath → NoneBegins → NoFault → OneFault → (input : List ℕ) (f g : OptionFault) → Kinds input f → Kinds input g → f ≡ g
same_kind one none no_fault one_fault input f g (inl x) (inl y) = x.1 ∙ sym y.1
same_kind one none no_fault one_fault input f g (inl x) (inr (inl y)) = absurd (omega (arith, x.0, open_size input y.0))
same_kind one none no_fault one_fault input f g (inl x) (inr (inr y)) = absurd (omega (arith, x.0, front_size input y.attributes y.len y.units y.rest y.front))
same_kind one none no_fault one_fault input f g (inr (inl x)) (inl y) = absurd (omega (arith, y.0, open_size input x.0))
same_kind one none no_fault one_fault input f g (inr (inl x)) (inr (inl y)) = x.1 ∙ sym y.1
same_kind one none no_fault one_fault input f g (inr (inl x)) (inr (inr y)) = absurd (not_open input y.attributes y.len y.units y.rest x.0 y.front)
same_kind one none no_fault one_fault input f g (inr (inr x)) (inl y) = absurd (omega (arith, y.0, front_size input x.attributes x.len x.units x.rest x.front))
same_kind one none no_fault one_fault input f g (inr (inr x)) (inr (inl y)) = absurd (not_open input x.attributes x.len x.units x.rest y.0 x.front)
same_kind one none no_fault one_fault input f g (inr (inr x)) (inr (inr y)) =
    let same = same_behind input x.attributes y.attributes x.len y.len x.units y.units x.rest y.rest x.front y.front in
    let start = subst (λ (us : List ℕ). Behind (start_of us) x.len x.rest f) same.units x.behind in
    let len = subst (λ (n : ℕ). Behind (start_of y.units) n x.rest f) same.len start in
    let here = subst (λ (t : List ℕ). Behind (start_of y.units) y.len t f) same.rest len in
    same_behind_fault one none no_fault one_fault (start_of y.units) y.len y.rest f g here y.behind

pub same_first_fault : OnePath → NoneBegins → NoFault → OneFault → (input : List ℕ) (f g : OptionFault) → IsFirstFault input f → IsFirstFault input g → f ≡ g
same_first_fault one none no_fault one_fault input f g first second =
    same_kind one none no_fault one_fault input f g (kind_of input f first) (kind_of input g second)

-- ---- what has a fault isn't an option

behind_no_option : OnePath → NoneBegins → NoFault → (o : OptionParts) → IsOption o →
    (start len : ℕ) (rest : List ℕ) (f : OptionFault) → Behind start len rest f → len ≡ length (list_bytes o.paths) →
    rest ≡ list_bytes o.paths ++ o.optional → ⊥
behind_no_option one none no_fault o is start len rest f (inl x) size parts =
    let all : length rest ≡ length (list_bytes o.paths) + length o.optional = ap length parts ∙ length-append (list_bytes o.paths) o.optional in
    omega (arith, x.1)
behind_no_option one none no_fault o is start len rest f (inr (inl x)) size parts = omega (arith, x.1, list_some o.paths is.paths is.some)
behind_no_option one none no_fault o is start len rest f (inr (inr x)) size parts =
    let lists = same_size x.list (list_bytes o.paths) x.optional o.optional (x.size ∙ size) (sym x.parts ∙ parts) in
    let paths = same_paths one none x.paths o.paths x.left [] x.has.before.whole is.paths
    (fault_stops no_fault x.left x.path_fault x.has.first) end_stops
    (sym x.has.before.parts ∙ lists.0 ∙ sym (append-nil (list_bytes o.paths))) in
    x.has.some paths.1

no_kind : OnePath → NoneBegins → NoFault → (input : List ℕ) (f : OptionFault) (o : OptionParts) → Kinds input f → SpellsOption input o → ⊥
no_kind one none no_fault input f o (inl x) spelled = omega (arith, x.0, front_size input _ _ _ _ (option_front input o spelled))
no_kind one none no_fault input f o (inr (inl x)) spelled = not_open input _ _ _ _ x.0 (option_front input o spelled)
no_kind one none no_fault input f o (inr (inr x)) spelled =
    let same = same_behind input _ _ _ _ _ _ _ _ x.front (option_front input o spelled) in
    behind_no_option one none no_fault o spelled.0 (start_of x.units) x.len x.rest f x.behind same.len same.rest

pub fault_leaves_none : OnePath → NoneBegins → NoFault → (input : List ℕ) (f : OptionFault) (o : OptionParts) → IsFirstFault input f → SpellsOption input o → ⊥
fault_leaves_none one none no_fault input f o first spelled = no_kind one none no_fault input f o (kind_of input f first) spelled
