-- The list of paths of a load option, whose paths are one after the other.
use Rattle.std.proofs.Common.{◌≡◌, ◌≢◌, ◌⊎◌, ℕ, zero, suc, ◌+◌, ◌<◌, ◌≤◌, List, [], ◌∷◌, ◌++◌, length, take, drop, refl, sym, ap, subst}
use Rattle.std.proofs.Common.{◌∙◌, inl, inr, arith, append_assoc}
use Rattle.std.specs.List.{AllByRecursion, flat_map}
use Rattle.std.proofs.lemmas.Grind.{flat_map-append}
use Rattle.std.proofs.lemmas.Bool.{cases_lt}
use Rattle.std.proofs.lemmas.List.{take-append-drop, take_at, length-append, length-take-le, append-nil}
use Rattle.uefi_path.specs.declared.node.Node.{Node}
use Rattle.uefi_path.specs.declared.fault.PathFault.{PathFault}
use Rattle.uefi_path.specs.Row.{IsByte, row_bytes}
use Rattle.uefi_path.specs.Node.{node_bytes}
use Rattle.uefi_path.specs.Path.{IsPath, SpellsPath, IsPathFront, path_bytes, end_before}
use Rattle.uefi_path.specs.Fault.{IsFirstFault as IsFirstPathFault}
use Rattle.uefi_option.specs.LoadOption.{list_bytes}
use Rattle.uefi_option.proofs.Bytes.{AllByRecursion-append, AllByRecursion-behind}

abbrev pub Path : Type 0
Path = List (List Node)

-- ---- the laws of paths that lemmas take, each as its function states it

abbrev pub OnePath : Type 0
OnePath = (bytes : List ℕ) (p q : Path) → SpellsPath bytes p → SpellsPath bytes q → p ≡ q

abbrev pub NoneBegins : Type 0
NoneBegins = (bytes more : List ℕ) (p q : Path) → SpellsPath bytes p → SpellsPath (bytes ++ more) q → more ≡ []

abbrev pub NoFault : Type 0
NoFault = (bytes : List ℕ) (fault : PathFault) (path : Path) (n : ℕ) → IsFirstPathFault bytes fault → IsPathFront bytes path n → ⊥

abbrev pub Begins : Type 0
Begins =
    (bytes : List ℕ) → AllByRecursion IsByte bytes → ((path : Path) × (n : ℕ) × IsPathFront bytes path n) ⊎ ((fault : PathFault) × IsFirstPathFault bytes fault)

-- ---- one path

pub path_some : (p : Path) → IsPath p → 0 < length (path_bytes p)
path_some [] is = absurd (is.some refl)
path_some (nodes ∷ others) is =
    omega (
      arith,
      length-append (flat_map node_bytes nodes) (row_bytes (end_before others) ++ path_bytes others),
      length-append (row_bytes (end_before others)) (path_bytes others),
    )

-- a path at the start of some bytes, and what comes after it
pub front_parts : (bytes : List ℕ) (p : Path) (n : ℕ) → IsPathFront bytes p n → (bytes ≡ path_bytes p ++ drop n bytes) × (n ≡ length (path_bytes p))
front_parts bytes p n front =
    let whole : take n bytes ++ drop n bytes ≡ bytes = take-append-drop n bytes in
    let size : length (take n bytes) ≡ n = length-take-le n bytes front.within in
    (sym whole ∙ ap (λ (t : List ℕ). t ++ drop n bytes) front.spelled.1, sym size ∙ ap length front.spelled.1)

pub is_front : (bytes : List ℕ) (p : Path) (rest : List ℕ) → IsPath p → bytes ≡ path_bytes p ++ rest → IsPathFront bytes p (length (path_bytes p))
is_front bytes p rest is e =
    let size : length bytes ≡ length (path_bytes p) + length rest = ap length e ∙ length-append (path_bytes p) rest in
    record { within = omega arith; spelled = (is, ap (take (length (path_bytes p))) e ∙ take_at (path_bytes p) rest (length (path_bytes p)) refl) }

-- of two prefixes of one list the shorter begins the longer
pub cut : (a b x y : List ℕ) → a ++ x ≡ b ++ y → length a ≤ length b → (more : List ℕ) × (b ≡ a ++ more) × (x ≡ more ++ y)
cut [] b x y e le = (b, refl, e)
cut (c ∷ a) [] x y e le = absurd (omega (arith, le))
cut (c ∷ a) (d ∷ b) x y e le =
    let head : d ≡ c = cc in
    let tail : a ++ x ≡ b ++ y = cc in
    let h = cut a b x y tail (omega (arith, le)) in
    (h.0, ap (λ (t : List ℕ). d ∷ t) h.1 ∙ ap (λ (k : ℕ). k ∷ (a ++ h.0)) head, h.2)

nested : OnePath → NoneBegins → (p q : Path) (x y : List ℕ) → IsPath p → IsPath q → path_bytes p ++ x ≡ path_bytes q ++ y →
    length (path_bytes p) ≤ length (path_bytes q) → (p ≡ q) × (x ≡ y)
nested one none p q x y is-p is-q e le =
    let h = cut (path_bytes p) (path_bytes q) x y e le in
    let no_more : h.0 ≡ [] = none (path_bytes p) h.0 p q (is-p, refl) (is-q, sym h.1) in
    let same : path_bytes p ≡ path_bytes q = sym (h.1 ∙ ap (λ (t : List ℕ). path_bytes p ++ t) no_more ∙ append-nil (path_bytes p)) in
    (one (path_bytes p) p q (is-p, refl) (is-q, same), h.2 ∙ ap (λ (t : List ℕ). t ++ y) no_more)

same_front_path : OnePath → NoneBegins → (p q : Path) (x y : List ℕ) → IsPath p → IsPath q → path_bytes p ++ x ≡ path_bytes q ++ y → (p ≡ q) × (x ≡ y)
same_front_path one none p q x y is-p is-q e =
    elim (cases_lt (length (path_bytes q)) (length (path_bytes p))) [
      | inl lt ↦ let h = nested one none q p y x is-q is-p (sym e) (omega arith) in (sym h.0, sym h.1)
      | inr le ↦ nested one none p q x y is-p is-q e le
    ]

-- ---- several paths

-- no path begins here
abbrev pub Stops : List ℕ → Type 0
Stops rest = (path : Path) (n : ℕ) → IsPathFront rest path n → ⊥

pub end_stops : Stops []
end_stops path n front =
    let parts = front_parts [] path n front in
    let size : 0 ≡ length (path_bytes path) + length (drop n []) = ap length parts.0 ∙ length-append (path_bytes path) (drop n []) in
    omega (arith, path_some path front.spelled.0)

pub fault_stops : NoFault → (rest : List ℕ) (fault : PathFault) → IsFirstPathFault rest fault → Stops rest
fault_stops none rest fault first path n front = none rest fault path n first front

pub same_paths : OnePath → NoneBegins → (ps qs : List Path) (x y : List ℕ) → AllByRecursion IsPath ps →
    AllByRecursion IsPath qs → Stops x → Stops y → list_bytes ps ++ x ≡ list_bytes qs ++ y → (ps ≡ qs) × (x ≡ y)
same_paths one none [] [] x y are-p are-q stops-x stops-y e = (refl, e)
same_paths one none [] (q ∷ qs) x y are-p are-q stops-x stops-y e =
    absurd (stops-x q (length (path_bytes q)) (is_front x q (list_bytes qs ++ y) are-q.0 (e ∙ append_assoc (path_bytes q) (list_bytes qs) y)))
same_paths one none (p ∷ ps) [] x y are-p are-q stops-x stops-y e =
    absurd (stops-y p (length (path_bytes p)) (is_front y p (list_bytes ps ++ x) are-p.0 (sym e ∙ append_assoc (path_bytes p) (list_bytes ps) x)))
same_paths one none (p ∷ ps) (q ∷ qs) x y are-p are-q stops-x stops-y e =
    let regrouped : path_bytes p ++ (list_bytes ps ++ x) ≡ path_bytes q ++ (list_bytes qs ++ y) =
    sym (append_assoc (path_bytes p) (list_bytes ps) x) ∙ e ∙ append_assoc (path_bytes q) (list_bytes qs) y in
    let here = same_front_path one none p q (list_bytes ps ++ x) (list_bytes qs ++ y) are-p.0 are-q.0 regrouped in
    let others = same_paths one none ps qs x y are-p.1 are-q.1 stops-x stops-y here.1 in
    (ap (λ (r : Path). r ∷ ps) here.0 ∙ ap (λ (t : List Path). q ∷ t) others.0, others.1)

pub list_some : (ps : List Path) → AllByRecursion IsPath ps → ps ≢ [] → 0 < length (list_bytes ps)
list_some [] are some = absurd (some refl)
list_some (p ∷ ps) are some = omega (arith, path_some p are.0, length-append (path_bytes p) (list_bytes ps))

-- ---- how far a list was read

-- the list up to the rest is the spellings of these paths
pub record HasPaths (list : List ℕ) (paths : List Path) (rest : List ℕ) : Type 0 where
  pub whole : AllByRecursion IsPath paths
  pub parts : list ≡ list_bytes paths ++ rest

pub one_path : (list : List ℕ) (paths : List Path) (rest : List ℕ) (path : Path) (n : ℕ) → HasPaths list paths rest →
    IsPathFront rest path n → HasPaths list (paths ++ path ∷ []) (drop n rest)
one_path list paths rest path n has front =
    let split = front_parts rest path n front in
    let more : list_bytes (paths ++ path ∷ []) ≡ list_bytes paths ++ path_bytes path =
    flat_map-append path_bytes paths (path ∷ []) ∙ ap (λ (t : List ℕ). list_bytes paths ++ t) (append-nil (path_bytes path)) in
    record {
      whole = AllByRecursion-append IsPath paths (path ∷ []) has.whole (front.spelled.0, tt);
      parts = has.parts ∙ ap (λ (t : List ℕ). list_bytes paths ++ t) split.0
          ∙ sym (append_assoc (list_bytes paths) (path_bytes path) (drop n rest)) ∙ ap (λ (t : List ℕ). t ++ drop n rest) (sym more);
    }

pub takes_some : (rest : List ℕ) (path : Path) (n : ℕ) → IsPathFront rest path n → 0 < n
takes_some rest path n front = omega (arith, path_some path front.spelled.0, (front_parts rest path n front).1)

-- ---- every list is paths, or has a fault

-- whole paths, and a rest with this first fault
pub record HasFault (list : List ℕ) (paths : List Path) (rest : List ℕ) (fault : PathFault) : Type 0 where
  pub before : HasPaths list paths rest
  pub some : rest ≢ []
  pub first : IsFirstPathFault rest fault

abbrev pub Reads : List ℕ → Type 0
Reads list = ((paths : List Path) × HasPaths list paths []) ⊎ ((paths : List Path) × (rest : List ℕ) × (fault : PathFault) × HasFault list paths rest fault)

reads : Begins → (n : ℕ) (list : List ℕ) (paths : List Path) (rest : List ℕ) → length rest < n → AllByRecursion IsByte rest →
    HasPaths list paths rest → Reads list
reads begins zero list paths rest less fits has = absurd (omega (arith, less))
reads begins (suc n) list paths [] less fits has = inl (paths, has)
reads begins (suc n) list paths (b ∷ rest) less fits has =
    elim (begins (b ∷ rest) fits) [
      | inl front ↦
          let split = front_parts (b ∷ rest) front.0 front.1 front.2 in
          let some = path_some front.0 front.2.spelled.0 in
          let size : length (b ∷ rest) ≡ length (path_bytes front.0) + length (drop front.1 (b ∷ rest)) =
          ap length split.0 ∙ length-append (path_bytes front.0) (drop front.1 (b ∷ rest)) in
          reads begins n list (paths ++ front.0 ∷ []) (drop front.1 (b ∷ rest)) (omega (arith, less, some, size))
          (AllByRecursion-behind IsByte (path_bytes front.0) (drop front.1 (b ∷ rest)) (subst (AllByRecursion IsByte) split.0 fits))
          (one_path list paths (b ∷ rest) front.0 front.1 has front.2)
      | inr stop ↦ inr (paths, b ∷ rest, stop.0, record { before = has; some = λ e. cc; first = stop.1 })
    ]

pub list_reads : Begins → (list : List ℕ) → AllByRecursion IsByte list → Reads list
list_reads begins list fits = reads begins (length list + 1) list [] list (omega arith) fits (record { whole = tt; parts = refl })
