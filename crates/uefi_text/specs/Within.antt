-- For private functions of the reader: where a text is cut.
use Rattle.std.specs.Prelude.{◌≡◌, ◌≢◌, ℕ, ◌+◌, List, ◌∷◌, ◌++◌, length}
use Rattle.std.specs.List.{AllByRecursion}

-- the mark is not in the text
abbrev pub Lacks : ℕ → List ℕ → Type 0
Lacks mark text = AllByRecursion (λ byte. byte ≢ mark) text

-- the text is cut at its first mark
pub record IsAroundMark (mark : ℕ) (text front behind : List ℕ) : Type 0 where
  pub parts : text ≡ front ++ (mark ∷ behind)
  pub lacks : Lacks mark front
  pub len : length text ≡ length front + 1 + length behind
