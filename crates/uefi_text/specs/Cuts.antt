-- For private functions of the reader: how a segment is cut off a text.
use Rattle.std.specs.Prelude.{◌≡◌, ℕ, List, [], ◌∷◌, ◌++◌, codes}
use Rattle.std.specs.List.{AllByRecursion, join_with_byte}
use Rattle.uefi_text.specs.declared.segment.Segment as code
use Rattle.uefi_text.specs.declared.segment.Segment.TheVariants.{Named, Bare}
use Rattle.uefi_text.specs.Segment.{Segment, named, bare, comma}
use Rattle.uefi_text.specs.Node.{IsBareName, IsBareUnit}
use Rattle.uefi_text.specs.Fault.{ClosesSegment}
use Rattle.uefi_text.specs.Within.{Lacks}

-- the codes of parentheses
abbrev pub open_mark : ℕ
open_mark = 0x28

abbrev pub close_mark : ℕ
close_mark = 0x29

-- the text begins with a name and with parentheses, in which there are no others, and a segment may end there
pub record IsNamedFront (text name inside behind : List ℕ) : Type 0 where
  pub parts : text ≡ name ++ (open_mark ∷ (inside ++ close_mark ∷ behind))
  pub name_bytes : Lacks open_mark name
  pub no_open : Lacks open_mark inside
  pub no_close : Lacks close_mark inside
  pub closed : ClosesSegment behind

-- the text begins with a backslash
abbrev pub BeginsBare : List ℕ → Type 0
BeginsBare [] = ⊥
BeginsBare (first ∷ _) = first ≡ 0x5C

-- the text begins with a bare path name, and a segment may end there
pub record IsBareFront (text path_name behind : List ℕ) : Type 0 where
  pub parts : text ≡ path_name ++ behind
  pub name : IsBareName path_name
  pub closed : ClosesSegment behind

-- the text ends here, or goes on with what isn't a byte of a bare path name
abbrev pub StopsBare : List ℕ → Type 0
StopsBare [] = Unit {0}
StopsBare (first ∷ _) = IsBareUnit first → ⊥

-- the text is cut after its bytes of a bare path name
pub record IsBareCut (text before behind : List ℕ) : Type 0 where
  pub parts : text ≡ before ++ behind
  pub units : AllByRecursion IsBareUnit before
  pub stops : StopsBare behind

-- the text that was cut off
abbrev pub text_of : code.Segment → List ℕ
text_of (Named name inside) = name.now ++ codes "(" ++ inside.now ++ codes ")"
text_of (Bare text) = text.now

-- what has no parentheses is a bare path name
abbrev pub HasBareName : code.Segment → Type 0
HasBareName (Named _ _) = Unit {0}
HasBareName (Bare text) = IsBareName text.now

-- the text is that of the segment and the rest, and a segment may end between them
pub record IsFront (text : List ℕ) (segment : code.Segment) (rest : List ℕ) : Type 0 where
  pub parts : text ≡ text_of segment ++ rest
  pub bare : HasBareName segment
  pub closed : ClosesSegment rest

abbrev pub IsNamed : List ℕ → List ℕ → code.Segment → Type 0
IsNamed name inside (Named n i) = (n.now ≡ name) × (i.now ≡ inside)
IsNamed name inside (Bare _) = ⊥

abbrev pub IsBare : List ℕ → code.Segment → Type 0
IsBare path_name (Named _ _) = ⊥
IsBare path_name (Bare text) = text.now ≡ path_name

-- what was cut off is this segment: its name, and its arguments joined by commas, or its bare name
abbrev pub IsCutOf : code.Segment → Segment → Type 0
IsCutOf segment (named name arguments) = IsNamed name (join_with_byte comma arguments) segment
IsCutOf segment (bare path_name) = IsBare path_name segment
