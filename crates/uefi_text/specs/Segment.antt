-- How the text of a path is cut. A path is instances joined by commas, an instance is segments joined by
-- slashes, and a segment is a name with arguments or a bare path name.
use Rattle.std.specs.Prelude.{ℕ, List, ◌++◌, map, codes}
use Rattle.std.specs.List.{join_with_byte}

pub data Segment : Type 0 where
  named : (name : List ℕ) (arguments : List (List ℕ)) → Segment
  bare : (path_name : List ℕ) → Segment

abbrev pub comma : ℕ
comma = 0x2C

abbrev pub slash : ℕ
slash = 0x2F

-- the name, and in parentheses the arguments joined by commas
abbrev pub segment_text : Segment → List ℕ
segment_text (named name arguments) = name ++ codes "(" ++ join_with_byte comma arguments ++ codes ")"
segment_text (bare path_name) = path_name

abbrev pub instance_text : List Segment → List ℕ
instance_text segments = join_with_byte slash (map segment_text segments)

abbrev pub cut_text : List (List Segment) → List ℕ
cut_text instances = join_with_byte comma (map instance_text instances)
