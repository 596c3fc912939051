-- The text of a GUID (UEFI 2.10, appendix A): five groups of digits, joined by hyphens. The first three groups are
-- numbers, whose stored bytes are the other way round.
use Rattle.std.specs.Prelude.{◌≡◌, ℕ, List, [], ◌∷◌, map, reverse, take, drop, length}
use Rattle.std.specs.List.{join_with_byte}
use Rattle.uefi_text.specs.Bytes.{Each, IsHexData, hex_text, hyphen}

-- the groups of a GUID's stored bytes, each in the order in which it is written: 4, 2, 2, 2 and 6 bytes
abbrev pub guid_groups : List ℕ → List (List ℕ)
guid_groups guid =
    reverse (take 4 guid) ∷ reverse (take 2 (drop 4 guid)) ∷ reverse (take 2 (drop 6 guid))
    ∷ take 2 (drop 8 guid) ∷ drop 10 guid ∷ []

-- the text is read as these sixteen stored bytes: 8, 4, 4, 4 and 12 digits of either case
pub record IsGuid (text guid : List ℕ) : Type 0 where
  pub groups : List (List ℕ)
  pub joined : text ≡ join_with_byte hyphen groups
  pub read : Each IsHexData groups (guid_groups guid)
  pub len : length guid ≡ 16

-- how the GUID of these stored bytes is printed
abbrev pub guid_text : List ℕ → List ℕ
guid_text guid = join_with_byte hyphen (map hex_text (guid_groups guid))
