-- Names of X.509 (ITU-T X.501, 9.2), and when OpenSSL, by which EDK2 checks signatures, may take two for one.
use Rattle.std.specs.Prelude.{ℕ, zero, suc, ◌+◌, ◌==◌, ◌&&◌, ◌||◌, Bool, true, not, nat_le, nat_lt, List, [], ◌∷◌, length, Option, Some, None, is_none, if◌then◌else◌}
use Rattle.std.specs.Cmp.Lexicographic.{pointwise}
use Rattle.efi_images.specs.Der.{◌>>=◌, element_of, field}
use Rattle.efi_images.specs.declared.names.Attribute.{Attribute}

-- ---- texts

-- a byte of ASCII that is printed, but no space
abbrev pub is_mark : ℕ → Bool
is_mark byte = nat_lt 0x20 byte && nat_lt byte 0x7F

-- capital letters as small ones
abbrev pub small : ℕ → ℕ
small byte = if nat_le 0x41 byte && nat_le byte 0x5A then byte + 0x20 else byte

-- What is left of a text's bytes in OpenSSL's canonical form as well, which makes letters of ASCII small, drops spaces and
-- keeps all else, in UTF-8: if two texts differ here, so do they there.
abbrev pub folded : List ℕ → List ℕ
folded [] = []
folded (byte ∷ rest) = if is_mark byte then small byte ∷ folded rest else folded rest

abbrev pub is_same_text : List ℕ → List ℕ → Bool
is_same_text one other = pointwise ◌==◌ (folded one) (folded other)

-- the tags of texts of which each byte of ASCII is that character: UTF8String, PrintableString, T61String, IA5String and
-- VisibleString
unfoldable pub is_text : ℕ → Bool
is_text tag = tag == 0x0C || (tag == 0x13 || (tag == 0x14 || (tag == 0x16 || tag == 0x1A)))

-- ---- attributes

-- the object identifier of an attribute, its text, and the attributes after it
pub record AttributeParts : Type 0 where
  pub kind : List ℕ
  pub text : List ℕ
  pub rest : List ℕ

abbrev pub attribute_parts : Attribute → AttributeParts
attribute_parts a = record { kind = a.kind.now; text = a.text.now; rest = a.rest.now }

-- the attribute that a name begins with, if it is a text and its set has no other
unfoldable pub attribute_of : List ℕ → Option AttributeParts
attribute_of name = do
  one ← field 0x31 name
  pair ← field 0x30 one.body
  kind ← field 0x06 pair.body
  text ← element_of kind.rest
  if is_text text.tag && length pair.rest == 0 then Some (record { kind = kind.body; text = text.body; rest = one.rest }) else None

abbrev pub is_same_attribute : AttributeParts → AttributeParts → Bool
is_same_attribute one other = pointwise ◌==◌ one.kind other.kind && is_same_text one.text other.text

-- ---- names

-- it begins with an attribute that isn't read
unfoldable pub is_unread : List ℕ → Bool
is_unread name = not (length name == 0) && is_none (attribute_of name)

-- what is said of two names of which one at least begins with no attribute that is read
abbrev pub may_end_alike : List ℕ → List ℕ → Bool
may_end_alike one other = (length one == 0 && length other == 0) || (is_unread one || is_unread other)

-- what is said of two names that begin with these attributes, by what is said of those after them
abbrev pub by_firsts : (List ℕ → List ℕ → Bool) → List ℕ → List ℕ → Option AttributeParts → Option AttributeParts → Bool
by_firsts more one other (Some first) (Some second) = is_same_attribute first second && more first.rest second.rest
by_firsts more one other _ _ = may_end_alike one other

-- Two names may be one, as far as so many attributes tell: OpenSSL's canonical form is a row of sets, one after the other, so
-- two names differ in it if the first sets in which they differ do, or if one ends where the other has another.
unfoldable pub is_alike_for : ℕ → List ℕ → List ℕ → Bool
is_alike_for zero one other = true
is_alike_for (suc left) one other = by_firsts (is_alike_for left) one other (attribute_of one) (attribute_of other)

-- how many attributes are compared
abbrev pub attributes_max : ℕ
attributes_max = 64

abbrev pub is_alike : List ℕ → List ℕ → Bool
is_alike one other = is_alike_for attributes_max one other
