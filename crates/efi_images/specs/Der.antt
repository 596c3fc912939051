-- Elements of DER (ITU-T X.690, 8.1), as far as firmware's forms need them: the tag has one byte, and the length one, two or
-- three. An element of another form isn't read.
use Rattle.std.specs.Prelude.{ℕ, ◌+◌, ◌*◌, ◌==◌, nat_le, nat_lt, List, length, drop, get_or, Option, Some, None, option_and_then, if◌then◌else◌}
use Rattle.efi_images.specs.Digest.{part}
use Rattle.efi_images.specs.declared.der.Element.{Element}

-- the second step, if the first gave a value
infixl 10 ◌>>=◌
abbrev pub ◌>>=◌ : {A B : Type 0} → Option A → (A → Option B) → Option B
o >>= f = option_and_then f o

-- the tag of an element, what it holds, and what is after it
pub record ElementParts : Type 0 where
  pub tag : ℕ
  pub body : List ℕ
  pub rest : List ℕ

abbrev pub element_parts : Element → ElementParts
element_parts e = record { tag = e.tag; body = e.body.now; rest = e.rest.now }

-- 0 if there is none
abbrev pub byte_at : List ℕ → ℕ → ℕ
byte_at bytes place = get_or bytes place 0

-- the element that these bytes begin with, if this many are before what it holds, and that has this many
unfoldable pub element_at : List ℕ → ℕ → ℕ → Option ElementParts
element_at bytes head len =
    if nat_le (head + len) (length bytes)
    then Some (record { tag = byte_at bytes 0; body = part bytes head len; rest = drop (head + len) bytes })
    else None

-- the element that these bytes begin with: of a long form of the length those with one byte and with two are read
unfoldable pub element_of : List ℕ → Option ElementParts
element_of bytes =
    if nat_lt (byte_at bytes 1) 0x80 then element_at bytes 2 (byte_at bytes 1)
    else (if byte_at bytes 1 == 0x81 then element_at bytes 3 (byte_at bytes 2)
    else (if byte_at bytes 1 == 0x82 then element_at bytes 4 (0x100 * byte_at bytes 2 + byte_at bytes 3)
    else None))

-- the same, if it has this tag
unfoldable pub field : ℕ → List ℕ → Option ElementParts
field tag bytes = do
  element ← element_of bytes
  if element.tag == tag then Some element else None
