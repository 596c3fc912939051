-- The fields of a node's data as text.
use Rattle.std.specs.Prelude.{ℕ, zero, suc, ◌+◌, ◌/◌, Bool, ◌==◌, ◌&&◌, ◌||◌, not, nat_le, List, [], ◌∷◌, ◌++◌, map, flat_map}
use Rattle.std.specs.Prelude.{length, take, drop, Option, Some, None, codes, decimal, slice_index, bit_and, if◌then◌else◌}
use Rattle.std.specs.List.{find, join_with_byte}
use Rattle.std.specs.Char.{encode_utf8}
use Rattle.std.specs.Char.Utf16.{is_high_surrogate, is_low_surrogate, surrogate_pair_char, utf16_lossy_chars}
use Rattle.std.specs.Int.{w16, w32, w64, from_le_bytes, to_be_bytes, is_in_range}
use Rattle.uefi_text.specs.Number.{number_text}
use Rattle.uefi_text.specs.Bytes.{hex_text, address_text}
use Rattle.uefi_text.specs.Guid.{guid_text}
use Rattle.uefi_text.specs.Printed.{hid_text}
use Rattle.uefi_text.specs.Segment.{comma}
use Rattle.uefi_names.specs.declared.table.Form.{Form}
use Rattle.uefi_names.specs.declared.table.Field.{Field}
use Rattle.uefi_names.specs.declared.table.Word.{Word}
use Rattle.uefi_names.specs.declared.table.Numeral.{Numeral}
use Rattle.uefi_names.specs.declared.table.Numeral.TheVariants.{Hexadecimal, Decimal}
use Rattle.uefi_names.specs.declared.table.Item.{Item}
use Rattle.uefi_names.specs.declared.table.Item.TheVariants as items
use Rattle.uefi_names.specs.declared.table.Encoding.{Encoding}
use Rattle.uefi_names.specs.declared.table.Encoding.TheVariants as encodings
use Rattle.uefi_names.specs.declared.table.Show.{Show}
use Rattle.uefi_names.specs.declared.table.Show.TheVariants as shows
use Rattle.uefi_names.specs.Table.{part}

-- the number that the first eight bytes are, the lowest first; bytes that aren't there are zero
abbrev pub number_in : List ℕ → ℕ
number_in bytes = from_le_bytes w64 bytes

abbrev pub numeral_text : Numeral → ℕ → List ℕ
numeral_text Hexadecimal n = number_text n
numeral_text Decimal n = decimal n

-- the word that stands for a number
abbrev pub word_for : List Word → ℕ → Option Word
word_for words n = find (λ word. word.number == n) words

abbrev pub word_text : Option Word → Numeral → ℕ → List ℕ
word_text (Some word) otherwise n = word.text.now
word_text None otherwise n = numeral_text otherwise n

-- this many bytes of more, as the text makes them; the digits of fewer
abbrev pub first_shown : ℕ → (List ℕ → List ℕ) → List ℕ → List ℕ
first_shown len text bytes = if nat_le len (length bytes) then text (take len bytes) else hex_text bytes

abbrev pub guid_shown : List ℕ → List ℕ
guid_shown bytes = first_shown 16 guid_text bytes

abbrev pub hardware_id_shown : List ℕ → List ℕ
hardware_id_shown bytes = first_shown 4 (λ id. hid_text (from_le_bytes w32 id)) bytes

-- bytes in twos
abbrev pub in_twos : List ℕ → List (List ℕ)
in_twos (first ∷ second ∷ bytes) = (first ∷ second ∷ []) ∷ in_twos bytes
in_twos _ = []

abbrev pub colon : ℕ
colon = 0x3A

-- an address of IPv6: groups of four digits
abbrev pub ipv6_text : List ℕ → List ℕ
ipv6_text bytes = join_with_byte colon (map hex_text (in_twos bytes))

abbrev pub item_text : Item → List ℕ → List ℕ
item_text items.Number bytes = number_text (number_in bytes)
item_text items.Ipv4 bytes = first_shown 4 address_text bytes
item_text items.Ipv6 bytes = first_shown 16 ipv6_text bytes

-- this many items of one length, one after the other
abbrev pub items_in : ℕ → ℕ → List ℕ → List (List ℕ)
items_in zero len bytes = []
items_in (suc count) len bytes = take len bytes ∷ items_in count len (drop len bytes)

-- how many items of a length there are
abbrev pub item_count : ℕ → List ℕ → ℕ
item_count len bytes = if len == 0 then 0 else length bytes / len

abbrev pub items_text : Item → ℕ → List ℕ → List ℕ
items_text item len bytes = join_with_byte comma (map (item_text item) (items_in (item_count len bytes) len bytes))

-- a printing character of ASCII that closes or parts nothing in the text of a path: no quote, parenthesis, comma or
-- backslash
abbrev pub is_plain : ℕ → Bool
is_plain unit =
    (nat_le 0x20 unit && nat_le unit 0x7E)
    && not (unit == 0x22 || (unit == 0x28 || (unit == 0x29 || (unit == 0x2C || unit == 0x5C))))

-- a unit of a text: itself, or a backslash and four digits
abbrev pub escaped : ℕ → List ℕ
escaped unit = if is_plain unit then unit ∷ [] else 0x5C ∷ hex_text (to_be_bytes w16 unit)

-- of texts that are each closed by a zero or the end, the one that comes after this many others
abbrev pub nth_text : ℕ → List ℕ → List ℕ
nth_text before [] = []
nth_text zero (byte ∷ bytes) = if byte == 0 then [] else byte ∷ nth_text zero bytes
nth_text (suc before) (byte ∷ bytes) = if byte == 0 then nth_text before bytes else nth_text (suc before) bytes

-- the units up to a zero one or the end
abbrev pub units_in : List ℕ → List ℕ
units_in (low ∷ high ∷ bytes) =
    let unit = from_le_bytes w16 (low ∷ high ∷ []) in
    if unit == 0 then [] else unit ∷ units_in bytes
units_in _ = []

-- a character that a terminal may act on: of control, or one that parts lines or turns the direction of a text
abbrev pub is_hidden : ℕ → Bool
is_hidden c =
    is_in_range 0 0x1F c
    || (is_in_range 0x7F 0x9F c
    || ((c == 0x61C)
    || (is_in_range 0x200E 0x200F c
    || (is_in_range 0x2028 0x202E c || (is_in_range 0x2066 0x2069 c || (c == 0xFEFF))))))

-- a character that is shown as itself
abbrev pub is_shown : Encoding → ℕ → Bool
is_shown encodings.Ascii c = is_in_range 0x21 0x7E c
is_shown encodings.Utf16 c = not (is_hidden c)

-- a character as it is shown: itself, or U+FFFD
abbrev pub shown_char : Encoding → ℕ → ℕ
shown_char encoding c = if is_shown encoding c then c else 0xFFFD

-- the character of a pair of units, if they are one
abbrev pub pair_char : ℕ → ℕ → Option ℕ
pair_char high low =
    if is_high_surrogate high && is_low_surrogate low then Some (surrogate_pair_char high low) else None

-- the characters that bytes are: of UTF-16 those up to a zero unit or the end, with U+FFFD for half of a pair
abbrev pub chars_in : Encoding → List ℕ → List ℕ
chars_in encodings.Ascii bytes = bytes
chars_in encodings.Utf16 bytes = utf16_lossy_chars (units_in bytes)

-- the bytes of a character as it is shown, in UTF-8
abbrev pub char_text : Encoding → ℕ → List ℕ
char_text encoding c = encode_utf8 (shown_char encoding c)

abbrev pub whole_text : Encoding → List ℕ → List ℕ
whole_text encoding bytes = flat_map (char_text encoding) (chars_in encoding bytes)

-- the bytes of a field as they are shown
abbrev pub shown_text : Show → List ℕ → List ℕ
shown_text (shows.Number numeral) bytes = numeral_text numeral (number_in bytes)
shown_text shows.OneMore bytes = number_text (slice_index bytes 0 + 1)
shown_text shows.AllDigits bytes = hex_text (to_be_bytes w64 (number_in bytes))
shown_text (shows.Word mask words otherwise) bytes =
    let n = bit_and (number_in bytes) mask in
    word_text (word_for words.now n) otherwise n
shown_text (shows.Literal text) bytes = text.now
shown_text shows.Digits bytes = hex_text bytes
shown_text shows.PrefixedDigits bytes = codes "0x" ++ hex_text bytes
shown_text shows.Guid bytes = guid_shown bytes
shown_text shows.HardwareId bytes = hardware_id_shown bytes
shown_text shows.Ipv4 bytes = item_text items.Ipv4 bytes
shown_text shows.Ipv6 bytes = item_text items.Ipv6 bytes
shown_text (shows.Ascii number) bytes = flat_map escaped (nth_text number bytes)
shown_text shows.LoneAscii bytes = flat_map escaped (nth_text 0 bytes)
shown_text shows.Units bytes = codes "\"" ++ (flat_map escaped (units_in bytes) ++ codes "\"")
shown_text (shows.Each len item) bytes = items_text item len bytes
shown_text (shows.Whole encoding) bytes = whole_text encoding bytes

-- a field as it is shown: its bytes are so many from its offset on
abbrev pub field_text : Field → List ℕ → List ℕ
field_text field body = shown_text field.show (part field.at field.len body)

abbrev pub fields_text : List Field → List ℕ → List ℕ
fields_text fields body = join_with_byte comma (map (λ field. field_text field body) fields)

-- the name, and in parentheses the fields, joined by commas
abbrev pub form_text : Form → List ℕ → List ℕ
form_text form body = form.name.now ++ (codes "(" ++ (fields_text form.fields.now body ++ codes ")"))
