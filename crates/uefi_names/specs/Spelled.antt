-- What an argument of a form spells: the bytes of its field.
use Rattle.std.specs.Prelude.{ℕ, ◌+◌, ◌-◌, ◌*◌, ◌/◌, ◌%◌, Bool, true, false, ◌==◌, ◌&&◌, ◌||◌, nat_le, nat_lt, List, [], ◌∷◌, ◌++◌}
use Rattle.std.specs.Prelude.{length, take, drop, replicate, slice_index, bit_and, codes, Option, Some, None, if◌then◌else◌}
use Rattle.std.specs.Str.{str_eq_ignore_ascii_case, chars}
use Rattle.std.specs.Str.Parse.{digits_value}
use Rattle.std.specs.Char.{digit_value, encode_utf8}
use Rattle.std.specs.Char.Escape.{encode_utf16}
use Rattle.std.specs.List.{find, list_all}
use Rattle.std.specs.Int.{w64, to_le_bytes}
use Rattle.uefi_path.specs.Units.{units_bytes}
use Rattle.uefi_text.specs.Node.{pnp_hid}
use Rattle.uefi_text.specs.Bytes.{dot, hyphen}
use Rattle.uefi_text.specs.Cuts.{close_mark}
use Rattle.uefi_text.specs.Reader.{◌>>=◌, is_numeral, is_data, data_bytes}
use Rattle.uefi_names.specs.declared.table.Word.{Word}
use Rattle.uefi_names.specs.declared.table.Item.{Item}
use Rattle.uefi_names.specs.declared.table.Item.TheVariants as items
use Rattle.uefi_names.specs.declared.table.Encoding.{Encoding}
use Rattle.uefi_names.specs.declared.table.Encoding.TheVariants as encodings
use Rattle.uefi_names.specs.declared.table.Show.{Show}
use Rattle.uefi_names.specs.declared.table.Show.TheVariants as shows
use Rattle.uefi_names.specs.declared.spelled.Group.{Group}
use Rattle.uefi_names.specs.declared.spelled.Group.TheVariants.{Octet, Pair}
use Rattle.uefi_names.specs.Table.{part, to_end}
use Rattle.uefi_names.specs.Shown.{is_plain, is_shown, colon}
use Rattle.uefi_names.specs.Cut.{is_whole_for, pieces}

-- the second step, if the first gave a value
abbrev pub and_then : {A B : Type 0} → Option A → (A → Option B) → Option B
and_then first second = first >>= second

-- ---- words

-- the same text but for the case of letters of ASCII
abbrev pub is_word : List ℕ → List ℕ → Bool
is_word text word = str_eq_ignore_ascii_case text word

-- the first word with this text
abbrev pub word_of : List Word → List ℕ → Option Word
word_of words text = find (λ word. is_word text word.text.now) words

-- ---- numbers

abbrev pub most_number : ℕ
most_number = 0xFFFFFFFFFFFFFFFF

-- the number of one to so many digits of a base, if it has 64 bits at most
abbrev pub numeral_read : ℕ → ℕ → List ℕ → Option ℕ
numeral_read base most digits =
    if is_numeral base most digits && nat_le (digits_value base digits) most_number
    then Some (digits_value base digits) else None

abbrev pub has_prefix : List ℕ → Bool
has_prefix text = is_word (take 2 text) (codes "0x")

-- what comes after `0x`, or the whole text without it
abbrev pub without_prefix : List ℕ → List ℕ
without_prefix text = if has_prefix text then drop 2 text else text

-- a hexadecimal number after `0x`, or a decimal one
abbrev pub number_read : List ℕ → Option ℕ
number_read text = if has_prefix text then numeral_read 16 16 (drop 2 text) else numeral_read 10 20 text

-- a hexadecimal number with or without `0x`
abbrev pub digits_read : List ℕ → Option ℕ
digits_read text = numeral_read 16 16 (without_prefix text)

abbrev pub one_less : ℕ → Option ℕ
one_less n = if n == 0 then None else Some (n - 1)

-- these bits of a number, if it has no others
abbrev pub within_mask : ℕ → ℕ → Option ℕ
within_mask mask n = if bit_and n mask == n then Some n else None

-- the number of a word, if there is one
abbrev pub number_or : Option Word → Option ℕ → Option ℕ
number_or (Some word) otherwise = Some word.number
number_or None otherwise = otherwise

-- the number of a word, or of a numeral that has no other bits than these
abbrev pub masked_read : ℕ → List Word → List ℕ → Option ℕ
masked_read mask words text = number_or (word_of words text) (number_read text >>= within_mask mask)

-- the identifier that begins with PNP and has this high half
abbrev pub pnp_read : ℕ → Option ℕ
pnp_read high = if nat_le high 0xFFFF then Some (pnp_hid high) else None

-- `PNP` and four digits, or a number
abbrev pub hardware_id_read : List ℕ → Option ℕ
hardware_id_read text =
    if is_word (take 3 text) (codes "PNP")
    then (if length text == 7 then (numeral_read 16 4 (drop 3 text) >>= pnp_read) else None)
    else number_read text

-- ---- bytes of a length

abbrev pub are_zeros : List ℕ → Bool
are_zeros bytes = list_all (λ byte. byte == 0) bytes

-- these bytes, and zeros after them up to this length
abbrev pub padded : ℕ → List ℕ → Option (List ℕ)
padded len bytes = if nat_le (length bytes) len then Some (bytes ++ replicate (len - length bytes) 0) else None

-- a number in so many bytes, the lowest first, if they have room for it
abbrev pub number_bytes : ℕ → ℕ → Option (List ℕ)
number_bytes len n = if are_zeros (drop len (to_le_bytes w64 n)) then padded len (take len (to_le_bytes w64 n)) else None

-- these bytes, if a field of this length has as many
abbrev pub sized : ℕ → List ℕ → Option (List ℕ)
sized len bytes = if len == to_end then Some bytes else (if len == length bytes then Some bytes else None)

-- so many bytes of zero for this text
abbrev pub literal_read : List ℕ → ℕ → List ℕ → Option (List ℕ)
literal_read literal len text = if is_word text literal then Some (replicate len 0) else None

-- two digits for each byte
abbrev pub data_read : List ℕ → Option (List ℕ)
data_read text = if is_data text then Some (data_bytes text) else None

-- the digits of a GUID in the order in which its bytes are stored
abbrev pub guid_digits : List ℕ → List ℕ
guid_digits text =
    ((((((((part 6 2 text ++ part 4 2 text) ++ part 2 2 text) ++ part 0 2 text) ++ part 11 2 text) ++ part 9 2 text)
    ++ part 16 2 text) ++ part 14 2 text) ++ part 19 4 text) ++ part 24 12 text

-- five groups of 8, 4, 4, 4 and 12 digits, joined by hyphens
abbrev pub is_guid : List ℕ → Bool
is_guid text =
    (length text == 36)
    && ((slice_index text 8 == hyphen)
    && ((slice_index text 13 == hyphen) && ((slice_index text 18 == hyphen) && (slice_index text 23 == hyphen))))

abbrev pub guid_read : List ℕ → Option (List ℕ)
guid_read text = if is_guid text then data_read (guid_digits text) else None

-- ---- addresses

-- a part of an address: a decimal number up to 255, or one to four hexadecimal digits
abbrev pub group_read : Group → List ℕ → Option (List ℕ)
group_read Octet text = numeral_read 10 3 text >>= λ n. (if nat_le n 0xFF then Some (n ∷ []) else None)
group_read Pair text = numeral_read 16 4 text >>= λ n. Some ((n / 256) % 256 ∷ n % 256 ∷ [])

-- what parts spell, one after the other, after what is done
abbrev pub groups_read : Group → List ℕ → List (List ℕ) → Option (List ℕ)
groups_read group done [] = Some done
groups_read group done (text ∷ texts) = group_read group text >>= λ bytes. groups_read group (done ++ bytes) texts

abbrev pub exactly : ℕ → List ℕ → Option (List ℕ)
exactly len bytes = if length bytes == len then Some bytes else None

abbrev pub ipv4_read : List ℕ → Option (List ℕ)
ipv4_read text = groups_read Octet [] (pieces dot text) >>= exactly 4

abbrev pub ipv6_read : List ℕ → Option (List ℕ)
ipv6_read text = groups_read Pair [] (pieces colon text) >>= exactly 16

-- the bytes of an item of this length
abbrev pub item_read : Item → ℕ → List ℕ → Option (List ℕ)
item_read items.Number len text = number_read text >>= number_bytes len
item_read items.Ipv4 len text = ipv4_read text >>= padded len
item_read items.Ipv6 len text = ipv6_read text >>= padded len

-- ---- texts

-- a unit as one byte or as two; zero and what has no room is none
abbrev pub unit_bytes : Bool → ℕ → Option (List ℕ)
unit_bytes true unit = if unit == 0 then None else Some (unit % 256 ∷ (unit / 256) % 256 ∷ [])
unit_bytes false unit = if (unit == 0) || nat_lt 0xFF unit then None else Some (unit ∷ [])

-- the low sixteen bits of a number with a digit after it
abbrev pub with_digit : ℕ → ℕ → ℕ
with_digit value digit = (value * 16 + digit_value digit) % 0x10000

-- What units spell, after what is done: a plain unit stands for itself, and a backslash and four digits for the unit of
-- this number. So many digits are to come of a unit that has this value so far.
abbrev pub text_read : Bool → List ℕ → ℕ → ℕ → List ℕ → Option (List ℕ)
text_read wide done left value [] = if left == 0 then Some done else None
text_read wide done left value (unit ∷ text) =
    if left == 0
    then (if unit == 0x5C then text_read wide done 4 0 text
    else (if is_plain unit then (unit_bytes wide unit >>= λ bytes. text_read wide (done ++ bytes) 0 0 text) else None))
    else (if nat_lt (digit_value unit) 16
    then (if left == 1
    then (unit_bytes wide (with_digit value unit) >>= λ bytes. text_read wide (done ++ bytes) 0 0 text)
    else text_read wide done (left - 1) (with_digit value unit) text)
    else None)

-- a text of ASCII: closed by a zero if it goes to the end of the data, otherwise filled up with zeros
abbrev pub ascii_read : ℕ → List ℕ → Option (List ℕ)
ascii_read len text =
    text_read false [] 0 0 text >>= λ bytes. (if len == to_end then Some (bytes ++ 0 ∷ []) else padded len bytes)

-- a text that isn't empty, and an empty one after it, each closed by a zero
abbrev pub lone_read : List ℕ → Option (List ℕ)
lone_read text =
    text_read false [] 0 0 text >>= λ bytes. (if length bytes == 0 then None else Some ((bytes ++ 0 ∷ []) ++ 0 ∷ []))

-- what is between quotes
abbrev pub quoted : List ℕ → Option (List ℕ)
quoted text =
    if nat_le 2 (length text) && ((slice_index text 0 == 0x22) && (slice_index text (length text - 1) == 0x22))
    then Some (take (length text - 2) (drop 1 text)) else None

abbrev pub wide_read : ℕ → List ℕ → Option (List ℕ)
wide_read len text = quoted text >>= λ inside. (text_read true [] 0 0 inside >>= sized len)

-- ---- all that is in parentheses

-- the bytes of a character
abbrev pub char_bytes : Encoding → ℕ → List ℕ
char_bytes encodings.Ascii c = encode_utf8 c
char_bytes encodings.Utf16 c = units_bytes (encode_utf16 c)

-- what comes after the characters: a zero unit closes those of UTF-16
abbrev pub closing_bytes : Encoding → List ℕ
closing_bytes encodings.Ascii = []
closing_bytes encodings.Utf16 = 0 ∷ 0 ∷ []

-- the bytes of characters that are shown as themselves, after what is done
abbrev pub chars_read : Encoding → List ℕ → List ℕ → Option (List ℕ)
chars_read encoding done [] = Some (done ++ closing_bytes encoding)
chars_read encoding done (c ∷ characters) =
    if is_shown encoding c then chars_read encoding (done ++ char_bytes encoding c) characters else None

-- the bytes of a text in which each parenthesis closes one or is closed
abbrev pub whole_read : Encoding → List ℕ → Option (List ℕ)
whole_read encoding text = if is_whole_for close_mark text then chars_read encoding [] (chars text) else None

-- ---- fields

-- the bytes that an argument spells in a field of this length
abbrev pub shown_read : Show → ℕ → List ℕ → Option (List ℕ)
shown_read (shows.Number numeral) len text = number_read text >>= number_bytes len
shown_read shows.OneMore len text = (number_read text >>= one_less) >>= number_bytes len
shown_read shows.AllDigits len text = digits_read text >>= number_bytes len
shown_read (shows.Word mask words otherwise) len text = masked_read mask words.now text >>= number_bytes len
shown_read (shows.Literal literal) len text = literal_read literal.now len text
shown_read shows.Digits len text = data_read text >>= sized len
shown_read shows.PrefixedDigits len text = data_read (without_prefix text) >>= sized len
shown_read shows.Guid len text = guid_read text >>= sized len
shown_read shows.HardwareId len text = hardware_id_read text >>= number_bytes len
shown_read shows.Ipv4 len text = item_read items.Ipv4 len text
shown_read shows.Ipv6 len text = item_read items.Ipv6 len text
shown_read (shows.Ascii before) len text = ascii_read len text
shown_read shows.LoneAscii len text = lone_read text
shown_read shows.Units len text = wide_read len text
shown_read (shows.Each size item) len text = item_read item size text
shown_read (shows.Whole encoding) len text = whole_read encoding text >>= sized len
