use Rattle.std.proofs.Common.{◌≡◌, ℕ, ◌/◌, ◌%◌, ◌<◌, ◌^◌, [], ◌∷◌, refl, arith}
use Rattle.std.specs.Prelude.{false}
use Rattle.std.specs.Fmt.{digit_glyph}
use Rattle.std.proofs.lemmas.Fmt.{hex_byte}
use Rattle.uefi_option.specs.Text.{unit_digits}
use Rattle.value_texts.specs.Json.{unit_escape}
use Rattle.value_texts.proofs.json_text.append_escape.Goals as goal

shown : (unit : ℕ) → unit_escape unit ≡ 0x5C ∷ 0x75 ∷ unit_digits unit
shown unit = refl

-- the two digits of each of its bytes are its four digits
four_digits : (unit : ℕ) → unit < 2 ^ 16 →
    digit_glyph false (unit / 256 % 256 / 16) ∷ digit_glyph false (unit / 256 % 256 % 16) ∷ digit_glyph false (unit % 256 / 16) ∷
    digit_glyph false (unit % 256 % 16) ∷ [] ≡ unit_digits unit
four_digits unit fits =
    let first : unit / 256 % 256 / 16 ≡ unit / 0x1000 = omega arith in
    let second : unit / 256 % 256 % 16 ≡ unit / 0x100 % 0x10 = omega arith in
    let third : unit % 256 / 16 ≡ unit / 0x10 % 0x10 = omega arith in
    let fourth : unit % 256 % 16 ≡ unit % 0x10 = omega arith in
    rw (first, second, third, fourth)

pub returns : goal.returns
returns c =
    let unit = c.args.unit in
    let high = hex_byte false (unit / 256 % 256) (omega arith) in
    let low = hex_byte false (unit % 256) (omega arith) in
    let written = rw (
      c.laid_out.ensures,
      c.laid_out-2.ensures,
      c.in_radix.ensures,
      c.in_radix-2.ensures,
      c.to_be_bytes.ensures,
      high,
      low,
    ) at c.write.ensures.bytes in
    rw (shown unit, ← four_digits unit (omega arith)) written
