use Rattle.std.proofs.Common.{◌≡◌, ◌++◌, flat_map}
use Rattle.std.specs.String.{string_bytes}
use Rattle.value_texts.specs.Json.{character_json}
use Rattle.value_texts.proofs.json_text.append_characters.Given as goal

abbrev pub invariant-loop-character : goal.invariant-loop-character
invariant-loop-character l = string_bytes l.json ≡ string_bytes l.initial.json ++ flat_map character_json l.yielded
