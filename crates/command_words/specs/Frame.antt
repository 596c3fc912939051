-- What the words of a frame ask for.
use Rattle.std.specs.Prelude.{◌≡◌}
use Rattle.uefi_option.specs.LoadOption.{OptionParts, SpellsOption}
use Rattle.boot_requests.specs.declared.request.Request.{Request}
use Rattle.boot_requests.specs.declared.request.Request.TheVariants as request
use Rattle.command_words.specs.declared.frame.FrameWords.{FrameWords}
use Rattle.command_words.specs.declared.frame.FrameWords.TheVariants as words

-- the request is the one that the words name, with the option that their bytes spell
abbrev pub AsksFor : FrameWords → Request → Type 0
AsksFor (words.Add entry bytes) asked =
    (option : OptionParts) × SpellsOption bytes.now option × (asked ≡ request.Add entry option)
AsksFor (words.Replace entry bytes) asked =
    (option : OptionParts) × SpellsOption bytes.now option × (asked ≡ request.Replace entry option)
AsksFor (words.AddFree bytes) asked =
    (option : OptionParts) × SpellsOption bytes.now option × (asked ≡ request.AddFree option)
AsksFor (words.AddFirst bytes) asked =
    (option : OptionParts) × SpellsOption bytes.now option × (asked ≡ request.AddFirst option)
AsksFor (words.Remove entry) asked = asked ≡ request.Remove entry
AsksFor (words.Order entries) asked = asked ≡ request.Order entries.now
AsksFor (words.Next entry) asked = asked ≡ request.Next entry
AsksFor (words.First entry) asked = asked ≡ request.First entry
