-- The texts so far stand for the paths so far, which are as many.
use Rattle.std.proofs.Common.{◌≡◌, length, map, take}
use Rattle.command_words.specs.OptionOfWords.{ArePathTexts}
use Rattle.command_words.proofs.option.read_paths.Given as goal

abbrev pub invariant-loop-text : goal.invariant-loop-text
invariant-loop-text l = record {
  texts : ArePathTexts (map (λ text. text.now) (take l.text-index l.texts)) l.paths.items;
  count : length l.paths.items ≡ l.text-index;
}
