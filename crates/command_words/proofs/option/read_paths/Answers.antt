use Rattle.std.proofs.Common.{◌+◌, ℕ, List, Bor, map, length, ap, ◌∙◌}
use Rattle.std.proofs.lemmas.List.{length_push}
use Rattle.command_words.specs.OptionOfWords.{IsPathText}
use Rattle.command_words.specs.OptionWordsFault.{IsTextsFault}
use Rattle.command_words.proofs.Faults.{as_words, next_number, texts_fault}
use Rattle.command_words.proofs.Each.{each_step}
use Rattle.command_words.proofs.option.read_paths.Goals as goal

pub loop-text-preserved : goal.loop-text-preserved
loop-text-preserved c = record {
  texts =
      each_step (λ (text : Bor (List ℕ)). text.now) IsPathText c.args.texts.now c.loop-text.paths.items c.push.new.self.items
      c.loop-text.text-index _ c.in_ok-read_path.field-0 c.loop-text-test.true c.loop-text.invariant.texts
      c.in_ok-read_path.ensures.found c.in_ok-push.ensures.items;
  count =
      ap length c.in_ok-push.ensures.items ∙ length_push c.loop-text.paths.items c.in_ok-read_path.field-0
      ∙ ap (λ (n : ℕ). n + 1) c.loop-text.invariant.count;
}

pub returns-in_err-read_path-clause-fault : goal.returns-in_err-read_path-clause-fault
returns-in_err-read_path-clause-fault c =
    as_words c.from_residual-in_err-read_path.result c.in_err-read_path.field-0.0
    (IsTextsFault (map (λ (text : Bor (List ℕ)). text.now) c.args.texts.now)) c.from_residual-in_err-read_path.ensures.1
    (λ other.
    texts_fault c.args.texts.now c.loop-text.text-index _ c.loop-text.paths.items c.saturating_add-number.result
    c.in_err-read_path.field-0.0 c.loop-text-test.true c.loop-text.invariant.texts c.loop-text.invariant.count
    (next_number c.saturating_add-number.ensures c.len.ensures c.loop-text.paths.ok.0 c.loop-text.paths.ok.1 c.loop-text.paths.small)
    (c.in_err-read_path.ensures.fault other))
