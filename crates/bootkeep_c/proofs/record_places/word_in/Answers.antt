use Rattle.std.proofs.Common.{refl, sym, ap, ◌∙◌, length, String, List, ℕ, Some}
use Rattle.std.specs.Global.{Global}
use Rattle.std.specs.List.{slice_get}
use Rattle.std.specs.Option.{option_map}
use Rattle.std.specs.String.{string_bytes}
use Rattle.std.proofs.lemmas.Option.{slice_get-map, slice_get_past, slice_get_read}
use Rattle.std.proofs.lemmas.Result.{err_from_is_err_and}
use Rattle.change_records.specs.Record.{record_parts}
use Rattle.bootkeep_c.specs.Refusals.{record_failure}
use Rattle.bootkeep_c.proofs.record_places.word_in.Goals as goal

pub returns-in_err-change-clause-fault : goal.returns-in_err-change-clause-fault
returns-in_err-change-clause-fault c =
    let p = err_from_is_err_and c.from_residual.result c.from_residual.ensures.1 in
    rw (p.1, p.2) (λ other. (c.in_err-change.field-0.0, c.in_err-change.ensures.fault (λ is. other (ap record_failure is)), refl))

pub returns-in-Some-clause-found : goal.returns-in-Some-clause-found
returns-in-Some-clause-found c =
    let words = c.in_ok-change.change.words.items in
    let seen = c.deref.result.now in
    let number = c.args.number in
    let lookup = c.in-Some.ensures.lookup in
    let found = slice_get_read seen (length seen) number c.in-Some.word.now refl lookup.3.0 lookup.1 in
    let bytes = c.in_ok-from_slice-in-Some.ensures.items ∙ c.as_bytes.ensures.value in (
      record_parts c.in_ok-change.change,
      c.in_ok-change.ensures.found,
      slice_get-map string_bytes words number
          ∙ ap (λ (all : List (String Global)). option_map string_bytes (slice_get all number)) (sym c.deref.ensures.value)
          ∙ ap (option_map string_bytes) found ∙ ap (λ (word : List ℕ). Some word) (sym bytes),
    )

pub returns-clause-none : goal.returns-clause-none
returns-clause-none c =
    let words = c.in_ok-change.change.words.items in
    let number = c.args.number in
    let past = slice_get_past c.deref.result.now number c.in-None.ensures.lookup.3 in (
      record_parts c.in_ok-change.change,
      c.in_ok-change.ensures.found,
      slice_get-map string_bytes words number
          ∙ ap (λ (all : List (String Global)). option_map string_bytes (slice_get all number)) (sym c.deref.ensures.value)
          ∙ ap (option_map string_bytes) past,
    )
