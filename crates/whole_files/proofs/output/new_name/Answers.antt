use Rattle.std.proofs.Common.{◌∙◌, ap, ℕ, List, take}
use Rattle.whole_files.proofs.output.new_name.Goals as goal

-- the place that was found is a place of the name as it was made
pub returns : goal.returns
returns c =
    let whole = c.as_str.ensures.value ∙ c.in_ok-name.ensures.ok in
    let end = c.floor_char_boundary-end in (
      end.result,
      (end.ensures.bound, rw whole at end.ensures.boundary, rw whole at end.ensures.nearest),
      c.truncate.ensures.bytes ∙ ap (λ (bytes : List ℕ). take end.result bytes) c.in_ok-name.ensures.ok,
    )
