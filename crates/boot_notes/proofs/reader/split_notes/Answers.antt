-- What is spelled is read.
use Rattle.std.proofs.Common.{◌++◌, ap, ◌∙◌}
use Rattle.std.proofs.lemmas.Result.{err_from_is_err_and}
use Rattle.boot_notes.specs.Bytes.{magic_3, SpellsNotes}
use Rattle.boot_notes.proofs.Spellings.{magic_read, only_memory}
use Rattle.boot_notes.proofs.reader.split_notes.Goals as goal

pub returns-in_err-split_body-in-Some-clause-only : goal.returns-in_err-split_body-in-Some-clause-only
returns-in_err-split_body-in-Some-clause-only c = λ notes file spelled.
    let bytes = c.args.bytes.now in
    let p = err_from_is_err_and c.from_residual.result c.from_residual.ensures.1 in
    let front = c.in-Some.ensures.cases in
    rw (p.1, p.2)
    (only_memory bytes c.in-Some.body.now _ notes file (magic_read bytes c.in-Some.body.now front.0 front.1) c.in_err-split_body-in-Some.ensures.fault spelled)

pub returns-in_ok-split_body-in-Some-clause-only : goal.returns-in_ok-split_body-in-Some-clause-only
returns-in_ok-split_body-in-Some-clause-only c = λ notes file spelled.
    let bytes = c.args.bytes.now in
    let front = c.in-Some.ensures.cases in
    let read = c.in_ok-split_body-in-Some in
    let is = magic_read bytes c.in-Some.body.now front.0 front.1 ∙ ap (λ t. magic_3 ++ t) read.ensures.found in
    let found : SpellsNotes bytes read.field-0.notes read.field-0.file.now = record { valid = read.ensures.valid; is = is } in
    c.bytes_spell_notes_once.ensures bytes _ notes _ file found spelled
