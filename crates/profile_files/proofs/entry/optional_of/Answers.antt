use Rattle.std.specs.Prelude.{Some, None}
use Rattle.profile_files.proofs.Results.{if_ok}
use Rattle.profile_files.proofs.entry.optional_of.Goals as goal

pub returns-in-None-Some : goal.returns-in-None-Some
returns-in-None-Some c =
    let w = c.in-None-Some in
    if_ok c.text_bytes_of.result c.text_bytes_of.ensures (λ bytes is. record {
      digits = None;
      text = Some w.text.now;
      has_digits = w.ensures;
      has_text = w.ensures';
      is = is;
    })
