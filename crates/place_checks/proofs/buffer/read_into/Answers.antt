use Rattle.std.proofs.Common.{◌≡◌, ◌<◌, ℕ, List, [], ◌++◌, length, take, Option, Some, None, ap, ◌∙◌, inl, inr, arith}
use Rattle.std.specs.Prelude.{IfSome}
use Rattle.std.specs.Option.{option_map}
use Rattle.std.proofs.lemmas.Bool.{cases_lt}
use Rattle.std.proofs.lemmas.List.{length-take-le, take_all}
use Rattle.place_checks.proofs.buffer.read_into.Goals as goal

-- what is shorter than the limit up to which it was read is all that there was
all_read : (known : Option (List ℕ)) (limit : ℕ) (start bytes : List ℕ) → start ≡ [] → length bytes < limit
    → IfSome (option_map (λ (t : List ℕ). take limit t) known) (λ front. bytes ≡ start ++ front)
    → IfSome known (λ rest. bytes ≡ rest)
all_read None limit start bytes empty short is = tt
all_read (Some rest) limit start bytes empty short is =
    let read : bytes ≡ take limit rest = is ∙ ap (λ (t : List ℕ). t ++ take limit rest) empty in
    elim (cases_lt (length rest) limit) [
      | inl lt ↦ read ∙ take_all limit rest (omega arith)
      | inr le ↦
          let size : length bytes ≡ limit = ap length read ∙ length-take-le limit rest le in absurd (omega arith)
    ]

-- no vector is as long as what is read at most, whatever the limit is
pub returns-clause-all : goal.returns-clause-all
returns-clause-all g c _ =
    let bytes = c.read_to_end.new.buf in
    let most = c.saturating_add-most in
    let read = rw (c.take.ensures.limit, c.take.ensures.inner) at c.in_ok-read_to_end.ensures.bytes in
    let short : length bytes.items < most.result = omega (arith, bytes.ok.0, bytes.ok.1, bytes.small, most.ensures) in
    let start = c.empty.new.buffer in
    all_read (g.R.Read.remaining c.args.reader) most.result start.items bytes.items c.empty.ensures short read
