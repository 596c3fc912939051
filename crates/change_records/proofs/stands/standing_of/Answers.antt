-- They are compared with those after the change, then with those before it, and then with both as a start may have left them.
use Rattle.std.proofs.Common.{inl, sym, ◌∙◌}
use Rattle.std.proofs.lemmas.Bool.{false≢true}
use Rattle.change_records.specs.Record.{record_parts}
use Rattle.change_records.proofs.Standings.{used_stands}
use Rattle.change_records.proofs.stands.standing_of.Goals as goal

pub returns-then-eq : goal.returns-then-eq
returns-then-eq c = record { part = c.in_ok-part.part; boot = c.in_ok-part.ensures; is = inl (c.eq.ensures.equal.0 c.if-eq.true) }

pub returns-then-eq-2 : goal.returns-then-eq-2
returns-then-eq-2 c = record {
  part = c.in_ok-part.part;
  boot = c.in_ok-part.ensures;
  is = inl (λ same. false≢true (sym c.if-eq.false ∙ c.eq.ensures.equal.1 same), c.eq-else-eq.ensures.equal.0 c.if-eq-2.true);
}

pub returns : goal.returns
returns c = record {
  part = c.in_ok-part.part;
  boot = c.in_ok-part.ensures;
  is = used_stands (record_parts c.args.«record».now) c.in_ok-part.part
      (λ same. false≢true (sym c.if-eq.false ∙ c.eq.ensures.equal.1 same))
      (λ same. false≢true (sym c.if-eq-2.false ∙ c.eq-else-eq.ensures.equal.1 same)) _ c.in_ok-standing.ensures;
}
