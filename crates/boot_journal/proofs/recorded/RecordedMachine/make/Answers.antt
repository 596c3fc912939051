-- The three ends of `make` once the storage was asked to make the change: it did, it did but says that it failed, or it
-- didn't. For each, which moves the record got, and what it was asked; the rest follows from the moves.
use Rattle.std.proofs.Common.{inl, inr, true, false, is_ok, [], ◌∷◌, refl, ap, ◌∙◌}
use Rattle.boot_journal.specs.declared.recorded.Move.TheVariants.{Made, Refused}
use Rattle.boot_journal.specs.Asked.{ToMake, HasMade, and_then}
use Rattle.boot_journal.specs.Cause.{and_failed, failures_of}
use Rattle.boot_journal.specs.RecordedValue.{store_of}
use Rattle.boot_journal.specs.Store.{with_made, IsEither}
use Rattle.boot_journal.proofs.Failures.{untold}
use Rattle.boot_journal.proofs.Records.{Goes, moments, ends, no_refusal, one_refusal, asked_twice, told_once, told_twice}
use Rattle.boot_journal.proofs.recorded.RecordedMachine.make.Goals as goal

pub returns-in-Ok : goal.returns-in-Ok
returns-in-Ok g c =
    let s = c.args.self.now in
    let k = c.keep_change.new.self in
    let goes : Goes (store_of s.first) (store_of s.now) (store_of k.first) (store_of k.now) s.moves.items k.moves.items (Made c.args.change.now ∷ []) =
    record {
      is = λ i. record { variables = s.vars_are i; journal = s.journal_is i };
      same = ap store_of (c.keep_change.ensures.first ∙ c.reserve.ensures.first);
      told = told_once _ _ _ _ _ c.reserve.ensures.moves (ap Made c.in_ok-copy.ensures) c.keep_change.ensures.moves;
      leads = c.keep_change.ensures.store ∙ (λ i. with_made (c.in_ok-copy.ensures i ∷ []) (c.reserve.ensures.now i));
    } in
    record {
      cause = no_refusal goes;
      failed = untold [];
      made = goes.leads;
      recorded = inl (ends goes);
      whole = inr goes.leads;
      moments = moments (IsEither (store_of s.now) (with_made (c.args.change.now ∷ []) (store_of s.now))) goes (inr refl, tt);
      asked = record {
        asks = ap g.D.Storage.asked c.keep_change.ensures.storage ∙ c.make.ensures.asks
            ∙ (λ i. and_then (g.D.Storage.asked (c.reserve.ensures.storage i)) (ToMake c.args.change.now (is_ok (c.in-Ok.is i)) ∷ []));
        told = goes.told;
      };
      refused = tt;
      told = tt;
    }

pub returns-then-has_made : goal.returns-then-has_made
returns-then-has_made g c =
    let s = c.args.self.now in
    let k = c.keep_change-then-has_made in
    let r = c.keep_refusal in
    let now = store_of s.now in
    let goes : Goes (store_of s.first) now (store_of r.new.self.first) (store_of r.new.self.now) s.moves.items r.new.self.moves.items
    (Made c.args.change.now ∷ Refused ∷ []) = record {
      is = λ i. record { variables = s.vars_are i; journal = s.journal_is i };
      same = ap store_of (r.ensures.first ∙ k.ensures.first ∙ c.reserve.ensures.first);
      told = told_twice _ _ _ _ _ (told_once _ _ _ _ _ c.reserve.ensures.moves (ap Made c.in_ok-copy.ensures) k.ensures.moves) r.ensures.moves;
      leads = r.ensures.store ∙ k.ensures.store ∙ (λ i. with_made (c.in_ok-copy.ensures i ∷ []) (c.reserve.ensures.now i));
    } in
    record {
      cause = one_refusal c.in-Err.error goes refl;
      failed = untold (c.in-Err.error ∷ []);
      made = tt;
      recorded = inl (ends goes);
      whole = inr goes.leads;
      moments = moments (IsEither now (with_made (c.args.change.now ∷ []) now)) goes (inr refl, (inr refl, tt));
      asked = tt;
      refused = inr (
        true,
        record {
          asks = ap g.D.Storage.asked (r.ensures.storage ∙ k.ensures.storage) ∙ asked_twice _ _ _ _ _
              (c.make.ensures.asks
              ∙ ap (λ r. and_then (g.D.Storage.asked c.reserve.new.self.storage) (ToMake c.args.change.now (is_ok r) ∷ [])) c.in-Err.is
              ∙ ap (λ d. and_then (g.D.Storage.asked d) (ToMake c.args.change.now false ∷ [])) c.reserve.ensures.storage)
              (c.has_made.ensures.asks ∙ ap (λ b. and_then (g.D.Storage.asked c.make.new.self) (HasMade c.args.change.now b ∷ [])) c.if-has_made.true);
          told = goes.told;
        },
      );
      told = inr (ap g.D.Storage.failures (r.ensures.storage ∙ k.ensures.storage) ∙ c.has_made.ensures.failed ∙ c.make.ensures.failed
          ∙ ap (λ r. and_failed (g.D.Storage.failures c.reserve.new.self.storage) (failures_of r)) c.in-Err.is
          ∙ ap (λ d. and_failed (g.D.Storage.failures d) (c.in-Err.error ∷ [])) c.reserve.ensures.storage);
    }

pub returns-else-has_made : goal.returns-else-has_made
returns-else-has_made g c =
    let s = c.args.self.now in
    let r = c.keep_refusal-else-has_made in
    let now = store_of s.now in
    let goes : Goes (store_of s.first) now (store_of r.new.self.first) (store_of r.new.self.now) s.moves.items r.new.self.moves.items (Refused ∷ []) =
    record {
      is = λ i. record { variables = s.vars_are i; journal = s.journal_is i };
      same = ap store_of (r.ensures.first ∙ c.reserve.ensures.first);
      told = told_once _ _ _ _ _ c.reserve.ensures.moves refl r.ensures.moves;
      leads = r.ensures.store ∙ c.reserve.ensures.now;
    } in
    record {
      cause = one_refusal c.in-Err.error goes refl;
      failed = untold (c.in-Err.error ∷ []);
      made = tt;
      recorded = inl (ends goes);
      whole = inl goes.leads;
      moments = moments (IsEither now (with_made (c.args.change.now ∷ []) now)) goes (inl refl, tt);
      asked = tt;
      refused = inr (
        false,
        record {
          asks = ap g.D.Storage.asked r.ensures.storage ∙ asked_twice _ _ _ _ _
              (c.make.ensures.asks
              ∙ ap (λ r. and_then (g.D.Storage.asked c.reserve.new.self.storage) (ToMake c.args.change.now (is_ok r) ∷ [])) c.in-Err.is
              ∙ ap (λ d. and_then (g.D.Storage.asked d) (ToMake c.args.change.now false ∷ [])) c.reserve.ensures.storage)
              (c.has_made.ensures.asks ∙ ap (λ b. and_then (g.D.Storage.asked c.make.new.self) (HasMade c.args.change.now b ∷ [])) c.if-has_made.false);
          told = goes.told;
        },
      );
      told = inr (ap g.D.Storage.failures (r.ensures.storage) ∙ c.has_made.ensures.failed ∙ c.make.ensures.failed
          ∙ ap (λ r. and_failed (g.D.Storage.failures c.reserve.new.self.storage) (failures_of r)) c.in-Err.is
          ∙ ap (λ d. and_failed (g.D.Storage.failures d) (c.in-Err.error ∷ [])) c.reserve.ensures.storage);
    }
