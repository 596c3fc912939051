-- The magic, the fields that were read, and what is left are the bytes; what is left gets shorter.
use Rattle.std.proofs.Common.{length, map}
use Rattle.change_records.proofs.FieldLists.{IsOnTheWay}
use Rattle.change_records.proofs.fields.read_fields.Given as goal

abbrev pub invariant-loop-rest : goal.invariant-loop-rest
invariant-loop-rest l = IsOnTheWay l.bytes (map (λ f. f.now) l.fields.items) l.rest

abbrev pub decreases-loop-rest : goal.decreases-loop-rest
decreases-loop-rest l = length l.rest
