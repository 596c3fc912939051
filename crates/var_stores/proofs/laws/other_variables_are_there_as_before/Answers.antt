use Rattle.var_stores.proofs.AfterWriting.{others_as_before}
use Rattle.var_stores.proofs.laws.other_variables_are_there_as_before.Goals as goal

pub returns : goal.returns
returns c = λ file bytes to attributes written key apart. others_as_before file bytes to attributes written key apart
