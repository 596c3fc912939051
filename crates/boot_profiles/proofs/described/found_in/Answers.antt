use Rattle.std.proofs.Common.{rules}
use Rattle.boot_profiles.proofs.Descriptions.{several_in}
use Rattle.boot_profiles.proofs.described.found_in.Goals as goal

pub returns-in_default : goal.returns-in_default
returns-in_default c = several_in c.args.numbers.now (search rules) (search rules)
