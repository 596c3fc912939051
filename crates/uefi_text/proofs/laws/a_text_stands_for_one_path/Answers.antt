use Rattle.uefi_text.proofs.Means.Paths.{path_text_one}
use Rattle.uefi_text.proofs.laws.a_text_stands_for_one_path.Goals as goal

pub returns : goal.returns
returns c = λ text p q first second. path_text_one c.bytes_spell_one_node.ensures text p q first second
