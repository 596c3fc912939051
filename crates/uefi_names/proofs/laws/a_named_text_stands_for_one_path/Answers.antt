use Rattle.uefi_names.proofs.Back.{named_one}
use Rattle.uefi_names.proofs.laws.a_named_text_stands_for_one_path.Goals as goal

pub returns : goal.returns
returns c = λ table text p q first second. named_one c.bytes_spell_one_node.ensures table text p q first second
