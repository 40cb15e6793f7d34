use Rattle.affine_sets.proofs.OneKey.{one_key}
use Rattle.affine_sets.proofs.laws.one_key_of_conjugate_images.Goals as goal

pub returns : goal.returns
returns c = λ members a b p q group. one_key members group a b p q
