use Rattle.std.proofs.Common.{refl}
use Rattle.atom_expand.proofs.same.kept_product.Goals as goal

pub returns : goal.returns
returns c = refl
