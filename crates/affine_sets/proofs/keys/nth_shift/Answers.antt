use Rattle.affine_sets.proofs.KeySizes.{IsNumbered, numbered}
use Rattle.affine_sets.proofs.keys.nth_shift.Goals as goal
use Rattle.affine_sets.proofs.keys.nth_shift.Goals.{After-from-3}

made : (c : After-from-3) → IsNumbered c.args.sizes.now c.args.i c.from.result c.from-2.result c.from-3.result
made c = numbered c.args.sizes.now c.args.i c.from.result c.from-2.result c.from-3.result c.requires.sizes c.requires.within c.from.ensures c.from-2.ensures c.from-3.ensures

pub returns-clause-value : goal.returns-clause-value
returns-clause-value c = (made c).value

pub returns-clause-size : goal.returns-clause-size
returns-clause-size c = (made c).size
