use Rattle.std.proofs.Common.{◌≡◌, ◌∙◌, Contains, Some, sym, subst, ap}
use Rattle.std.proofs.lemmas.Option.{slice_get_within}
use Rattle.lattice_algebra.specs.Matrix.{column_of}
use Rattle.lattice_algebra.specs.Map.{operator_of}
use Rattle.lattice_algebra.proofs.Maps.{operator_of-shifted}
use Rattle.exact_ops.specs.declared.TheConstants.{UNIT}
use Rattle.exact_ops.specs.declared.moves.Move.{Move}
use Rattle.exact_ops.specs.Elements.{map_in}
use Rattle.exact_ops.specs.Narrow.{IsNarrow}
use Rattle.exact_ops.proofs.Narrow.{some_parts}
use Rattle.affine_sets.proofs.numbers.place_of.Goals as goal

own_operator : (m : Move) → IsNarrow m.op → operator_of UNIT (map_in m) ≡ m.op
own_operator m n = operator_of-shifted UNIT some_parts m.op (column_of m.shift) n.is_operator

pub unwrap-requires : goal.unwrap-requires
unwrap-requires c = c.find.ensures.some.1 (subst (Contains c.args.g.now) (own_operator c.args.e.now c.t.ensures.narrow) c.requires)

pub returns-clause-within : goal.returns-clause-within
returns-clause-within c = slice_get_within c.args.g.now c.unwrap.result c.args.e.now.op (rw c.unwrap.ensures at c.find.ensures.place)

pub returns-clause-value : goal.returns-clause-value
returns-clause-value c = (rw c.unwrap.ensures at c.find.ensures.place) ∙ ap Some (sym (own_operator c.args.e.now c.t.ensures.narrow))

pub returns-clause-operator : goal.returns-clause-operator
returns-clause-operator c = own_operator c.args.e.now c.t.ensures.narrow
