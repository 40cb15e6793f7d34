-- A group, as the laws of space groups speak of it.
use Rattle.std.proofs.Common.{List}
use Rattle.lattice_algebra.specs.Operator.{Operator}
use Rattle.exact_ops.specs.declared.TheConstants.{UNIT}
use Rattle.exact_ops.proofs.Narrow.{some_parts}
use Rattle.group_closure.specs.GroupList.{IsGroup}
use Rattle.group_closure.proofs.Lists.{closed_list}
use Rattle.space_groups.proofs.Elements.{SpaceGroup}

-- the members of a group are those of a space group, over UNIT parts of a cell
abbrev pub space_of : (members : List Operator) → IsGroup members → SpaceGroup
space_of members g = record { unit = UNIT; some = some_parts; members = members; closed = closed_list members g }
