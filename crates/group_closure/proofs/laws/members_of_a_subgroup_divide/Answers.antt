use Rattle.std.proofs.Common.{length, subst, sym}
use Rattle.std.specs.Int.{◌∣◌}
use Rattle.std.proofs.Math.Nat.{dvd-mul_left}
use Rattle.std.proofs.lemmas.Map.Made.{IsDistinct-from_AllPairs}
use Rattle.finite_groups.proofs.Cosets.{part_divides}
use Rattle.group_closure.proofs.CellOperators.{cell_operators}
use Rattle.group_closure.proofs.Lists.{closed_list}
use Rattle.group_closure.proofs.laws.members_of_a_subgroup_divide.Goals as goal

pub returns : goal.returns
returns c = λ members part some h d m sub into.
    let r = part_divides cell_operators members part (closed_list members h) (IsDistinct-from_AllPairs cell_operators.same part d) some m sub into in
    subst (λ n. length part ∣ n) (sym r.1) (dvd-mul_left (length part) r.0)
