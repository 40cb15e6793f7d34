use Rattle.std.proofs.Common.{◌≡◌, Some, length, slice_get}
use Rattle.lattice_algebra.specs.Operator.{Operator}
use Rattle.group_closure.specs.declared.TheConstants.{MAX_OPERATORS}
use Rattle.group_closure.proofs.Tables.{IsRowBegun}
use Rattle.group_closure.proofs.table.row_of.Given as goal

abbrev pub invariant-loop-c : goal.invariant-loop-c
invariant-loop-c l = record {
  size : length l.row ≡ MAX_OPERATORS;
  size_found : length l.found ≡ MAX_OPERATORS;
  begun : (f : Operator) → slice_get l.making.members.items l.place ≡ Some f → IsRowBegun l.making.members.items l.ranks l.found l.row l.c f;
}
