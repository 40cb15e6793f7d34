use Rattle.std.proofs.Common.{arith, w64, to_z, of_z, ◌*◌, ◌^◌, ◌∙◌, ap, sym, subst, refl, pos}
use Rattle.std.proofs.lemmas.Bool.{false≢true}
use Rattle.lattice_algebra.specs.Matrix.{matrix_of, det}
use Rattle.lattice_algebra.specs.Operator.{AreParts, HasEntriesWithin}
use Rattle.exact_ops.specs.declared.TheConstants.{UNIT, MAX_ENTRY}
use Rattle.lattice_algebra.proofs.Machine.{kept}
use Rattle.basis_change.specs.declared.TheConstants.{MAX_CELL}
use Rattle.space_groups.proofs.Changes.{IsInvertible-det}
use Rattle.basis_change.proofs.Frames.{wider, det_some}
use Rattle.basis_change.proofs.cell.CellChange.of.Goals as goal

pub returns-then-d-eq0-clause-some : goal.returns-then-d-eq0-clause-some
returns-then-d-eq0-clause-some c = ((λ t. absurd (false≢true t)), (λ q. absurd (omega (arith, q.0, c.if-d-eq0.true))))

pub returns-then-from-gt-MAX_CELL-clause-some : goal.returns-then-from-gt-MAX_CELL-clause-some
returns-then-from-gt-MAX_CELL-clause-some c = ((λ t. absurd (false≢true t)), (λ q. absurd (omega (arith, q.1, c.if-from-gt-MAX_CELL.true, c.from.ensures))))

pub returns-then-not-is_within-clause-some : goal.returns-then-not-is_within-clause-some
returns-then-not-is_within-clause-some c = ((λ t. absurd (false≢true t)), (λ q. absurd (false≢true (c.if-not-is_within.ensures.1 (subst (HasEntriesWithin MAX_CELL) (sym c.of-w.ensures) q.2)))))

pub determinant-requires : goal.determinant-requires
determinant-requires c = wider MAX_CELL MAX_ENTRY _ (omega arith) (c.if-not-is_within.ensures.0 refl)

pub returns-then-determinant-eq0-clause-some : goal.returns-then-determinant-eq0-clause-some
returns-then-determinant-eq0-clause-some c = ((λ t. absurd (false≢true t)), (λ q. absurd (det_some (matrix_of c.args.raw.now.w) q.3 (ap det (sym c.of-w.ensures) ∙ sym c.determinant.ensures.value ∙ sym (kept w64 (6 * MAX_ENTRY ^ 3) c.determinant.result c.determinant.ensures.size tt) ∙ ap (to_z w64) c.if-determinant-eq0.true))))

pub invariant_of-result : goal.invariant_of-result
invariant_of-result c = record { within = (c.if-not-is_within.ensures.0 refl); some = λ e. c.if-determinant-eq0.false (ap (of_z w64) (c.determinant.ensures.value ∙ e)); in_cell = subst (AreParts UNIT) (sym c.of.ensures) c.args.raw.now.in_range.in_cell; first = omega (arith, c.if-d-eq0.false); last = omega (arith, c.if-from-gt-MAX_CELL.false, c.from.ensures) }

pub returns-clause-some : goal.returns-clause-some
returns-clause-some c = ((λ t. (omega (arith, c.if-d-eq0.false), omega (arith, c.if-from-gt-MAX_CELL.false, c.from.ensures), subst (HasEntriesWithin MAX_CELL) c.of-w.ensures (c.if-not-is_within.ensures.0 refl), IsInvertible-det (matrix_of c.args.raw.now.w) (λ e. c.if-determinant-eq0.false (ap (of_z w64) (c.determinant.ensures.value ∙ ap det c.of-w.ensures ∙ e))))), (λ q. refl))

pub returns-clause-value : goal.returns-clause-value
returns-clause-value c = λ i. record { w = c.of-w.ensures i; t = c.of.ensures i; d = pos c.args.d }
