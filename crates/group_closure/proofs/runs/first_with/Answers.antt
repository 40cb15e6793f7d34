use Rattle.std.proofs.Common.{◌≡◌, ◌+◌, ◌/◌, refl, sym, arith, Equal, ◌∙◌}
use Rattle.std.proofs.lemmas.Bool.{true≢false}
use Rattle.lattice_algebra.specs.Matrix.{entries, matrix_of}
use Rattle.group_closure.specs.Runs.{IsFirstWith}
use Rattle.group_closure.proofs.OneMatrix.{rows_cmp, to_all, to_above, to_below, first_at_once, first_at, has_first, nowhere_behind, nowhere_at, equal_by, other_by, less_by, not_less_by}
use Rattle.group_closure.proofs.Places.{some_member}
use Rattle.group_closure.proofs.runs.first_with.Goals as goal

at_once : (c : goal.Then-is_eq) → rows_cmp (entries c.index-members-0.result.w) c.args.matrix.now ≡ Equal
at_once c = sym c.compare_matrix.ensures ∙ equal_by c.compare_matrix.result c.is_eq.result c.is_eq.ensures c.if-is_eq.true

pub returns-then-is_eq-clause-some : goal.returns-then-is_eq-clause-some
returns-then-is_eq-clause-some c = (λ _. has_first c.args.members.now _ 0 (first_at_once c.args.members.now c.args.matrix.now c.index-members-0.result (some_member c.args.members.now c.requires.group) c.index-members-0.is (at_once c)), λ _. refl)

pub returns-then-is_eq-clause-first : goal.returns-then-is_eq-clause-first
returns-then-is_eq-clause-first c = first_at_once c.args.members.now c.args.matrix.now c.index-members-0.result (some_member c.args.members.now c.requires.group) c.index-members-0.is (at_once c)

pub loop-low-init : goal.loop-low-init
loop-low-init c = to_all c.args.members.now c.args.matrix.now (some_member c.args.members.now c.requires.group) c.index-members-0.result c.index-members-0.is (λ e. other_by c.compare_matrix.result c.is_eq.result c.is_eq.ensures c.if-is_eq.false (c.compare_matrix.ensures ∙ e))

pub loop-low-preserved-then-is_lt : goal.loop-low-preserved-then-is_lt
loop-low-preserved-then-is_lt c =
    to_above c.args.members.now c.args.matrix.now c.requires.group.sorted c.loop-low.low c.loop-low.high ((c.loop-low.low + c.loop-low.high) / 2) c.index-members-middle.result c.loop-low.invariant (omega arith) (omega arith) c.index-members-middle.is (sym c.compare_matrix-in-loop-low.ensures ∙ less_by c.compare_matrix-in-loop-low.result c.is_lt.result c.is_lt.ensures c.if-is_lt.true)

pub loop-low-preserved : goal.loop-low-preserved
loop-low-preserved c =
    to_below c.args.members.now c.args.matrix.now c.requires.group.sorted c.loop-low.low c.loop-low.high ((c.loop-low.low + c.loop-low.high) / 2) c.index-members-middle.result c.loop-low.invariant (omega arith) (omega arith) c.index-members-middle.is (λ e. not_less_by c.compare_matrix-in-loop-low.result c.is_lt.result c.is_lt.ensures c.if-is_lt.false (c.compare_matrix-in-loop-low.ensures ∙ e))

pub returns-then-low-members-clause-some : goal.returns-then-low-members-clause-some
returns-then-low-members-clause-some c = (λ e. absurd (true≢false (sym e)), λ h. absurd (nowhere_behind c.args.members.now c.args.matrix.now c.requires.rows c.loop-low.low c.loop-low.high c.loop-low.invariant c.if-low-members.true h))

low_at : (c : goal.Then-is_eq-2) → IsFirstWith c.args.members.now (matrix_of c.args.matrix.now) c.loop-low.low
low_at c =
    first_at c.args.members.now c.args.matrix.now c.requires.rows c.loop-low.low c.loop-low.high c.index-members-low.result c.loop-low.invariant c.if-low-members.false c.index-members-low.is (sym c.compare_matrix-2.ensures ∙ equal_by c.compare_matrix-2.result c.is_eq-2.result c.is_eq-2.ensures c.if-is_eq-2.true)

pub returns-then-is_eq-2-clause-some : goal.returns-then-is_eq-2-clause-some
returns-then-is_eq-2-clause-some c = (λ _. has_first c.args.members.now _ c.loop-low.low (low_at c), λ _. refl)

pub returns-then-is_eq-2-clause-first : goal.returns-then-is_eq-2-clause-first
returns-then-is_eq-2-clause-first c = low_at c

pub returns-clause-some : goal.returns-clause-some
returns-clause-some c = (
  λ e. absurd (true≢false (sym e)),
  λ h.
      absurd (nowhere_at c.args.members.now c.args.matrix.now c.requires.rows c.requires.group.sorted c.loop-low.low c.loop-low.high c.index-members-low.result c.loop-low.invariant c.loop-low-test.false c.if-low-members.false c.index-members-low.is
      (λ e. other_by c.compare_matrix-2.result c.is_eq-2.result c.is_eq-2.ensures c.if-is_eq-2.false (c.compare_matrix-2.ensures ∙ e)) h),
)
