use Rattle.std.proofs.Common.{◌∙◌, ap, sym, subst, refl, pos, ◌<ℤ◌, ◌+◌, ◌*◌}
use Rattle.lattice_algebra.specs.Matrix.{matrix_of}
use Rattle.space_groups.specs.Averages.{Block, block_plus, block_of}
use Rattle.exact_ops.specs.Fields.{matrix_in}
use Rattle.exact_ops.specs.Elements.{map_in}
use Rattle.affine_sets.specs.Fields.{block_in, offset_in}
use Rattle.affine_sets.proofs.Sums.{added, IsSum-more}
use Rattle.lattice_algebra.specs.Matrix.{Column}
use Rattle.lattice_algebra.specs.Operator.{AreWithin}
use Rattle.exact_ops.specs.declared.TheConstants.{UNIT, MAX_SHIFT}
use Rattle.group_closure.specs.declared.TheConstants.{MAX_OPERATORS}
use Rattle.affine_sets.specs.Averages.{IsSum}
use Rattle.affine_sets.proofs.special.Sum.add.Goals as goal

pub invariant_of-self : goal.invariant_of-self
invariant_of-self c =
    let a = block_in c.self.inside.m c.self.inside.t c.self.inside.count in
    let e = map_in c.args.e.now in
    let is = added a e (matrix_in c.sum-self-inside.result) (matrix_in c.of.result) (offset_in c.offset_sum-self-inside.result) (offset_in c.translation.result) _
    c.sum-self-inside.ensures (c.of.ensures ∙ ap matrix_of c.w.ensures.value) c.offset_sum-self-inside.ensures c.translation.ensures.value refl in
    subst IsSum (sym is) (IsSum-more a e c.self.invariant (subst (λ (b : Block). b.n <ℤ pos MAX_OPERATORS) (sym c.self.view_is) c.requires) c.w.ensures.narrow.within_two
    (subst (λ (s : Column). AreWithin (UNIT * (MAX_SHIFT + 1)) s.x s.y s.z) c.translation.ensures.value c.translation.ensures.size))

pub returns : goal.returns
returns c =
    let a = block_in c.self.inside.m c.self.inside.t c.self.inside.count in
    let e = map_in c.args.e.now in
    added a e (matrix_in c.sum-self-inside.result) (matrix_in c.of.result) (offset_in c.offset_sum-self-inside.result) (offset_in c.translation.result) _
    c.sum-self-inside.ensures (c.of.ensures ∙ ap matrix_of c.w.ensures.value) c.offset_sum-self-inside.ensures c.translation.ensures.value refl
    ∙ ap (λ b. block_plus b (block_of e)) c.self.view_is
