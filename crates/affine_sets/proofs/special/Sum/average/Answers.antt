use Rattle.std.proofs.Common.{◌≡◌, ◌∙◌, ap, sym, subst, refl, pos, length, w32, w64}
use Rattle.lattice_algebra.specs.Matrix.{scaled, times}
use Rattle.space_groups.specs.Averages.{Block, block_scaled}
use Rattle.exact_ops.specs.Fields.{matrix_in}
use Rattle.affine_sets.specs.Fields.{block_in, offset_in}
use Rattle.affine_sets.specs.Conditions.{IsSumOfGroup}
use Rattle.affine_sets.proofs.Sums.{averaged, IsAveraged, quotient_kept, quotient_within, some_elements, recounted}
use Rattle.affine_sets.proofs.special.Sum.average.Goals as goal
use Rattle.affine_sets.proofs.special.Sum.average.Goals.{After-len-2}

pub nonzero_div-times : goal.nonzero_div-times
nonzero_div-times c = some_elements c.args.g.now c.len.ensures.group (block_in c.self.inside.m c.self.inside.t c.self.inside.count) (recounted (block_in c.self.inside.m c.self.inside.t c.self.inside.count) c.self.invariant c.self.inside.count refl) (subst (IsSumOfGroup c.args.g.now) (sym c.self.view_is) c.requires)

made : (c : After-len-2) → IsAveraged c.args.g.now (block_in c.self.inside.m c.self.inside.t c.self.inside.count) (block_in c.multiple.result c.offset_multiple.result c.len-2.result)
made c =
    let g = c.len.ensures.group in
    averaged c.args.g.now g (block_in c.self.inside.m c.self.inside.t c.self.inside.count) (block_in c.multiple.result c.offset_multiple.result c.len-2.result) (recounted (block_in c.self.inside.m c.self.inside.t c.self.inside.count) c.self.invariant c.self.inside.count refl) (subst (IsSumOfGroup c.args.g.now) (sym c.self.view_is) c.requires)
    (c.multiple.ensures ∙ ap (λ k. scaled k (matrix_in c.self.inside.m)) (quotient_kept w32 c.from.result c.len.result (length c.args.g.now) c.self.inside.count c.from.ensures c.len.ensures.value g.within tt))
    (c.offset_multiple.ensures ∙ ap (λ k. times k (offset_in c.self.inside.t)) (quotient_kept w64 c.from-2.result c.len.result (length c.args.g.now) c.self.inside.count c.from-2.ensures c.len.ensures.value g.within tt))
    (ap pos c.len-2.ensures.value)

pub multiple-requires-clause-number : goal.multiple-requires-clause-number
multiple-requires-clause-number c = quotient_within w32 c.from.result c.len.result (length c.args.g.now) c.self.inside.count c.from.ensures c.len.ensures.value c.len.ensures.group.within tt

pub invariant_of-result : goal.invariant_of-result
invariant_of-result c = (made c).special

pub returns-clause-value : goal.returns-clause-value
returns-clause-value c = subst (λ (a : Block). block_scaled a.n (block_in c.multiple.result c.offset_multiple.result c.len-2.result) ≡ block_scaled (pos (length c.args.g.now)) a) c.self.view_is (made c).value

pub returns-clause-over : goal.returns-clause-over
returns-clause-over c = ap pos c.len-2.ensures.value

pub returns-clause-group : goal.returns-clause-group
returns-clause-group c = c.len.ensures.group
