use Rattle.std.proofs.Common.{rules, w64, FitsSigned}
use Rattle.exact_ops.proofs.Bounds.{three_passed}
use Rattle.basis_change.specs.Wide.{wide_matrix, WIDE}
use Rattle.basis_change.proofs.Indices.{numbers_wide, x_column_wide, y_column_wide, z_column_wide, row_is}
use Rattle.basis_change.proofs.parts.row_of.Goals as goal

pub dot-requires-clause-left : goal.dot-requires-clause-left
dot-requires-clause-left c = numbers_wide c.from-h.result c.from-k.result c.from-l.result c.x.inside.h c.x.inside.k c.x.inside.l c.from-h.ensures c.from-k.ensures c.from-l.ensures c.x.invariant

pub dot-requires-clause-right : goal.dot-requires-clause-right
dot-requires-clause-right c = three_passed w64 WIDE c.args.p.now.xx c.args.p.now.yx c.args.p.now.zx (x_column_wide (wide_matrix c.args.p.now) c.requires) tt

pub dot-requires-2-clause-left : goal.dot-requires-2-clause-left
dot-requires-2-clause-left c = numbers_wide c.from-h.result c.from-k.result c.from-l.result c.x.inside.h c.x.inside.k c.x.inside.l c.from-h.ensures c.from-k.ensures c.from-l.ensures c.x.invariant

pub dot-requires-2-clause-right : goal.dot-requires-2-clause-right
dot-requires-2-clause-right c = three_passed w64 WIDE c.args.p.now.xy c.args.p.now.yy c.args.p.now.zy (y_column_wide (wide_matrix c.args.p.now) c.requires) tt

pub dot-requires-3-clause-left : goal.dot-requires-3-clause-left
dot-requires-3-clause-left c = numbers_wide c.from-h.result c.from-k.result c.from-l.result c.x.inside.h c.x.inside.k c.x.inside.l c.from-h.ensures c.from-k.ensures c.from-l.ensures c.x.invariant

pub dot-requires-3-clause-right : goal.dot-requires-3-clause-right
dot-requires-3-clause-right c = three_passed w64 WIDE c.args.p.now.xz c.args.p.now.yz c.args.p.now.zz (z_column_wide (wide_matrix c.args.p.now) c.requires) tt

pub returns : goal.returns
returns c = let f : (FitsSigned w64 c.dot.result) × (FitsSigned w64 c.dot-2.result) × (FitsSigned w64 c.dot-3.result) = search rules in row_is c.from-h.result c.from-k.result c.from-l.result c.x.inside.h c.x.inside.k c.x.inside.l (wide_matrix c.args.p.now) c.dot.result c.dot-2.result c.dot-3.result c.args.x.now c.from-h.ensures c.from-k.ensures c.from-l.ensures c.x.invariant c.requires f c.dot.ensures.value c.dot-2.ensures.value c.dot-3.ensures.value c.x.view_is
