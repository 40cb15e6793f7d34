use Rattle.std.proofs.Common.{rules, w32, w64, FitsSigned}
use Rattle.exact_ops.proofs.Bounds.{passed}
use Rattle.basis_change.specs.Wide.{wide_column, WIDE}
use Rattle.exact_ops.specs.declared.TheConstants.{UNIT}
use Rattle.basis_change.proofs.Frames.{BOUND, narrow_wide, parts_wide, origin_within, translation_is}
use Rattle.basis_change.proofs.frame.Frame.translation.Goals as goal

pub on-back-requires-clause-left : goal.on-back-requires-clause-left
on-back-requires-clause-left c = narrow_wide _ c.requires.narrow

pub on-back-requires-clause-right : goal.on-back-requires-clause-right
on-back-requires-clause-right c = parts_wide _ c.requires.frame.in_cell

pub place-requires-clause-moved : goal.place-requires-clause-moved
place-requires-clause-moved c = passed w64 BOUND c.args.q.now.x c.requires.within.first tt

pub place-requires-clause-origin : goal.place-requires-clause-origin
place-requires-clause-origin c = passed w64 UNIT c.args.self.now.t.x (origin_within c.args.self.now c.requires.frame).first tt

pub place-requires-clause-back : goal.place-requires-clause-back
place-requires-clause-back c = passed w64 BOUND c.on-back.result.x (c.on-back.ensures.size WIDE WIDE (narrow_wide _ c.requires.narrow) (parts_wide _ c.requires.frame.in_cell)).first tt

pub place-requires-2-clause-moved : goal.place-requires-2-clause-moved
place-requires-2-clause-moved c = passed w64 BOUND c.args.q.now.y c.requires.within.second tt

pub place-requires-2-clause-origin : goal.place-requires-2-clause-origin
place-requires-2-clause-origin c = passed w64 UNIT c.args.self.now.t.y (origin_within c.args.self.now c.requires.frame).second tt

pub place-requires-2-clause-back : goal.place-requires-2-clause-back
place-requires-2-clause-back c = passed w64 BOUND c.on-back.result.y (c.on-back.ensures.size WIDE WIDE (narrow_wide _ c.requires.narrow) (parts_wide _ c.requires.frame.in_cell)).second tt

pub place-requires-3-clause-moved : goal.place-requires-3-clause-moved
place-requires-3-clause-moved c = passed w64 BOUND c.args.q.now.z c.requires.within.third tt

pub place-requires-3-clause-origin : goal.place-requires-3-clause-origin
place-requires-3-clause-origin c = passed w64 UNIT c.args.self.now.t.z (origin_within c.args.self.now c.requires.frame).third tt

pub place-requires-3-clause-back : goal.place-requires-3-clause-back
place-requires-3-clause-back c = passed w64 BOUND c.on-back.result.z (c.on-back.ensures.size WIDE WIDE (narrow_wide _ c.requires.narrow) (parts_wide _ c.requires.frame.in_cell)).third tt

pub returns : goal.returns
returns c = let f : (FitsSigned w32 c.place.result) × (FitsSigned w32 c.place-2.result) × (FitsSigned w32 c.place-3.result) = search rules in translation_is (wide_column c.args.q.now) (wide_column c.args.self.now.t) (wide_column c.on-back.result) _ _ _ _ c.on-back.ensures.value f c.requires.within (origin_within c.args.self.now c.requires.frame) (c.on-back.ensures.size WIDE WIDE (narrow_wide _ c.requires.narrow) (parts_wide _ c.requires.frame.in_cell)) c.place.ensures c.place-2.ensures c.place-3.ensures
