use Rattle.std.proofs.Common.{arith}
use Rattle.reflections.proofs.Boxes.{stored_place, stored_within, stored_fits}
use Rattle.reflections.proofs.box_size.BoxSize.place.Goals as goal

pub overflow_add-result : goal.overflow_add-result
overflow_add-result c =
    let b = c.args.self.now in
    let e = stored_place b _ c.args.row.now _ _ _ _ _ c.self.view_is c.self.invariant c.requires c.steps_down.ensures.value c.width.ensures c.steps_down-2.ensures.value c.width-2.ensures c.steps_down-3.ensures.value in
    let l = stored_fits b _ _ c.self.view_is c.self.invariant (stored_within b _ c.args.row.now _ c.self.view_is c.requires e) in
    omega (arith, l)

pub returns-clause-value : goal.returns-clause-value
returns-clause-value c = stored_place c.args.self.now _ c.args.row.now _ _ _ _ _ c.self.view_is c.self.invariant c.requires c.steps_down.ensures.value c.width.ensures c.steps_down-2.ensures.value c.width-2.ensures c.steps_down-3.ensures.value

pub returns-clause-within : goal.returns-clause-within
returns-clause-within c =
    let e = stored_place c.args.self.now _ c.args.row.now _ _ _ _ _ c.self.view_is c.self.invariant c.requires c.steps_down.ensures.value c.width.ensures c.steps_down-2.ensures.value c.width-2.ensures c.steps_down-3.ensures.value in
    stored_within c.args.self.now _ c.args.row.now _ c.self.view_is c.requires e
