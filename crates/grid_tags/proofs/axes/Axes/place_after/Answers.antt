use Rattle.std.proofs.Common.{refl}
use Rattle.grid_tags.proofs.AxisSteps.{passed, two_fits, three_fits, place_fits, place_is}
use Rattle.grid_tags.proofs.axes.Axes.place_after.Goals as goal

pub overflow_add-place : goal.overflow_add-place
overflow_add-place c =
    let on = c.requires.on in
    two_fits on.0 c.args.self.now on.1 c.args.x c.args.y c.args.z c.args.t.now _ _ _ on.2 c.requires.parts (c.moved.ensures _ _ _ (passed _ _ _ _ _ c.ranges.x on.2.x_on)) (c.moved-2.ensures _ _ _ (passed _ _ _ _ _ c.ranges.y on.2.y_on)) refl

pub overflow_add-place-2 : goal.overflow_add-place-2
overflow_add-place-2 c =
    let on = c.requires.on in
    three_fits on.0 c.args.self.now on.1 c.args.x c.args.y c.args.z c.args.t.now _ _ _ on.2 c.requires.parts (c.moved.ensures _ _ _ (passed _ _ _ _ _ c.ranges.x on.2.x_on)) (c.moved-2.ensures _ _ _ (passed _ _ _ _ _ c.ranges.y on.2.y_on)) (c.moved-3.ensures _ _ _ (passed _ _ _ _ _ c.ranges.z on.2.z_on))

pub overflow_cast-result : goal.overflow_cast-result
overflow_cast-result c =
    let on = c.requires.on in
    place_fits on.0 c.args.self.now on.1 c.args.x c.args.y c.args.z c.args.t.now _ _ _ on.2 c.requires.parts (c.moved.ensures _ _ _ (passed _ _ _ _ _ c.ranges.x on.2.x_on)) (c.moved-2.ensures _ _ _ (passed _ _ _ _ _ c.ranges.y on.2.y_on)) (c.moved-3.ensures _ _ _ (passed _ _ _ _ _ c.ranges.z on.2.z_on))

pub returns : goal.returns
returns c = λ s p on.
    place_is s c.args.self.now p c.args.x c.args.y c.args.z c.args.t.now _ _ _ on c.requires.parts (c.moved.ensures _ _ _ (passed _ _ _ _ _ c.ranges.x on.x_on)) (c.moved-2.ensures _ _ _ (passed _ _ _ _ _ c.ranges.y on.y_on)) (c.moved-3.ensures _ _ _ (passed _ _ _ _ _ c.ranges.z on.z_on))
