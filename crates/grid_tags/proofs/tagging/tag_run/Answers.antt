use Rattle.std.proofs.Common.{◌≡◌, ◌+◌, ◌*◌, ◌<◌, w32, FitsSigned, length, rules, refl, sym, subst, ◌∙◌, ap, arith}
use Rattle.lattice_algebra.specs.Matrix.{column_of}
use Rattle.lattice_algebra.specs.Operator.{AreParts}
use Rattle.exact_ops.specs.declared.TheConstants.{UNIT}
use Rattle.grid_tags.specs.Grids.{triple_of, place_of}
use Rattle.grid_tags.specs.Steps.{act, fixing_count, AreTagged}
use Rattle.grid_tags.specs.Axes.{AreOnAxes}
use Rattle.grid_tags.proofs.AxisSteps.{held, passed, sides_on}
use Rattle.grid_tags.proofs.Images.{act_in}
use Rattle.grid_tags.proofs.Tags.{place_within, same_place, tagged_more, count_run_yes, count_no, count_room, image_is}
use Rattle.grid_tags.proofs.tagging.tag_run.Goals as goal
use Rattle.grid_tags.proofs.tagging.tag_run.Given.{Over}
use Rattle.grid_tags.proofs.tagging.tag_run.Goals.{After-part-z, After-place_after-there, then-there-place, else-there-place}

pub part-x-requires : goal.part-x-requires
part-x-requires g c = let s = c.args.size.now in (s.a, s.b * s.c, c.requires.axes.x, c.requires.image_within.i)

pub part-y-requires : goal.part-y-requires
part-y-requires g c = let s = c.args.size.now in (s.b, s.c, c.requires.axes.y, c.requires.image_within.j)

pub part-z-requires : goal.part-z-requires
part-z-requires g c = let s = c.args.size.now in (s.c, 1, c.requires.axes.z, c.requires.image_within.k)

on : (g : Over) (c : After-part-z g) → AreOnAxes c.args.size.now c.args.axes.now (triple_of c.args.image.now) (held c.part-x.result) (held c.part-y.result) (held c.part-z.result)
on g c =
    let axes = c.requires.axes in
    let within = c.requires.image_within in
    let x : FitsSigned w32 c.part-x.result = search rules in
    let y : FitsSigned w32 c.part-y.result = search rules in
    let z : FitsSigned w32 c.part-z.result = search rules in
    record { x_on = passed _ _ _ _ _ x (c.part-x.ensures _ _ axes.x within.i); y_on = passed _ _ _ _ _ y (c.part-y.ensures _ _ axes.y within.j); z_on = passed _ _ _ _ _ z (c.part-z.ensures _ _ axes.z within.k) }

pub place_after-there-requires-clause-on : goal.place_after-there-requires-clause-on
place_after-there-requires-clause-on g c = (c.args.size.now, triple_of c.args.image.now, on g (goal.at.place_after-there-requires-clause-on g c).After-part-z)

pub place_after-there-requires-clause-parts : goal.place_after-there-requires-clause-parts
place_after-there-requires-clause-parts g c = subst (λ t. AreParts UNIT (column_of t)) (sym c.t.ensures.value) c.t.ensures.narrow.is_operator.in_cell

pub loop-i-init : goal.loop-i-init
loop-i-init g c = record { count = omega arith; tagged = λ old r. r }

pub overflow_add-fixing : goal.overflow_add-fixing
overflow_add-fixing g c =
    let l = count_room c.args.group.now c.args.size.now (triple_of c.args.at.now) c.loop-i.i _ c.loop-i.fixing c.op.ensures.group.within c.loop-i.invariant.count in
    omega (arith, l)

-- the place to which a member of the run takes the point
there_is : (g : Over) (c : After-place_after-there g) → c.place_after-there.result ≡ place_of c.args.size.now (act c.args.size.now c.op.result (triple_of c.args.at.now))
there_is g c =
    let s = c.args.size.now in
    let f = c.op.result in
    let image = triple_of c.args.image.now in
    c.place_after-there.ensures s image (on g (goal.at.After-place_after-there g c).After-part-z)
    ∙ ap (place_of s) (image_is s f (triple_of c.args.at.now) image c.t.result c.t.ensures.value (c.requires.run c.loop-i.i f c.loop-i.auto.i c.loop-i-test.true c.op.ensures.value))

in_tags : (g : Over) (c : After-place_after-there g) → c.place_after-there.result < length c.loop-i.tags
in_tags g c =
    let s = c.args.size.now in
    let p = triple_of c.args.at.now in
    let e = there_is g c in
    let l = place_within s (act s c.op.result p) (act_in s (sides_on s c.args.axes.now c.requires.axes) c.op.result p) in
    omega (arith, e, l, c.loop-i.auto.tags, c.requires.len)

pub bounds-tags-there : goal.bounds-tags-there
bounds-tags-there g c = in_tags g c

pub offset_bounds-tags-there : goal.offset_bounds-tags-there
offset_bounds-tags-there g c = let within : c.place_after-there.result < length c.loop-i.tags = in_tags g c in search rules

pub loop-i-preserved : goal.loop-i-preserved
loop-i-preserved g c =
    let members = c.args.group.now in
    let s = c.args.size.now in
    let p = triple_of c.args.at.now in
    let f = c.op.result in
    let there = there_is g (goal.at.loop-i-preserved g c).After-place_after-there in
    let within = act_in s (sides_on s c.args.axes.now c.requires.axes) f p in
    record {
      count = elim c.if-there-place.branch [
        | then-there-place w ↦ subst (λ n. fixing_count members s p c.args.start + n ≡ fixing_count members s p (c.loop-i.i + 1)) (sym w.fixing-is)
            (count_run_yes members s p c.loop-i.i c.args.start c.loop-i.fixing f c.op.ensures.value c.loop-i.invariant.count
            (same_place s (act s f p) p within c.requires.within (sym there ∙ w.if-there-place.true ∙ c.place-place.ensures.value)))
        | else-there-place w ↦ subst (λ n. fixing_count members s p c.args.start + n ≡ fixing_count members s p (c.loop-i.i + 1)) (sym w.fixing-is)
            (count_no members s p c.loop-i.i (fixing_count members s p c.args.start + c.loop-i.fixing) f c.op.ensures.value c.loop-i.invariant.count
            (λ e. w.if-there-place.false (there ∙ ap (place_of s) e ∙ sym c.place-place.ensures.value)))
      ];
      tagged = λ old r. tagged_more members s p c.args.tag old c.loop-i.tags (act s f p) c.loop-i.i c.place_after-there.result f (c.loop-i.auto.tags ∙ c.requires.len) c.op.ensures.value within refl there (c.loop-i.invariant.tagged old r);
    }

pub returns-clause-tags : goal.returns-clause-tags
returns-clause-tags g c = λ old r.
    subst (λ i. AreTagged c.args.group.now c.args.size.now (triple_of c.args.at.now) c.args.tag old c.loop-i.tags i) (omega arith) (c.loop-i.invariant.tagged old r)
