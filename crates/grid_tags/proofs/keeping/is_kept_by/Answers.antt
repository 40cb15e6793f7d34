use Rattle.std.proofs.Common.{sym, subst, ◌∙◌, ◌↔◌, IsTrue, false}
use Rattle.std.proofs.lemmas.Bool.{false≢true}
use Rattle.grid_tags.specs.Grids.{IsKeptBy}
use Rattle.grid_tags.proofs.Images.{axes_kept, kept_by_axes}
use Rattle.grid_tags.proofs.Tags.{sides_of}
use Rattle.grid_tags.proofs.Stored.{y_numbers, z_numbers, x_axis, y_axis, z_axis}
use Rattle.grid_tags.proofs.keeping.is_kept_by.Goals as goal

pub returns-then-not-is_axis_kept : goal.returns-then-not-is_axis_kept
returns-then-not-is_axis_kept c =
    let f = c.args.op.now in
    let v = c.size.inside in
    subst (λ s. IsTrue false ↔ IsKeptBy s f) c.size.view_is (
      (λ t. absurd (false≢true t)),
      (λ k. let a = axes_kept _ (sides_of _ c.size.invariant) f k in absurd (false≢true (sym c.if-not-is_axis_kept.true ∙ c.is_axis_kept.ensures.1 ((x_axis f c.w.result c.t.result c.w.ensures.value c.t.ensures.value c.w.ensures.narrow v.a v.b v.c).1 a.x)))),
    )

pub is_axis_kept-requires-2-clause-entries : goal.is_axis_kept-requires-2-clause-entries
is_axis_kept-requires-2-clause-entries c = let n = y_numbers c.args.op.now c.w.result c.t.result c.w.ensures.value c.t.ensures.value c.w.ensures.narrow in (n.0, n.1)

pub is_axis_kept-requires-2-clause-shift : goal.is_axis_kept-requires-2-clause-shift
is_axis_kept-requires-2-clause-shift c = (y_numbers c.args.op.now c.w.result c.t.result c.w.ensures.value c.t.ensures.value c.w.ensures.narrow).2

pub returns-then-not-is_axis_kept-2 : goal.returns-then-not-is_axis_kept-2
returns-then-not-is_axis_kept-2 c =
    let f = c.args.op.now in
    let v = c.size.inside in
    subst (λ s. IsTrue false ↔ IsKeptBy s f) c.size.view_is (
      (λ t. absurd (false≢true t)),
      (λ k. let a = axes_kept _ (sides_of _ c.size.invariant) f k in absurd (false≢true (sym c.if-not-is_axis_kept-2.true ∙ c.is_axis_kept-2.ensures.1 ((y_axis f c.w.result c.t.result c.w.ensures.value c.t.ensures.value c.w.ensures.narrow v.b v.a v.c).1 a.y)))),
    )

pub is_axis_kept-requires-3-clause-entries : goal.is_axis_kept-requires-3-clause-entries
is_axis_kept-requires-3-clause-entries c = let n = z_numbers c.args.op.now c.w.result c.t.result c.w.ensures.value c.t.ensures.value c.w.ensures.narrow in (n.0, n.1)

pub is_axis_kept-requires-3-clause-shift : goal.is_axis_kept-requires-3-clause-shift
is_axis_kept-requires-3-clause-shift c = (z_numbers c.args.op.now c.w.result c.t.result c.w.ensures.value c.t.ensures.value c.w.ensures.narrow).2

pub returns : goal.returns
returns c =
    let f = c.args.op.now in
    let v = c.size.inside in
    subst (λ s. IsTrue c.is_axis_kept-3.result ↔ IsKeptBy s f) c.size.view_is (
      (λ t. kept_by_axes _ (sides_of _ c.size.invariant) f (record {
        x = (x_axis f c.w.result c.t.result c.w.ensures.value c.t.ensures.value c.w.ensures.narrow v.a v.b v.c).0 (c.is_axis_kept.ensures.0 c.if-not-is_axis_kept.false);
        y = (y_axis f c.w.result c.t.result c.w.ensures.value c.t.ensures.value c.w.ensures.narrow v.b v.a v.c).0 (c.is_axis_kept-2.ensures.0 c.if-not-is_axis_kept-2.false);
        z = (z_axis f c.w.result c.t.result c.w.ensures.value c.t.ensures.value c.w.ensures.narrow v.c v.a v.b).0 (c.is_axis_kept-3.ensures.0 t);
      })),
      (λ k. let a = axes_kept _ (sides_of _ c.size.invariant) f k in c.is_axis_kept-3.ensures.1 ((z_axis f c.w.result c.t.result c.w.ensures.value c.t.ensures.value c.w.ensures.narrow v.c v.a v.b).1 a.z)),
    )
