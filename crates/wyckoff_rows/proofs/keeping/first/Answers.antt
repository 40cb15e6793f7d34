use Rattle.std.proofs.Common.{◌≡◌, ◌∷◌, ◌++◌, [], length, subst, sym, ap, ◌∙◌, ◌↔◌, arith}
use Rattle.space_groups.specs.Space.{ScaledPoint}
use Rattle.space_groups.specs.Averages.{IsMean, IsInImage}
use Rattle.exact_ops.specs.declared.TheConstants.{UNIT}
use Rattle.space_groups.specs.Search.{FixAll, IsFull}
use Rattle.affine_sets.specs.Subs.{AreElements}
use Rattle.wyckoff_rows.specs.Steps.{AreKept}
use Rattle.wyckoff_rows.proofs.Finishing.{near_average}
use Rattle.wyckoff_rows.proofs.Beginning.{trivial_elements, trivial_near, trivial_full, first_kept, some_in_group}
use Rattle.wyckoff_rows.proofs.keeping.first.Goals as goal

pub mean-average-requires : goal.mean-average-requires
mean-average-requires c = subst (AreElements c.args.g.now) (sym c.in_ok-trivial.ensures.value) (trivial_elements c.args.g.now c.len.ensures.group)

pub key-key-requires : goal.key-key-requires
key-key-requires c =
    let m = subst (λ v. IsMean (length c.args.g.now) v c.mean-average.result) c.in_ok-trivial.ensures.value c.mean-average.ensures.mean in
    near_average c.args.g.now c.mean-average.result (trivial_near c.args.g.now c.len.ensures.group c.mean-average.result m)

pub entry-requires-clause-near : goal.entry-requires-clause-near
entry-requires-clause-near c =
    let m = subst (λ v. IsMean (length c.args.g.now) v c.mean-average.result) c.in_ok-trivial.ensures.value c.mean-average.ensures.mean in
    trivial_near c.args.g.now c.len.ensures.group c.mean-average.result m

pub push_reserved-requires : goal.push_reserved-requires
push_reserved-requires c = let l = some_in_group c.args.g.now c.len.ensures.group in let a = c.in-Ok.ensures in omega (arith, l, a.len, a.exact, c.from.ensures, c.len.ensures.value)

pub returns-clause-kept : goal.returns-clause-kept
returns-clause-kept c =
    let t = c.in_ok-entry.entry in
    let e : c.push_reserved.new.self.items ≡ t ∷ [] = c.push_reserved.ensures.items ∙ ap (λ x. x ++ t ∷ []) c.in-Ok.ensures.items in
    subst (AreKept c.args.g.now) (sym e) (first_kept c.args.g.now c.len.ensures.group t c.in_ok-entry.ensures.entry)

pub returns-clause-trivial : goal.returns-clause-trivial
returns-clause-trivial c =
    let g = c.args.g.now in
    let t = c.in_ok-entry.entry in
    let a = c.mean-average.result in
    let e : c.push_reserved.new.self.items ≡ t ∷ [] = c.push_reserved.ensures.items ∙ ap (λ x. x ++ t ∷ []) c.in-Ok.ensures.items in
    let image = subst (λ v. (z : ScaledPoint) → IsInImage a z ↔ FixAll v z) c.in_ok-trivial.ensures.value c.mean-average.ensures.image in
    let full = subst (λ x. IsFull UNIT g x t.set) c.in_ok-entry.ensures.average c.in_ok-entry.ensures.entry.full in
    (t, e, trivial_full g c.len.ensures.group a t.set image full)
