use Rattle.std.proofs.Common.{◌≡◌, Some, sym, ap, ◌∙◌, slice_get, Contains, refl, subst}
use Rattle.lattice_algebra.specs.Operator.{Operator, HasEntriesWithin}
use Rattle.exact_ops.specs.Raw.{numbers_of}
use Rattle.group_closure.proofs.Growing.{listed_at, wide_listed, narrow_listed}
use Rattle.group_closure.proofs.closing.narrow_at.Goals as goal

pub returns-in_default-clause-unclosed : goal.returns-in_default-clause-unclosed
returns-in_default-clause-unclosed c =
    let f : Operator = numbers_of c.get.result.w c.get.result.t in
    let m : Contains c.args.list.now f = listed_at c.args.list.now c.args.k f c.requires.within c.get.ensures in
    wide_listed c.args.list.now f c.requires.valid m (λ h. let e = c.in_default.ensures.ok.1 h in cc)

pub returns-clause-value : goal.returns-clause-value
returns-clause-value c = c.get.ensures ∙ ap Some (sym c.in-Ok.ensures.value)

pub returns-clause-narrow : goal.returns-clause-narrow
returns-clause-narrow c =
    let e : slice_get c.args.list.now c.args.k ≡ Some c.in-Ok.op = c.get.ensures ∙ ap Some (sym c.in-Ok.ensures.value) in
    narrow_listed c.args.list.now c.in-Ok.op c.requires.valid (listed_at c.args.list.now c.args.k c.in-Ok.op c.requires.within e) (subst (λ (f : Operator). HasEntriesWithin 2 f.w) (sym c.in-Ok.ensures.value) (c.in-Ok.ensures.ok.0 refl).1)
