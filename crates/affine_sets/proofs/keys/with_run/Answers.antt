use Rattle.std.proofs.Common.{◌<◌, inl, inr, sym, ◌∙◌, refl, subst, arith, get_or-set_same}
use Rattle.std.proofs.lemmas.Bool.{false≢true}
use Rattle.lattice_algebra.specs.Matrix.{entries}
use Rattle.lattice_algebra.proofs.Equality.{matrix_eq-is}
use Rattle.exact_ops.specs.Fields.{matrix_in}
use Rattle.space_groups.specs.Keys.{IsBelow}
use Rattle.affine_sets.proofs.KeyRuns.{not_below, starts_added}
use Rattle.affine_sets.proofs.keys.with_run.Goals as goal

pub returns-then-is_below : goal.returns-then-is_below
returns-then-is_below c =
    inl (
      subst (λ v. IsBelow v (entries (matrix_in c.args.m.now))) c.rows.ensures (subst (IsBelow c.rows.result) c.rows-2.ensures (c.is_below.ensures.0 c.if-is_below.true)),
      record { matrix = refl; one = refl; first = get_or-set_same c.args.starts.now 0 c.args.at 0 (let n = c.told-starts in omega (arith, n)) },
    )

pub returns-then-eq : goal.returns-then-eq
returns-then-eq c =
    let best = c.args.best.now in
    let same = (matrix_eq-is (matrix_in best.m) (matrix_in c.args.m.now) c.eq.result c.eq.ensures).0 c.if-eq.true in
    let within : best.count < 192 = let a = c.requires.few in let b = c.requires.within in omega (arith, a, b) in
    inr (not_below _ _ _ _ _ c.if-is_below.false c.rows.ensures c.rows-2.ensures c.is_below.ensures, inl (same, starts_added best c.args.m.now c.args.starts.now c.args.at c.from.result c.from.ensures (let n = c.told-starts in omega (arith, n, within)) same))

pub returns : goal.returns
returns c = inr (not_below _ _ _ _ _ c.if-is_below.false c.rows.ensures c.rows-2.ensures c.is_below.ensures, inr ((λ e. false≢true (sym c.if-eq.false ∙ (matrix_eq-is (matrix_in c.args.best.now.m) (matrix_in c.args.m.now) c.eq.result c.eq.ensures).1 e)), refl, refl))
