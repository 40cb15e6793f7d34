use Rattle.std.proofs.Common.{sym, ap, ◌∙◌, not, of_z}
use Rattle.std.proofs.lemmas.Bool.{false≢true, eq-eqb}
use mir.Syntax.{w128}
use Rattle.exact_ops.specs.Numbers.{point_in}
use Rattle.atom_expand.proofs.SamePoints.{first_equal, kept_apart}
use Rattle.atom_expand.proofs.same.is_surely_other.Goals as goal

pub returns-then-p-q : goal.returns-then-p-q
returns-then-p-q c = λ t s.
    let same = first_equal (point_in c.args.p.now) (point_in c.args.q.now) c.args.p.now.in_range c.args.q.now.in_range c.if-p-q.true s in
    false≢true (sym (ap not (eq-eqb _ _ (ap (of_z w128) same))) ∙ t)

pub returns : goal.returns
returns c = λ t s.
    let same = kept_apart (point_in c.args.p.now) (point_in c.args.q.now) c.kept_product.result c.kept_product-2.result c.args.p.now.in_range c.args.q.now.in_range c.kept_product.ensures c.kept_product-2.ensures s in
    false≢true (sym (ap not (eq-eqb _ _ (ap (of_z w128) same))) ∙ t)
