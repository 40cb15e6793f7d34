use Rattle.std.proofs.Common.{◌≡◌, negsuc, refl, ap, subst, arith, ◌∙◌}
use Rattle.std.proofs.Math.ListN.{length-set}
use Rattle.std.proofs.lemmas.Option.{slice_get_within}
use Rattle.lattice_algebra.specs.Matrix.{matrix_of, scaled}
use Rattle.lattice_algebra.specs.Operator.{Operator}
use Rattle.group_closure.specs.Runs.{IsFirstIfAny}
use Rattle.group_closure.proofs.OneMatrix.{opposites_more}
use Rattle.group_closure.proofs.Places.{read_at, same_at}
use Rattle.group_closure.proofs.runs.opposite_runs.Goals as goal

pub loop-i-preserved : goal.loop-i-preserved
loop-i-preserved c = record {
  size = length-set _ _ _ ∙ c.loop-i.invariant.size;
  done = opposites_more c.args.members.now c.loop-i.opposites c.loop-i.i c.first_with.result (omega (arith, c.loop-i.invariant.size, c.loop-i-test.true, c.requires.within)) c.loop-i.invariant.done (λ f p.
      let member = read_at _ _ _ _ _ refl refl c.loop-i-test.true c.index-members-i.is in
      let same = same_at c.args.members.now _ f c.loop-i.i member p in
      let e : matrix_of c.opposite_of.result ≡ scaled (negsuc 0) f.w = ap matrix_of c.opposite_of.ensures ∙ ap (λ r. scaled (negsuc 0) (matrix_of r)) c.w.ensures.value ∙ ap (λ (g : Operator). scaled (negsuc 0) g.w) same in
      subst (λ m. IsFirstIfAny c.args.members.now m c.first_with.result) e (record { some = c.first_with.ensures.some; first = c.first_with.ensures.first }));
}

pub returns : goal.returns
returns c = λ i f p. c.loop-i.invariant.done i f (omega (arith, c.loop-i-test.false, slice_get_within c.args.members.now i f p)) p
