use Rattle.std.proofs.Common.{pos, subst, sym, arith}
use Rattle.std.proofs.lemmas.Int.{ints}
use Rattle.exact_ops.specs.Fields.{matrix_in}
use Rattle.parameter_forms.specs.Forms.{IsParameterForm}
use Rattle.parameter_forms.proofs.Reading.{tests_tell}
use Rattle.parameter_forms.proofs.param.Param.free.Goals as goal

pub returns : goal.returns
returns c = λ unit n p j is l.
    let a = c.self.inside in
    let form = subst (IsParameterForm unit n p) (sym c.self.view_is) is in
    tests_tell p.m (pos a.over) (matrix_in a.b) (λ e. let s = form.some in omega (arith, ints, e, s)) c.self.invariant.entries form.matrix j l
