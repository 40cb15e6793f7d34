use Rattle.std.proofs.Common.{◌≡◌, ◌≤◌, ◌*◌, unsigned_abs, FitsSigned, sym, ap, subst, ◌∙◌, w32, w64, arith}
use Rattle.std.specs.Int.{int_rem_euclid}
use Rattle.std.proofs.lemmas.Int.{ints}
use Rattle.lattice_algebra.proofs.Machine.{back, kept}
use Rattle.exact_ops.specs.declared.TheConstants.{UNIT}
use Rattle.parameter_forms.specs.declared.TheConstants.{MAX_OVER}
use Rattle.parameter_forms.proofs.Shifts.{remainder_is, remainder_small}
use Rattle.parameter_forms.proofs.forms.remainder.Goals as goal

module _ (c : goal.After-rem_euclid) where
  value : c.rem_euclid.result ≡ int_rem_euclid c.args.n c.args.cell
  value = remainder_is c.args.n c.args.cell c.rem_euclid.result c.ranges.n c.ranges.cell c.rem_euclid.ensures.value

  small : unsigned_abs c.rem_euclid.result ≤ UNIT * MAX_OVER
  small = remainder_small c.args.n c.args.cell c.rem_euclid.result (UNIT * MAX_OVER) c.requires.positive c.requires.small value

  wide : back w64 c.rem_euclid.result ≡ c.rem_euclid.result
  wide = kept w64 (UNIT * MAX_OVER) c.rem_euclid.result small tt

pub overflow_cast-result : goal.overflow_cast-result
overflow_cast-result c = subst (FitsSigned w32) (sym (wide c)) (let s = small c in omega (arith, ints, s))

pub returns : goal.returns
returns c = ap (back w32) (wide c) ∙ kept w32 (UNIT * MAX_OVER) c.rem_euclid.result (small c) tt ∙ value c
