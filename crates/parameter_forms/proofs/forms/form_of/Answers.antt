use Rattle.std.proofs.Common.{◌≡◌, ◌≤◌, ◌*◌, ℕ, pos, ◌*ℤ◌, unsigned_abs, ap, ap₂, subst, sym, ◌∙◌, w32, mul-le-mul}
use Rattle.lattice_algebra.specs.Matrix.{Matrix, Column, scaled, times, neg_column, ◌·ᶜ◌, ◌+ᶜ◌}
use Rattle.lattice_algebra.specs.Operator.{HasEntriesWithin, modulo}
use Rattle.lattice_algebra.proofs.Machine.{back, kept}
use Rattle.lattice_algebra.proofs.Numbers.{positive_is, positive_size}
use Rattle.exact_ops.specs.declared.TheConstants.{UNIT}
use Rattle.exact_ops.specs.Fields.{matrix_in, column_in}
use Rattle.exact_ops.proofs.Narrow.{some_parts}
use Rattle.parameter_forms.specs.declared.TheConstants.{MAX_NUMBER, MAX_MINOR, MAX_OVER}
use Rattle.parameter_forms.specs.Forms.{IsCoefficientMatrix, IsParameterForm}
use Rattle.parameter_forms.specs.Finding.{pair_in, form_in}
use Rattle.parameter_forms.proofs.Scaling.{form_found, scaled_within}
use Rattle.parameter_forms.proofs.SamePoints.{same_points}
use Rattle.parameter_forms.proofs.forms.form_of.Goals as goal

module _ (c : goal.After-unsigned_abs) where
  abbrev n : ℕ
  n = c.args.over

  abbrev d : ℕ
  d = unsigned_abs c.over_positive-found.result.over

  abbrev b : Matrix
  b = matrix_in c.over_positive-found.result.b

  abbrev t : Column
  t = column_in c.args.t.now

  d_is : c.over_positive-found.result.over ≡ pos d
  d_is = positive_is c.over_positive-found.result.over c.over_positive-found.ensures.positive

  number_passed : back w32 c.from.result ≡ pos n
  number_passed = ap (back w32) c.from.ensures ∙ kept w32 MAX_NUMBER (pos n) c.requires.few tt

  matrix_is : matrix_in c.times-all.result.b ≡ scaled (pos n) b
  matrix_is = c.times-all.ensures.matrix ∙ ap (λ k. scaled k b) number_passed

  product_is : c.times-all.result.over ≡ pos (n * d)
  product_is = c.times-all.ensures.over ∙ ap₂ (λ j k. j *ℤ k) number_passed d_is

  product_small : n * d ≤ MAX_OVER
  product_small = mul-le-mul c.requires.few c.over_positive-found.ensures.small.over_size

  over_is : c.unsigned_abs.result ≡ n * d
  over_is = c.unsigned_abs.ensures.value ∙ ap (λ k. unsigned_abs (back w32 k)) product_is ∙ ap unsigned_abs (kept w32 MAX_OVER (pos (n * d)) product_small tt)

  coefficients : IsCoefficientMatrix (matrix_in c.args.m.now) (pos d) b
  coefficients = subst (λ k. IsCoefficientMatrix (matrix_in c.args.m.now) k b) d_is (c.over_positive-found.ensures.matrix (matrix_in c.args.m.now) c.coefficients_of.ensures.matrix)

  shift_is : column_in c.shift.result ≡ modulo (UNIT * n * d) (times (pos d) t +ᶜ neg_column (b ·ᶜ t))
  shift_is = c.shift.ensures ∙ ap (λ k. modulo (UNIT * n * d) (times k t +ᶜ neg_column (b ·ᶜ t))) d_is

  form_is : form_in c.times-all.result.b c.shift.result c.unsigned_abs.result ≡ record { b = scaled (pos n) b; s = column_in c.shift.result; over = n * d }
  form_is = λ i. record { b = matrix_is i; s = column_in c.shift.result; over = over_is i }

  found : IsParameterForm UNIT n (pair_in c.args.m.now c.args.t.now) (form_in c.times-all.result.b c.shift.result c.unsigned_abs.result)
  found =
      subst (IsParameterForm UNIT n (pair_in c.args.m.now c.args.t.now)) (sym form_is)
      (form_found UNIT n d (pair_in c.args.m.now c.args.t.now) b (column_in c.shift.result) some_parts c.requires.some (positive_size c.over_positive-found.result.over c.over_positive-found.ensures.positive) coefficients shift_is)

pub invariant_of-result : goal.invariant_of-result
invariant_of-result c = record {
  some = (found c).some;
  over = subst (λ k. k ≤ MAX_OVER) (sym (over_is c)) (product_small c);
  entries = subst (HasEntriesWithin MAX_OVER) (sym (matrix_is c)) (scaled_within MAX_NUMBER MAX_MINOR (pos (n c)) (b c) c.requires.few c.over_positive-found.ensures.small.entries);
  in_cell = (found c).in_cell;
  multiple = record { number = n c; some = c.requires.some; matrix = b c; over = d c; small = c.over_positive-found.ensures.small.over_size; entries = matrix_is c; product = over_is c };
}

pub returns-clause-form : goal.returns-clause-form
returns-clause-form c = found c

pub returns-clause-same_points : goal.returns-clause-same_points
returns-clause-same_points c = same_points UNIT (n c) (pair_in c.args.m.now c.args.t.now) (form_in c.times-all.result.b c.shift.result c.unsigned_abs.result) some_parts c.requires.some (found c)
