use Rattle.std.proofs.Common.{◌≡◌, ◌*◌, ℕ, ℤ, pos, ◌+ℤ◌, ◌*ℤ◌, neg_ℤ, FitsSigned, unsigned_abs, ap, ◌∙◌, w32, w64, arith}
use Rattle.std.specs.Int.{int_rem_euclid}
use Rattle.std.proofs.lemmas.Int.{ints}
use Rattle.lattice_algebra.specs.Matrix.{Matrix, Column, sum_of_products, ◌·ᶜ◌, ◌+ᶜ◌, times, neg_column}
use Rattle.lattice_algebra.specs.Operator.{modulo, AreWithin}
use Rattle.lattice_algebra.proofs.Machine.{back, kept}
use Rattle.exact_ops.specs.declared.TheConstants.{UNIT}
use Rattle.exact_ops.specs.Fields.{matrix_in, column_in}
use Rattle.parameter_forms.specs.declared.TheConstants.{MAX_NUMBER, MAX_MINOR}
use Rattle.parameter_forms.proofs.Shifts.{parts_within, coordinate_found}
use Rattle.parameter_forms.proofs.forms.shift.Goals as goal

module _ (c : goal.After-remainder-3) where
  abbrev over : ℤ
  over = c.args.c.now.over

  abbrev b : Matrix
  b = matrix_in c.args.c.now.b

  abbrev t : Column
  t = column_in c.args.t.now

  abbrev n : ℕ
  n = UNIT * c.args.over * unsigned_abs over

  parts : AreWithin (UNIT * MAX_NUMBER) t.x t.y t.z
  parts = parts_within c.args.over t c.requires.few c.requires.in_cell

  cell_is : c.cell_over-cell.result ≡ pos n
  cell_is = c.cell_over-cell.ensures.value ∙ ap (λ d. pos (UNIT * c.args.over * unsigned_abs d)) (kept w32 MAX_MINOR over c.requires.small.over_size tt)

  cell_fits : FitsSigned w64 c.cell_over-cell.result
  cell_fits = let h = c.cell_over-cell.type_inv in omega (arith, ints, h)

  x : back w32 c.remainder.result ≡ int_rem_euclid (over *ℤ t.x +ℤ neg_ℤ (sum_of_products b.xx b.xy b.xz t.x t.y t.z)) (pos n)
  x =
      coordinate_found over t.x b.xx b.xy b.xz t c.requires.small.over_size parts.first c.requires.small.entries.x c.difference.result c.cell_over-cell.result c.remainder.result n
      (let h = c.difference.type_inv in omega (arith, ints, h)) cell_fits (let h = c.remainder.type_inv in omega (arith, ints, h)) c.difference.ensures cell_is c.remainder.ensures

  y : back w32 c.remainder-2.result ≡ int_rem_euclid (over *ℤ t.y +ℤ neg_ℤ (sum_of_products b.yx b.yy b.yz t.x t.y t.z)) (pos n)
  y =
      coordinate_found over t.y b.yx b.yy b.yz t c.requires.small.over_size parts.second c.requires.small.entries.y c.difference-2.result c.cell_over-cell.result c.remainder-2.result n
      (let h = c.difference-2.type_inv in omega (arith, ints, h)) cell_fits (let h = c.remainder-2.type_inv in omega (arith, ints, h)) c.difference-2.ensures cell_is c.remainder-2.ensures

  z : back w32 c.remainder-3.result ≡ int_rem_euclid (over *ℤ t.z +ℤ neg_ℤ (sum_of_products b.zx b.zy b.zz t.x t.y t.z)) (pos n)
  z =
      coordinate_found over t.z b.zx b.zy b.zz t c.requires.small.over_size parts.third c.requires.small.entries.z c.difference-3.result c.cell_over-cell.result c.remainder-3.result n
      (let h = c.difference-3.type_inv in omega (arith, ints, h)) cell_fits (let h = c.remainder-3.type_inv in omega (arith, ints, h)) c.difference-3.ensures cell_is c.remainder-3.ensures

pub returns : goal.returns
unfolding modulo ◌·ᶜ◌ ◌+ᶜ◌ times neg_column
returns c = λ i. record { x = x c i; y = y c i; z = z c i }
