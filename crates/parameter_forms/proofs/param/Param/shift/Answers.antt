use Rattle.std.proofs.Common.{◌≡◌, ◌≤◌, ◌≤ℤ◌, ◌*◌, ℕ, ℤ, pos, ◌*ℤ◌, get_or, sym, subst, arith, rules, w32}
use Rattle.std.proofs.lemmas.Int.{ints}
use Rattle.lattice_algebra.proofs.Machine.{back}
use Rattle.lattice_algebra.proofs.Ring.{one_times}
use Rattle.lattice_algebra.proofs.Numbers.{above, positive_product}
use Rattle.exact_ops.specs.declared.TheConstants.{UNIT}
use Rattle.exact_ops.proofs.Narrow.{some_parts}
use Rattle.parameter_forms.specs.Forms.{coordinate}
use Rattle.parameter_forms.specs.declared.TheConstants.{MAX_OVER}
use Rattle.parameter_forms.specs.Finding.{IsKeptForm}
use Rattle.parameter_forms.proofs.Reading.{part_at}
use Rattle.parameter_forms.proofs.LowestTerms.{in_cell}
use Rattle.parameter_forms.proofs.param.Param.shift.Goals as goal

at_most : (q : ℤ) (over : ℕ) → over ≤ MAX_OVER → q ≤ℤ pos (UNIT * over) → q ≤ℤ pos (UNIT * MAX_OVER)
at_most q over l h = omega (arith, ints, l, h)

value : (c : goal.After-lowest_terms) → c.lowest_terms.result.0 *ℤ pos (UNIT * c.args.self.now.over) ≡ coordinate c.args.self.now.s c.args.i *ℤ c.lowest_terms.result.1
value c = search rules

pub returns-clause-in_cell : goal.returns-clause-in_cell
returns-clause-in_cell c =
    let f = c.args.self.now in
    let kept = subst IsKeptForm c.self.view_is c.self.invariant in
    let part = part_at (UNIT * f.over) f.s c.args.i c.requires kept.in_cell in
    in_cell c.lowest_terms.result.0 c.lowest_terms.result.1 (coordinate f.s c.args.i) (pos (UNIT * f.over)) (above (UNIT * f.over) (positive_product UNIT f.over some_parts kept.some)) c.lowest_terms.ensures.positive part.0 part.1 (value c)

pub returns-clause-small : goal.returns-clause-small
returns-clause-small c =
    let n = back w32 (get_or c.numbers-numbers.result c.from.result (pos 0)) in
    let parts = UNIT * c.self.inside.over in
    at_most c.lowest_terms.result.1 c.self.inside.over c.self.invariant.over (c.lowest_terms.ensures.small 1 parts n (omega arith) (sym (one_times n)) (omega arith))
