use Rattle.std.proofs.Common.{sym, ap, ◌∙◌, ◌*ℤ◌, ◌*◌, FitsSigned, w32, rules, arith, int_div}
use Rattle.std.proofs.lemmas.Int.{quot_is}
use Rattle.group_closure.specs.declared.TheConstants.{MAX_OPERATORS}
use Rattle.op_types.proofs.Divisors.{exact_quotient, quotient_fits}
use Rattle.op_types.proofs.direction.quotient.Goals as goal

pub returns : goal.returns
returns c =
    let n = c.args.n in
    let d = c.args.divisor in
    let e = exact_quotient n d c.requires.divides.0 c.requires.some c.requires.divides.1 in
    let f : FitsSigned w32 n = search rules in
    let g : FitsSigned w32 d = search rules in
    e ∙ ap (λ q. d *ℤ q) (sym (quot_is w32 n d f g (quotient_fits n d (int_div n d) (2 * MAX_OPERATORS) c.requires.some e c.requires.small.0 (omega arith))))
