use Rattle.std.proofs.Common.{rules, ◌≡◌, ap, ◌∙◌, pos, w32}
use Rattle.lattice_algebra.specs.Matrix.{◌·ᶜ◌, ◌+ᶜ◌, times}
use Rattle.lattice_algebra.specs.Operator.{modulo}
use Rattle.lattice_algebra.proofs.Machine.{back, read}
use Rattle.lattice_algebra.proofs.Remainders.{quotients, quotients_are}
use Rattle.exact_ops.specs.declared.TheConstants.{UNIT}
use Rattle.exact_ops.specs.Fields.{matrix_in, column_in}
use Rattle.exact_ops.proofs.Narrow.{some_parts}
use Rattle.exact_ops.proofs.matrix.Vector.carried.Goals as goal

carries : (c : goal.After-carry-3) → quotients UNIT (matrix_in c.args.w.now ·ᶜ column_in c.args.self.now +ᶜ column_in c.args.t.now) ≡ record { x = back w32 c.carry.result; y = back w32 c.carry-2.result; z = back w32 c.carry-3.result }
unfolding ◌·ᶜ◌ ◌+ᶜ◌ quotients
carries c = search (rules, read)

pub returns-clause-value : goal.returns-clause-value
returns-clause-value c =
    let s = matrix_in c.args.w.now ·ᶜ column_in c.args.self.now +ᶜ column_in c.args.t.now in
    quotients_are UNIT some_parts s ∙ ap (λ q. modulo UNIT s +ᶜ times (pos UNIT) q) (carries c)
