use Rattle.std.proofs.Common.{◌%◌, ap₂, sym, ◌∙◌}
use Rattle.std.proofs.lemmas.Bool.{eqb-true, eq-eqb}
use Rattle.std.proofs.lemmas.Nat.Gcd.{dvd_of_mod-eq-zero, mod-eq-zero_of_dvd}
use Rattle.lattice_algebra.proofs.Quotients.{signed_multiple}
use Rattle.affine_sets.proofs.ColumnSizes.{divides_multiple}
use Rattle.affine_sets.proofs.KeySizes.{passed_size}
use Rattle.affine_sets.proofs.keys.is_whole.Goals as goal

pub returns : goal.returns
returns c =
    let rest = ap₂ (λ a b. a % b) (c.unsigned_abs.ensures.value ∙ passed_size c.args.a c.ranges.a) c.from.ensures in (
      (λ t. signed_multiple c.args.a c.args.over (dvd_of_mod-eq-zero c.args.over (sym rest ∙ eqb-true (c.unsigned_abs.result % c.from.result) 0 t))),
      (λ k. eq-eqb (c.unsigned_abs.result % c.from.result) 0 (rest ∙ mod-eq-zero_of_dvd c.args.over (divides_multiple c.args.a c.args.over k.0 k.1))),
    )
