use Rattle.std.proofs.Common.{◌≡◌, rules, sym, subst}
use Rattle.exact_ops.specs.Numbers.{numbers}
use Rattle.triplet_text.specs.Integers.{IsNatural}
use Rattle.sg_cli.specs.declared.TheConstants.{CELL_DIGITS}
use Rattle.sg_cli.proofs.ChangeWords.{cell_made, no_cell}
use Rattle.sg_cli.proofs.words.changes.cell_of.Goals as goal

pub returns-in_err-raw-clause-none : goal.returns-in_err-raw-clause-none
returns-in_err-raw-clause-none c = rw c.from_residual-in_err-raw.ensures (λ k h. c.in_err-raw.ensures.none h.operator h.triplet)

pub returns-clause-some : goal.returns-clause-some
returns-clause-some c =
    let same : c.in_ok-d-2.d ≡ c.in_ok-d.d = search rules in
    cell_made c.args.over.now c.args.text.now c.in_ok-d-2.d (numbers c.in_ok-raw.raw) (subst (IsNatural CELL_DIGITS c.args.over.now) (sym same) c.in_ok-d.ensures.some) c.in_ok-raw.ensures.some c.of.result c.of.ensures.some c.of.ensures.value

pub returns-clause-none : goal.returns-clause-none
returns-clause-none c =
    let same : c.in_ok-d-2.d ≡ c.in_ok-d.d = search rules in
    no_cell c.args.over.now c.args.text.now c.in_ok-d-2.d (numbers c.in_ok-raw.raw) (subst (IsNatural CELL_DIGITS c.args.over.now) (sym same) c.in_ok-d.ensures.some) c.in_ok-raw.ensures.some c.of.result c.of.ensures.some
