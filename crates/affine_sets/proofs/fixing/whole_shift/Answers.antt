use Rattle.affine_sets.proofs.Shifting.{if_some, rest_is, shift_value, shift_some, shift_size, kept_near_size, some_cell, IsRest}
use Rattle.affine_sets.proofs.fixing.whole_shift.Goals as goal
use Rattle.affine_sets.proofs.fixing.whole_shift.Goals.{After-exact_quotient}

pub without-requires-clause-near : goal.without-requires-clause-near
without-requires-clause-near c = kept_near_size c.args.n c.args.over c.requires.within c.requires.near

pub exact_quotient-requires : goal.exact_quotient-requires
exact_quotient-requires c =
    some_cell c.cell_over.result c.args.over c.requires.some (rest_is c.args.n c.args.t c.without.result c.cell_over.result c.args.over c.requires.within c.requires.near c.requires.part c.without.ensures.value c.without.ensures.size c.cell_over.ensures).whole

rest : (c : After-exact_quotient) → IsRest c.args.n c.args.t c.without.result c.cell_over.result c.args.over
rest c = rest_is c.args.n c.args.t c.without.result c.cell_over.result c.args.over c.requires.within c.requires.near c.requires.part c.without.ensures.value c.without.ensures.size c.cell_over.ensures

pub returns-clause-some : goal.returns-clause-some
returns-clause-some c = λ k e. c.exact_quotient.ensures.some.1 (k, shift_some c.args.n c.args.t c.without.result c.cell_over.result k c.args.over (rest c) e)

pub returns-clause-value : goal.returns-clause-value
returns-clause-value c = if_some c.exact_quotient.result (λ k e. shift_value c.args.n c.args.t c.without.result c.cell_over.result k c.args.over (rest c) e) c.exact_quotient.ensures.value

pub returns-clause-size : goal.returns-clause-size
returns-clause-size c =
    if_some c.exact_quotient.result (λ k e. shift_size c.args.n c.args.t k c.args.over c.requires.some c.requires.near c.requires.part (shift_value c.args.n c.args.t c.without.result c.cell_over.result k c.args.over (rest c) e)) c.exact_quotient.ensures.value
