use Rattle.std.proofs.Common.{FitsSigned, arith}
use Rattle.std.proofs.lemmas.Int.{ints}
use mir.Syntax.{w128}
use Rattle.orbit_map.proofs.Nearer.{undivided, divided}
use Rattle.orbit_map.proofs.orbits.remainder.Goals as goal

pub returns-then-near-d-clause-value : goal.returns-then-near-d-clause-value
returns-then-near-d-clause-value c =
    let f : FitsSigned w128 c.nearer-near.result = let t = c.nearer-near.type_inv in omega (arith, ints, t) in
    undivided c.args.n c.args.d c.ranges.n c.ranges.d c.requires c.nearer-near.result f c.nearer-near.ensures c.if-near-ge0.true c.if-near-d.true

pub returns-clause-value : goal.returns-clause-value
returns-clause-value c =
    let f : FitsSigned w128 c.nearer-near.result = let t = c.nearer-near.type_inv in omega (arith, ints, t) in
    let g : FitsSigned w128 c.rem_euclid.result = let t = c.rem_euclid.type_inv in omega (arith, ints, t) in
    divided c.args.n c.args.d c.ranges.n c.ranges.d c.requires c.nearer-near.result f c.nearer-near.ensures c.rem_euclid.result g c.rem_euclid.ensures.value
