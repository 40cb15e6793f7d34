use Rattle.std.proofs.Common.{rules, to_z-of_z, w32, FitsSigned}
use Rattle.op_types.proofs.direction.are_parallel.Goals as goal

pub returns : goal.returns
returns c =
    let v = c.args.v.now in
    let w = c.args.other.now in
    let f : (FitsSigned w32 v.x) × (FitsSigned w32 v.y) × (FitsSigned w32 v.z) = search rules in
    let g : (FitsSigned w32 w.x) × (FitsSigned w32 w.y) × (FitsSigned w32 w.z) = search rules in
    let xy = simp (to_z-of_z f.0, to_z-of_z f.1, to_z-of_z g.0, to_z-of_z g.1) at c.have_one_product.ensures in
    let yz = simp (to_z-of_z f.1, to_z-of_z f.2, to_z-of_z g.1, to_z-of_z g.2) at c.have_one_product-2.ensures in
    let zx = simp (to_z-of_z f.0, to_z-of_z f.2, to_z-of_z g.0, to_z-of_z g.2) at c.have_one_product-3.ensures in
    (λ t. record { xy = xy.0 c.if-not-have_one_product.false; yz = yz.0 c.if-not-have_one_product-2.false; zx = zx.0 t }, λ p. zx.1 p.zx)
