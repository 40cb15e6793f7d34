use Rattle.std.proofs.Common.{rules, to_z-of_z, w64, FitsSigned}
use Rattle.basis_change.proofs.wide.WideMatrix.is_within.Goals as goal

pub returns : goal.returns
returns c =
    let m = c.args.self.now in
    let f : (FitsSigned w64 m.xx) × (FitsSigned w64 m.xy) × (FitsSigned w64 m.xz) = search rules in
    let g : (FitsSigned w64 m.yx) × (FitsSigned w64 m.yy) × (FitsSigned w64 m.yz) = search rules in
    let h : (FitsSigned w64 m.zx) × (FitsSigned w64 m.zy) × (FitsSigned w64 m.zz) = search rules in
    let x = simp (to_z-of_z f.0, to_z-of_z f.1, to_z-of_z f.2) at c.are_within.ensures in
    let y = simp (to_z-of_z g.0, to_z-of_z g.1, to_z-of_z g.2) at c.are_within-2.ensures in
    let z = simp (to_z-of_z h.0, to_z-of_z h.1, to_z-of_z h.2) at c.are_within-3.ensures in
    (λ t. record { x = x.0 c.if-not-are_within.false; y = y.0 c.if-not-are_within-2.false; z = z.0 t }, λ s. z.1 s.z)
