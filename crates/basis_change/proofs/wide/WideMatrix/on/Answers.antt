use Rattle.std.proofs.Common.{rules, ◌*◌, w64, FitsSigned}
use Rattle.lattice_algebra.specs.Matrix.{◌·ᶜ◌}
use Rattle.lattice_algebra.proofs.Machine.{read}
use Rattle.basis_change.proofs.Sizes.{stored, passed}
use Rattle.basis_change.proofs.wide.WideMatrix.on.Goals as goal

pub returns-clause-value : goal.returns-clause-value
unfolding ◌·ᶜ◌
returns-clause-value c = search (rules, read)

pub returns-clause-size : goal.returns-clause-size
returns-clause-size c = λ a b l r.
    let m = c.args.self.now in
    let v = c.args.c.now in
    let s = 3 * (a * b) in
    let fx : (FitsSigned w64 m.xx) × (FitsSigned w64 m.xy) × (FitsSigned w64 m.xz) = search rules in
    let fy : (FitsSigned w64 m.yx) × (FitsSigned w64 m.yy) × (FitsSigned w64 m.yz) = search rules in
    let fz : (FitsSigned w64 m.zx) × (FitsSigned w64 m.zy) × (FitsSigned w64 m.zz) = search rules in
    let g : (FitsSigned w64 v.x) × (FitsSigned w64 v.y) × (FitsSigned w64 v.z) = search rules in
    let q = passed b v.x v.y v.z g.0 g.1 g.2 r in
    record {
      first = stored s c.dot.result (search rules) (c.dot.ensures.size a b (passed a m.xx m.xy m.xz fx.0 fx.1 fx.2 l.x) q);
      second = stored s c.dot-2.result (search rules) (c.dot-2.ensures.size a b (passed a m.yx m.yy m.yz fy.0 fy.1 fy.2 l.y) q);
      third = stored s c.dot-3.result (search rules) (c.dot-3.ensures.size a b (passed a m.zx m.zy m.zz fz.0 fz.1 fz.2 l.z) q);
    }
