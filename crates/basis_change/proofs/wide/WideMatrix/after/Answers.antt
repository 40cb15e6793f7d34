use Rattle.std.proofs.Common.{rules, ◌*◌, w64, FitsSigned}
use Rattle.lattice_algebra.specs.Matrix.{◌·◌}
use Rattle.lattice_algebra.proofs.Machine.{read}
use Rattle.basis_change.proofs.Sizes.{stored, passed}
use Rattle.basis_change.proofs.wide.WideMatrix.after.Goals as goal

pub returns-clause-value : goal.returns-clause-value
unfolding ◌·◌
returns-clause-value c = search (rules, read)

pub returns-clause-size : goal.returns-clause-size
returns-clause-size c = λ a b l r.
    let m = c.args.self.now in
    let n = c.args.first.now in
    let s = 3 * (a * b) in
    let fx : (FitsSigned w64 m.xx) × (FitsSigned w64 m.xy) × (FitsSigned w64 m.xz) = search rules in
    let fy : (FitsSigned w64 m.yx) × (FitsSigned w64 m.yy) × (FitsSigned w64 m.yz) = search rules in
    let fz : (FitsSigned w64 m.zx) × (FitsSigned w64 m.zy) × (FitsSigned w64 m.zz) = search rules in
    let gx : (FitsSigned w64 n.xx) × (FitsSigned w64 n.yx) × (FitsSigned w64 n.zx) = search rules in
    let gy : (FitsSigned w64 n.xy) × (FitsSigned w64 n.yy) × (FitsSigned w64 n.zy) = search rules in
    let gz : (FitsSigned w64 n.xz) × (FitsSigned w64 n.yz) × (FitsSigned w64 n.zz) = search rules in
    let px = passed a m.xx m.xy m.xz fx.0 fx.1 fx.2 l.x in
    let py = passed a m.yx m.yy m.yz fy.0 fy.1 fy.2 l.y in
    let pz = passed a m.zx m.zy m.zz fz.0 fz.1 fz.2 l.z in
    let qx = passed b n.xx n.yx n.zx gx.0 gx.1 gx.2 (record { first = r.x.first; second = r.y.first; third = r.z.first }) in
    let qy = passed b n.xy n.yy n.zy gy.0 gy.1 gy.2 (record { first = r.x.second; second = r.y.second; third = r.z.second }) in
    let qz = passed b n.xz n.yz n.zz gz.0 gz.1 gz.2 (record { first = r.x.third; second = r.y.third; third = r.z.third }) in
    record {
      x = record { first = stored s c.dot.result (search rules) (c.dot.ensures.size a b px qx); second = stored s c.dot-2.result (search rules) (c.dot-2.ensures.size a b px qy); third = stored s c.dot-3.result (search rules) (c.dot-3.ensures.size a b px qz) };
      y = record { first = stored s c.dot-4.result (search rules) (c.dot-4.ensures.size a b py qx); second = stored s c.dot-5.result (search rules) (c.dot-5.ensures.size a b py qy); third = stored s c.dot-6.result (search rules) (c.dot-6.ensures.size a b py qz) };
      z = record { first = stored s c.dot-7.result (search rules) (c.dot-7.ensures.size a b pz qx); second = stored s c.dot-8.result (search rules) (c.dot-8.ensures.size a b pz qy); third = stored s c.dot-9.result (search rules) (c.dot-9.ensures.size a b pz qz) };
    }
