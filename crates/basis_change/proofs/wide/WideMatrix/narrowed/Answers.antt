use Rattle.basis_change.proofs.Sizes.{cast_kept}
use Rattle.basis_change.proofs.wide.WideMatrix.narrowed.Goals as goal

pub returns : goal.returns
returns c =
    let m = c.args.self.now in
    let r = c.requires in
    λ i. record {
      xx = cast_kept m.xx r.x.first i;
      xy = cast_kept m.xy r.x.second i;
      xz = cast_kept m.xz r.x.third i;
      yx = cast_kept m.yx r.y.first i;
      yy = cast_kept m.yy r.y.second i;
      yz = cast_kept m.yz r.y.third i;
      zx = cast_kept m.zx r.z.first i;
      zy = cast_kept m.zy r.z.second i;
      zz = cast_kept m.zz r.z.third i;
    }
