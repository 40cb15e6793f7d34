use Rattle.std.proofs.Common.{◌≡◌, ◌∙◌, pos, length, sym, ap, arith}
use Rattle.std.proofs.lemmas.List.{ext_get_or}
use Rattle.grid_tags.specs.Grids.{points}
use Rattle.sg_c.proofs.maps.write_sums.Goals as goal

pub returns : goal.returns
returns c =
    let counted = c.loop-place.invariant.counted in
    let as_many : length c.loop-place.sums ≡ length c.args.map.now.sums.values = counted ∙ sym (c.requires.all ∙ ap points c.requires.size) in
    ext_get_or (pos 0) _ _ as_many (λ k within. c.loop-place.invariant.each k (omega arith))
