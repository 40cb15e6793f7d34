use Rattle.grid_tags.specs.Grids.{triple_of}
use Rattle.grid_tags.proofs.Stored.{turned_read}
use Rattle.grid_tags.proofs.image.turned.Goals as goal

pub returns-clause-value : goal.returns-clause-value
returns-clause-value c =
    turned_read c.args.size.now _ c.args.ratios.now c.args.w.now (triple_of c.args.at.now) _ _ _ c.size.view_is c.requires.ratios c.requires.narrow c.turned_coordinate.ensures.value c.turned_coordinate-2.ensures.value c.turned_coordinate-3.ensures.value
