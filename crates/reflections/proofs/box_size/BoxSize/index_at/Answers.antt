use Rattle.reflections.proofs.Boxes.{stored_index}
use Rattle.reflections.proofs.box_size.BoxSize.index_at.Goals as goal

pub returns-clause-value : goal.returns-clause-value
returns-clause-value c =
    stored_index c.args.self.now _ c.down.result c.down-2.result c.down-3.result c.args.place c.width-2.result c.width.result c.width-3.result c.width-4.result c.self.view_is c.self.invariant c.down.ensures.within c.down-2.ensures.within c.down-3.ensures.within
    c.width.ensures c.width-2.ensures c.width-3.ensures c.width-4.ensures c.down.ensures.value c.down-2.ensures.value c.down-3.ensures.value
