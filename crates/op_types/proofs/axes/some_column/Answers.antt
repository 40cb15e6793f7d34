use Rattle.op_types.proofs.Lines.{x_image, y_image, z_image, image_column}
use Rattle.op_types.proofs.axes.some_column.Goals as goal

pub returns-then-not-is_origin-clause-image : goal.returns-then-not-is_origin-clause-image
returns-then-not-is_origin-clause-image c = image_column _ _ _ c.x_column-first.ensures (x_image _)

pub returns-then-not-is_origin-2-clause-image : goal.returns-then-not-is_origin-2-clause-image
returns-then-not-is_origin-2-clause-image c = image_column _ _ _ c.y_column-second.ensures (y_image _)

pub returns-clause-image : goal.returns-clause-image
returns-clause-image c = image_column _ _ _ c.z_column.ensures (z_image _)
