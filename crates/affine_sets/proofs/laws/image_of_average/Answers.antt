use Rattle.affine_sets.proofs.ImagePoints.{made_of_image, image_of_made}
use Rattle.affine_sets.proofs.laws.image_of_average.Goals as goal

pub returns : goal.returns
returns c = λ members a y g h. (made_of_image members g a h y, image_of_made members g a h y)
