use Rattle.triplet_text.proofs.CoordinateLaw.{too_long, found_some, found_value}
use Rattle.triplet_text.proofs.coordinate.read_coord.Goals as goal

pub returns-then-text-gt-COORDINATE_LENGTH-clause-some : goal.returns-then-text-gt-COORDINATE_LENGTH-clause-some
returns-then-text-gt-COORDINATE_LENGTH-clause-some c = (λ s. absurd cc, λ h. absurd (too_long c.args.text.now c.if-text-gt-COORDINATE_LENGTH.true h))

pub returns-clause-some : goal.returns-clause-some
returns-clause-some c = found_some c.args.text.now c.signed.result c.if-text-gt-COORDINATE_LENGTH.false c.signed.ensures

pub returns-clause-value : goal.returns-clause-value
returns-clause-value c = found_value c.args.text.now c.signed.result c.if-text-gt-COORDINATE_LENGTH.false c.signed.ensures
