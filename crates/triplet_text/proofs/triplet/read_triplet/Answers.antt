use Rattle.std.proofs.Common.{◌≡◌, ap, ◌∙◌}
use Rattle.std.specs.Option.{option_map}
use Rattle.exact_ops.specs.Numbers.{numbers}
use Rattle.triplet_text.specs.Pieces.{trim, unquoted}
use Rattle.triplet_text.specs.Triplets.{components_of, triplet_of}
use Rattle.triplet_text.proofs.GrammarLaw.{short_enough, read_some, read_none}
use Rattle.triplet_text.proofs.triplet.read_triplet.Goals as goal
use Rattle.triplet_text.proofs.triplet.read_triplet.Goals.{After-read_components}

equation : (c : After-read_components) → option_map numbers c.read_components.result ≡ triplet_of c.args.line.now
equation c =
    c.read_components.ensures
    ∙ ap components_of (c.without_blanks-2.ensures.text ∙ ap trim (c.without_quotes.ensures.text ∙ ap unquoted c.without_blanks.ensures.text))
    ∙ short_enough c.args.line.now c.if-line-gt-LINE_LENGTH.false

pub returns-clause-some : goal.returns-clause-some
returns-clause-some c = read_some _ _ (equation c)

pub returns-clause-none : goal.returns-clause-none
returns-clause-none c = read_none _ _ (equation c)
