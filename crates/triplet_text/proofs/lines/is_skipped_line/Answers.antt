use Rattle.std.proofs.Common.{arith, true}
use Rattle.std.proofs.lemmas.Grind.{common_steps}
use Rattle.triplet_text.proofs.LineSteps.{skipped_is}
use Rattle.triplet_text.proofs.lines.is_skipped_line.Goals as goal

pub returns-then-not-is_blank_byte : goal.returns-then-not-is_blank_byte
returns-then-not-is_blank_byte c = skipped_is c.args.line.now _ (grind (arith, common_steps))

pub returns : goal.returns
returns c = skipped_is c.args.line.now true (grind (arith, common_steps))
