use Rattle.group_closure.specs.declared.TheConstants.{MAX_OPERATORS}
use Rattle.wyckoff_rows.proofs.Covering.{none_true}
use Rattle.wyckoff_rows.proofs.candidates.none_tried.Goals as goal

pub returns : goal.returns
returns c = λ j e. none_true MAX_OPERATORS j e
