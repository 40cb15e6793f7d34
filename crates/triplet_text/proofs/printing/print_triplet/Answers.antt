use Rattle.std.proofs.Common.{sym, subst, ℕ, List, rules}
use Rattle.triplet_text.specs.Grammar.{IsTriplet}
use Rattle.triplet_text.proofs.ReadBack.{text_is_triplet}
use Rattle.triplet_text.proofs.printing.print_triplet.Goals as goal

pub returns-clause-text : goal.returns-clause-text
returns-clause-text c = search rules

pub returns-clause-reads : goal.returns-clause-reads
returns-clause-reads c =
    subst (λ (text : List ℕ). IsTriplet text c.args.op.now) (sym (returns-clause-text c)) (text_is_triplet c.args.op.now c.w-w.ensures.narrow)
