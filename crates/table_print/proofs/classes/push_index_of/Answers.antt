use Rattle.std.proofs.Common.{◌∙◌, ◌++◌, ap, w32}
use Rattle.lattice_algebra.proofs.Machine.{kept}
use Rattle.phase_rules.specs.declared.TheConstants.{MAX_INDEX}
use Rattle.phase_rules.specs.Rows.{Row}
use Rattle.page_print.specs.Parts.{index_text}
use Rattle.table_print.proofs.classes.push_index_of.Goals as goal

pub returns-clause-text : goal.returns-clause-text
returns-clause-text c =
    let n = c.index.invariant in
    let h = kept w32 MAX_INDEX c.index.inside.h n.first tt in
    let k = kept w32 MAX_INDEX c.index.inside.k n.second tt in
    let l = kept w32 MAX_INDEX c.index.inside.l n.third tt in
    (rw h at rw k at rw l at c.push_index.ensures.text) ∙ ap (λ (r : Row). c.args.page.now ++ index_text r.h r.k r.l) c.index.view_is
