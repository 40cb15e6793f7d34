use Rattle.std.proofs.Common.{rules, ◌≡◌, ◌∙◌, ◌++◌, ap, w32, FitsSigned, slice_index_or, pos, to_z-of_z}
use Rattle.page_print.specs.Parts.{index_text}
use Rattle.refl_merge.proofs.printing.push_key.Goals as goal

pub returns-clause-text : goal.returns-clause-text
returns-clause-text c =
    let key = c.args.key.now in
    let h : FitsSigned w32 (slice_index_or key 0 (pos 0)) = search rules in
    let k : FitsSigned w32 (slice_index_or key 1 (pos 0)) = search rules in
    let l : FitsSigned w32 (slice_index_or key 2 (pos 0)) = search rules in
    rw (to_z-of_z h) at rw (to_z-of_z k) at rw (to_z-of_z l) at c.push_index.ensures.text
