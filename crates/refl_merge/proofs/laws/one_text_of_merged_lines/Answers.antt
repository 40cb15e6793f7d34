use Rattle.std.proofs.Common.{refl, ap, sym, ◌∙◌}
use Rattle.refl_merge.specs.Texts.{merged_text}
use Rattle.refl_merge.proofs.MergedLists.{some_list, one_list}
use Rattle.refl_merge.proofs.laws.one_text_of_merged_lines.Goals as goal

pub returns-clause-some : goal.returns-clause-some
returns-clause-some c = λ pairs members lines group.
    let r = some_list pairs members group lines in
    (merged_text r.0, record { merged = r.0; is_list = r.1; whole = refl })

pub returns-clause-one : goal.returns-clause-one
returns-clause-one c = λ pairs members lines a b group p q. p.whole ∙ ap merged_text (one_list pairs members group lines p.merged q.merged p.is_list q.is_list) ∙ sym q.whole
