use Rattle.std.proofs.Common.{◌∙◌, ℕ, pos, slice_index_or, ap}
use Rattle.table_print.proofs.FormTexts.{form_pushed, component_read, shifts_within}
use Rattle.table_print.proofs.params.push_form.Goals as goal

pub returns-clause-text : goal.returns-clause-text
returns-clause-text c =
    let f = c.args.form.now in
    let over = c.over-over.ensures.value in
    let b = c.b-b.ensures.value in
    let s = c.s-s.ensures.value in
    let kept = c.over-over.ensures.kept in
    let shifts = shifts_within f kept in
    let entry = λ (i : ℕ). ap (λ l. slice_index_or l i (pos 0)) b in
    let number = λ (i : ℕ). ap (λ l. slice_index_or l i (pos 0)) s in
    form_pushed _ _ _ _ _ _ _ _ _ _ _ _ c.push.ensures c.push-2.ensures c.push-3.ensures c.push-4.ensures c.push-5.ensures
    (c.bytes.ensures.text ∙ c.print_component.ensures.text ∙ component_read f.over _ c.b-b.result c.s-s.result 0 1 2 0 f.b.xx f.b.xy f.b.xz f.s.x _ over kept.entries.x shifts.first (entry 0) (entry 1) (entry 2) (number 0) c.from.ensures)
    (c.bytes-2.ensures.text ∙ c.print_component-2.ensures.text ∙ component_read f.over _ c.b-b.result c.s-s.result 3 4 5 1 f.b.yx f.b.yy f.b.yz f.s.y _ over kept.entries.y shifts.second (entry 3) (entry 4) (entry 5) (number 1) c.from-2.ensures)
    (c.bytes-3.ensures.text ∙ c.print_component-3.ensures.text ∙ component_read f.over _ c.b-b.result c.s-s.result 6 7 8 2 f.b.zx f.b.zy f.b.zz f.s.z _ over kept.entries.z shifts.third (entry 6) (entry 7) (entry 8) (number 2) c.from-3.ensures)

pub returns-clause-kept : goal.returns-clause-kept
returns-clause-kept c = c.over-over.ensures.kept
