use Rattle.std.proofs.Common.{sym, subst, ◌∙◌}
use Rattle.std.specs.Option.{IfNone}
use Rattle.std.proofs.lemmas.List.{with_items_is}
use Rattle.reflections.specs.ClassLists.{IsClassList}
use Rattle.reflections.proofs.Walks.{stepped, over}
use Rattle.reflections.proofs.class_list.ClassList.next.Goals as goal

pub returns-in_err-place-clause-none : goal.returns-in_err-place-clause-none
returns-in_err-place-clause-none c = λ taken walk.
    subst (λ r. IfNone r (IsClassList c.args.self.now.pairs c.args.group.now c.args.self.now.size taken)) (sym c.from_residual.ensures)
    (over c.args.group.now c.args.self.now _ taken c.deref.result.now c.self.view_is walk c.deref.ensures.value c.self.invariant c.in_err-place.ensures.none)

pub returns-clause-some : goal.returns-clause-some
returns-clause-some c = λ taken walk.
    stepped c.args.group.now c.args.self.now _ taken c.in_ok-place.place _ c.deref.result.now c.deref_mut.result.now c.tag_class-tally.new.tags _ c.self.view_is walk c.deref.ensures.value c.deref_mut.ensures.value
    (with_items_is c.self.inside.tags c.tag_class-tally.new.tags (c.tag_class-tally.auto.tags ∙ c.deref_mut.ensures.len))
    c.in_ok-place.ensures.some c.index_at-index.ensures.within c.index_at-index.ensures.value
    (record {
      size = λ class s. c.class_size.ensures c.index_at-index.result class c.tag_class-tally.ensures.tally s;
      fixers = c.tag_class-tally.ensures.tally.fixers;
      mark = c.mark.ensures c.args.group.now c.index_at-index.result c.tag_class-tally.ensures.tally;
    })
    c.tag_class-tally.ensures.tags
