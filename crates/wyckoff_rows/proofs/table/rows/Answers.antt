use Rattle.std.proofs.Common.{rules, is_lt, map, ap, ◌∙◌, subst, IsPermutation}
use Rattle.std.proofs.lemmas.List.Sorted.{ranks_by, answers_always}
use Rattle.wyckoff_rows.specs.declared.parts.Row.{Row}
use Rattle.wyckoff_rows.specs.Shown.{row_cmp}
use Rattle.wyckoff_rows.specs.Steps.{row_shown, IsVisited}
use Rattle.wyckoff_rows.proofs.Ordering.{row_cmp_total}
use Rattle.wyckoff_rows.proofs.Finishing.{the_table, the_row_list}
use Rattle.wyckoff_rows.proofs.table.rows.Goals as goal

pub returns-clause-table : goal.returns-clause-table
returns-clause-table c =
    let t = c.in_ok-kept.ensures.trivial in
    the_table c.args.g.now t.0 c.visit.new.kept.items c.sort_unstable_by.new.self.items (subst (λ v. IsVisited c.args.g.now v c.visit.new.kept.items) t.1 c.in_ok-visit.ensures.visited) t.2
    (subst (λ v. IsPermutation v c.sort_unstable_by.new.self.items) (c.in_ok-rows.ensures ∙ ap (map row_shown) c.deref.ensures.value) c.sort_unstable_by.ensures.permutation)
    (c.sort_unstable_by.ensures.sorted (λ a b. is_lt (row_cmp a b)) (ranks_by row_cmp_total (λ (r : Row). r)) (answers_always _ _ _ (λ f a r q k. search rules)))

pub returns-clause-list : goal.returns-clause-list
returns-clause-list c =
    let t = c.in_ok-kept.ensures.trivial in
    the_row_list c.args.g.now t.0 c.visit.new.kept.items c.sort_unstable_by.new.self.items (subst (λ v. IsVisited c.args.g.now v c.visit.new.kept.items) t.1 c.in_ok-visit.ensures.visited) t.2
    (subst (λ v. IsPermutation v c.sort_unstable_by.new.self.items) (c.in_ok-rows.ensures ∙ ap (map row_shown) c.deref.ensures.value) c.sort_unstable_by.ensures.permutation)
    (c.sort_unstable_by.ensures.sorted (λ a b. is_lt (row_cmp a b)) (ranks_by row_cmp_total (λ (r : Row). r)) (answers_always _ _ _ (λ f a r q k. search rules)))
