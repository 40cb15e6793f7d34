use Rattle.std.proofs.Common.{◌≡◌, ◌-◌, ◌+◌, map, slice_get, Some, arith, sym, ◌∙◌, subst, All, Vec, Global}
use Rattle.std.proofs.lemmas.List.{length-map}
use Rattle.std.proofs.lemmas.List.Elements.{All-contains}
use Rattle.std.proofs.lemmas.Option.{slice_get_within}
use Rattle.exact_ops.specs.Elements.{map_in}
use Rattle.wyckoff_rows.specs.Steps.{IsEntry, AreMet, AreEnough, IsVisiting, IsCandidate}
use Rattle.affine_sets.specs.declared.parts.Key.{Key}
use Rattle.wyckoff_rows.specs.declared.entry.Entry.{Entry}
use Rattle.wyckoff_rows.proofs.Lists.{contains_at, map_at}
use Rattle.wyckoff_rows.proofs.Visiting.{visit_begins, visit_same, visit_more, visit_ends, still_there, left_falls, item_is, candidate_is, last_is, some_more}
use Rattle.wyckoff_rows.proofs.table.+visit.Goals as goal
use Rattle.wyckoff_rows.proofs.table.+visit.Goals.{then-branch+in_ok-visit, else-branch}

pub candidates-requires : goal.candidates-requires
candidates-requires t c =
    let l = c.len-k.ensures ∙ c.args.kept.now.ok.0 in
    All-contains (IsEntry c.args.g.now) c.args.kept.now.items c.index.result.now c.requires.kept.each (contains_at c.args.kept.now.items (c.len-k.result - 1) c.index.result.now (last_is c.args.kept.now.items c.len-k.result c.index.result.now l c.requires.some c.index.ensures))

pub loop-e-init : goal.loop-e-init
loop-e-init t c = record { visiting = λ k s. visit_begins c.args.g.now (map map_in c.deref-e-items.result.now) k c.args.kept.now.items c.requires.kept; met = c.requires.met }

pub keep-requires-clause-place : goal.keep-requires-clause-place
keep-requires-clause-place t c =
    let l = c.len-k.ensures ∙ c.args.kept.now.ok.0 in
    let k = c.index.result.now in
    let s = last_is c.args.kept.now.items c.len-k.result k l c.requires.some c.index.ensures in
    let v = c.loop-e.invariant.visiting k s in
    slice_get_within c.loop-e.kept.items (c.len-k.result - 1) k (still_there c.args.g.now (map map_in c.deref-e-items.result.now) c.args.kept.now.items c.loop-e.kept.items (c.len-k.result - 1) k c.loop-e.e-index s v)

pub keep-requires-clause-kept : goal.keep-requires-clause-kept
keep-requires-clause-kept t c =
    let l = c.len-k.ensures ∙ c.args.kept.now.ok.0 in
    let k = c.index.result.now in
    (c.loop-e.invariant.visiting k (last_is c.args.kept.now.items c.len-k.result k l c.requires.some c.index.ensures)).kept

pub keep-requires-clause-candidate : goal.keep-requires-clause-candidate
keep-requires-clause-candidate t c =
    let h = subst (λ v. All (IsCandidate c.args.g.now) (map map_in v)) (sym c.deref-e-items.ensures.value) c.in_ok-elements.ensures.candidates in
    candidate_is c.args.g.now c.deref-e-items.result.now c.loop-e.e-index c.e-item.result h (item_is c.deref-e-items.result.now c.loop-e.e-index c.e-item.result c.loop-e-test.true c.e-item.is)

pub visit-requires : goal.visit-requires
visit-requires t c =
    let l = c.len-k.ensures ∙ c.args.kept.now.ok.0 in
    let k = c.index.result.now in
    let s = last_is c.args.kept.now.items c.len-k.result k l c.requires.some c.index.ensures in
    let v = c.loop-e.invariant.visiting k s in
    let there = still_there c.args.g.now (map map_in c.deref-e-items.result.now) c.args.kept.now.items c.loop-e.kept.items (c.len-k.result - 1) k c.loop-e.e-index s v in
    let more = (c.in_ok-keep.ensures.more k there).one c.if-branch.true in
    let falls = left_falls c.args.g.now c.args.kept.now.items c.loop-e.kept.items c.keep.new.kept.items k more.0 (subst (λ n. slice_get c.args.kept.now.items (n - 1) ≡ Some k) l s) more.1 more.2 c.in_ok-keep.ensures.kept in
    let d = c.decreases in
    (omega (arith, falls, d), (some_more c.loop-e.kept.items c.keep.new.kept.items more.0 more.1, (c.in_ok-keep.ensures.kept, c.in_ok-keep.ensures.met)))

pub loop-e-preserved : goal.loop-e-preserved
loop-e-preserved t c =
    let g = c.args.g.now in
    let first = c.args.kept.now.items in
    let list = map map_in c.deref-e-items.result.now in
    let i = c.loop-e.e-index in
    let p = c.len-k.result - 1 in
    let item = map_in c.e-item.result in
    let at = map_at map_in c.deref-e-items.result.now i c.e-item.result (item_is c.deref-e-items.result.now i c.e-item.result c.loop-e-test.true c.e-item.is) in
    elim c.if-branch.branch [
      | then-branch+in_ok-visit w ↦ record {
        visiting = λ k s.
            let v = c.loop-e.invariant.visiting k s in
            let there = still_there g list first c.loop-e.kept.items p k i s v in
            let more = (c.in_ok-keep.ensures.more k there).one w.if-branch.true in
            subst (λ (x : Vec Entry Global). IsVisiting g list k first x.items (i + 1)) (sym w.kept-is)
            (visit_more g list k first c.loop-e.kept.items c.keep.new.kept.items w.visit.new.kept.items more.0 i item v at more.1 (c.in_ok-keep.ensures.grown k there) w.in_ok-visit.ensures.visited);
        met = subst (λ (x : Vec Entry Global). AreMet g x.items c.if-branch.met.items) (sym w.kept-is)
            (subst (λ (x : Vec Key Global). AreMet g w.visit.new.kept.items x.items) (sym w.met-is) w.in_ok-visit.ensures.met);
      }
      | else-branch w ↦ record {
        visiting = λ k s.
            let v = c.loop-e.invariant.visiting k s in
            let there = still_there g list first c.loop-e.kept.items p k i s v in
            let same = (c.in_ok-keep.ensures.more k there).none w.if-branch.false in
            let grown = c.in_ok-keep.ensures.grown k there in
            subst (λ (x : Vec Entry Global). IsVisiting g list k first x.items (i + 1)) (sym w.kept-is)
            (visit_same g list k first c.keep.new.kept.items i item (subst (λ x. IsVisiting g list k first x i) (sym same) v) at grown);
        met = subst (λ (x : Vec Entry Global). AreMet g x.items c.if-branch.met.items) (sym w.kept-is)
            (subst (λ (x : Vec Key Global). AreMet g c.keep.new.kept.items x.items) (sym w.met-is) c.in_ok-keep.ensures.met);
      }
    ]

pub returns-clause-visited : goal.returns-clause-visited
returns-clause-visited t c =
    let l = c.len-k.ensures ∙ c.args.kept.now.ok.0 in
    let k = c.index.result.now in
    let first = c.args.kept.now.items in
    let s = last_is first c.len-k.result k l c.requires.some c.index.ensures in
    let list = map map_in c.deref-e-items.result.now in
    let enough = subst (λ v. AreEnough c.args.g.now k.set (map map_in v)) (sym c.deref-e-items.ensures.value) c.in_ok-elements.ensures.enough in
    visit_ends c.args.g.now list k first c.loop-e.kept.items c.loop-e.e-index (c.loop-e.invariant.visiting k s) (simp length-map c.loop-e-test.false) c.requires.some (subst (λ n. slice_get first (n - 1) ≡ Some k) l s) enough
