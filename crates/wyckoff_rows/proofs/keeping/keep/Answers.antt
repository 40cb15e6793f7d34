use Rattle.std.proofs.Common.{◌<◌, ◌≤◌, length, sym, ◌∙◌, subst, arith}
use Rattle.std.proofs.lemmas.Option.{same_Some}
use Rattle.exact_ops.specs.Elements.{map_in}
use Rattle.space_groups.specs.Averages.{no_block}
use Rattle.wyckoff_rows.specs.Steps.{HasGrown, IsKeptMore}
use Rattle.wyckoff_rows.proofs.Lists.{contains_at}
use Rattle.wyckoff_rows.proofs.Visiting.{item_is}
use Rattle.affine_sets.proofs.Groups.{sub_of_list}
use Rattle.wyckoff_rows.proofs.Growing.{grown_shifts, entry_at, grown_elements, none_grown, same_grown, grown_fixes, near_sub, near_grown, full_as_large, added_more, at_least, larger_is}
use Rattle.wyckoff_rows.proofs.keeping.keep.Goals as goal

pub grow-requires-clause-elements : goal.grow-requires-clause-elements
grow-requires-clause-elements c =
    let k = c.index.result.now in
    let at = item_is c.args.kept.now.items c.args.k k c.requires.place c.index.ensures in
    (entry_at c.args.g.now c.args.kept.now.items c.args.k k c.requires.kept at).kept.sub.elements

pub grow-requires-clause-shifts : goal.grow-requires-clause-shifts
grow-requires-clause-shifts c =
    let k = c.index.result.now in
    let at = item_is c.args.kept.now.items c.args.k k c.requires.place c.index.ensures in
    grown_shifts k.set (map_in c.args.e.now) (entry_at c.args.g.now c.args.kept.now.items c.args.k k c.requires.kept at).shifts c.requires.candidate.shifts

pub returns-in_default-clause-grown : goal.returns-in_default-clause-grown
returns-in_default-clause-grown c =
    let k = c.index.result.now in
    let at = item_is c.args.kept.now.items c.args.k k c.requires.place c.index.ensures in
    let h = rw c.in_default.is at c.in_ok-grown.ensures in
    λ t s. subst (λ x. HasGrown c.args.g.now c.args.kept.now.items x (map_in c.args.e.now)) (same_Some k t (sym at ∙ s)) (none_grown c.args.g.now c.args.kept.now.items k (map_in c.args.e.now) h.none)

pub returns-then-len-clause-grown : goal.returns-then-len-clause-grown
returns-then-len-clause-grown c =
    let g = c.args.g.now in
    let kept = c.args.kept.now.items in
    let k = c.index.result.now in
    let e = map_in c.args.e.now in
    let at = item_is kept c.args.k k c.requires.place c.index.ensures in
    let entry = entry_at g kept c.args.k k c.requires.kept at in
    let h = rw c.in-Some.is at c.in_ok-grown.ensures in
    let l : length c.in-Some.grown ≤ length k.set = omega (arith, c.len.ensures.value, c.len-2.ensures.value) in
    λ t s. subst (λ x. HasGrown g kept x e) (same_Some k t (sym at ∙ s))
    (same_grown g c.requires.kept.group kept k e c.in-Some.grown (contains_at kept c.args.k k at) entry (grown_elements g k e entry c.requires.candidate) h.some l)

pub near-requires : goal.near-requires
near-requires c = (rw c.in-Some.is at c.in_ok-grown.ensures).elements

pub mean-average-requires : goal.mean-average-requires
mean-average-requires c =
    let g = c.args.g.now in
    let h = rw c.in-Some.is at c.in_ok-grown.ensures in
    let sub = sub_of_list g c.in-Some.grown c.len.ensures.group h.elements in
    (near_sub g c.requires.kept.group c.in-Some.grown c.in_ok-near.near no_block sub c.in_ok-near.ensures.shifted).elements

pub keep_average-requires-clause-near : goal.keep_average-requires-clause-near
keep_average-requires-clause-near c =
    let g = c.args.g.now in
    let h = rw c.in-Some.is at c.in_ok-grown.ensures in
    let sub = sub_of_list g c.in-Some.grown c.len.ensures.group h.elements in
    record {
      group = c.in_ok-near.near;
      is_group = near_sub g c.requires.kept.group c.in-Some.grown c.in_ok-near.near c.mean-average.result sub c.in_ok-near.ensures.shifted;
      mean = c.mean-average.ensures.mean;
      shifts = c.in_ok-near.ensures.near;
    }

pub returns-clause-more : goal.returns-clause-more
returns-clause-more c =
    let g = c.args.g.now in
    let group = c.requires.kept.group in
    let kept = c.args.kept.now.items in
    let k = c.index.result.now in
    let at = item_is kept c.args.k k c.requires.place c.index.ensures in
    let h = rw c.in-Some.is at c.in_ok-grown.ensures in
    let sub = sub_of_list g c.in-Some.grown c.len.ensures.group h.elements in
    let a = c.mean-average.result in
    let entry = entry_at g kept c.args.k k c.requires.kept at in
    let least = at_least g group k.set c.in-Some.grown (map_in c.args.e.now) (grown_elements g k (map_in c.args.e.now) entry c.requires.candidate) h.some entry.kept.sub in
    let l : length k.set < length c.in-Some.grown = larger_is (length k.set) (length c.in-Some.grown) least (λ q. c.if-len.false (c.len.ensures.value ∙ sym q ∙ sym c.len-2.ensures.value)) in
    λ t s. subst (λ x. IsKeptMore c.in_ok-more.more kept x c.keep_average.new.kept.items) (same_Some k t (sym at ∙ s))
    (added_more g c.in_ok-more.more kept c.keep_average.new.kept.items k a (length c.in-Some.grown) c.in_ok-more.ensures.more l
    (λ full f. full_as_large g group c.in-Some.grown c.in_ok-near.near a sub c.in_ok-near.ensures.shifted full c.mean-average.ensures.mean f) c.in_ok-more.ensures.kept)

pub returns-clause-grown : goal.returns-clause-grown
returns-clause-grown c =
    let g = c.args.g.now in
    let group = c.requires.kept.group in
    let kept = c.args.kept.now.items in
    let k = c.index.result.now in
    let e = map_in c.args.e.now in
    let at = item_is kept c.args.k k c.requires.place c.index.ensures in
    let entry = entry_at g kept c.args.k k c.requires.kept at in
    let h = rw c.in-Some.is at c.in_ok-grown.ensures in
    let sub = sub_of_list g c.in-Some.grown c.len.ensures.group h.elements in
    let fixes = grown_fixes g group k.set c.in-Some.grown e (grown_elements g k e entry c.requires.candidate) h.some in
    λ t s. subst (λ x. HasGrown g c.keep_average.new.kept.items x e) (same_Some k t (sym at ∙ s))
    (near_grown g group c.in-Some.grown c.in_ok-near.near c.mean-average.result sub c.in_ok-near.ensures.shifted c.keep_average.new.kept.items k e fixes c.mean-average.ensures.mean c.in_ok-more.ensures.key)
