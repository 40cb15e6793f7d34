use Rattle.std.proofs.Common.{◌≡◌, ◌<◌, ◌+◌, inl, map, slice_get, Some, true, Vec, Global, Contains, sym, subst, arith, ⊎_elim}
use Rattle.std.specs.List.{All}
use Rattle.std.proofs.lemmas.Option.{slice_get_within}
use Rattle.std.proofs.lemmas.List.Elements.{All-contains}
use Rattle.lattice_algebra.specs.Map.{Map}
use Rattle.exact_ops.specs.declared.TheConstants.{UNIT}
use Rattle.exact_ops.specs.declared.moves.Move.{Move}
use Rattle.exact_ops.specs.Elements.{map_in}
use Rattle.space_groups.specs.Space.{IsElement}
use Rattle.wyckoff_rows.specs.Steps.{IsCandidate, IsPlaceIn, AreTried}
use Rattle.wyckoff_rows.proofs.Lists.{some_at}
use Rattle.wyckoff_rows.proofs.Covering.{all_covered, step_tried, step_added, marked_at, places_within}
use Rattle.wyckoff_rows.proofs.candidates.candidates.Goals as goal
use Rattle.wyckoff_rows.proofs.candidates.candidates.Goals.{then-not-tried-from+in_ok-push_shifts, else-not-tried-from}

pub loop-i-init : goal.loop-i-init
loop-i-init c = record {
  covered = λ j f h s. absurd (⊎_elim (λ l. omega (arith, l)) (λ q. c.none_tried-tried.ensures j q) h);
  candidates = subst (λ v. All (IsCandidate c.args.g.now) (map map_in v)) (sym c.new-list.ensures.items) (λ k d l. absurd (omega (arith, l)));
}

pub mark-requires-clause-places : goal.mark-requires-clause-places
mark-requires-clause-places c =
    let g = c.args.g.now in
    let set = c.args.entry.now.set in
    places_within g set c.deref.result.now (subst (All (IsPlaceIn g set)) (sym c.deref.ensures.value) c.in_ok-places.ensures)

pub loop-i-preserved : goal.loop-i-preserved
loop-i-preserved c =
    let g = c.args.g.now in
    let group = c.len-i-end.ensures.group in
    let set = c.args.entry.now.set in
    let valid = λ (s : Map) (m : Contains set s). All-contains (IsElement UNIT g) set s c.requires.kept.sub.elements m in
    let i = c.loop-i.i in
    elim c.if-not-tried-from.branch [
      | then-not-tried-from+in_ok-push_shifts w ↦
          let f = some_at g i (omega (arith, c.loop-i-test.true, c.len-i-end.ensures.value)) in
          let k = step_added g group set valid (map map_in c.loop-i.list.items) (map map_in w.push_shifts.new.list.items) c.loop-i.tried w.mark.new.tried i f.0 f.1 c.loop-i.invariant.covered w.in_ok-push_shifts.ensures.extends (w.in_ok-push_shifts.ensures.covered f.0 f.1) (w.mark.ensures set (subst (All (IsPlaceIn g set)) (sym w.deref.ensures.value) c.in_ok-places.ensures)) in
          record {
            covered = subst (λ (v : Vec Move Global). AreTried g set (map map_in v.items) c.if-not-tried-from.tried (i + 1)) (sym w.list-is)
                (subst (λ x. AreTried g set (map map_in w.push_shifts.new.list.items) x (i + 1)) (sym w.tried-is) k);
            candidates = subst (λ (v : Vec Move Global). All (IsCandidate g) (map map_in v.items)) (sym w.list-is) w.in_ok-push_shifts.ensures.candidates;
          }
      | else-not-tried-from w ↦ record {
        covered = subst (λ (v : Vec Move Global). AreTried g set (map map_in v.items) c.if-not-tried-from.tried (i + 1)) (sym w.list-is)
            (subst (λ x. AreTried g set (map map_in c.loop-i.list.items) x (i + 1)) (sym w.tried-is)
            (step_tried g group set valid (map map_in c.loop-i.list.items) c.loop-i.tried i c.loop-i.invariant.covered (subst (λ n. slice_get c.loop-i.tried n ≡ Some true) c.from.ensures (marked_at c.loop-i.tried c.from.result w.if-not-tried-from.false))));
        candidates = subst (λ (v : Vec Move Global). All (IsCandidate g) (map map_in v.items)) (sym w.list-is) c.loop-i.invariant.candidates;
      }
    ]

pub returns-clause-enough : goal.returns-clause-enough
returns-clause-enough c =
    let g = c.args.g.now in
    let group = c.len-i-end.ensures.group in
    let set = c.args.entry.now.set in
    let valid = λ (s : Map) (m : Contains set s). All-contains (IsElement UNIT g) set s c.requires.kept.sub.elements m in
    all_covered g group set valid (map map_in c.loop-i.list.items) (λ j f s. c.loop-i.invariant.covered j f (inl (let l : j < c.loop-i.i = omega (arith, c.loop-i-test.false, c.len-i-end.ensures.value, slice_get_within g j f s) in l)) s)
