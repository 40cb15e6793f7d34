-- What an element that stands for another gives: what the set and it generate is, moved by an element of the space group, what the set
-- and the other generate; so both have one key.
use Rattle.std.proofs.Common.{◌≡◌, ◌↔◌, List, length, map, Contains, sym, subst}
use Rattle.std.proofs.lemmas.List.Elements.{All-contains}
use Rattle.std.proofs.lemmas.Map.Made.{IsDistinct-from_AllPairs, AllPairs-from_IsDistinct}
use Rattle.lattice_algebra.specs.Operator.{Operator}
use Rattle.lattice_algebra.specs.Map.{Map, undo}
use Rattle.lattice_algebra.proofs.Maps.{map_eq-is}
use Rattle.finite_groups.specs.Words.{IsClosedList}
use Rattle.finite_groups.proofs.Members as lists
use Rattle.finite_groups.proofs.Conjugates as conjugates
use Rattle.exact_ops.specs.declared.TheConstants.{UNIT}
use Rattle.group_closure.specs.GroupList.{IsGroup}
use Rattle.site_symmetry.proofs.SpaceOfGroup.{space_of}
use Rattle.space_groups.specs.Space.{IsElement, ScaledPoint, moved}
use Rattle.space_groups.specs.Keys.{Key, carried}
use Rattle.space_groups.specs.Search.{IsSub, FixAll, Kept, IsGrown}
use Rattle.space_groups.proofs.Elements.{SpaceGroup, space, on_points}
use Rattle.space_groups.proofs.CarriedLists.{turned, turned_closed, turned_fixes, carried_mean, key_carried}
use Rattle.wyckoff_rows.specs.Steps.{StandsFor}

module _ (members : List Operator) (group : IsGroup members) where
  abbrev L : SpaceGroup
  L = space_of members group

  pub closed_of_sub : (list : List Map) → IsSub UNIT members list → IsClosedList (space L) list
  closed_of_sub list s = record { distinct = IsDistinct-from_AllPairs map_eq-is list s.once; valid = s.elements; has_one = s.identity; closed = s.products }

  pub sub_of_closed : (list : List Map) → IsClosedList (space L) list → IsSub UNIT members list
  sub_of_closed list c = record { elements = c.valid; once = AllPairs-from_IsDistinct map_eq-is list c.distinct; identity = c.has_one; products = c.closed }

  -- the conjugates by u fix z exactly where the list fixes v z, v undoing u
  pub turned_fix_all : (v : Map) (list : List Map) → IsElement UNIT members v → ((s : Map) → Contains list s → IsElement UNIT members s) → (z : ScaledPoint) → FixAll (map (turned (undo v)) list) z ↔ FixAll list (moved v z)
  turned_fix_all v list m valid z =
      let u : Map = undo v in
      let i : IsElement UNIT members u = (space L).inv_in v m in
      let back : moved u (moved v z) ≡ z = conjugates.act_back (space L) (on_points L) v z m in (
        (λ h s c. (turned_fixes L u s (moved v z) i (valid s c)).1 (subst (λ y. moved (turned u s) y ≡ y) (sym back) (h (turned u s) (lists.Contains-map (turned u) s list c)))),
        (λ h x c.
            let r = lists.Contains-from_map (turned u) x list c in
            subst (λ y. moved y z ≡ z) r.2 (subst (λ y. moved (turned u r.0) y ≡ y) back ((turned_fixes L u r.0 (moved v z) i (valid r.0 r.1)).0 (h r.0 r.1)))),
      )

  pub stands_grown : (k : Kept) (c e : Map) (p : Key) → StandsFor members k.set c e → IsGrown UNIT members k c p → IsGrown UNIT members k e p
  stands_grown k c e p s g =
      let v : Map = s.by in
      let u : Map = undo v in
      let i : IsElement UNIT members u = (space L).inv_in v s.element in
      let closed : IsClosedList (space L) g.list = closed_of_sub g.list g.sub in
      let valid : (x : Map) → Contains g.list x → IsElement UNIT members x = λ x q. All-contains (IsElement UNIT members) g.list x g.sub.elements q in
      record {
        list = map (turned u) g.list;
        sub = sub_of_closed (map (turned u) g.list) (turned_closed L u g.list i closed);
        fixes = λ z.
            let t = turned_fix_all v g.list s.element valid z in
            let f = g.fixes (moved v z) in
            let q = s.points z in ((λ h. q.1 (f.0 (t.0 h))), (λ h. t.1 (f.1 (q.0 h))));
        average = carried u g.average;
        mean = carried_mean u (length members) g.list g.average g.mean;
        key = key_carried L (length members) u g.average p i g.key;
      }
