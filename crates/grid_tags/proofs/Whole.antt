-- The grid list: each grid point has an orbit list and one line, so the list is unique and a walk takes its first lines. Each orbit
-- has one line, the orbits have all grid points, and there is such a list.
use Rattle.std.proofs.Common.{◌≡◌, ℕ, ◌*◌, ◌/◌, ◌%◌, ◌<◌, List, [], ◌∷◌, ◌++◌, map, length, ap, sym, ◌∙◌, subst, refl, arith, Contains, sum_by}
use Rattle.std.proofs.lemmas.List.Elements.{All-contains}
use Rattle.std.proofs.lemmas.Map.Made.{AllPairs-from_IsDistinct}
use Rattle.finite_groups.proofs.Members as lists
use Rattle.lattice_algebra.specs.Operator.{Operator}
use Rattle.group_closure.specs.GroupList.{IsGroup}
use Rattle.tag_walks.proofs.Walks as walks
use Rattle.tag_walks.proofs.Firsts as firsts
use Rattle.tag_walks.proofs.Whole as whole
use Rattle.tag_walks.proofs.Digits.{place_back, digits_below}
use Rattle.tag_walks.specs.Regions.{IsClassOf, IsFull}
use Rattle.grid_tags.specs.declared.line.GridLine.{GridLine}
use Rattle.grid_tags.specs.Grids.{Grid, Triple, IsInGrid, IsGridInRange, IsKept, triple_of, place_of, points}
use Rattle.grid_tags.specs.Steps.{triple_eq, act}
use Rattle.grid_tags.specs.Walks.{Walk, IsWalk}
use Rattle.grid_tags.specs.GridLists.{IsGridOrbit, IsGridLine, IsGridList, IsOnlyLineOf, grid_region, grid_lines}
use Rattle.grid_tags.proofs.Images.{HasSides, act_in}
use Rattle.grid_tags.proofs.OrbitLaws.{triple_eq-is, in_orbit, orbit_law, some_fixing}
use Rattle.grid_tags.proofs.Tags.{sides_of, region}

three_numbers : (n : List ℕ) → length n ≡ 3 → let p = triple_of n in p.i ∷ p.j ∷ p.k ∷ [] ≡ n
three_numbers [] e = absurd (omega (arith, e))
three_numbers (a ∷ []) e = absurd (omega (arith, e))
three_numbers (a ∷ b ∷ []) e = absurd (omega (arith, e))
three_numbers (a ∷ b ∷ c ∷ []) e = refl
three_numbers (a ∷ b ∷ c ∷ d ∷ n) e = absurd (omega (arith, e))

abbrev numbers_of : Triple → List ℕ
numbers_of p = p.i ∷ p.j ∷ p.k ∷ []

module _ (members : List Operator) (s : Grid) (group : IsGroup members) (range : IsGridInRange s) (kept : IsKept members s) where
  sides : HasSides s
  sides = sides_of s range

  pub some_orbit : (p : Triple) → (orbit : List Triple) × IsGridOrbit members s p orbit
  some_orbit p =
      let images : List Triple = map (λ (f : Operator). act s f p) members in (
        lists.each_once triple_eq images,
        record {
          exactly = λ q. (
            (λ c.
                let r = lists.Contains-from_map (λ (f : Operator). act s f p) q members (lists.Contains-from_each_once triple_eq images q c) in
                let i : IsInGrid s q = subst (IsInGrid s) r.2 (act_in s sides r.0 p) in
                (i, (in_orbit members s sides group kept p q i).1 r)),
            (λ h.
                let r = (in_orbit members s sides group kept p q h.0).0 h.1 in
                lists.Contains-each_once triple_eq triple_eq-is images q (subst (Contains images) r.2 (lists.Contains-map (λ (f : Operator). act s f p) r.0 members r.1))),
          );
          once = AllPairs-from_IsDistinct triple_eq-is _ (lists.distinct-each_once triple_eq triple_eq-is images);
        },
      )

  pub one_line : (a b : GridLine) → IsGridLine members s a → IsGridLine members s b → triple_of a.at ≡ triple_of b.at → a ≡ b
  one_line a b p q e =
      let o = some_orbit (triple_of a.at) in
      let same : a.at ≡ b.at = sym (three_numbers a.at p.three) ∙ ap numbers_of e ∙ three_numbers b.at q.three in
      let size : a.size ≡ b.size = p.size o.0 o.1 ∙ sym (q.size o.0 (subst (λ v. IsGridOrbit members s v o.0) e o.1)) in
      λ i. record { at = same i; size = size i }

  pub one_grid_list : (a b : List GridLine) → IsGridList members s a → IsGridList members s b → a ≡ b
  one_grid_list a b p q = walks.one_first_list (grid_region members s) (grid_lines members s) (region members s sides group kept) one_line a b p q

  -- ---- the whole list

  pub class_at : Triple → List Triple
  class_at p = (some_orbit p).0

  is_class : (p : Triple) (orbit : List Triple) → IsGridOrbit members s p orbit → IsClassOf (grid_region members s) p orbit
  is_class p orbit o = record { exactly = o.exactly; once = o.once }

  is_orbit : (p : Triple) (orbit : List Triple) → IsClassOf (grid_region members s) p orbit → IsGridOrbit members s p orbit
  is_orbit p orbit o = record { exactly = o.exactly; once = o.once }

  pub right : (p : Triple) → IsInGrid s p → IsClassOf (grid_region members s) p (class_at p)
  unfolding class_at
  right p i = is_class p (some_orbit p).0 (some_orbit p).1

  pub full : IsFull (grid_region members s)
  unfolding place_of
  full p l =
      let d = digits_below s.a s.b s.c p sides.b sides.c l in
      (record { i = p / s.c / s.b; j = p / s.c % s.b; k = p % s.c }, record { in_region = record { i = d.0; j = d.1; k = d.2 }; at_place = place_back s.b s.c p })

  pub one_line_each : (list : List GridLine) (p : Triple) → IsGridList members s list → IsInGrid s p
      → (line : GridLine) × IsOnlyLineOf members s list p line
  one_line_each list p l i = whole.one_line_each (grid_region members s) (grid_lines members s) (region members s sides group kept) (λ q j. (class_at q, (right q j).exactly)) one_line list p l i

  pub sum_of_sizes : (list : List GridLine) → IsGridList members s list → sum_by (λ (line : GridLine). line.size) list ≡ points s
  sum_of_sizes list l =
      whole.sum_of_sizes (grid_region members s) (grid_lines members s) (region members s sides group kept) full one_line class_at right (λ (line : GridLine). line.size) list l
      (λ line c orbit o. (All-contains (IsGridLine members s) list line l.lines c).size orbit (is_orbit (triple_of line.at) orbit o))

  one_size : (p : Triple) → IsInGrid s p → (a b : List Triple) → IsGridOrbit members s p a → IsGridOrbit members s p b → length a ≡ length b
  one_size p i a b x y = cancel (length a) (length b) _ (length members) (some_fixing members s sides group kept p i) (orbit_law members s sides group kept p i a x) (orbit_law members s sides group kept p i b y)
    where
      cancel : (a b c n : ℕ) → 0 < c → n ≡ a * c → n ≡ b * c → a ≡ b
      cancel a b c n l e f = grind arith

  some_line : (p : Triple) → IsInGrid s p → (line : GridLine) × (triple_of line.at ≡ p) × IsGridLine members s line
  some_line p i =
      let o = some_orbit p in
      (record { at = numbers_of p; size = length o.0 }, refl, record { three = refl; size = λ orbit x. one_size p i o.0 orbit o.1 x })

  pub some_grid_list : (list : List GridLine) × IsGridList members s list
  some_grid_list = whole.some_first_list (grid_region members s) (grid_lines members s) (region members s sides group kept) (λ q j. (class_at q, (right q j).exactly)) full some_line

pub taken_first : (members : List Operator) (w : Walk) (taken list : List GridLine) → IsWalk members w taken → IsGridList members w.size list → (rest : List GridLine) × (list ≡ taken ++ rest)
taken_first members w taken list walk whole =
    firsts.taken_first (grid_region members w.size) (grid_lines members w.size) (region members w.size (sides_of w.size walk.range) walk.group walk.kept) (one_line members w.size walk.group walk.range walk.kept) w.place w.tags taken list walk.tags whole
