-- Class lists: the rows of a box are a region, and an index has one line.
use Rattle.std.proofs.Common.{◌≡◌, ℕ, ◌+◌, ◌<◌, ◌≤◌, ◌&&◌, Bool, ltb, List, filter, length, ap, sym, ◌∙◌, subst, arith, unsigned_abs, Decides, count_by}
use Rattle.std.proofs.lemmas.Bool.Decides.{Decides-and, Decides-ltb}
use Rattle.std.proofs.lemmas.Map.Made.{IsDistinct-from_AllPairs}
use Rattle.finite_groups.proofs.Members as lists
use Rattle.lattice_algebra.specs.Operator.{Operator}
use Rattle.group_closure.specs.GroupList.{IsGroup}
use Rattle.phase_rules.specs.declared.pairs.Pairs.{Pairs}
use Rattle.phase_rules.specs.Rows.{Row, row_eq}
use Rattle.phase_rules.specs.Equivalent.{IsClass, fixes}
use Rattle.phase_rules.specs.Marks.{IsMark}
use Rattle.phase_rules.proofs.Rows.{row_eq-is}
use Rattle.phase_rules.proofs.Classes.{equivalent_back, equivalent_on, equivalent_itself, some_class}
use Rattle.phase_rules.proofs.Phases.{one_mark}
use Rattle.tag_walks.specs.Regions.{IsRegion, IsFull, HasEquivalents}
use Rattle.tag_walks.proofs.Walks as walks
use Rattle.reflections.specs.declared.line.ClassLine.{ClassLine}
use Rattle.reflections.specs.Boxes.{Box, IsInBox}
use Rattle.reflections.specs.ClassLists.{IsLine, IsClassList, class_region, class_lines}
use Rattle.reflections.proofs.Boxes.{place_within, same_row, place_before, before_place, row_at}

module _ (pairs : Pairs) (members : List Operator) (group : IsGroup members) where
  -- an index has one line
  pub one_line : (a b : ClassLine) → IsLine pairs members a → IsLine pairs members b → a.index ≡ b.index → a ≡ b
  one_line a b p q e =
      let s = some_class pairs members a.index in
      let size : a.size ≡ b.size = p.size s.0 s.1 ∙ sym (q.size s.0 (subst (λ h. IsClass pairs members h s.0) e s.1)) in
      let count : a.fixers ≡ b.fixers = p.fixers ∙ ap (λ h. count_by (fixes h) members) e ∙ sym q.fixers in
      let mark : a.mark ≡ b.mark = one_mark pairs members b.index a.mark b.mark group (subst (λ h. IsMark pairs members h a.mark) e p.mark) q.mark in
      λ i. record { index = e i; size = size i; fixers = count i; mark = mark i }

  module _ (box : Box) where
    pub region : IsRegion (class_region pairs members box)
    region = record {
      within = place_within box;
      one = same_row box;
      order = λ g h i j. (place_before box g h i j, before_place box g h i j);
      itself = λ h i. equivalent_itself pairs members group h;
      back = λ g h i j. equivalent_back pairs members group g h;
      on = λ f g h i j k. equivalent_on pairs members group f g h;
    }

    pub one_class_list : (a b : List ClassLine) → IsClassList pairs members box a → IsClassList pairs members box b → a ≡ b
    one_class_list a b p q = walks.one_first_list (class_region pairs members box) (class_lines pairs members box) region one_line a b p q

-- all classes that an index has are of one size
pub one_size : (pairs : Pairs) (members : List Operator) (h : Row) (a b : List Row) → IsClass pairs members h a → IsClass pairs members h b → length a ≡ length b
one_size pairs members h a b p q =
    let l : length a ≤ length b = lists.pigeonhole row_eq row_eq-is a b (IsDistinct-from_AllPairs row_eq-is a p.once) (λ g c. (q.exactly g).1 ((p.exactly g).0 c)) in
    let m : length b ≤ length a = lists.pigeonhole row_eq row_eq-is b a (IsDistinct-from_AllPairs row_eq-is b q.once) (λ g c. (p.exactly g).1 ((q.exactly g).0 c)) in
    omega (arith, l, m)

module _ (pairs : Pairs) (members : List Operator) (box : Box) where
  in_box : Row → Bool
  in_box g = ltb (unsigned_abs g.h) (box.h + 1) && (ltb (unsigned_abs g.k) (box.k + 1) && ltb (unsigned_abs g.l) (box.l + 1))

  below : (m n : ℕ) → m < n + 1 → m ≤ n
  below m n l = omega (arith, l)

  above : (m n : ℕ) → m ≤ n → m < n + 1
  above m n l = omega (arith, l)

  in_box-is : (g : Row) → Decides (in_box g) (IsInBox box g)
  unfolding in_box
  in_box-is g =
      let kl = Decides-and (ltb (unsigned_abs g.k) (box.k + 1)) (ltb (unsigned_abs g.l) (box.l + 1)) (Decides-ltb (unsigned_abs g.k) (box.k + 1)) (Decides-ltb (unsigned_abs g.l) (box.l + 1)) in
      let d = Decides-and (ltb (unsigned_abs g.h) (box.h + 1)) (ltb (unsigned_abs g.k) (box.k + 1) && ltb (unsigned_abs g.l) (box.l + 1)) (Decides-ltb (unsigned_abs g.h) (box.h + 1)) kl in (
        (λ t. let r = d.0 t in record { h = below (unsigned_abs g.h) box.h r.0; k = below (unsigned_abs g.k) box.k r.1.0; l = below (unsigned_abs g.l) box.l r.1.1 }),
        (λ i. d.1 (above (unsigned_abs g.h) box.h i.h, (above (unsigned_abs g.k) box.k i.k, above (unsigned_abs g.l) box.l i.l))),
      )

  -- the rows of the box that are equivalent to h
  pub equivalents : HasEquivalents (class_region pairs members box)
  equivalents h i =
      let class = some_class pairs members h in (
        filter in_box class.0,
        λ g. (
          (λ c. let r = lists.Contains-from_filter in_box g class.0 c in ((in_box-is g).0 r.1, (class.1.exactly g).0 r.0)),
          (λ r. lists.Contains-filter in_box g class.0 ((class.1.exactly g).1 r.1) ((in_box-is g).1 r.0)),
        ),
      )

  pub full : IsFull (class_region pairs members box)
  full p l = let r = row_at box p l in (r.0, record { in_region = r.1; at_place = r.2 })
