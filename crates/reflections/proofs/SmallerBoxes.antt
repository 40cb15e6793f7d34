-- A line of a larger box whose index is in a smaller one is a line of the smaller.
use Rattle.std.proofs.Common.{List, All, Contains, subst, arith}
use Rattle.std.proofs.lemmas.List.Elements.{All-contains}
use Rattle.finite_groups.proofs.Members as lists
use Rattle.lattice_algebra.specs.Operator.{Operator}
use Rattle.group_closure.specs.GroupList.{IsGroup}
use Rattle.phase_rules.specs.declared.pairs.Pairs.{Pairs}
use Rattle.phase_rules.specs.Rows.{Row}
use Rattle.tag_walks.specs.Regions.{IsListed}
use Rattle.reflections.specs.declared.line.ClassLine.{ClassLine}
use Rattle.reflections.specs.Boxes.{Box, IsInBox, IsNoLarger}
use Rattle.reflections.specs.ClassLists.{IsLine, IsClassList, class_region}
use Rattle.reflections.proofs.ClassLists.{one_line}

in_larger : (small big : Box) (h : Row) → IsNoLarger small big → IsInBox small h → IsInBox big h
in_larger small big h s i = record { h = omega (arith, i.h, s.h); k = omega (arith, i.k, s.k); l = omega (arith, i.l, s.l) }

pub line_of_smaller : (pairs : Pairs) (members : List Operator) (small big : Box) (a b : List ClassLine) (line : ClassLine) → IsGroup members → IsNoLarger small big → IsClassList pairs members small a → IsClassList pairs members big b → Contains b line → IsInBox small line.index
    → Contains a line
line_of_smaller pairs members small big a b line group s p q c i =
    let at : ClassLine → Row = λ l. l.index in
    let listed : IsListed (class_region pairs members big) line.index = (q.exactly line.index).0 (lists.Contains-map at line b c) in
    let first : IsListed (class_region pairs members small) line.index = record { in_region = i; first = λ g j e. listed.first g (in_larger small big g s j) e } in
    let r = lists.Contains-from_map at line.index a ((p.exactly line.index).1 first) in
    let line_of : (list : List ClassLine) (l : ClassLine) → Contains list l → All (IsLine pairs members) list → IsLine pairs members l = λ list l d h. All-contains (IsLine pairs members) list l h d in
    subst (Contains a) (one_line pairs members group r.0 line (line_of a r.0 r.1 p.lines) (line_of b line c q.lines) r.2) r.1
