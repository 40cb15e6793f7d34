-- What the elements with the shifts of three ranges are.
use Rattle.std.proofs.Common.{ℤ, pos, List, [], get_or, Contains, ap, sym, ◌∙◌, subst, arith, ⊎_elim}
use Rattle.std.specs.List.{All}
use Rattle.std.proofs.lemmas.List.Elements.{All-contains, All-cons, Contains-get_or}
use Rattle.lattice_algebra.specs.Matrix.{Column, coordinates, ◌+ᶜ◌, times}
use Rattle.lattice_algebra.specs.Operator.{Operator, IsOperator, AreWithin}
use Rattle.lattice_algebra.specs.Map.{Map, IsShift}
use Rattle.lattice_algebra.proofs.Maps.{operator_of-shifted, one_shift}
use Rattle.lattice_algebra.proofs.Remainders.{modulo_same, modulo_part}
use Rattle.exact_ops.specs.declared.TheConstants.{UNIT, MAX_SHIFT}
use Rattle.exact_ops.specs.Moves.{map_with}
use Rattle.exact_ops.specs.Narrow.{IsNarrow}
use Rattle.exact_ops.proofs.Narrow.{some_parts}
use Rattle.group_closure.specs.GroupList.{IsGroup}
use Rattle.affine_sets.specs.declared.TheConstants.{MAX_GROWN_SHIFT}
use Rattle.wyckoff_rows.specs.Steps.{AreIn, IsPushed, IsCovered, IsCandidate, AreRanges}
use Rattle.wyckoff_rows.specs.declared.ranges.Ranges.{Ranges}

pub covered_from : (members : List Operator) (set old new : List Map) (f : Operator) (r : Ranges) → IsPushed (AreIn r) f old new → AreRanges members set f r → IsCovered members set new f
covered_from members set old new f r p h e i is y g fix = let q = h e i is y g fix in (map_with f (coordinates q.0), p.more q.0 q.1, q.2)

whole_shift : (f : Operator) (k : Column) → IsOperator UNIT f → IsShift UNIT (map_with f (coordinates k)) k
whole_shift f k o = ap (λ c. c +ᶜ times (pos UNIT) k) (sym (modulo_same UNIT some_parts (f.t +ᶜ times (pos UNIT) k) f.t k (λ i. f.t +ᶜ times (pos UNIT) k) ∙ modulo_part UNIT some_parts f.t o.in_cell))

candidate_from : (members : List Operator) (f : Operator) (k : Column) → IsOperator UNIT f → Contains members f → AreWithin MAX_GROWN_SHIFT k.x k.y k.z → IsCandidate members (map_with f (coordinates k))
candidate_from members f k o c w = record {
  element = subst (Contains members) (sym (operator_of-shifted UNIT some_parts f k o)) c;
  shifts = All-cons (λ (e : Map). (j : Column) → IsShift UNIT e j → AreWithin MAX_GROWN_SHIFT j.x j.y j.z) (map_with f (coordinates k)) []
      (λ j s. subst (λ (v : Column). AreWithin MAX_GROWN_SHIFT v.x v.y v.z) (one_shift UNIT some_parts (map_with f (coordinates k)) k j (whole_shift f k o) s) w)
      (λ i d l. absurd (omega (arith, l)));
}

pub candidates_from : (members : List Operator) → IsGroup members → (old new : List Map) (f : Operator) (r : Ranges) → Contains members f → IsPushed (AreIn r) f old new
    → ((k : Column) → AreIn r k → AreWithin MAX_GROWN_SHIFT k.x k.y k.z) → All (IsCandidate members) old → All (IsCandidate members) new
candidates_from members group old new f r c p small all i d l =
    let e : Map = get_or new i d in
    ⊎_elim (λ o. All-contains (IsCandidate members) old e all o)
    (λ q. subst (IsCandidate members) q.2 (candidate_from members f q.0 (All-contains IsNarrow members f group.narrow c).is_operator c (small q.0 q.1)))
    (p.only e (Contains-get_or new i d l))

pub in_shift_range : (i j k : ℤ) → AreWithin MAX_GROWN_SHIFT i j k → AreWithin MAX_SHIFT i j k
in_shift_range i j k w = record { first = omega (arith, w.first); second = omega (arith, w.second); third = omega (arith, w.third) }
