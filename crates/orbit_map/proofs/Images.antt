-- The image of a point, moved into the cell.
use Rattle.std.proofs.Common.{◌≡◌, ◌∷◌, ◌*◌, ◌<◌, ◌≤◌, [], ℕ, List, ℤ, pos, unsigned_abs, ap, ap₂, sym, ◌∙◌, subst, arith}
use Rattle.std.proofs.lemmas.Int.{ints}
use mir.Syntax.{w128}
use Rattle.std.specs.Int.{int_rem_euclid}
use Rattle.lattice_algebra.specs.Matrix.{Column, column_of, ◌+ᶜ◌, times}
use Rattle.lattice_algebra.specs.Operator.{Operator, IsOperator, IsPart, modulo}
use Rattle.lattice_algebra.specs.Map.{map_of}
use Rattle.lattice_algebra.specs.Point as rational
use Rattle.lattice_algebra.specs.Point.{◌≈◌, image, HasCoordinatesWithin}
use Rattle.lattice_algebra.proofs.Numbers.{positive_size, positive_is}
use Rattle.lattice_algebra.proofs.Machine.{back, kept}
use Rattle.lattice_algebra.proofs.Maps.{shifted, operator_of-shifted}
use Rattle.lattice_algebra.proofs.Points.{≈_sym, image-shifted}
use Rattle.lattice_algebra.proofs.Remainders.{rem_is, modulo_is, modulo_parts}
use Rattle.exact_ops.specs.declared.TheConstants.{UNIT}
use Rattle.exact_ops.specs.Points.{point_with, IsPointInRange}
use Rattle.exact_ops.proofs.Narrow.{some_parts}
use Rattle.exact_ops.proofs.Bounds.{denominator_bound, image_limit, denominator_within, kept_denominator, kept_image}
use Rattle.space_groups.specs.Space.{IsInCell}
use Rattle.orbit_map.specs.Placed.{IsPlaced}

-- ---- numbers that the machine keeps

size_of_part : (n : ℕ) (a : ℤ) → n ≤ denominator_bound → IsPart n a → unsigned_abs a ≤ denominator_bound
size_of_part n a l p = omega (arith, ints)

reduced : (n : ℕ) (x : rational.Point) (r a : ℤ) → 0 < n → IsPointInRange x → x.d ≡ pos n → unsigned_abs r ≤ image_limit * unsigned_abs x.d → a ≡ int_rem_euclid (back w128 r) (back w128 x.d) → back w128 a ≡ int_rem_euclid r (pos n)
reduced n x r a h g e s q =
    let l = subst (λ d. unsigned_abs d ≤ denominator_bound) e (denominator_within x g) in
    let by : a ≡ int_rem_euclid r (pos n) = q ∙ ap₂ int_rem_euclid (kept_image x r g s) (kept_denominator x g ∙ e) in
    ap (back w128) by ∙ kept w128 denominator_bound (int_rem_euclid r (pos n)) (size_of_part n _ l (rem_is n h r).2) tt

reduced_point : (n : ℕ) (x : rational.Point) (r : List ℤ) (a b c : ℤ) → 0 < n → IsPointInRange x → x.d ≡ pos n → HasCoordinatesWithin image_limit (point_with r x.d)
    → a ≡ int_rem_euclid (back w128 (column_of r).x) (back w128 x.d) → b ≡ int_rem_euclid (back w128 (column_of r).y) (back w128 x.d) → c ≡ int_rem_euclid (back w128 (column_of r).z) (back w128 x.d)
    → point_with (back w128 a ∷ back w128 b ∷ back w128 c ∷ []) (back w128 x.d) ≡ record { n = modulo n (column_of r); d = pos n }
unfolding modulo
reduced_point n x r a b c h g e w p q s = λ i. record {
  n = record {
    x = reduced n x (column_of r).x a h g e w.first p i;
    y = reduced n x (column_of r).y b h g e w.second q i;
    z = reduced n x (column_of r).z c h g e w.third s i;
  };
  d = (kept_denominator x g ∙ e) i;
}

in_cell_modulo : (n : ℕ) → 0 < n → (c : Column) → IsInCell (record { n = modulo n c; d = pos n })
in_cell_modulo n h c = let m = modulo_parts n h c in (m.x.0, m.x.1, m.y.0, m.y.1, m.z.0, m.z.1)

-- what `image_in_cell` computes
pub placed : (f : Operator) (x : rational.Point) (r : List ℤ) (a b c : ℤ) → IsOperator UNIT f → IsPointInRange x → point_with r x.d ≈ image UNIT (map_of f) x → HasCoordinatesWithin image_limit (point_with r x.d)
    → a ≡ int_rem_euclid (back w128 (column_of r).x) (back w128 x.d) → b ≡ int_rem_euclid (back w128 (column_of r).y) (back w128 x.d) → c ≡ int_rem_euclid (back w128 (column_of r).z) (back w128 x.d)
    → IsPlaced f x (point_with (back w128 a ∷ back w128 b ∷ back w128 c ∷ []) (back w128 x.d))
placed f x r a b c o g e w i j k =
    let n = unsigned_abs x.d in
    let some : 0 < n = positive_size x.d g.positive in
    let whole : x.d ≡ pos n = positive_is x.d g.positive in
    let y : rational.Point = record { n = modulo n (column_of r); d = pos n } in
    let is : point_with (back w128 a ∷ back w128 b ∷ back w128 c ∷ []) (back w128 x.d) ≡ y = reduced_point n x r a b c some g whole w i j k in
    let m = modulo_is n some (column_of r) in
    let moved : image UNIT (shifted UNIT f m.0) x ≈ record { n = column_of r +ᶜ times x.d m.0; d = x.d } = ≈_sym (record { n = column_of r +ᶜ times x.d m.0; d = x.d }) (image UNIT (shifted UNIT f m.0) x) (image-shifted UNIT f m.0 (column_of r) x e) in
    let there : record { n = column_of r +ᶜ times x.d m.0; d = x.d } ≡ y = λ v. record { n = (ap (λ q. column_of r +ᶜ times q m.0) whole ∙ sym m.1) v; d = whole v } in
    record {
      denominator = ap (λ (q : rational.Point). q.d) is ∙ sym whole;
      in_cell = subst IsInCell (sym is) (in_cell_modulo n some (column_of r));
      by = shifted UNIT f m.0;
      operator = operator_of-shifted UNIT some_parts f m.0 o;
      is_image = subst (λ q. image UNIT (shifted UNIT f m.0) x ≈ q) (there ∙ sym is) moved;
    }
