-- The image of an average is all points M z + t.
use Rattle.std.proofs.Common.{◌≡◌, ◌++◌, ◌∷◌, [], ℕ, ℤ, pos, negsuc, ◌*ℤ◌, ◌<ℤ◌, List, length, ap, sym, ◌∙◌, refl, arith}
use Rattle.std.proofs.lemmas.Int.{ints}
use Rattle.std.proofs.lemmas.List.Elements.{All-contains}
use Rattle.lattice_algebra.specs.Matrix.{Matrix, Column, entries, coordinates, origin, ◌·ᶜ◌, ◌+ᶜ◌, times}
use Rattle.lattice_algebra.specs.Operator.{Operator}
use Rattle.lattice_algebra.specs.Point.{◌≈◌}
use Rattle.lattice_algebra.proofs.Points.{≈_sym}
use Rattle.lattice_algebra.proofs.Ring.{var, ◌⊗◌, ring}
use Rattle.lattice_algebra.proofs.MatrixRing.{matrix_at, column_at, ◌·ˢᶜ◌, ◌+ˢᶜ◌, sym_times, sym_origin, column_ring}
use Rattle.exact_ops.specs.declared.TheConstants.{UNIT}
use Rattle.exact_ops.proofs.Narrow.{some_parts}
use Rattle.group_closure.specs.GroupList.{IsGroup}
use Rattle.site_symmetry.proofs.SpaceOfGroup.{space_of}
use Rattle.space_groups.specs.Space.{IsElement, ScaledPoint, point_of}
use Rattle.space_groups.specs.Averages.{Block, Vector, block_on, IsInImage}
use Rattle.space_groups.specs.Rows.{row_point}
use Rattle.space_groups.proofs.Elements.{SpaceGroup}
use Rattle.space_groups.proofs.Laws.{same_site}
use Rattle.space_groups.proofs.Means as means
use Rattle.space_groups.proofs.Means.{Averaged, made, vec}
use Rattle.space_groups.proofs.Points.{IsPoint-scaled, site-scaled}
use Rattle.affine_sets.specs.Conditions.{IsAverage, IsMade}
use Rattle.affine_sets.proofs.Groups.{averaged_list}

-- M z + t over the denominator u n k, with no whole shift
no_shift : (m : Matrix) (z t : Column) (u d k w : ℤ) → times (u *ℤ d) (times u (m ·ᶜ z) +ᶜ times k t +ᶜ times w origin) ≡ times (u *ℤ d) (m ·ᶜ times u z +ᶜ times k t)
unfolding ◌·ᶜ◌ ◌+ᶜ◌ times
no_shift m z t u d k w =
    let U = var 0 in
    let D = var 1 in
    let K = var 2 in
    let W = var 3 in
    let M = matrix_at 4 in
    let Z = column_at 13 in
    let T = column_at 16 in
    column_ring (u ∷ d ∷ k ∷ w ∷ (entries m ++ (coordinates z ++ coordinates t)))
    (sym_times (U ⊗ D) (sym_times U (M ·ˢᶜ Z) +ˢᶜ sym_times K T +ˢᶜ sym_times W sym_origin)) (sym_times (U ⊗ D) (M ·ˢᶜ sym_times U Z +ˢᶜ sym_times K T)) tt

regrouped : (u n k : ℤ) → u *ℤ (n *ℤ k) ≡ u *ℤ n *ℤ k
regrouped u n k = ring (u ∷ n ∷ k ∷ []) (var 0 ⊗ (var 1 ⊗ var 2)) (var 0 ⊗ var 1 ⊗ var 2) tt

-- what the average makes of its own point, over the denominator of that point
made_itself : (m : Matrix) (p t : Column) (u d n w : ℤ) → m ·ᶜ p +ᶜ times d t ≡ times n p → times (u *ℤ d) (times u (m ·ᶜ p) +ᶜ times (u *ℤ d) t +ᶜ times w origin) ≡ times (u *ℤ n *ℤ (u *ℤ d)) p
unfolding ◌·ᶜ◌ ◌+ᶜ◌ times
made_itself m p t u d n w e =
    let U = var 0 in
    let D = var 1 in
    let N = var 2 in
    let W = var 3 in
    let M = matrix_at 4 in
    let P = column_at 13 in
    let T = column_at 16 in
    let r = u ∷ d ∷ n ∷ w ∷ (entries m ++ (coordinates p ++ coordinates t)) in
    column_ring r (sym_times (U ⊗ D) (sym_times U (M ·ˢᶜ P) +ˢᶜ sym_times (U ⊗ D) T +ˢᶜ sym_times W sym_origin)) (sym_times (U ⊗ D) (sym_times U (M ·ˢᶜ P +ˢᶜ sym_times D T))) tt
    ∙ ap (λ v. times (u *ℤ d) (times u v)) e
    ∙ column_ring r (sym_times (U ⊗ D) (sym_times U (sym_times N P))) (sym_times (U ⊗ N ⊗ (U ⊗ D)) P) tt

one_point : (m : Matrix) (z t : Column) (n k : ℕ) (y x : ScaledPoint) → x.n ≡ m ·ᶜ times (pos UNIT) z +ᶜ times (pos k) t → pos x.d ≡ pos n *ℤ pos k → point_of UNIT y ≈ row_point UNIT n (record { m = m; t = t }) (record { n = z; d = pos k }) origin
    → point_of UNIT y ≈ point_of UNIT x
unfolding row_point
one_point m z t n k y x xn xd e =
    let u = pos UNIT in
    ap (λ q. times q y.n) (ap (λ q. u *ℤ q) xd ∙ regrouped u (pos n) (pos k)) ∙ e ∙ no_shift m z t u (pos y.d) (pos k) (u *ℤ pos n *ℤ pos k) ∙ ap (times (u *ℤ pos y.d)) (sym xn)

made_column : (a : Block) (w x : ScaledPoint) → vec x ≡ block_on a (vec w) → x.n ≡ a.m ·ᶜ w.n +ᶜ times (pos w.d) a.t
unfolding block_on
made_column a w x e = ap (λ (q : Vector). q.p) e

made_number : (a : Block) (w x : ScaledPoint) → vec x ≡ block_on a (vec w) → pos x.d ≡ a.n *ℤ pos w.d
unfolding block_on
made_number a w x e = ap (λ (q : Vector). q.d) e

module _ (members : List Operator) (group : IsGroup members) (a : Block) (average : IsAverage members a) where
  abbrev L : SpaceGroup
  L = space_of members group

  abbrev v : Averaged L (length members)
  v = averaged_list members group average.group average.is_group a average.mean

  -- one point, however it is written
  image_same : (x y : ScaledPoint) → point_of UNIT x ≈ point_of UNIT y → IsInImage a x → IsInImage a y
  image_same x y e i =
      let p = IsPoint-scaled UNIT some_parts x in
      let q = IsPoint-scaled UNIT some_parts y in
      means.fixed_image v y (λ s c.
      let m = All-contains (IsElement UNIT members) average.group s average.is_group.elements c in
      let here = (site-scaled L (point_of UNIT x) x p refl s).1 (m, means.image_fixed v x i s c) in
      ((site-scaled L (point_of UNIT y) y q refl s).0 ((same_site L (point_of UNIT x) (point_of UNIT y) p q e s).0 here)).1)

  pub made_of_image : (y : ScaledPoint) → IsInImage a y → IsMade members a (point_of UNIT y)
  unfolding row_point
  made_of_image y i = record {
    from = point_of UNIT y;
    is_point = IsPoint-scaled UNIT some_parts y;
    equal = sym (made_itself a.m y.n a.t (pos UNIT) (pos y.d) (pos (length members)) (pos UNIT *ℤ pos (length members) *ℤ (pos UNIT *ℤ pos y.d)) (i ∙ ap (λ k. times k y.n) (means.number v)));
  }

  pub image_of_made : (y : ScaledPoint) → IsMade members a (point_of UNIT y) → IsInImage a y
  image_of_made y h = by h.from.n h.from.d h.is_point h.equal
    where
      by : (z : Column) (d : ℤ) → pos 0 <ℤ d → point_of UNIT y ≈ row_point UNIT (length members) (record { m = a.m; t = a.t }) (record { n = z; d = d }) origin → IsInImage a y
      by z (negsuc k) p e = absurd (omega (arith, ints))
      by z (pos k) p e =
          let w : ScaledPoint = record { n = times (pos UNIT) z; d = k; some = omega (arith, ints) } in
          let x : ScaledPoint = made (length members) v.some a w in
          let is = means.vec-made (length members) v.some a w (means.number v) in
          let same : point_of UNIT y ≈ point_of UNIT x = one_point a.m z a.t (length members) k y x (made_column a w x is) (made_number a w x is ∙ ap (λ q. q *ℤ pos k) (means.number v)) e in
          image_same x y (≈_sym (point_of UNIT y) (point_of UNIT x) same) (means.made_in_image (length members) v.some a w (means.number v) (means.idempotent_itself v))
