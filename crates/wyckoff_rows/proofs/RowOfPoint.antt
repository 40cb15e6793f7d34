-- The row of a point: it has the key of the point and as many points as its orbit.
use Rattle.std.proofs.Common.{◌≡◌, ℕ, List, length, get_or, slice_get, Some, Contains, ap, sym, ◌∙◌, subst}
use Rattle.std.proofs.lemmas.Option.{slice_get_within, get_or_from_slice_get}
use Rattle.lattice_algebra.specs.Operator.{Operator}
use Rattle.lattice_algebra.specs.Point.{Point, IsPoint, image}
use Rattle.lattice_algebra.proofs.Points.{IsPoint-image}
use Rattle.exact_ops.specs.declared.TheConstants.{UNIT}
use Rattle.exact_ops.proofs.Narrow.{some_parts}
use Rattle.group_closure.specs.GroupList.{IsGroup}
use Rattle.site_symmetry.proofs.SpaceOfGroup.{space_of}
use Rattle.orbit_map.specs.Placed.{IsPlaced}
use Rattle.space_groups.specs.Space.{IsElement, AreConjugate}
use Rattle.space_groups.specs.Lists.{IsOrbitList}
use Rattle.space_groups.specs.Averages.{Block}
use Rattle.space_groups.specs.Keys.{Key, IsKey}
use Rattle.space_groups.specs.Rows.{Row, Fits, IsAt, IsTable, IsSpecial, IsRowOf}
use Rattle.space_groups.proofs.Elements.{SpaceGroup}
use Rattle.space_groups.proofs.Laws.{conjugate_by_members, same_site, some_orbit}
use Rattle.space_groups.proofs.PointKeys.{fits_own_key, special_key}

module _ (members : List Operator) (group : IsGroup members) where
  abbrev L : SpaceGroup
  L = space_of members group

  -- a point and its image in the cell are conjugate
  pub placed_conjugate : (x y : Point) (f : Operator) → IsPoint x → IsPoint y → Contains members f → IsPlaced f x y → AreConjugate UNIT members x y
  placed_conjugate x y f p q m i =
      let element : IsElement UNIT members i.by = subst (Contains members) (sym i.operator) m in
      (conjugate_by_members L x y p q).1 (i.by, element, λ g n s e. same_site L (image UNIT i.by x) y (IsPoint-image UNIT some_parts i.by x p) q i.is_image s)

  -- ---- the row

  pub row_of_point : (y : Point) (a : Block) (key : Key) (mult : ℕ) → IsPoint y → IsSpecial UNIT members y a → IsKey UNIT members (length members) a key
      → ((orbit : List Point) → IsOrbitList UNIT members y orbit → mult ≡ length orbit) → IsRowOf UNIT members y (record { mult = mult; key = key })
  row_of_point y a key mult p s k m =
      let o = some_orbit L y p in
      record { key = special_key L y a key p s k; orbit = o.0; is_orbit = o.1; as_many = sym (m o.0 o.1) }

  pub fits_row : (y : Point) (row : Row) → IsPoint y → IsRowOf UNIT members y row → Fits UNIT members row y
  fits_row y row p r = subst (λ n. Fits UNIT members (record { mult = n; key = row.key }) y) r.as_many (fits_own_key L y row.key r.orbit p r.key r.is_orbit)

-- the row at its place fits each point that is conjugate to y, and no other row does
pub fits_at : (members : List Operator) (rows : List Row) (x y : Point) (k : ℕ) (row : Row) → IsPoint x → IsPoint y → IsTable UNIT members rows → AreConjugate UNIT members x y → IsAt rows k row → Fits UNIT members row y
    → (j : ℕ) (r : Row) → IsAt rows j r → (j ≡ k → Fits UNIT members r x) × (Fits UNIT members r x → j ≡ k)
fits_at members rows x y k row p q table c at fits j r there =
    let s = (table.same x y p q).1 c in
    let e : s.0 ≡ k = table.one y s.0 k s.1 row q s.2 at s.4 fits in (
      (λ h. subst (λ v. Fits UNIT members v x) (sym (s.2.is r) ∙ ap (λ i. get_or rows i r) (e ∙ sym h) ∙ there.is r) s.3),
      (λ f. table.one x j s.0 r s.1 p there s.2 f s.3 ∙ e),
    )

pub row_at : (rows : List Row) (k : ℕ) (row : Row) → slice_get rows k ≡ Some row → IsAt rows k row
row_at rows k row e = record { within = slice_get_within rows k row e; is = λ d. get_or_from_slice_get rows k row d e }
