-- The number of points of an orbit as a quotient.
use Rattle.std.proofs.Common.{◌≡◌, ◌<◌, ◌*◌, ◌/◌, ℕ, List, length, arith, ap, sym, ◌∙◌, subst}
use Rattle.std.proofs.Math.Nat.{dvd-mul_right, pos_of_dvd_of_pos}
use Rattle.lattice_algebra.specs.Operator.{Operator}
use Rattle.lattice_algebra.specs.Map.{Map}
use Rattle.lattice_algebra.specs.Point.{Point, IsPoint}
use Rattle.exact_ops.specs.declared.TheConstants.{UNIT}
use Rattle.group_closure.specs.GroupList.{IsGroup}
use Rattle.group_closure.proofs.Places.{some_member}
use Rattle.space_groups.specs.Lists.{IsSiteList, IsOrbitList}
use Rattle.space_groups.proofs.Laws.{order_times_multiplicity, some_site, some_orbit}
use Rattle.site_symmetry.proofs.SpaceOfGroup.{space_of}

-- the order is that of the site-symmetry group
abbrev IsOrderAt : List Operator → Point → ℕ → Type 0
IsOrderAt members x order = (site : List Map) → IsSiteList UNIT members x site → order ≡ length site

quotient : (a b n : ℕ) → 0 < a → a * b ≡ n → n / a ≡ b
quotient a b n l e = grind arith

module _ (members : List Operator) (x : Point) (order : ℕ) (group : IsGroup members) (point : IsPoint x) (is : IsOrderAt members x order) where
  -- the order times the number of points
  product : (orbit : List Point) → IsOrbitList UNIT members x orbit → order * length orbit ≡ length members
  product orbit o =
      let s = some_site (space_of members group) x point in
      ap (λ n. n * length orbit) (is s.0 s.1) ∙ order_times_multiplicity (space_of members group) x point s.0 orbit s.1 o

  pub some_order : 0 < order
  some_order =
      let o = some_orbit (space_of members group) x point in
      pos_of_dvd_of_pos (dvd-mul_right order (length o.0)) (subst (λ n. 0 < n) (sym (product o.0 o.1)) (some_member members group))

  pub as_many : (orbit : List Point) → IsOrbitList UNIT members x orbit → length members / order ≡ length orbit
  as_many orbit o = quotient order (length orbit) (length members) some_order (product orbit o)

  pub whole : (site : List Map) → IsSiteList UNIT members x site → length site * (length members / order) ≡ length members
  whole site s =
      let o = some_orbit (space_of members group) x point in
      ap (λ n. length site * n) (as_many o.0 o.1) ∙ ap (λ n. n * length o.0) (sym (is site s)) ∙ product o.0 o.1
