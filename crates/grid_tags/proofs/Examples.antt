-- Worked examples: the definitions on literals, most for P-1 in a grid of 3, 1 and 1 points; nothing but examples cites these.
use Rattle.std.proofs.Common.{◌≡◌, ◌≢◌, ◌<◌, ◌⊎◌, ℕ, zero, suc, ℤ, pos, negsuc, ◌*ℤ◌, Bool, true, false, List, [], ◌∷◌, get_or, inl, inr, ⊎_elim, Contains, ap, sym, ◌∙◌, subst, refl, arith}
use Rattle.std.proofs.lemmas.Bool.{false≢true}
use Rattle.std.proofs.lemmas.Int.{ints}
use Rattle.std.proofs.lemmas.List.Kept.{AllPairs-cons}
use Rattle.std.proofs.lemmas.List.Elements.{All-from_recursion}
use Rattle.finite_groups.proofs.Members as lists
use Rattle.lattice_algebra.specs.Matrix.{Matrix, Column, matrix_of, ◌·ᶜ◌, ◌+ᶜ◌, times, identity}
use Rattle.lattice_algebra.specs.Operator.{Operator, identity_operator, modulo}
use Rattle.lattice_algebra.specs.Map.{operator_of}
use Rattle.lattice_algebra.proofs.Examples.{column, inversion, inverting, both, in_both}
use Rattle.group_closure.proofs.Examples.{group_of_both}
use Rattle.grid_tags.specs.declared.line.GridLine.{GridLine}
use Rattle.grid_tags.specs.Grids.{Grid, Triple, IsSide, IsGridInRange, IsGridImage, IsKeptBy, IsKept, IsInGrid, ComesBefore, column_at, triple_of, place_of}
use Rattle.tag_walks.specs.Regions.{Region, IsListed, IsFirstOf}
use Rattle.tag_walks.proofs.Walks as walks
use Rattle.grid_tags.specs.GridLists.{grid_region, grid_lines, AreFirstPoints, AreInOneOrbit, IsGridOrbit, IsGridLine, IsGridList, IsOnlyLineOf}
use Rattle.grid_tags.specs.Walks.{IsTagged, IsWalk}
use Rattle.grid_tags.specs.Steps.{IsWhole, IsAxisKept, AreAxesKept, act, turned, moved, fixing_count, IsReached, HasTag, KeepsTag, AreTagged, AreOwnPlaces}
use Rattle.grid_tags.proofs.Images.{kept_by_axes, act_one, HasSides}
use Rattle.grid_tags.proofs.OrbitLaws.{in_orbit, orbit_itself, orbit_back}
use Rattle.grid_tags.proofs.Tags as tags
use Rattle.grid_tags.proofs.Tags.{line_is}

abbrev o : ℤ
o = pos 0

abbrev pub sides : ℕ → ℕ → ℕ → Grid
sides a b c = record { a = a; b = b; c = c }

abbrev pub triple : ℕ → ℕ → ℕ → Triple
triple i j k = record { i = i; j = j; k = k }

same : (m n : ℕ) → triple m 0 0 ≡ triple n 0 0 → m ≡ n
same m n e = ap (λ (p : Triple). p.i) e

-- ---- grids within the limits

-- 2048 1024 1 has as many points as a cell may have, and 2048 1024 2 more
greatest : IsGridInRange (sides 2048 1024 1)
greatest = record { a = (omega arith, omega arith); b = (omega arith, omega arith); c = (omega arith, omega arith); few = omega arith }

too_many : IsGridInRange (sides 2048 1024 2) → ⊥
too_many r = omega (arith, r.few)

no_points : IsSide 0 → ⊥
no_points s = omega (arith, s.0)

too_long : IsSide 2049 → ⊥
too_long s = omega (arith, s.1)

-- ---- the order of the points of a cell

last_place : place_of (sides 2 3 4) (triple 1 2 3) ≡ 23
unfolding place_of
last_place = refl

last_inside : IsInGrid (sides 2 3 4) (triple 1 2 3)
last_inside = record { i = omega arith; j = omega arith; k = omega arith }

one_beyond : IsInGrid (sides 2 3 4) (triple 1 3 0) → ⊥
one_beyond p = omega (arith, p.j)

-- 0 2 3 stands before 1 0 0, and not behind it
first_number_first : ComesBefore (triple 0 2 3) (triple 1 0 0)
first_number_first = inl (omega arith)

not_behind : ComesBefore (triple 1 0 0) (triple 0 2 3) → ⊥
not_behind (inl l) = omega (arith, l)
not_behind (inr r) = omega (arith, r.0)

-- ---- grids that an operator keeps

-- -y,x,z+1/4 keeps 2 2 4 and takes 0,1/2,0 to -1/2,0,1/4, which is 1/2,0,1/4 in the cell
abbrev fourfold : Matrix
fourfold = matrix_of (o ∷ negsuc 0 ∷ o ∷ pos 1 ∷ o ∷ o ∷ o ∷ o ∷ pos 1 ∷ [])

abbrev screw : Operator
screw = record { w = fourfold; t = column o o (pos 6) }

screw_axes : AreAxesKept (sides 2 2 4) screw
screw_axes = record {
  x = record { second = (negsuc 0, refl); third = (o, refl); shift = (o, refl) };
  y = record { second = (pos 1, refl); third = (o, refl); shift = (o, refl) };
  z = record { second = (o, refl); third = (o, refl); shift = (pos 1, refl) };
}

screw_image : act (sides 2 2 4) screw (triple 0 1 0) ≡ triple 1 0 1
unfolding turned moved
screw_image = refl

screw_map : IsGridImage (sides 2 2 4) (record { w = fourfold; s = column o o (pos 6) }) (column_at (triple 0 1 0)) (column (negsuc 0) o (pos 1))
unfolding ◌·ᶜ◌ ◌+ᶜ◌ times
screw_map = refl

not_its_image : IsGridImage (sides 2 2 4) (record { w = fourfold; s = column o o (pos 6) }) (column_at (triple 0 1 0)) (column (pos 1) o (pos 1)) → ⊥
unfolding ◌·ᶜ◌ ◌+ᶜ◌ times
not_its_image e = let x = ap (λ (c : Column). c.x) e in omega (arith, ints, x)

-- and no grid that has not as many points along x as along y, or whose points along z are no multiple of 4
not_across : IsWhole (negsuc 0) 2 3 → ⊥
not_across w = let e : negsuc 1 ≡ w.0 *ℤ pos 3 = w.1 in omega (arith, ints)

not_along : AreAxesKept (sides 2 2 2) screw → ⊥
not_along k = let w = k.z.shift in let e : pos 12 ≡ w.0 *ℤ pos 24 = w.1 in omega (arith, ints)

not_axis : IsAxisKept (negsuc 0) o o 2 3 4 → ⊥
not_axis k = not_across k.second

-- x+1/2,y,z keeps no grid of 3 points along x: the image of the origin is none of its points
abbrev half_on : Operator
half_on = record { w = identity; t = column (pos 12) o o }

abbrev pub three : Grid
three = sides 3 1 1

beside : IsKeptBy three half_on → ⊥
unfolding ◌·ᶜ◌ ◌+ᶜ◌ times
beside k =
    let u = k (column o o o) in
    let e : pos 36 ≡ u.0.x *ℤ pos 24 = ap (λ (c : Column). c.x) u.1 in
    omega (arith, ints)

not_kept : IsKept (identity_operator ∷ half_on ∷ []) three → ⊥
not_kept k = beside (k half_on (1, omega arith, refl))

-- P-1 keeps 3 1 1
no_shift : IsAxisKept o o o 3 1 1
no_shift = record { second = (o, refl); third = (o, refl); shift = (o, refl) }

no_shift_across : IsAxisKept o o o 1 3 1
no_shift_across = record { second = (o, refl); third = (o, refl); shift = (o, refl) }

no_shift_along : IsAxisKept o o o 1 1 3
no_shift_along = record { second = (o, refl); third = (o, refl); shift = (o, refl) }

pub three_sides : HasSides three
three_sides = record { a = omega arith; b = omega arith; c = omega arith }

inverting_axes : AreAxesKept three inverting
inverting_axes = record { x = no_shift; y = no_shift_across; z = no_shift_across }

identity_axes : AreAxesKept three identity_operator
identity_axes = record { x = no_shift; y = no_shift_across; z = no_shift_across }

pub kept : IsKept both three
kept f c = kept_by_axes three three_sides f (⊎_elim (λ e. subst (AreAxesKept three) e identity_axes) (λ e. subst (AreAxesKept three) e inverting_axes) (in_both f c))

-- ---- orbits: in 3 1 1 the inversion exchanges 1/3,0,0 and 2/3,0,0

pub inside : (n : ℕ) → n < 3 → IsInGrid three (triple n 0 0)
inside n l = record { i = l; j = omega arith; k = omega arith }

-- a point of the grid goes to itself and to its image
images : (p q : Triple) → IsInGrid three p → IsInGrid three q → AreInOneOrbit both three p q → (p ≡ q) ⊎ (act three inverting p ≡ q)
images p q i j a =
    let r = (in_orbit both three three_sides group_of_both kept p q j).0 a in
    ⊎_elim (λ e. inl (sym (act_one three p i) ∙ ap (λ f. act three f p) e ∙ r.2)) (λ e. inr (ap (λ f. act three f p) e ∙ r.2)) (in_both r.0 r.1)

pub exchanged : AreInOneOrbit both three (triple 1 0 0) (triple 2 0 0)
unfolding operator_of modulo ◌·ᶜ◌ ◌+ᶜ◌ times
exchanged = (record { w = inversion; s = column (pos 24) o o }, (1, omega arith, refl), refl)

pub alone : (n : ℕ) → n < 3 → AreInOneOrbit both three (triple 0 0 0) (triple n 0 0) → n ≡ 0
unfolding turned moved
alone n l a = ⊎_elim (λ e. sym (ap (λ (p : Triple). p.i) e)) (λ e. sym (ap (λ (p : Triple). p.i) e)) (images (triple 0 0 0) (triple n 0 0) (inside 0 (omega arith)) (inside n l) a)

-- what holds of the three points holds of each point of the grid
pub each_point : (P : Triple → Type 0) → P (triple 0 0 0) → P (triple 1 0 0) → P (triple 2 0 0) → (q : Triple) → IsInGrid three q → P q
each_point P a b c q i = subst P (λ h. record { i = q.i; j = below_one q.j i.j h; k = below_one q.k i.k h }) (by q.i i.i)
  where
    below_one : (n : ℕ) → n < 1 → 0 ≡ n
    below_one n l = omega (arith, l)

    by : (n : ℕ) → n < 3 → P (triple n 0 0)
    by zero l = a
    by (suc zero) l = b
    by (suc (suc zero)) l = c
    by (suc (suc (suc n))) l = absurd (omega (arith, l))

abbrev pub pair : List Triple
pair = triple 1 0 0 ∷ triple 2 0 0 ∷ []

not_the_origin : AreInOneOrbit both three (triple 1 0 0) (triple 0 0 0) → ⊥
unfolding turned moved
not_the_origin a = ⊎_elim (λ e. by e) (λ e. by' e) (images (triple 1 0 0) (triple 0 0 0) (inside 1 (omega arith)) (inside 0 (omega arith)) a)
  where
    by : triple 1 0 0 ≡ triple 0 0 0 → ⊥
    by e = omega (arith, same 1 0 e)

    by' : triple 2 0 0 ≡ triple 0 0 0 → ⊥
    by' e = omega (arith, same 2 0 e)

one_with_itself : AreInOneOrbit both three (triple 1 0 0) (triple 1 0 0)
one_with_itself = orbit_itself both three three_sides group_of_both kept (triple 1 0 0) (inside 1 (omega arith))

pub pair_is_orbit : IsGridOrbit both three (triple 1 0 0) pair
pair_is_orbit = record {
  exactly = λ q. ((λ c. in_pair q c (λ q. IsInGrid three q × AreInOneOrbit both three (triple 1 0 0) q) (inside 1 (omega arith), one_with_itself) (inside 2 (omega arith), exchanged)), (λ h. each_point (λ q. AreInOneOrbit both three (triple 1 0 0) q → Contains pair q) (λ a. absurd (not_the_origin a)) (λ a. (0, omega arith, refl)) (λ a. (1, omega arith, refl)) q h.0 h.1));
  once = AllPairs-cons (λ p q. p ≢ q) (triple 1 0 0) (triple 2 0 0 ∷ []) (All-from_recursion (λ q. triple 1 0 0 ≢ q) (triple 2 0 0 ∷ []) (apart, tt)) (λ i j d l m. absurd (omega arith));
}
  where
    apart : triple 1 0 0 ≢ triple 2 0 0
    apart e = omega (arith, same 1 2 e)

    in_pair : (q : Triple) → Contains pair q → (P : Triple → Type 0) → P (triple 1 0 0) → P (triple 2 0 0) → P q
    in_pair q c P a b = ⊎_elim (λ e. subst P e a) (λ d. ⊎_elim (λ e. subst P e b) (λ n. lists.not_in_nil q n) (lists.Contains-cases q (triple 2 0 0) [] d)) (lists.Contains-cases q (triple 1 0 0) (triple 2 0 0 ∷ []) c)

-- one of the two points alone is no orbit
half_an_orbit : IsGridOrbit both three (triple 1 0 0) (triple 1 0 0 ∷ []) → ⊥
half_an_orbit h = ⊎_elim (λ e. by e) (λ n. lists.not_in_nil (triple 2 0 0) n) (lists.Contains-cases (triple 2 0 0) (triple 1 0 0) [] ((h.exactly (triple 2 0 0)).1 (inside 2 (omega arith), exchanged)))
  where
    by : triple 1 0 0 ≡ triple 2 0 0 → ⊥
    by e = omega (arith, same 1 2 e)

-- both members take the origin to itself, and one takes 1/3,0,0 to itself
two_fix : fixing_count both three (triple 0 0 0) 2 ≡ 2
unfolding turned moved
two_fix = refl

one_fixes : fixing_count both three (triple 1 0 0) 2 ≡ 1
unfolding turned moved
one_fixes = refl

-- ---- the grid list: 0 0 0, of size 1, and 1 0 0, of size 2

abbrev pub line : ℕ → ℕ → GridLine
line i n = record { at = i ∷ 0 ∷ 0 ∷ []; size = n }

origin_line : IsGridLine both three (line 0 1)
origin_line = line_is both three (0 ∷ 0 ∷ 0 ∷ []) 2 2 three_sides group_of_both kept (inside 0 (omega arith)) refl refl (omega arith) (sym two_fix)

pair_line : IsGridLine both three (line 1 2)
pair_line = line_is both three (1 ∷ 0 ∷ 0 ∷ []) 2 1 three_sides group_of_both kept (inside 1 (omega arith)) refl refl (omega arith) (sym one_fixes)

not_its_size : IsGridLine both three (line 1 1) → ⊥
not_its_size l = omega (arith, l.size pair pair_is_orbit)

two_numbers : IsGridLine both three (record { at = 1 ∷ 0 ∷ []; size = 2 }) → ⊥
two_numbers l = omega (arith, l.three)

abbrev region : Region
region = grid_region both three

before : (m n : ℕ) → ComesBefore (triple m 0 0) (triple n 0 0) → m < n
before m n (inl l) = l
before m n (inr (e, inl l)) = omega (arith, l)
before m n (inr (e, inr r)) = omega (arith, r.1)

-- the origin and 1/3,0,0 have no earlier point in their orbits, and 2/3,0,0 has one
origin_first : IsListed region (triple 0 0 0)
origin_first = record { in_region = inside 0 (omega arith); first = each_point (λ q. AreInOneOrbit both three (triple 0 0 0) q → ComesBefore q (triple 0 0 0) → ⊥) (λ a l. omega (arith, before 0 0 l)) (λ a l. omega (arith, before 1 0 l)) (λ a l. omega (arith, before 2 0 l)) }

third_first : IsListed region (triple 1 0 0)
third_first = record { in_region = inside 1 (omega arith); first = each_point (λ q. AreInOneOrbit both three (triple 1 0 0) q → ComesBefore q (triple 1 0 0) → ⊥) (λ a l. not_the_origin a) (λ a l. omega (arith, before 1 1 l)) (λ a l. omega (arith, before 2 1 l)) }

not_first : IsListed region (triple 2 0 0) → ⊥
not_first l = l.first (triple 1 0 0) (inside 1 (omega arith)) (orbit_back both three three_sides group_of_both kept (triple 1 0 0) (triple 2 0 0) (inside 1 (omega arith)) (inside 2 (omega arith)) exchanged) (inl (omega arith))

pub grid_list : IsGridList both three (line 0 1 ∷ line 1 2 ∷ [])
grid_list = record {
  exactly = λ p. (
    (λ c. ⊎_elim (λ e. subst (IsListed region) e origin_first) (λ d. ⊎_elim (λ e. subst (IsListed region) e third_first) (λ n. lists.not_in_nil p n) (lists.Contains-cases p (triple 1 0 0) [] d)) (lists.Contains-cases p (triple 0 0 0) (triple 1 0 0 ∷ []) c)),
    (λ l. each_point (λ p. IsListed region p → Contains (triple 0 0 0 ∷ triple 1 0 0 ∷ []) p) (λ m. (0, omega arith, refl)) (λ m. (1, omega arith, refl)) (λ m. absurd (not_first m)) p l.in_region l),
  );
  lines = All-from_recursion (IsGridLine both three) (line 0 1 ∷ line 1 2 ∷ []) (origin_line, (pair_line, tt));
  ordered = AllPairs-cons (λ (a b : GridLine). ComesBefore (triple_of a.at) (triple_of b.at)) (line 0 1) (line 1 2 ∷ []) (All-from_recursion (λ (b : GridLine). ComesBefore (triple 0 0 0) (triple_of b.at)) (line 1 2 ∷ []) (inl (omega arith), tt)) (λ i j d l m. absurd (omega arith));
}

-- the list without its second line is none
no_grid_list : IsGridList both three (line 0 1 ∷ []) → ⊥
no_grid_list l = ⊎_elim (λ e. by e) (λ n. lists.not_in_nil (triple 1 0 0) n) (lists.Contains-cases (triple 1 0 0) (triple 0 0 0) [] ((l.exactly (triple 1 0 0)).1 third_first))
  where
    by : triple 0 0 0 ≡ triple 1 0 0 → ⊥
    by e = omega (arith, same 0 1 e)

-- 2/3,0,0 is in the orbit of the second line alone
its_line : IsOnlyLineOf both three (line 0 1 ∷ line 1 2 ∷ []) (triple 2 0 0) (line 1 2)
its_line = record {
  listed = (1, omega arith, refl);
  equivalent = exchanged;
  only = λ other c a. ⊎_elim (λ e. absurd (of_origin (subst (λ (l : GridLine). AreInOneOrbit both three (triple_of l.at) (triple 2 0 0)) (sym e) a))) (λ d. ⊎_elim (λ e. sym e) (λ n. lists.not_in_nil other n) (lists.Contains-cases other (line 1 2) [] d)) (lists.Contains-cases other (line 0 1) (line 1 2 ∷ []) c);
}
  where
    of_origin : AreInOneOrbit both three (triple 0 0 0) (triple 2 0 0) → ⊥
    of_origin a = omega (arith, alone 2 (omega arith) a)

not_its_line : IsOnlyLineOf both three (line 0 1 ∷ line 1 2 ∷ []) (triple 2 0 0) (line 0 1) → ⊥
not_its_line l = omega (arith, alone 2 (omega arith) l.equivalent)

-- ---- walks

tagged : IsTagged three (false ∷ true ∷ true ∷ []) (triple 1 0 0)
unfolding place_of
tagged = refl

not_tagged : IsTagged three (false ∷ true ∷ true ∷ []) (triple 0 0 0) → ⊥
unfolding place_of
not_tagged t = false≢true t

begun : IsWalk both (record { size = three; place = 0; tags = false ∷ false ∷ false ∷ [] }) []
begun = record {
  group = group_of_both;
  range = record { a = (omega arith, omega arith); b = (omega arith, omega arith); c = (omega arith, omega arith); few = omega arith };
  kept = kept;
  tags = walks.walk_begun (grid_region both three) (grid_lines both three) (tags.region both three three_sides group_of_both kept) (false ∷ false ∷ false ∷ []) (λ k. untagged k);
}
  where
    untagged : (k : ℕ) → get_or (false ∷ false ∷ false ∷ []) k false ≡ false
    untagged zero = refl
    untagged (suc zero) = refl
    untagged (suc (suc zero)) = refl
    untagged (suc (suc (suc k))) = refl

-- with no line taken no point has a tag
not_begun : IsWalk both (record { size = three; place = 0; tags = true ∷ false ∷ false ∷ [] }) [] → ⊥
unfolding place_of
not_begun w = let t = (w.tags.tagged (triple 0 0 0) (inside 0 (omega arith))).0 refl in lists.not_in_nil t.line t.member

reached : IsReached both three (triple 1 0 0) (triple 2 0 0)
unfolding turned moved
reached = (inverting, (1, omega arith, refl), refl)

not_reached : IsReached (identity_operator ∷ []) three (triple 1 0 0) (triple 2 0 0) → ⊥
not_reached r = ⊎_elim (λ e. by (sym (act_one three (triple 1 0 0) (inside 1 (omega arith))) ∙ ap (λ f. act three f (triple 1 0 0)) e ∙ r.2)) (λ n. lists.not_in_nil r.0 n) (lists.Contains-cases r.0 identity_operator [] r.1)
  where
    by : triple 1 0 0 ≡ triple 2 0 0 → ⊥
    by e = omega (arith, same 1 2 e)

abbrev untagged : List Bool
untagged = false ∷ false ∷ false ∷ []

second_tagged : HasTag three (false ∷ true ∷ false ∷ []) (triple 1 0 0) true
unfolding place_of
second_tagged d = refl

third_not_tagged : HasTag three (false ∷ true ∷ false ∷ []) (triple 2 0 0) true → ⊥
unfolding place_of
third_not_tagged t = false≢true (t false)

third_kept : KeepsTag three untagged (false ∷ true ∷ false ∷ []) (triple 2 0 0)
unfolding place_of
third_kept d = refl

second_not_kept : KeepsTag three untagged (false ∷ true ∷ false ∷ []) (triple 1 0 0) → ⊥
unfolding place_of
second_not_kept k = false≢true (sym (k false))

-- both members tag 1/3,0,0 and 2/3,0,0, and not the first of them alone
not_all_tagged : AreTagged both three (triple 1 0 0) true untagged (false ∷ true ∷ false ∷ []) 2 → ⊥
not_all_tagged a = ⊎_elim (λ t. third_not_tagged t.1) (λ t. t.0 reached) (a (triple 2 0 0) (inside 2 (omega arith)))

all_tagged : AreTagged both three (triple 1 0 0) true untagged (false ∷ true ∷ true ∷ []) 2
unfolding place_of turned moved
all_tagged = each_point (λ q. (IsReached both three (triple 1 0 0) q × HasTag three (false ∷ true ∷ true ∷ []) q true) ⊎ ((¬ IsReached both three (triple 1 0 0) q) × KeepsTag three untagged (false ∷ true ∷ true ∷ []) q))
    (inr ((λ r. not_the_origin ((in_orbit both three three_sides group_of_both kept (triple 1 0 0) (triple 0 0 0) (inside 0 (omega arith))).1 r)), (λ d. refl)))
    (inl ((identity_operator, (0, omega arith, refl), refl), (λ d. refl)))
    (inl (reached, (λ d. refl)))

-- ---- first points: 2/3,0,0 has 1/3,0,0 as its first, the others themselves

two_own : AreOwnPlaces (0 ∷ 1 ∷ 1 ∷ []) 2
two_own zero l = refl
two_own (suc zero) l = refl
two_own (suc (suc k)) l = absurd (omega (arith, l))

third_not_own : AreOwnPlaces (0 ∷ 1 ∷ 1 ∷ []) 3 → ⊥
third_not_own a = omega (arith, a 2 (omega arith))

first_points : AreFirstPoints both three (0 ∷ 1 ∷ 1 ∷ [])
unfolding place_of
first_points = record {
  len = refl;
  first = each_point (λ p. (q : Triple) × IsFirstOf region p q × (get_or (0 ∷ 1 ∷ 1 ∷ []) (place_of three p) 0 ≡ place_of three q))
      (triple 0 0 0, record { listed = origin_first; equivalent = orbit_itself both three three_sides group_of_both kept (triple 0 0 0) (inside 0 (omega arith)) }, refl)
      (triple 1 0 0, record { listed = third_first; equivalent = one_with_itself }, refl)
      (triple 1 0 0, record { listed = third_first; equivalent = exchanged }, refl);
}

no_first_points : AreFirstPoints both three (0 ∷ 1 ∷ 2 ∷ []) → ⊥
unfolding place_of
no_first_points a = let r = a.first (triple 2 0 0) (inside 2 (omega arith)) in not_first (subst (IsListed region) (tags.same_place three r.0 (triple 2 0 0) r.1.listed.in_region (inside 2 (omega arith)) (sym r.2)) r.1.listed)
