-- Worked examples of averages, keys and rows: the definitions on literals, in parts of a cell of 24.
use Rattle.std.proofs.Common.{◌≡◌, ◌≢◌, ◌∷◌, [], inl, inr, ⊎_elim, List, ℤ, pos, negsuc, ◌+ℤ◌, ◌*ℤ◌, Contains, ap, refl, subst, arith}
use Rattle.std.proofs.lemmas.Int.{ints}
use Rattle.std.proofs.lemmas.List.Kept.{AllPairs-cons}
use Rattle.std.proofs.lemmas.List.Elements.{All-from_recursion}
use Rattle.std.proofs.lemmas.Map.Made.{IsDistinct-from_AllPairs}
use Rattle.lattice_algebra.specs.Matrix.{Matrix, Column, matrix_of, det, adjugate, scaled, identity, origin, no_matrix, ◌·◌, ◌·ᶜ◌, ◌+ᶜ◌, ◌+ᵐ◌, neg_column, times, IsUnimodular}
use Rattle.lattice_algebra.specs.Operator.{Operator, IsOperator, modulo, product}
use Rattle.lattice_algebra.specs.Map.{Map, ◌∘◌, identity_map, undo}
use Rattle.lattice_algebra.specs.Point.{IsPoint, image}
use Rattle.lattice_algebra.proofs.Ring.{var, con, ◌⊕◌, ◌⊗◌, known, ring_from}
use Rattle.lattice_algebra.proofs.Numbers.{cancel_number}
use Rattle.lattice_algebra.proofs.Operators.{operators}
use Rattle.lattice_algebra.proofs.Points.{IsPoint-image}
use Rattle.lattice_algebra.proofs.Examples.{column, minus, inversion, threefold, threefold_back, point, some_parts}
use Rattle.finite_groups.specs.Words.{IsClosedList}
use Rattle.finite_groups.proofs.Members as lists
use Rattle.space_groups.specs.Space.{AreConjugate, ScaledPoint, moved}
use Rattle.space_groups.specs.Averages.{Block, Vector, vector_plus, block_of, block_plus, block_times, block_scaled, block_on, vector_scaled, IsMean, IsInImage}
use Rattle.space_groups.specs.Keys.{Key, carried, key_of, IsBelow, ComesBefore}
use Rattle.space_groups.specs.Regions as Regions
use Rattle.space_groups.specs.Regions.{IsWhole, AreWholeColumns, SpansImage, IsInFirstCell, shift_by}
use Rattle.space_groups.specs.Intervals.{differences, base_shift, sums_below, sums_above, lowest, highest, IsBetween, IsBetweenEnds, AreBetweenEnds}
use Rattle.space_groups.specs.Rows.{row_point, Lies, Row, IsRowBefore, IsAt}
use Rattle.space_groups.proofs.Elements.{SpaceGroup}
use Rattle.space_groups.proofs.Regions.{shift_in}
use Rattle.space_groups.proofs.Laws.{conjugate_by_members, same_site}
use Rattle.space_groups.proofs.Ordered.{row_not_itself, row_on}

abbrev o : ℤ
o = pos 0

-- ---- averages

-- -x+1,-y,-z: the inversion at 1/2,0,0
abbrev inverted : ℤ → Map
inverted x = record { w = inversion; s = column x o o }

-- its average with the identity, over the 2 operators of the group: a matrix of zeros and the translation 24 of 48 in x
abbrev middle : ℤ → Block
middle x = record { m = no_matrix; t = column x o o; n = pos 2 }

average_at_half : IsMean 2 (identity_map ∷ inverted (pos 24) ∷ []) (middle (pos 24))
unfolding block_scaled block_plus block_of scaled times ◌+ᵐ◌ ◌+ᶜ◌
average_at_half = refl

-- and not 12 of 48
no_average : IsMean 2 (identity_map ∷ inverted (pos 24) ∷ []) (middle (pos 12)) → ⊥
unfolding block_scaled block_plus block_of scaled times ◌+ᵐ◌ ◌+ᶜ◌
no_average e = let x : pos 24 ≡ pos 48 = ap (λ (a : Block). a.t.x) e in omega (arith, ints)

-- a point and its image by the inversion add up to twice the centre
abbrev five_twelfths : Vector
five_twelfths = record { p = column (pos 10) o o; d = pos 1 }

twice_the_centre : vector_plus (block_on (block_of identity_map) five_twelfths) (block_on (block_of (inverted (pos 24))) five_twelfths) ≡ record { p = column (pos 24) o o; d = pos 2 }
unfolding vector_plus block_on block_of times ◌·ᶜ◌ ◌+ᶜ◌
twice_the_centre = refl

-- the point n / 24,0,0
abbrev on_x : ℤ → ScaledPoint
on_x n = record { n = column n o o; d = 1; some = omega arith }

-- its image is 1/2,0,0, and not 3/2,0,0
half_in_image : IsInImage (middle (pos 24)) (on_x (pos 12))
unfolding times ◌·ᶜ◌ ◌+ᶜ◌
half_in_image = refl

not_in_image : IsInImage (middle (pos 24)) (on_x (pos 36)) → ⊥
unfolding times ◌·ᶜ◌ ◌+ᶜ◌
not_in_image e = let x : pos 24 ≡ pos 72 = ap (λ (c : Column). c.x) e in omega (arith, ints)

-- the inversions at 1/2,0,0 and at the origin fix no point together
no_common_point : (y : ScaledPoint) → moved (inverted (pos 24)) y ≡ y → moved (inverted o) y ≡ y → ⊥
unfolding moved times ◌·ᶜ◌ ◌+ᶜ◌
no_common_point y p q =
    let a = ap (λ (v : ScaledPoint). v.n.x) p in
    let b = ap (λ (v : ScaledPoint). v.n.x) q in
    let s = y.some in
    omega (arith, ints)

-- -y+1,x-y+1,z and its square -x+y,-x+1,z fix the line 1/3,2/3,z: the average with the identity, over 3 operators, is 1/3,2/3,z
abbrev turned : Map
turned = record { w = threefold; s = column (pos 24) (pos 24) o }

abbrev turned_back : Map
turned_back = record { w = threefold_back; s = column o (pos 24) o }

turned_twice : turned ∘ turned ≡ turned_back
unfolding ◌∘◌ ◌·◌ ◌·ᶜ◌ ◌+ᶜ◌
turned_twice = refl

abbrev z_only : Matrix
z_only = matrix_of (o ∷ o ∷ o ∷ o ∷ o ∷ o ∷ o ∷ o ∷ pos 3 ∷ [])

abbrev line : ℤ → ℤ → Block
line x y = record { m = z_only; t = column x y o; n = pos 3 }

average_on_line : IsMean 3 (identity_map ∷ turned ∷ turned_back ∷ []) (line (pos 24) (pos 48))
unfolding block_scaled block_plus block_of scaled times ◌+ᵐ◌ ◌+ᶜ◌
average_on_line = refl

-- it has each point 1/3,2/3,z in its image, and is idempotent
line_in_image : (z : ℤ) → IsInImage (line (pos 24) (pos 48)) (record { n = column (pos 8) (pos 16) z; d = 1; some = omega arith })
unfolding times ◌·ᶜ◌ ◌+ᶜ◌
line_in_image z = λ i. record { x = first z i; y = second z i; z = third z i }
  where
    first : (z : ℤ) → o *ℤ pos 8 +ℤ o *ℤ pos 16 +ℤ o *ℤ z +ℤ pos 1 *ℤ pos 24 ≡ pos 3 *ℤ pos 8
    first z = omega (arith, ints)

    second : (z : ℤ) → o *ℤ pos 8 +ℤ o *ℤ pos 16 +ℤ o *ℤ z +ℤ pos 1 *ℤ pos 48 ≡ pos 3 *ℤ pos 16
    second z = omega (arith, ints)

    third : (z : ℤ) → o *ℤ pos 8 +ℤ o *ℤ pos 16 +ℤ pos 3 *ℤ z +ℤ pos 1 *ℤ o ≡ pos 3 *ℤ z
    third z = omega (arith, ints)

line_is_idempotent : block_times (line (pos 24) (pos 48)) (line (pos 24) (pos 48)) ≡ block_scaled (pos 3) (line (pos 24) (pos 48))
unfolding block_times block_scaled scaled times ◌·◌ ◌·ᶜ◌ ◌+ᶜ◌
line_is_idempotent = refl

-- at 1/7,5/7,3/7 it has the value 1/3,2/3,3/7
value_on_line : vector_scaled (pos 7) (block_on (line (pos 24) (pos 48)) (record { p = column (pos 24) (pos 120) (pos 72); d = pos 7 })) ≡ vector_scaled (pos 7) (record { p = column (pos 168) (pos 336) (pos 216); d = pos 21 })
unfolding block_on vector_scaled times ◌·ᶜ◌ ◌+ᶜ◌
value_on_line = refl

-- ---- keys

-- -y,x-y,z carries 1/3,2/3,z to -2/3,-1/3,z: modulo 1 it is 1/3,2/3,z
carried_line : carried (record { w = threefold; s = origin }) (line (pos 24) (pos 48)) ≡ line (negsuc 47) (negsuc 23)
unfolding carried block_times block_of undo det adjugate scaled times ◌·◌ ◌·ᶜ◌ ◌+ᶜ◌ neg_column
carried_line = refl

carried_key : key_of 24 3 (line (negsuc 47) (negsuc 23)) ≡ record { m = z_only; t = column (pos 24) (pos 48) o }
unfolding key_of modulo
carried_key = refl

-- a translation by 1,2,0 carries it to 4/3,8/3,z
shifted_line : carried (shift_by 24 (column (pos 1) (pos 2) o)) (line (pos 24) (pos 48)) ≡ line (pos 96) (pos 192)
unfolding carried block_times block_of undo det adjugate scaled times ◌·◌ ◌·ᶜ◌ ◌+ᶜ◌ neg_column
shifted_line = refl

-- the average of the inversion at 3/2,0,0 is 3/2,0,0; a shift by -1 along x makes that at 1/2,0,0 of it
average_at_three_halves : IsMean 2 (identity_map ∷ inverted (pos 72) ∷ []) (middle (pos 72))
unfolding block_scaled block_plus block_of scaled times ◌+ᵐ◌ ◌+ᶜ◌
average_at_three_halves = refl

moved_near : shift_by 24 (column minus o o) ∘ inverted (pos 72) ∘ undo (shift_by 24 (column minus o o)) ≡ inverted (pos 24)
unfolding ◌∘◌ undo det adjugate scaled times ◌·◌ ◌·ᶜ◌ ◌+ᶜ◌ neg_column
moved_near = refl

carried_near : carried (shift_by 24 (column minus o o)) (middle (pos 72)) ≡ middle (pos 24)
unfolding carried block_times block_of undo det adjugate scaled times ◌·◌ ◌·ᶜ◌ ◌+ᶜ◌ neg_column
carried_near = refl

-- both have the key 24 of 48
one_key : key_of 24 2 (middle (pos 72)) ≡ key_of 24 2 (middle (pos 24))
unfolding key_of modulo
one_key = refl

-- x,-y+1/2,z+1/2 carries the average of the inversion at 0,1/2,1/2, over the 4 operators of P2_1/c, to 0,0,1: its key is that of 0,0,0
abbrev glide : Map
glide = record { w = matrix_of (pos 1 ∷ o ∷ o ∷ o ∷ minus ∷ o ∷ o ∷ o ∷ pos 1 ∷ []); s = column o (pos 12) (pos 12) }

abbrev on_yz : ℤ → ℤ → Block
on_yz y z = record { m = no_matrix; t = column o y z; n = pos 4 }

carried_by_glide : carried glide (on_yz (pos 48) (pos 48)) ≡ on_yz o (pos 96)
unfolding carried block_times block_of undo det adjugate scaled times ◌·◌ ◌·ᶜ◌ ◌+ᶜ◌ neg_column
carried_by_glide = refl

key_of_origin : key_of 24 4 (on_yz o (pos 96)) ≡ key_of 24 4 (on_yz o o)
unfolding key_of modulo
key_of_origin = refl

-- keys: the greater matrix comes first, then the lesser translation
abbrev key : Matrix → ℤ → ℤ → Key
key m x z = record { m = m; t = column x o z }

greater_matrix_first : ComesBefore (key z_only (pos 24) o) (key no_matrix o o)
greater_matrix_first = inl (inr (refl, inr (refl, inr (refl, inr (refl, inr (refl, inr (refl, inr (refl, inr (refl, inl (omega (arith, ints)))))))))))

lesser_translation_first : ComesBefore (key no_matrix o (pos 24)) (key no_matrix (pos 24) o)
lesser_translation_first = inr (refl, inl (omega (arith, ints)))

not_first : ComesBefore (key no_matrix (pos 24) o) (key no_matrix o (pos 24)) → ⊥
not_first l =
    let row : Key → Row = λ k. record { mult = 1; key = k } in
    let p = key no_matrix o (pos 24) in
    let q = key no_matrix (pos 24) o in
    row_not_itself (row p) (row_on (row p) (row q) (row p) (inr (refl, lesser_translation_first)) (inr (refl, l)))

-- a list comes before a longer one that it begins, and not behind it
shorter_first : IsBelow (o ∷ []) (o ∷ o ∷ [])
shorter_first = inr (refl, tt)

-- ---- rows

-- 4/3,-1/3,5 lies on the row 1/3,2/3,z: it is 1/3,2/3,5 and the whole cells 1,-1,0
on_row : Lies 24 3 (record { m = z_only; t = column (pos 24) (pos 48) o }) (record { n = column (pos 4) minus (pos 15); d = pos 3 })
unfolding row_point times ◌·ᶜ◌ ◌+ᶜ◌
on_row = record { at = record { n = column o o (pos 5); d = pos 1 }; is_point = omega (arith, ints); whole = column (pos 1) minus o; equal = refl }

-- and 2/3,1/3,5 does not
not_on_row : Lies 24 3 (record { m = z_only; t = column (pos 24) (pos 48) o }) (record { n = column (pos 2) (pos 1) (pos 15); d = pos 3 }) → ⊥
unfolding row_point times ◌·ᶜ◌ ◌+ᶜ◌
not_on_row l =
    let d = l.at.d in
    let k = l.whole.x in
    let e = cancel_number (pos 72 *ℤ d) (pos 1) (pos 3 *ℤ k) (let h = l.is_point in omega (arith, ints))
    (ring_from (d ∷ k ∷ l.at.n.x ∷ l.at.n.y ∷ l.at.n.z ∷ [])
    ((con (pos 72) ⊗ var 0) ⊗ con (pos 1)) ((con (pos 72) ⊗ var 0) ⊗ (con (pos 3) ⊗ var 1))
    (known (con (pos 1)) ((con (pos 72) ⊗ var 0) ⊗ con (pos 2))
    (con (pos 3) ⊗ ((con (pos 24) ⊗ (con o ⊗ var 2 ⊕ con o ⊗ var 3 ⊕ con o ⊗ var 4) ⊕ var 0 ⊗ con (pos 24)) ⊕ (con (pos 72) ⊗ var 0) ⊗ var 1)) ∷ [])
    (ap (λ (c : Column). c.x) l.equal, tt) tt) in
    omega (arith, ints)

-- more points first, then the key that comes before; the places of rows count from 0
abbrev general : Row
general = record { mult = 3; key = key identity o o }

abbrev axis : ℤ → Row
axis x = record { mult = 1; key = record { m = z_only; t = column x o o } }

general_first : IsRowBefore general (axis o)
general_first = inl (omega arith)

axes_in_order : IsRowBefore (axis o) (axis (pos 24))
axes_in_order = inr (refl, inr (refl, inl (omega (arith, ints))))

not_in_order : IsRowBefore (axis (pos 24)) (axis o) → ⊥
not_in_order l = row_not_itself (axis o) (row_on (axis o) (axis (pos 24)) (axis o) axes_in_order l)

second_place : IsAt (general ∷ axis o ∷ []) 1 (axis o)
second_place = record { within = omega arith; is = λ d. refl }

-- ---- regions

-- 1/2*x+1/2*y,1/2*x+1/2*y,0 over 2: twice its matrix is whole, and once is not
abbrev diagonal : Block
diagonal = record { m = matrix_of (pos 1 ∷ pos 1 ∷ o ∷ pos 1 ∷ pos 1 ∷ o ∷ o ∷ o ∷ o ∷ []); t = column (pos 60) (negsuc 59) o; n = pos 2 }

whole_at_two : IsWhole 2 (matrix_of (pos 1 ∷ pos 1 ∷ o ∷ pos 1 ∷ pos 1 ∷ o ∷ o ∷ o ∷ o ∷ [])) diagonal
unfolding scaled
whole_at_two = refl

not_whole : (r : Matrix) → IsWhole 1 r diagonal → ⊥
unfolding scaled
not_whole r e = let x : pos 1 ≡ pos 2 *ℤ r.xx = ap (λ (m : Matrix). m.xx) e in omega (arith, ints)

-- its column x twice is whole, 1,1,0, and spans its image; no column of zeros does
abbrev steps : Matrix
steps = matrix_of (pos 1 ∷ o ∷ o ∷ pos 1 ∷ o ∷ o ∷ o ∷ o ∷ o ∷ [])

whole_columns : AreWholeColumns (column (pos 2) o o) steps diagonal
unfolding Regions.diagonal ◌·◌ scaled
whole_columns = refl

steps_span : SpansImage diagonal steps
unfolding ◌·◌ scaled
steps_span = record { along = refl; number = pos 1; some = λ e. omega (arith, ints, e); weights = matrix_of (pos 1 ∷ pos 1 ∷ o ∷ o ∷ o ∷ o ∷ o ∷ o ∷ o ∷ []); spans = refl }

nothing_spans : SpansImage diagonal no_matrix → ⊥
unfolding ◌·◌ scaled
nothing_spans s = s.some (let x : s.number *ℤ pos 1 ≡ o *ℤ s.weights.xx +ℤ o *ℤ s.weights.yx +ℤ o *ℤ s.weights.zx = ap (λ (m : Matrix). m.xx) s.spans in omega (arith, ints, x))

-- 19/12,-11/12,0 is 5/4,-5/4,0 and a third of the step
third_of_step : IsInFirstCell 24 diagonal steps (record { n = column (pos 38) (negsuc 21) o; d = 1; some = omega arith })
unfolding times ◌·ᶜ◌ ◌+ᶜ◌
third_of_step = record { at = column (pos 1) o o; over = 3; parts = record { x = omega (arith, ints); y = omega (arith, ints); z = omega (arith, ints) }; equal = refl }

-- -x,-y,-z with a whole shift that fixes a point from 5/4,-5/4,0 to 9/4,-1/4,0: the shifts of x from 5/2 to 9/2, of y from -5/2 to -1/2, of z none
abbrev inverting : Operator
inverting = record { w = inversion; t = origin }

its_lowest : lowest 24 diagonal steps inverting ≡ column (pos 120) (negsuc 119) o
unfolding lowest base_shift differences sums_below ◌·◌ ◌·ᶜ◌ ◌+ᶜ◌ ◌+ᵐ◌ times neg_column scaled
its_lowest = refl

its_highest : highest 24 diagonal steps inverting ≡ column (pos 216) (negsuc 23) o
unfolding highest base_shift differences sums_above ◌·◌ ◌·ᶜ◌ ◌+ᶜ◌ ◌+ᵐ◌ times neg_column scaled
its_highest = refl

three_between : IsBetween (pos 48) (column (pos 120) (negsuc 119) o) (column (pos 216) (negsuc 23) o) (column (pos 3) (negsuc 1) o)
three_between = record { x = (omega (arith, ints), omega (arith, ints)); y = (omega (arith, ints), omega (arith, ints)); z = (omega (arith, ints), omega (arith, ints)) }

two_not_between : IsBetween (pos 48) (column (pos 120) (negsuc 119) o) (column (pos 216) (negsuc 23) o) (column (pos 2) (negsuc 1) o) → ⊥
two_not_between b = let x = b.x.0 in omega (arith, ints, x)

-- 96 lies from 120 - 48 to 120 + 96, and 48 does not
twice_between : IsBetweenEnds (pos 48) (pos 120) (negsuc 0) (pos 2) o (pos 2)
twice_between = (omega (arith, ints), omega (arith, ints))

once_not : IsBetweenEnds (pos 48) (pos 120) (negsuc 0) (pos 2) o (pos 1) → ⊥
once_not b = let l = b.0 in omega (arith, ints, l)

-- 192 is the end 96 + 96, which is left out; 96 is the base and both ends where all three numbers are 0
the_end_not : IsBetweenEnds (pos 48) (pos 96) (negsuc 0) (pos 2) o (pos 4) → ⊥
the_end_not b = let l = b.1 in omega (arith, ints, l)

the_base_between : AreBetweenEnds (pos 48) (column (pos 96) o o) no_matrix (column (pos 2) o o)
the_base_between = ((omega (arith, ints), omega (arith, ints)), (omega (arith, ints), omega (arith, ints)), (omega (arith, ints), omega (arith, ints)))

-- a turn about z leaves the direction z as it is, and the inversion does not
turned_nothing : differences threefold (matrix_of (o ∷ o ∷ o ∷ o ∷ o ∷ o ∷ o ∷ o ∷ pos 2 ∷ [])) ≡ no_matrix
unfolding differences ◌·◌ ◌+ᵐ◌ scaled
turned_nothing = refl

-- ---- conjugate points

-- x,y,z and -y,x-y,z and -x+y,-x,z
abbrev turn : Matrix → Operator
turn w = record { w = w; t = origin }

abbrev three : List Operator
three = turn identity ∷ turn threefold ∷ turn threefold_back ∷ []

in_three : (f : Operator) → Contains three f → (P : Operator → Type 0) → P (turn identity) → P (turn threefold) → P (turn threefold_back) → P f
in_three f c P a b d =
    ⊎_elim (λ e. subst P e a) (λ r. ⊎_elim (λ e. subst P e b) (λ t. ⊎_elim (λ e. subst P e d) (λ n. lists.not_in_nil f n) (lists.Contains-cases f (turn threefold_back) [] t)) (lists.Contains-cases f (turn threefold) (turn threefold_back ∷ []) r))
    (lists.Contains-cases f (turn identity) (turn threefold ∷ turn threefold_back ∷ []) c)

three_products : (f g : Operator) → Contains three f → Contains three g → Contains three (product 24 f g)
unfolding product modulo ◌·◌ ◌·ᶜ◌ ◌+ᶜ◌
three_products f g p q =
    let one : Contains three (turn identity) = (0, omega arith, refl) in
    let two : Contains three (turn threefold) = (1, omega arith, refl) in
    let back : Contains three (turn threefold_back) = (2, omega arith, refl) in
    let at : Operator → Type 0 = λ f. (g : Operator) → Contains three g → Contains three (product 24 f g) in
    in_three f p at
    (λ g q. in_three g q (λ g. Contains three (product 24 (turn identity) g)) one two back)
    (λ g q. in_three g q (λ g. Contains three (product 24 (turn threefold) g)) two back one)
    (λ g q. in_three g q (λ g. Contains three (product 24 (turn threefold_back) g)) back one two)
    g q

turn_is_operator : (w : Matrix) → IsUnimodular w → IsOperator 24 (turn w)
turn_is_operator w u = record { unimodular = u; in_cell = (operators 24 some_parts).one_in.in_cell }

three_closed : IsClosedList (operators 24 some_parts) three
unfolding ◌·◌
three_closed = record {
  distinct = IsDistinct-from_AllPairs (operators 24 some_parts).same three
      (AllPairs-cons (λ f g. f ≢ g) (turn identity) (turn threefold ∷ turn threefold_back ∷ [])
      (All-from_recursion (λ g. turn identity ≢ g) (turn threefold ∷ turn threefold_back ∷ []) (λ e. apart _ _ e (λ x. let y : pos 1 ≡ o = x in omega (arith, ints)), (λ e. apart _ _ e (λ x. let y : pos 1 ≡ minus = x in omega (arith, ints)), tt)))
      (AllPairs-cons (λ f g. f ≢ g) (turn threefold) (turn threefold_back ∷ []) (All-from_recursion (λ g. turn threefold ≢ g) (turn threefold_back ∷ []) (λ e. apart _ _ e (λ x. let y : o ≡ minus = x in omega (arith, ints)), tt)) (λ i j d l m. absurd (omega arith))));
  valid = All-from_recursion (IsOperator 24) three ((operators 24 some_parts).one_in, (turn_is_operator threefold (threefold_back, refl, refl), (turn_is_operator threefold_back (threefold, refl, refl), tt)));
  has_one = (0, omega arith, refl);
  closed = three_products;
}
  where
    apart : (f g : Operator) → f ≡ g → (f.w.xx ≡ g.w.xx → ⊥) → ⊥
    apart f g e n = n (ap (λ (h : Operator). h.w.xx) e)

abbrev L : SpaceGroup
L = record { unit = 24; some = some_parts; members = three; closed = three_closed }

-- 1/3,2/3,0 and its image 4/3,-1/3,0 are conjugate
image_is_conjugate : AreConjugate 24 three (point (pos 1) (pos 2) o (pos 3)) (point (pos 4) minus o (pos 3))
unfolding image times ◌·ᶜ◌ ◌+ᶜ◌
image_is_conjugate =
    let x = point (pos 1) (pos 2) o (pos 3) in
    let y = point (pos 4) minus o (pos 3) in
    let g : Map = shift_by 24 (column (pos 1) minus o) in
    let p : IsPoint x = omega (arith, ints) in
    (conjugate_by_members L x y p (omega (arith, ints))).1 (g, shift_in L (column (pos 1) minus o), λ f c s e. same_site L (image 24 g x) y (IsPoint-image 24 some_parts g x p) (omega (arith, ints)) refl s)
