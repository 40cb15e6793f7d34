-- The first of the conjugates of an average, as it is found: by the greatest matrix, and whole shifts below the sizes of its columns.
use Rattle.std.proofs.Common.{◌≡◌, ◌++◌, ◌∷◌, ◌<◌, ◌+◌, ◌*◌, ◌/◌, ◌%◌, ℕ, ℤ, pos, negsuc, ◌*ℤ◌, List, Some, length, inl, inr, ap, sym, refl, subst, ◌∙◌, arith}
use Rattle.std.proofs.lemmas.Int.{ints}
use Rattle.std.proofs.lemmas.Nat.{div-mul-add, mod-mul-add, mul-add-lt}
use Rattle.std.proofs.Math.Nat.{zero-div, zero-mod}
use Rattle.std.proofs.lemmas.Option.{slice_get-get_or}
use Rattle.lattice_algebra.specs.Matrix.{Matrix, Column, entries, coordinates, origin, inverse_matrix, ◌·◌, ◌·ᶜ◌, ◌+ᶜ◌, neg_column, times}
use Rattle.lattice_algebra.specs.Operator.{Operator, IsPart, modulo}
use Rattle.lattice_algebra.specs.Map.{Map, map_of, undo}
use Rattle.lattice_algebra.proofs.Ring.{var, con, ◌⊗◌}
use Rattle.lattice_algebra.proofs.MatrixRing.{matrix_at, column_at, ◌·ˢ◌, ◌·ˢᶜ◌, ◌+ˢᶜ◌, sym_times, sym_neg, sym_origin, column_ring}
use Rattle.lattice_algebra.proofs.Remainders.{modulo_same, modulo_part, modulo_parts}
use Rattle.lattice_algebra.proofs.Numbers.{positive_product}
use Rattle.exact_ops.specs.declared.TheConstants.{UNIT}
use Rattle.exact_ops.proofs.Narrow.{some_parts}
use Rattle.group_closure.specs.GroupList.{IsGroup}
use Rattle.space_groups.specs.Space.{IsElement}
use Rattle.space_groups.specs.Averages.{Block, block_of, block_times}
use Rattle.space_groups.specs.Regions.{shift_by}
use Rattle.space_groups.specs.Keys.{Key, carried, key_of, IsBelow, ComesBefore, IsKey}
use Rattle.space_groups.proofs.Elements.{SpaceGroup, space}
use Rattle.space_groups.proofs.Means as means
use Rattle.space_groups.proofs.Carried.{carried-number, carried-∘}
use Rattle.space_groups.proofs.Regions.{shift_in}
use Rattle.space_groups.proofs.Ordered.{not_below_itself}
use Rattle.space_groups.proofs.Keys.{key_path, carried_rest, shifted_block, carried_shift}
use Rattle.space_groups.proofs.KeyCandidates.{AreBelow, key_from_operators}
use Rattle.site_symmetry.proofs.SpaceOfGroup.{space_of}
use Rattle.affine_sets.specs.declared.keys.Sizes.{Sizes}
use Rattle.affine_sets.specs.Averages.{KeyOver, IsKeyInCell}
use Rattle.affine_sets.specs.Conditions.{IsAverage}
use Rattle.affine_sets.specs.Conjugates.{block_of_key, IsLeftOf, turned_matrix, carried_key, moved_key, key_by, AreEnoughFor, shift_number, IsCandidate, AreNotBefore}
use Rattle.affine_sets.proofs.Sums.{same_count}
use Rattle.affine_sets.proofs.Groups.{averaged_list}
use Rattle.affine_sets.proofs.ConjugateSizes.{member_map}

pub some_cell : (n : ℕ) → 0 < n → 0 < UNIT * n
some_cell n h = positive_product UNIT n some_parts h

-- ---- a conjugate as it is computed

carried_form : (w m v : Matrix) (t f : Column) (n : ℤ) → (w · m · v) ·ᶜ f ≡ (w · m · v) ·ᶜ f → (w ·ᶜ t +ᶜ times n f) +ᶜ neg_column ((w · m · v) ·ᶜ f) ≡ (w · m) ·ᶜ neg_column (v ·ᶜ f) +ᶜ times (pos 1) (w ·ᶜ t +ᶜ times n f)
unfolding ◌·◌ ◌·ᶜ◌ ◌+ᶜ◌ times neg_column
carried_form w m v t f n _ =
    let N = var 0 in
    let W = matrix_at 1 in
    let M = matrix_at 10 in
    let V = matrix_at 19 in
    let T = column_at 28 in
    let F = column_at 31 in
    let here = W ·ˢᶜ T +ˢᶜ sym_times N F in
    column_ring (n ∷ (entries w ++ (entries m ++ (entries v ++ (coordinates t ++ coordinates f)))))
    (here +ˢᶜ sym_neg ((W ·ˢ M ·ˢ V) ·ˢᶜ F)) ((W ·ˢ M) ·ˢᶜ sym_neg (V ·ˢᶜ F) +ˢᶜ sym_times (con (pos 1)) here) tt

pub carried_is : (f : Operator) (s : KeyOver) (m : Matrix) (t : Column) → m ≡ turned_matrix f s.key.m → t ≡ (f.w ·ᶜ s.key.t +ᶜ times (pos s.over) f.t) +ᶜ neg_column (m ·ᶜ f.t)
    → key_of UNIT s.over (record { m = m; t = t; n = pos s.over }) ≡ carried_key f s
unfolding key_of carried block_times block_of undo
carried_is f s m t e q =
    key_path _ _ e (ap (modulo (UNIT * s.over)) (q ∙ ap (λ v. (f.w ·ᶜ s.key.t +ᶜ times (pos s.over) f.t) +ᶜ neg_column (v ·ᶜ f.t)) e ∙ carried_form f.w s.key.m (inverse_matrix f.w) s.key.t f.t (pos s.over) refl))

moved_form : (m : Matrix) (t k : Column) (u n : ℤ) → t +ᶜ times u (m ·ᶜ k) ≡ t +ᶜ (times (u *ℤ n) (neg_column k) +ᶜ neg_column (times u (m ·ᶜ neg_column k))) +ᶜ times (u *ℤ n) k
unfolding ◌·ᶜ◌ ◌+ᶜ◌ times neg_column
moved_form m t k u n =
    let U = var 0 in
    let N = var 1 in
    let M = matrix_at 2 in
    let T = column_at 11 in
    let K = column_at 14 in
    column_ring (u ∷ n ∷ (entries m ++ (coordinates t ++ coordinates k)))
    (T +ˢᶜ sym_times U (M ·ˢᶜ K)) (T +ˢᶜ (sym_times (U ⊗ N) (sym_neg K) +ˢᶜ sym_neg (sym_times U (M ·ˢᶜ sym_neg K))) +ˢᶜ sym_times (U ⊗ N) K) tt

pub moved_is : (s : KeyOver) (k t : Column) → 0 < s.over → t ≡ s.key.t +ᶜ times (pos UNIT) (s.key.m ·ᶜ k) → key_of UNIT s.over (record { m = s.key.m; t = t; n = pos s.over }) ≡ moved_key s k
unfolding key_of shifted_block
moved_is s k t some e =
    key_path _ _ refl (modulo_same (UNIT * s.over) (some_cell s.over some) _ _ k (e ∙ moved_form s.key.m s.key.t k (pos UNIT) (pos s.over)))
    ∙ sym (ap (key_of UNIT s.over) (carried_shift UNIT (neg_column k) (block_of_key s)))

-- ---- whole shifts that the matrix takes to one column modulo whole cells give one key

cells_form : (t v c : Column) (u n : ℤ) → t +ᶜ times u (v +ᶜ times n c) ≡ t +ᶜ times u v +ᶜ times (u *ℤ n) c
unfolding ◌+ᶜ◌ times
cells_form t v c u n =
    let U = var 0 in
    let N = var 1 in
    let T = column_at 2 in
    let V = column_at 5 in
    let C = column_at 8 in
    column_ring (u ∷ n ∷ (coordinates t ++ (coordinates v ++ coordinates c))) (T +ˢᶜ sym_times U (V +ˢᶜ sym_times N C)) (T +ˢᶜ sym_times U V +ˢᶜ sym_times (U ⊗ N) C) tt

pub same_moved : (s : KeyOver) (k l c : Column) → 0 < s.over → s.key.m ·ᶜ k ≡ s.key.m ·ᶜ l +ᶜ times (pos s.over) c → moved_key s k ≡ moved_key s l
unfolding key_of
same_moved s k l c some e =
    sym (moved_is s k (s.key.t +ᶜ times (pos UNIT) (s.key.m ·ᶜ k)) some refl)
    ∙ key_path _ _ refl (modulo_same (UNIT * s.over) (some_cell s.over some) _ _ c (ap (λ v. s.key.t +ᶜ times (pos UNIT) v) e ∙ cells_form s.key.t (s.key.m ·ᶜ l) c (pos UNIT) (pos s.over)))
    ∙ moved_is s l (s.key.t +ᶜ times (pos UNIT) (s.key.m ·ᶜ l)) some refl

-- the first of the whole shifts moves nothing
no_shift : (q : Sizes) → shift_number q 0 ≡ origin
no_shift q = λ i. record { x = pos ((ap (λ v. v / q.y) (zero-div q.z) ∙ zero-div q.y) i); y = pos ((ap (λ v. v % q.y) (zero-div q.z) ∙ zero-mod q.y) i); z = pos (zero-mod q.z i) }

unmoved_form : (m : Matrix) (t : Column) (u : ℤ) → t ≡ t +ᶜ times u (m ·ᶜ origin)
unfolding ◌·ᶜ◌ ◌+ᶜ◌ times
unmoved_form m t u = column_ring (u ∷ (entries m ++ coordinates t)) (column_at 10) (column_at 10 +ˢᶜ sym_times (var 0) (matrix_at 1 ·ˢᶜ sym_origin)) tt

pub unmoved : (s : KeyOver) (q : Sizes) → IsKeyInCell s → s.key ≡ moved_key s (shift_number q 0)
unfolding key_of
unmoved s q h =
    key_path _ _ refl (sym (modulo_part (UNIT * s.over) (some_cell s.over h.some) s.key.t h.in_cell))
    ∙ moved_is s origin s.key.t h.some (unmoved_form s.key.m s.key.t (pos UNIT))
    ∙ ap (moved_key s) (sym (no_shift q))

-- ---- what is left of an average stands for it

pub left_once : (p : KeyOver) (n : ℕ) (b : Block) → 0 < n → p.over ≡ n → p.key ≡ key_of UNIT n b → key_of UNIT n (block_of_key p) ≡ key_of UNIT n b
unfolding key_of
left_once p n b some o e =
    key_path _ _ (ap (λ (k : Key). k.m) e)
    (ap (modulo (UNIT * n)) (ap (λ (k : Key). k.t) e) ∙ modulo_part (UNIT * n) (some_cell n some) (modulo (UNIT * n) b.t) (modulo_parts (UNIT * n) (some_cell n some) b.t))

number_of : (p : KeyOver) (n : ℕ) → p.over ≡ n → (block_of_key p).n ≡ pos n
number_of p n e = ap pos e

-- a conjugate by an operator, moved by a whole shift
pub moved_carried : (f : Operator) (s base : KeyOver) (k : Column) → 0 < s.over → base.key ≡ carried_key f s → base.over ≡ s.over → moved_key base k ≡ key_by f k s
moved_carried f s base k some e o =
    let b = carried (map_of f) (block_of_key s) in
    ap (λ n. key_of UNIT n (carried (shift_by UNIT (neg_column k)) (block_of_key base))) o
    ∙ carried_rest UNIT s.over (some_cell s.over some) (shift_by UNIT (neg_column k)) (block_of_key base) b (number_of base s.over o ∙ sym (carried-number (map_of f) (block_of_key s))) (left_once base s.over b some o e)

-- ---- matrices

pub moved_matrix : (s : KeyOver) (k : Column) → (moved_key s k).m ≡ s.key.m
unfolding key_of shifted_block
moved_matrix s k = ap (λ (b : Block). b.m) (carried_shift UNIT (neg_column k) (block_of_key s))

pub carried_key_matrix : (f : Operator) (s : KeyOver) → (carried_key f s).m ≡ turned_matrix f s.key.m
unfolding key_of carried block_times block_of undo
carried_key_matrix f s = refl

pub by_matrix : (f : Operator) (k : Column) (s : KeyOver) → (key_by f k s).m ≡ turned_matrix f s.key.m
unfolding key_of carried block_times block_of undo shifted_block
by_matrix f k s = ap (λ (b : Block). b.m) (carried_shift UNIT (neg_column k) (carried (map_of f) (block_of_key s)))

-- of keys with one matrix the translations decide
pub before_is_below : (p q : Key) → p.m ≡ q.m → ComesBefore p q → IsBelow (coordinates p.t) (coordinates q.t)
before_is_below p q e (inl l) = absurd (not_below_itself (entries p.m) (subst (λ m. IsBelow (entries m) (entries p.m)) (sym e) l))
before_is_below p q e (inr r) = r.1

-- ---- whole shifts below the sizes

below_number : (q : Sizes) (x y z : ℕ) → x < q.x → y < q.y → z < q.z → (i : ℕ) × (i < q.x * q.y * q.z) × (shift_number q i ≡ record { x = pos x; y = pos y; z = pos z })
below_number q x y z hx hy hz =
    let j = x * q.y + y in
    let i = j * q.z + z in
    let first : j < q.x * q.y = omega (arith, mul-add-lt x q.y y q.x hx hy) in
    let d : i / q.z ≡ j = div-mul-add j q.z z hz in (
      i,
      omega (arith, mul-add-lt j q.z z (q.x * q.y) first hz),
      λ t. record { x = pos ((ap (λ v. v / q.y) d ∙ div-mul-add x q.y y hy) t); y = pos ((ap (λ v. v % q.y) d ∙ mod-mul-add x q.y y hy) t); z = pos (mod-mul-add j q.z z hz t) },
    )

part_is : (n : ℕ) (a : ℤ) → IsPart n a → (k : ℕ) × (k < n) × (a ≡ pos k)
part_is n (pos k) p = (k, (let l = p.1 in omega (arith, ints)), refl)
part_is n (negsuc k) p = absurd (let l = p.0 in omega (arith, ints))

pub some_number : (q : Sizes) (k : Column) → AreBelow q.x q.y q.z k → (i : ℕ) × (i < q.x * q.y * q.z) × (shift_number q i ≡ k)
some_number q k b =
    let x = part_is q.x k.x b.first in
    let y = part_is q.y k.y b.second in
    let z = part_is q.z k.z b.third in
    let r = below_number q x.0 y.0 z.0 x.1 y.1 z.1 in
    (r.0, r.1, r.2 ∙ λ i. record { x = sym x.2 i; y = sym y.2 i; z = sym z.2 i })

-- each conjugate by an element of the operator is one of these
pub each_number : (f : Operator) (s base : KeyOver) (q : Sizes) (k : Column) → 0 < s.over → base.key ≡ carried_key f s → base.over ≡ s.over → AreEnoughFor q base.key.m s.over
    → (i : ℕ) × (i < q.x * q.y * q.z) × (key_by f k s ≡ moved_key base (shift_number q i))
each_number f s base q k some e o enough =
    let r = subst (AreEnoughFor q base.key.m) (sym o) enough k in
    (r.0, r.1, sym (moved_carried f s base k some e o) ∙ same_moved base k (shift_number q r.0) r.2 (subst (λ n. 0 < n) (sym o) some) r.3)

-- ---- the key

neg_twice : (k : Column) → neg_column (neg_column k) ≡ k
unfolding neg_column
neg_twice k = column_ring (coordinates k) (sym_neg (sym_neg (column_at 0))) (column_at 0) tt

module _ (members : List Operator) (g : IsGroup members) (s : KeyOver) (a : Block) (h : IsAverage members a) (e : key_of UNIT s.over a ≡ s.key) (o : s.over ≡ length members) (some : 0 < s.over) where
  abbrev L : SpaceGroup
  L = space_of members g

  number : a.n ≡ pos s.over
  number = means.number (averaged_list members g h.group h.is_group a h.mean) ∙ ap pos (sym o)

  -- conjugates of what is left are those of the average
  stands_for : (v : Map) → key_of UNIT s.over (carried v (block_of_key s)) ≡ key_of UNIT s.over (carried v a)
  stands_for v = carried_rest UNIT s.over (some_cell s.over some) v (block_of_key s) a (sym number) (left_once s s.over a some refl (sym e))

  pub key_is : (f : Operator) (k : Column) → IsElement UNIT members (map_of f) → key_by f k s ≡ key_of UNIT s.over (carried (shift_by UNIT (neg_column k)) (carried (map_of f) a))
  key_is f k m =
      carried_rest UNIT s.over (some_cell s.over some) (shift_by UNIT (neg_column k)) _ _ (carried-number (map_of f) (block_of_key s) ∙ sym number ∙ sym (carried-number (map_of f) a)) (stands_for (map_of f))

  pub found_key : (m : Matrix) (p : KeyOver) → IsCandidate members s m p → AreNotBefore members s p 0 (length members) → IsKey UNIT members (length members) a p.key
  found_key m p c n =
      let f = c.by in
      let i = member_map members g f c.member in
      let v = shift_by UNIT (neg_column c.shift) in
      let j = shift_in L (neg_column c.shift) in
      subst (λ k. IsKey UNIT members k a p.key) o
      (key_from_operators L s.over a p.key _ ((space L).mul_in v (map_of f) j i)
      (ap (key_of UNIT s.over) (carried-∘ L v (map_of f) a j i) ∙ sym (key_is f c.shift i) ∙ c.gives)
      (λ f k d m l.
      n d.0 f (neg_column k) (omega arith) d.1 (slice_get-get_or members d.0 f d.1 ∙ ap Some d.2)
      (subst (λ q. ComesBefore q p.key) (ap (λ w. key_of UNIT s.over (carried (shift_by UNIT w) (carried (map_of f) a))) (sym (neg_twice k)) ∙ sym (key_is f (neg_column k) m)) l)))

-- what an average leaves
pub left_of : (members : List Operator) (a : Block) (p : KeyOver) → IsAverage members a → p.key ≡ key_of UNIT p.over a → pos p.over ≡ a.n → IsLeftOf members p
left_of members a p h e n = record { average = a; is_average = h; key = sym e; over = n }

-- it is over the number of members
pub left_over : (members : List Operator) (g : IsGroup members) (s : KeyOver) (l : IsLeftOf members s) → s.over ≡ length members
left_over members g s l = same_count l.average.n s.over (length members) (sym l.over) (means.number (averaged_list members g l.is_average.group l.is_average.is_group l.average l.is_average.mean))
