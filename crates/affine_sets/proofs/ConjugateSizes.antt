-- How large the matrix of a conjugate average is.
use Rattle.std.proofs.Common.{◌≡◌, [], ◌∷◌, ◌≤◌, ◌<◌, ◌*◌, ℕ, suc, ℤ, pos, ◌+ℤ◌, ◌*ℤ◌, unsigned_abs, List, length, map, Contains, All, ap, sym, subst, arith}
use Rattle.std.proofs.lemmas.List.Elements.{All-head, All-tail, All-contains}
use Rattle.lattice_algebra.specs.Matrix.{Matrix, ◌+ᵐ◌, scaled}
use Rattle.lattice_algebra.specs.Operator.{Operator, AreWithin, HasEntriesWithin}
use Rattle.lattice_algebra.specs.Map.{Map, map_of, undo}
use Rattle.lattice_algebra.proofs.Maps.{operator_of-map}
use Rattle.lattice_algebra.proofs.Numbers.{abs_add}
use Rattle.exact_ops.specs.declared.TheConstants.{UNIT}
use Rattle.exact_ops.specs.Narrow.{IsNarrow}
use Rattle.exact_ops.proofs.Narrow.{some_parts}
use Rattle.group_closure.specs.GroupList.{IsGroup}
use Rattle.space_groups.specs.Space.{IsElement}
use Rattle.space_groups.specs.Averages.{Block, block_of, block_plus, block_scaled, block_times, sum_of, IsMean}
use Rattle.space_groups.specs.Keys.{carried}
use Rattle.space_groups.specs.Search.{IsSub}
use Rattle.space_groups.proofs.CarriedLists.{turned, carried_mean, turned_closed}
use Rattle.space_groups.proofs.Growing.{closed_sub, sub_closed}
use Rattle.site_symmetry.proofs.SpaceOfGroup.{space_of}
use Rattle.affine_sets.specs.Conditions.{IsAverage}
use Rattle.affine_sets.specs.Conjugates.{turned_matrix}
use Rattle.affine_sets.proofs.Groups.{narrow_element}
use Rattle.affine_sets.proofs.LeftAlone.{number_size}

abbrev narrow : Map → Type 0
narrow e = HasEntriesWithin 2 e.w

-- ---- sums and averages of narrow matrices

entry_more : (n : ℕ) (a b : ℤ) → unsigned_abs a ≤ 2 → unsigned_abs b ≤ n * 2 → unsigned_abs (a +ℤ b) ≤ suc n * 2
entry_more n a b p q = omega (arith, abs_add a b)

row_more : (n : ℕ) (a b c x y z : ℤ) → AreWithin 2 a b c → AreWithin (n * 2) x y z → AreWithin (suc n * 2) (a +ℤ x) (b +ℤ y) (c +ℤ z)
row_more n a b c x y z p q = record { first = entry_more n a x p.first q.first; second = entry_more n b y p.second q.second; third = entry_more n c z p.third q.third }

plus_within : (n : ℕ) (e : Map) (b : Block) → narrow e → HasEntriesWithin (n * 2) b.m → HasEntriesWithin (suc n * 2) (block_plus (block_of e) b).m
unfolding block_plus block_of ◌+ᵐ◌
plus_within n e b p q = record { x = row_more n _ _ _ _ _ _ p.x q.x; y = row_more n _ _ _ _ _ _ p.y q.y; z = row_more n _ _ _ _ _ _ p.z q.z }

none_within : AreWithin 0 (pos 0) (pos 0) (pos 0)
none_within = record { first = omega arith; second = omega arith; third = omega arith }

sum_within : (list : List Map) → All narrow list → HasEntriesWithin (length list * 2) (sum_of list).m
sum_within [] h = record { x = none_within; y = none_within; z = none_within }
sum_within (e ∷ list) h = plus_within (length list) e (sum_of list) (All-head narrow e list h) (sum_within list (All-tail narrow e list h))

mean_rows : (l n : ℕ) (a b : Matrix) → 0 < l → scaled (pos l) a ≡ scaled (pos n) b → HasEntriesWithin (l * 2) b → HasEntriesWithin (n * 2) a
unfolding scaled
mean_rows l n a b some e h =
    let at : (x y : ℤ) → pos l *ℤ x ≡ pos n *ℤ y → unsigned_abs y ≤ l * 2 → unsigned_abs x ≤ n * 2 = λ x y q k. number_size l n 2 x y some q k in
    record {
      x = record { first = at _ _ (ap (λ (m : Matrix). m.xx) e) h.x.first; second = at _ _ (ap (λ (m : Matrix). m.xy) e) h.x.second; third = at _ _ (ap (λ (m : Matrix). m.xz) e) h.x.third };
      y = record { first = at _ _ (ap (λ (m : Matrix). m.yx) e) h.y.first; second = at _ _ (ap (λ (m : Matrix). m.yy) e) h.y.second; third = at _ _ (ap (λ (m : Matrix). m.yz) e) h.y.third };
      z = record { first = at _ _ (ap (λ (m : Matrix). m.zx) e) h.z.first; second = at _ _ (ap (λ (m : Matrix). m.zy) e) h.z.second; third = at _ _ (ap (λ (m : Matrix). m.zz) e) h.z.third };
    }

mean_matrix : (k : ℕ) (n : ℕ) (a b : Block) → block_scaled (pos k) a ≡ block_scaled (pos n) b → scaled (pos k) a.m ≡ scaled (pos n) b.m
unfolding block_scaled
mean_matrix k n a b e = ap (λ (v : Block). v.m) e

pub sub_within : (members : List Operator) (g : IsGroup members) (list : List Map) (a : Block) → IsSub UNIT members list → IsMean (length members) list a → HasEntriesWithin (2 * length members) a.m
sub_within members g list a s mean =
    let some : 0 < length list = let c = s.identity in omega (arith, c.1) in
    subst (λ n. HasEntriesWithin n a.m) (let e : length members * 2 ≡ 2 * length members = omega arith in e)
    (mean_rows (length list) (length members) a.m (sum_of list).m some (mean_matrix (length list) (length members) a (sum_of list) mean) (sum_within list (λ k d l. narrow_element members g _ (s.elements k d l))))

-- ---- the conjugate

carried_matrix : (f : Operator) (a : Block) → (carried (map_of f) a).m ≡ turned_matrix f a.m
unfolding carried block_times block_of undo
carried_matrix f a = λ _. turned_matrix f a.m

pub member_map : (members : List Operator) (g : IsGroup members) (f : Operator) → Contains members f → IsElement UNIT members (map_of f)
member_map members g f c = subst (Contains members) (sym (operator_of-map UNIT some_parts f (All-contains IsNarrow members f g.narrow c).is_operator)) c

pub turned_within : (members : List Operator) (g : IsGroup members) (a : Block) → IsAverage members a → (f : Operator) → Contains members f → HasEntriesWithin (2 * length members) (turned_matrix f a.m)
turned_within members g a h f c =
    let L = space_of members g in
    let m = member_map members g f c in
    let list = map (turned (map_of f)) h.group in
    subst (HasEntriesWithin (2 * length members)) (carried_matrix f a)
    (sub_within members g list (carried (map_of f) a) (sub_closed L list (turned_closed L (map_of f) h.group m (closed_sub L h.group h.is_group))) (carried_mean (map_of f) (length members) h.group a h.mean))
