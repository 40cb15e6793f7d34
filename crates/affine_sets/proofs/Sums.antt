-- The sum of a finite group of elements, by their number, over the number of members.
use Rattle.std.proofs.Common.{◌≡◌, ◌++◌, [], ◌∷◌, ◌≤◌, ◌+◌, ◌*◌, ◌^◌, ◌<◌, ◌/◌, ℕ, ℤ, pos, ◌+ℤ◌, ◌*ℤ◌, ◌<ℤ◌, unsigned_abs, List, length, ap, ap₂, sym, refl, subst, ◌∙◌, arith, le_trans, mul-le-mul, le_refl, T, ltb}
use Rattle.std.proofs.lemmas.Int.{ints, unsigned_abs-mul}
use Rattle.std.proofs.lemmas.Nat.{div-mul-add}
use Rattle.std.proofs.Math.Nat.{div-le_self}
use Rattle.std.specs.Int.{Width}
use mir.Val.{hbits}
use Rattle.lattice_algebra.proofs.Machine.{back, kept}
use Rattle.lattice_algebra.specs.Matrix.{Matrix, Column, ◌+ᵐ◌, ◌+ᶜ◌, scaled, times}
use Rattle.lattice_algebra.specs.Operator.{Operator, AreWithin, HasEntriesWithin}
use Rattle.lattice_algebra.specs.Map.{Map}
use Rattle.lattice_algebra.proofs.Numbers.{abs_add, one_more}
use Rattle.exact_ops.specs.declared.TheConstants.{UNIT, MAX_SHIFT}
use Rattle.group_closure.specs.declared.TheConstants.{MAX_OPERATORS}
use Rattle.group_closure.specs.GroupList.{IsGroup}
use Rattle.space_groups.specs.Averages.{Block, block_of, block_plus, block_scaled, no_block, sum_of, IsMean}
use Rattle.space_groups.proofs.Blocks.{block_plus_assoc, block_plus_comm, block_path, scaled_product}
use Rattle.space_groups.proofs.Divided.{divides}
use Rattle.space_groups.proofs.Means as means
use Rattle.space_groups.proofs.Means.{Averaged}
use Rattle.space_groups.proofs.Growing.{closed_sub}
use Rattle.space_groups.proofs.Rows.{some_members}
use Rattle.site_symmetry.proofs.SpaceOfGroup.{space_of}
use Rattle.affine_sets.specs.declared.TheConstants.{MAX_TRANSLATION}
use Rattle.affine_sets.specs.Averages.{IsSum, IsSpecialBlock}
use Rattle.affine_sets.specs.Conditions.{IsSumOfGroup}

-- ---- one element more

pub sum_push : (list : List Map) (e : Map) → sum_of (list ++ e ∷ []) ≡ block_plus (sum_of list) (block_of e)
sum_push [] e = block_plus_comm (block_of e) no_block
sum_push (g ∷ list) e = ap (block_plus (block_of g)) (sum_push list e) ∙ sym (block_plus_assoc (block_of g) (sum_of list) (block_of e))

entry_more : (n : ℕ) (a b : ℤ) → unsigned_abs a ≤ 2 * n → unsigned_abs b ≤ 2 → unsigned_abs (a +ℤ b) ≤ 2 * (n + 1)
entry_more n a b p q = omega (arith, abs_add a b)

row_more : (n : ℕ) (a b c x y z : ℤ) → AreWithin (2 * n) a b c → AreWithin 2 x y z → AreWithin (2 * (n + 1)) (a +ℤ x) (b +ℤ y) (c +ℤ z)
row_more n a b c x y z p q = record { first = entry_more n a x p.first q.first; second = entry_more n b y p.second q.second; third = entry_more n c z p.third q.third }

pub matrix_more : (n : ℕ) (a b : Matrix) → HasEntriesWithin (2 * n) a → HasEntriesWithin 2 b → HasEntriesWithin (2 * (n + 1)) (a +ᵐ b)
unfolding ◌+ᵐ◌
matrix_more n a b p q = record { x = row_more n _ _ _ _ _ _ p.x q.x; y = row_more n _ _ _ _ _ _ p.y q.y; z = row_more n _ _ _ _ _ _ p.z q.z }

number_within : (n k : ℕ) (a b : ℤ) → unsigned_abs a ≤ n * k → unsigned_abs b ≤ k → unsigned_abs (a +ℤ b) ≤ (n + 1) * k
number_within n k a b p q = omega (arith, abs_add a b)

pub column_more : (n k : ℕ) (a b : Column) → AreWithin (n * k) a.x a.y a.z → AreWithin k b.x b.y b.z → (let c = a +ᶜ b in AreWithin ((n + 1) * k) c.x c.y c.z)
unfolding ◌+ᶜ◌
column_more n k a b p q = record { first = number_within n k a.x b.x p.first q.first; second = number_within n k a.y b.y p.second q.second; third = number_within n k a.z b.z p.third q.third }

one_more_number : (x : ℤ) (n : ℕ) → x ≡ pos n → x +ℤ pos 1 ≡ pos (n + 1)
one_more_number x n e = omega (arith, ints)

not_all : (x : ℤ) (n : ℕ) → x ≡ pos n → x <ℤ pos MAX_OPERATORS → n + 1 ≤ MAX_OPERATORS
not_all x n e l = omega (arith, ints)

pub IsSum-more : (a : Block) (e : Map) → IsSum a → a.n <ℤ pos MAX_OPERATORS → HasEntriesWithin 2 e.w → AreWithin (UNIT * (MAX_SHIFT + 1)) e.s.x e.s.y e.s.z → IsSum (block_plus a (block_of e))
unfolding block_plus block_of
IsSum-more a e h l w s = record {
  count = h.count + 1;
  number = one_more_number a.n h.count h.number;
  within = not_all a.n h.count h.number l;
  matrix = matrix_more h.count a.m e.w h.matrix w;
  translation = column_more h.count (UNIT * (MAX_SHIFT + 1)) a.t e.s h.translation s;
}

-- the block that the code makes
pub added : (a : Block) (e : Map) (m w : Matrix) (t s : Column) (n : ℤ) → m ≡ a.m +ᵐ w → w ≡ e.w → t ≡ a.t +ᶜ s → s ≡ e.s → n ≡ a.n +ℤ pos 1 → record { m = m; t = t; n = n } ≡ block_plus a (block_of e)
unfolding block_plus block_of
added a e m w t s n p q u v k = block_path _ _ (p ∙ ap (λ x. a.m +ᵐ x) q) (u ∙ ap (λ x. a.t +ᶜ x) v) k

-- ---- sizes of multiples

multiple_within : (q k c : ℕ) (a : ℤ) → unsigned_abs a ≤ c * k → unsigned_abs (pos q *ℤ a) ≤ q * c * k
multiple_within q k c a p = let e : unsigned_abs (pos q *ℤ a) ≡ q * unsigned_abs a = unsigned_abs-mul (pos q) a in let l : q * unsigned_abs a ≤ q * (c * k) = mul-le-mul (le_refl q) p in omega (arith, e, l)

pub column_multiple : (q k c n : ℕ) (t : Column) → n ≡ q * c → AreWithin (c * k) t.x t.y t.z → (let r = times (pos q) t in AreWithin (n * k) r.x r.y r.z)
unfolding times
column_multiple q k c n t e p =
    let at : (a : ℤ) → unsigned_abs a ≤ c * k → unsigned_abs (pos q *ℤ a) ≤ n * k = λ a l. subst (λ v. unsigned_abs (pos q *ℤ a) ≤ v * k) (sym e) (multiple_within q k c a l) in
    record { first = at t.x p.first; second = at t.y p.second; third = at t.z p.third }

entry_multiple : (q c n : ℕ) (a : ℤ) → n ≡ q * c → unsigned_abs a ≤ 2 * c → unsigned_abs (pos q *ℤ a) ≤ 2 * n
entry_multiple q c n a e p = let l = multiple_within q 2 c a (omega (arith, p)) in omega (arith, e, l)

row_multiple : (q c n : ℕ) (x y z : ℤ) → n ≡ q * c → AreWithin (2 * c) x y z → AreWithin (2 * n) (pos q *ℤ x) (pos q *ℤ y) (pos q *ℤ z)
row_multiple q c n x y z e p = record { first = entry_multiple q c n x e p.first; second = entry_multiple q c n y e p.second; third = entry_multiple q c n z e p.third }

pub matrix_multiple : (q c n : ℕ) (m : Matrix) → n ≡ q * c → HasEntriesWithin (2 * c) m → HasEntriesWithin (2 * n) (scaled (pos q) m)
unfolding scaled
matrix_multiple q c n m e p = record { x = row_multiple q c n _ _ _ e p.x; y = row_multiple q c n _ _ _ e p.y; z = row_multiple q c n _ _ _ e p.z }

-- ---- the average

pub same_count : (x : ℤ) (m n : ℕ) → x ≡ pos m → x ≡ pos n → m ≡ n
same_count x m n e f = let g : pos m ≡ pos n = sym e ∙ f in omega (arith, ints)

-- the same with another name of its number
abbrev pub recounted : (a : Block) → IsSum a → (k : ℕ) → a.n ≡ pos k → IsSum a
recounted a s k e =
    let p : s.count ≡ k = same_count a.n s.count k s.number e in
    record {
      count = k;
      number = e;
      within = subst (λ n. n ≤ MAX_OPERATORS) p s.within;
      matrix = subst (λ n. HasEntriesWithin (2 * n) a.m) p s.matrix;
      translation = subst (λ n. AreWithin (n * (UNIT * (MAX_SHIFT + 1))) a.t.x a.t.y a.t.z) p s.translation;
    }

number_before : (g : Map) (b : Block) → (block_plus (block_of g) b).n ≡ pos 1 +ℤ b.n
unfolding block_plus block_of
number_before g b = refl

pub number_of_sum : (list : List Map) → (sum_of list).n ≡ pos (length list)
number_of_sum [] = refl
number_of_sum (g ∷ list) = number_before g (sum_of list) ∙ ap (λ k. pos 1 +ℤ k) (number_of_sum list) ∙ one_more (length list)

pub record IsAveraged (members : List Operator) (a b : Block) : Type 0 where
  pub special : IsSpecialBlock b
  pub value : block_scaled a.n b ≡ block_scaled (pos (length members)) a
  pub over : b.n ≡ pos (length members)

-- the quotient that the code makes, as it is passed on
pub quotient_kept : (w : Width) (x : ℤ) (k n c : ℕ) → x ≡ pos (k / c) → k ≡ n → n ≤ MAX_OPERATORS → T (ltb MAX_OPERATORS (2 ^ hbits w)) → back w x ≡ pos (n / c)
quotient_kept w x k n c e f l t = ap (back w) (e ∙ ap (λ v. pos (v / c)) f) ∙ kept w MAX_OPERATORS (pos (n / c)) (le_trans (div-le_self n c) l) t

pub quotient_within : (w : Width) (x : ℤ) (k n c : ℕ) → x ≡ pos (k / c) → k ≡ n → n ≤ MAX_OPERATORS → T (ltb MAX_OPERATORS (2 ^ hbits w)) → unsigned_abs (back w x) ≤ 2304
quotient_within w x k n c e f l t = let q : n / c ≤ MAX_OPERATORS = le_trans (div-le_self n c) l in rw (quotient_kept w x k n c e f l t) (omega (arith, q))

length_of_group : (a : Block) (list : List Map) (count : ℕ) → sum_of list ≡ a → a.n ≡ pos count → length list ≡ count
length_of_group a list count e q = let n : pos (length list) ≡ pos count = sym (number_of_sum list) ∙ ap (λ (b : Block). b.n) e ∙ q in omega (arith, ints)

pub some_elements : (members : List Operator) → IsGroup members → (a : Block) (s : IsSum a) → IsSumOfGroup members a → 0 < s.count
some_elements members g a s h =
    let closed = closed_sub (space_of members g) h.group h.is_group in
    omega (arith, closed.has_one.1, length_of_group a h.group s.count h.sum s.number)

small_total : (n : ℕ) (t : Column) → n ≤ MAX_OPERATORS → AreWithin (n * (UNIT * (MAX_SHIFT + 1))) t.x t.y t.z → AreWithin MAX_TRANSLATION t.x t.y t.z
small_total n t l p =
    let x = p.first in
    let y = p.second in
    let z = p.third in
    record { first = omega (arith, x); second = omega (arith, y); third = omega (arith, z) }

swapped : (a b : Block) (q n c : ℕ) → n ≡ q * c → a.n ≡ pos c → b.m ≡ scaled (pos q) a.m → b.t ≡ times (pos q) a.t → b.n ≡ pos n → b ≡ block_scaled (pos q) a
unfolding block_scaled
swapped a b q n c e number m t over = block_path b (block_scaled (pos q) a) m t (over ∙ ap pos e ∙ sym (ap (λ k. pos q *ℤ k) number))

pub averaged : (members : List Operator) → IsGroup members → (a b : Block) (s : IsSum a) → IsSumOfGroup members a → b.m ≡ scaled (pos (length members / s.count)) a.m → b.t ≡ times (pos (length members / s.count)) a.t → b.n ≡ pos (length members)
    → IsAveraged members a b
averaged members g a b s h m t over =
    let L = space_of members g in
    let group = h.group in
    let closed = closed_sub L group h.is_group in
    let long : length group ≡ s.count = length_of_group a group s.count h.sum s.number in
    let d = divides L group closed in
    let n : length members ≡ d.0 * s.count = d.1 ∙ ap (λ k. d.0 * k) long in
    let some : 0 < s.count = omega (arith, closed.has_one.1, long) in
    let q : length members / s.count ≡ d.0 = ap (λ k. k / s.count) n ∙ whole_quotient d.0 s.count some in
    let m' : b.m ≡ scaled (pos d.0) a.m = m ∙ ap (λ k. scaled (pos k) a.m) q in
    let t' : b.t ≡ times (pos d.0) a.t = t ∙ ap (λ k. times (pos k) a.t) q in
    let is : b ≡ block_scaled (pos d.0) a = swapped a b d.0 (length members) s.count n s.number m' t' over in
    let value : block_scaled a.n b ≡ block_scaled (pos (length members)) a = ap₂ block_scaled s.number is ∙ scaled_scaled s.count d.0 (length members) a n in
    let mean : IsMean (length members) group b = ap (λ k. block_scaled (pos k) b) long ∙ ap (λ k. block_scaled k b) (sym s.number) ∙ value ∙ ap (block_scaled (pos (length members))) (sym h.sum) in
    let v : Averaged L (length members) = record { some = some_members L; list = group; closed = closed; average = b; is_mean = mean } in
    record {
      special = record {
        over = length members;
        number = over;
        some = some_members L;
        within = g.within;
        matrix = subst (HasEntriesWithin (2 * length members)) (sym m') (matrix_multiple d.0 s.count (length members) a.m n s.matrix);
        translation = subst (λ (c : Column). AreWithin MAX_TRANSLATION c.x c.y c.z) (sym t') (small_total (length members) (times (pos d.0) a.t) g.within (column_multiple d.0 (UNIT * (MAX_SHIFT + 1)) s.count (length members) a.t n s.translation));
        idempotent = means.idempotent_itself v;
      };
      value = value;
      over = over;
    }
  where
    whole_quotient : (d c : ℕ) → 0 < c → (d * c) / c ≡ d
    whole_quotient d c h = ap (λ k. k / c) (let e : d * c ≡ d * c + 0 = omega arith in e) ∙ div-mul-add d c 0 h

    scaled_scaled : (c d n : ℕ) (a : Block) → n ≡ d * c → block_scaled (pos c) (block_scaled (pos d) a) ≡ block_scaled (pos n) a
    scaled_scaled c d n a e = scaled_product (pos c) (pos d) a ∙ ap (λ k. block_scaled k a) (let f : c * d ≡ n = omega (arith, e) in ap pos f)
