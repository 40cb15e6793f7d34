-- The greatest row of a class, member by member.
use Rattle.std.proofs.Common.{T, true, ◌≡◌, ℕ, ◌*◌, ◌<◌, ◌≤◌, ◌⊎◌, List, [], ◌∷◌, length, take, get_or, slice_get, Some, inl, inr, ⊎_elim, ap, sym, ◌∙◌, subst, refl, arith, ℤ, pos, negsuc, ◌<ℤ◌, ◌-ℤ◌, neg_ℤ, unsigned_abs, w32, FitsSigned, Contains, length-take, Less}
use Rattle.std.specs.Ordering.{int_cmp, ord_max}
use Rattle.std.specs.Cmp.Lexicographic.{slice_cmp}
use Rattle.std.proofs.lemmas.Int.{ints, to_z-of_z}
use Rattle.std.specs.Int.Signed.{lt_z, lt_z_yes}
use Rattle.std.proofs.lemmas.List.{take_all, get_or-take}
use Rattle.std.proofs.lemmas.Option.{get_or_from_slice_get, slice_get_within}
use Rattle.lattice_algebra.specs.Matrix.{Matrix, identity, scaled, sum_of_products}
use Rattle.lattice_algebra.specs.Operator.{Operator, AreWithin, HasEntriesWithin}
use Rattle.lattice_algebra.proofs.Machine.{back, kept, value-size}
use Rattle.lattice_algebra.proofs.Numbers.{abs_neg}
use Rattle.lattice_algebra.proofs.Ring.{var, ◌⊕◌, ◌⊗◌}
use Rattle.group_closure.specs.GroupList.{IsGroup}
use Rattle.group_closure.proofs.Places.{EndsRun, same_matrix}
use Rattle.phase_rules.specs.declared.TheConstants.{MAX_INDEX}
use Rattle.phase_rules.specs.declared.pairs.Pairs.{Pairs}
use Rattle.phase_rules.specs.declared.pairs.Pairs.TheVariants.{Friedel, Apart}
use Rattle.phase_rules.specs.Rows.{Row, row_of, ◌·ʳ◌, neg_row}
use Rattle.phase_rules.specs.Equivalent.{IsSameReflection, AreEquivalent}
use Rattle.phase_rules.specs.Halves.{HaveOpposites}
use Rattle.phase_rules.proofs.Opposites.{earlier_or_later, front_member}
use Rattle.phase_rules.proofs.BothPairs.{as_friedel, by_either, by_front}
use Rattle.refl_merge.specs.Keys.{numbers_of, IsAbove, IsClassKey}
use Rattle.refl_merge.specs.Steps.{IsGreatestImage, IsKeyWith}
use Rattle.refl_merge.proofs.Order.{three_numbers, max_is, above_on, above_by_first, which_above, not_above_itself, not_both_above}

-- ---- one image

-- no image of an index is out of range
pub image_size : (r : Row) (m : Matrix) → AreWithin MAX_INDEX r.h r.k r.l → HasEntriesWithin 2 m → AreWithin (6 * MAX_INDEX) (r ·ʳ m).h (r ·ʳ m).k (r ·ʳ m).l
unfolding ◌·ʳ◌
image_size r m w e = record {
  first = col m.xx m.yx m.zx e.x.first e.y.first e.z.first;
  second = col m.xy m.yy m.zy e.x.second e.y.second e.z.second;
  third = col m.xz m.yz m.zz e.x.third e.y.third e.z.third;
}
  where
    col : (x y z : ℤ) → unsigned_abs x ≤ 2 → unsigned_abs y ≤ 2 → unsigned_abs z ≤ 2 → unsigned_abs (sum_of_products r.h r.k r.l x y z) ≤ 6 * MAX_INDEX
    col x y z p q s = value-size (MAX_INDEX ∷ MAX_INDEX ∷ MAX_INDEX ∷ 2 ∷ 2 ∷ 2 ∷ []) (r.h ∷ r.k ∷ r.l ∷ x ∷ y ∷ z ∷ []) (var 0 ⊗ var 3 ⊕ var 1 ⊗ var 4 ⊕ var 2 ⊗ var 5) (w.first, (w.second, (w.third, (p, (q, (s, tt))))))

negated : (x : ℤ) → unsigned_abs x ≤ 6 * MAX_INDEX → back w32 (pos 0 -ℤ back w32 x) ≡ neg_ℤ x
negated x l =
    let e : pos 0 -ℤ back w32 x ≡ neg_ℤ x = ap (λ v. pos 0 -ℤ v) (kept w32 (6 * MAX_INDEX) x l tt) ∙ below_zero x in
    ap (back w32) e ∙ kept w32 (6 * MAX_INDEX) (neg_ℤ x) (rw (abs_neg x) l) tt
  where
    below_zero : (x : ℤ) → pos 0 -ℤ x ≡ neg_ℤ x
    below_zero x = omega (arith, ints)

pub opposite_computed : (r : Row) → AreWithin (6 * MAX_INDEX) r.h r.k r.l → row_of (back w32 (pos 0 -ℤ back w32 r.h) ∷ back w32 (pos 0 -ℤ back w32 r.k) ∷ back w32 (pos 0 -ℤ back w32 r.l) ∷ []) ≡ neg_row r
unfolding neg_row
opposite_computed r w = λ i. record { h = negated r.h w.first i; k = negated r.k w.second i; l = negated r.l w.third i }

pub image_alone : (e r : Row) → r ≡ e → IsGreatestImage Apart e r
image_alone e r p = record { same = p; greatest = λ g q a. not_above_itself g r (q ∙ sym p) a }

-- the greater of two rows, as lists
pub record IsGreaterRow (a b r : Row) : Type 0 where
  pub one : (r ≡ a) ⊎ (r ≡ b)
  pub not_first : IsAbove a r → ⊥
  pub not_second : IsAbove b r → ⊥

pub greater_row : (a b r : List ℤ) → length a ≡ 3 → length b ≡ 3 → r ≡ ord_max (slice_cmp int_cmp) a b → IsGreaterRow (row_of a) (row_of b) (row_of r)
greater_row a b r la lb e =
    let g = max_is a b r e in
    let lr : length r ≡ 3 = ⊎_elim (λ q. ap length q ∙ la) (λ q. ap length q ∙ lb) g.one in
    record {
      one = ⊎_elim (λ q. inl (ap row_of q)) (λ q. inr (ap row_of q)) g.one;
      not_first = λ p. g.not_first (subst (λ v. slice_cmp int_cmp v a ≡ Less) (three_numbers r lr) (subst (λ v. slice_cmp int_cmp (numbers_of (row_of r)) v ≡ Less) (three_numbers a la) p));
      not_second = λ p. g.not_second (subst (λ v. slice_cmp int_cmp v b ≡ Less) (three_numbers r lr) (subst (λ v. slice_cmp int_cmp (numbers_of (row_of r)) v ≡ Less) (three_numbers b lb) p));
    }

pub image_with_opposite : (e o r : Row) → o ≡ neg_row e → IsGreaterRow e o r → IsGreatestImage Friedel e r
image_with_opposite e o r p g = record {
  same = ⊎_elim (λ q. inl q) (λ q. inr (q ∙ p)) g.one;
  greatest = λ h s a. ⊎_elim (λ q. g.not_first (subst (λ v. IsAbove v r) q a)) (λ q. g.not_second (subst (λ v. IsAbove v r) (q ∙ sym p) a)) s;
}

-- ---- a key and one image more

lower : (x low r : Row) → (IsAbove x low → ⊥) → (IsAbove low r → ⊥) → IsAbove x r → ⊥
lower x low r p q a =
    ⊎_elim
    p
    (λ b. ⊎_elim (λ (e : x ≡ low). q (subst (λ v. IsAbove v r) e a)) (λ c. q (above_on low x r c a)) b)
    (which_above x low)

pub key_with_image : (pairs : Pairs) (e key image r : Row) → IsGreatestImage pairs e image → IsGreaterRow key image r → IsKeyWith pairs e key r
key_with_image pairs e key image r g s = record {
  one = ⊎_elim (λ q. inl q) (λ q. inr (subst (IsSameReflection pairs e) (sym q) g.same)) s.one;
  not_key = s.not_first;
  greatest = λ x same a. lower x image r (g.greatest x same) s.not_second a;
}

negated_first : (e : Row) → (neg_row e).h ≡ neg_ℤ e.h
unfolding neg_row
negated_first e = refl

pub first_back : (x y : ℤ) → x ≡ y → unsigned_abs y ≤ 6 * MAX_INDEX → back w32 x ≡ y
first_back x y e l = ap (back w32) e ∙ kept w32 (6 * MAX_INDEX) y l tt

pub first_fits : (x y : ℤ) → x ≡ y → unsigned_abs y ≤ 6 * MAX_INDEX → FitsSigned w32 (neg_ℤ (back w32 x))
first_fits x y e l = subst (λ n. FitsSigned w32 (neg_ℤ n)) (sym (first_back x y e l)) (small y l)
  where
    small : (y : ℤ) → unsigned_abs y ≤ 6 * MAX_INDEX → FitsSigned w32 (neg_ℤ y)
    small y l = omega (arith, ints, l)

pub less_read : (x y : ℤ) → FitsSigned w32 x → FitsSigned w32 y → lt_z (back w32 x) (back w32 y) ≡ true → x <ℤ y
less_read x y f g e = subst (λ n. n <ℤ y) (to_z-of_z w32 x f) (subst (λ n. back w32 x <ℤ n) (to_z-of_z w32 y g) (lt_z_yes (subst T (sym e) tt)))

-- an image whose first number is less in size than that of the key leaves the key
pub key_kept : (pairs : Pairs) (e key : Row) → pos (unsigned_abs e.h) <ℤ key.h → IsKeyWith pairs e key key
key_kept pairs e key l = record {
  one = inl refl;
  not_key = not_above_itself key key refl;
  greatest = λ g s. not_both_above key g (above_by_first key g (first_less g (as_friedel pairs e g s)));
}
  where
    first_less : (g : Row) → IsSameReflection Friedel e g → g.h <ℤ key.h
    first_less g s =
        ⊎_elim
        (λ q. let h : g.h ≡ e.h = ap (λ (r : Row). r.h) q in omega (arith, ints))
        (λ q. let h : g.h ≡ neg_ℤ e.h = ap (λ (r : Row). r.h) q ∙ negated_first e in omega (arith, ints))
        s

-- ---- member by member

front_more : (members : List Operator) (i end : ℕ) (f : Operator) → i ≤ end → Contains (take i members) f → Contains (take end members) f
front_more members i end f l c =
    let k : c.0 < i = omega (arith, c.1, length-take i members) in
    (c.0, omega (arith, c.1, length-take i members, length-take end members), get_or-take end members c.0 f (omega arith) ∙ sym (get_or-take i members c.0 f k) ∙ c.2)

front_at : (members : List Operator) (i end : ℕ) (f : Operator) → i < end → slice_get members i ≡ Some f → Contains (take end members) f
front_at members i end f l e = (i, omega (arith, slice_get_within members i f e, length-take end members), get_or-take end members i f l ∙ get_or_from_slice_get members i f f e)

module _ (pairs : Pairs) (members : List Operator) (h : Row) where
  pub key_first : (f : Operator) (key : Row) → slice_get members 0 ≡ Some f → IsGreatestImage pairs (h ·ʳ f.w) key → IsClassKey pairs (take 1 members) h key
  key_first f key e g = record {
    equivalent = record { by = f; member = front_at members 0 1 f (omega arith) e; same = g.same };
    greatest = λ k a. g.greatest k (subst (λ (x : Operator). IsSameReflection pairs (h ·ʳ x.w) k) (first_is a.by a.member) a.same);
  }
    where
      first_is : (x : Operator) → Contains (take 1 members) x → x ≡ f
      first_is x c =
          let z : c.0 ≡ 0 = omega (arith, c.1, length-take 1 members) in
          sym c.2 ∙ get_or-take 1 members c.0 x (omega arith) ∙ ap (λ n. get_or members n x) z ∙ get_or_from_slice_get members 0 f x e

  pub key_more : (i end : ℕ) (f : Operator) (key r : Row) → i < end → slice_get members i ≡ Some f → EndsRun members i end → IsClassKey pairs (take i members) h key → IsKeyWith pairs (h ·ʳ f.w) key r → IsClassKey pairs (take end members) h r
  key_more i end f key r l e ends k s = record {
    equivalent =
        ⊎_elim
        (λ q. subst (AreEquivalent pairs (take end members) h) (sym q) (record { by = k.equivalent.by; member = front_more members i end k.equivalent.by (omega arith) k.equivalent.member; same = k.equivalent.same }))
        (λ q. record { by = f; member = front_at members i end f l e; same = q })
        s.one;
    greatest = λ x a p.
        ⊎_elim
        (λ c. lower x key r (λ q. k.greatest x (record { by = a.by; member = c; same = a.same }) q) s.not_key p)
        (λ c.
        let same : a.by.w ≡ f.w = same_matrix members i end c.0 f a.by ends e c.3 c.1 c.2 in
        s.greatest x (subst (λ m. IsSameReflection pairs (h ·ʳ m) x) same a.same) p)
        (earlier_or_later members i end a.by a.member);
  }

  pub key_all : (i : ℕ) (key : Row) → length members ≤ i → IsClassKey pairs (take i members) h key → IsClassKey pairs members h key
  key_all i key l k = subst (λ xs. IsClassKey pairs xs h key) (take_all i members l) k

-- ---- with the first members, where each later one has the opposite matrix of one of these, and j has the matrix -1

module _ (members : List Operator) (h : Row) (group : IsGroup members) (j : Operator) (member : Contains members j) (inverts : j.w ≡ scaled (negsuc 0) identity) where
  pub key_by_half : (pairs : Pairs) (i : ℕ) (key : Row) → HaveOpposites members i → IsClassKey Friedel (take i members) h key → IsClassKey pairs members h key
  key_by_half pairs i key opposites k = record {
    equivalent = by_either members h group j member inverts pairs key (record { by = k.equivalent.by; member = front_member members i k.equivalent.by k.equivalent.member; same = k.equivalent.same });
    greatest = λ g a. k.greatest g (by_front members h group j member inverts pairs i g opposites a);
  }
