-- The class of an index: equivalence is an equivalence relation, and the size of a class is a quotient.
use Rattle.std.proofs.Common.{◌≡◌, ◌≢◌, ℕ, ◌+◌, ◌*◌, ◌/◌, ◌<◌, Bool, cond, List, ◌++◌, map, length, get_or, refl, sym, ap, ◌∙◌, subst, arith, inl, inr, ⊎_elim, Contains, AllPairs, All, sum_by, count_by}
use Rattle.std.proofs.lemmas.List.Elements.{Contains-get_or, Contains-append_left, Contains-append_right, Contains-append_cases}
use Rattle.std.proofs.lemmas.Bool.Decides.{same_from_decides}
use Rattle.std.proofs.lemmas.Map.Made.{IsDistinct-from_AllPairs, AllPairs-from_IsDistinct}
use Rattle.finite_groups.proofs.Members as lists
use Rattle.finite_groups.proofs.Permuted as permuted
use Rattle.finite_groups.proofs.Actions as actions
use Rattle.finite_groups.proofs.Counts.{sum_by-add, sum_by-exchange, sum_by-all, length-classes}
use Rattle.lattice_algebra.specs.Matrix.{identity, ◌·◌}
use Rattle.lattice_algebra.specs.Operator.{Operator, product, inverse, identity_operator}
use Rattle.exact_ops.specs.declared.TheConstants.{UNIT}
use Rattle.group_closure.specs.GroupList.{IsGroup}
use Rattle.group_closure.proofs.CellOperators.{cell_operators}
use Rattle.group_closure.proofs.Lists.{closed_list}
use Rattle.group_closure.proofs.Places.{contains_at, product_member, inverse_member, inverse_is}
use Rattle.phase_rules.specs.declared.pairs.Pairs.{Pairs}
use Rattle.phase_rules.specs.declared.pairs.Pairs.TheVariants.{Friedel, Apart}
use Rattle.phase_rules.specs.Rows.{Row, ◌·ʳ◌, neg_row, row_eq}
use Rattle.phase_rules.specs.Equivalent.{IsSameReflection, AreEquivalent, IsClass, fixes, reverses}
use Rattle.phase_rules.proofs.Rows.{·ʳ_assoc, ·ʳ-identity, neg_row-·ʳ, neg_row-neg_row, row_eq-is}

-- ---- one reflection: an equivalence, kept by each matrix

same_itself : (pairs : Pairs) (e : Row) → IsSameReflection pairs e e
same_itself Apart e = refl
same_itself Friedel e = inl refl

same_back : (pairs : Pairs) (e g : Row) → IsSameReflection pairs e g → IsSameReflection pairs g e
same_back Apart e g p = sym p
same_back Friedel e g (inl p) = inl (sym p)
same_back Friedel e g (inr p) = inr (sym (neg_row-neg_row e) ∙ ap neg_row (sym p))

same_on : (pairs : Pairs) (e f g : Row) → IsSameReflection pairs e f → IsSameReflection pairs f g → IsSameReflection pairs e g
same_on Apart e f g p q = q ∙ p
same_on Friedel e f g (inl p) (inl q) = inl (q ∙ p)
same_on Friedel e f g (inl p) (inr q) = inr (q ∙ ap neg_row p)
same_on Friedel e f g (inr p) (inl q) = inr (q ∙ p)
same_on Friedel e f g (inr p) (inr q) = inl (q ∙ ap neg_row p ∙ neg_row-neg_row e)

same_turned : (pairs : Pairs) (e g : Row) (f : Operator) → IsSameReflection pairs e g → IsSameReflection pairs (e ·ʳ f.w) (g ·ʳ f.w)
same_turned Apart e g f p = ap (λ v. v ·ʳ f.w) p
same_turned Friedel e g f (inl p) = inl (ap (λ v. v ·ʳ f.w) p)
same_turned Friedel e g f (inr p) = inr (ap (λ v. v ·ʳ f.w) p ∙ neg_row-·ʳ e f.w)

-- ---- equivalence

product_w : (f g : Operator) → (product UNIT f g).w ≡ f.w · g.w
unfolding product
product_w f g = refl

pub times_product : (h : Row) (f g : Operator) → h ·ʳ (product UNIT f g).w ≡ (h ·ʳ f.w) ·ʳ g.w
times_product h f g = ap (λ m. h ·ʳ m) (product_w f g) ∙ sym (·ʳ_assoc h f.w g.w)

module _ (pairs : Pairs) (members : List Operator) (group : IsGroup members) where
  pub has_identity : Contains members identity_operator
  has_identity = contains_at members identity_operator 0 group.first

  pub undone : (h : Row) (f : Operator) → Contains members f → (h ·ʳ f.w) ·ʳ (inverse UNIT f).w ≡ h
  undone h f m = ·ʳ_assoc h f.w (inverse UNIT f).w ∙ ap (λ m. h ·ʳ m) (inverse_is members f group m).right ∙ ·ʳ-identity h

  pub equivalent_itself : (h : Row) → AreEquivalent pairs members h h
  equivalent_itself h = record {
    by = identity_operator;
    member = has_identity;
    same = subst (λ e. IsSameReflection pairs e h) (sym (·ʳ-identity h)) (same_itself pairs h);
  }

  pub equivalent_back : (h g : Row) → AreEquivalent pairs members h g → AreEquivalent pairs members g h
  equivalent_back h g a =
      let i = inverse UNIT a.by in
      record {
        by = i;
        member = inverse_member members a.by group a.member;
        same = same_back pairs h (g ·ʳ i.w) (subst (λ e. IsSameReflection pairs e (g ·ʳ i.w)) (undone h a.by a.member) (same_turned pairs (h ·ʳ a.by.w) g i a.same));
      }

  pub equivalent_on : (h g k : Row) → AreEquivalent pairs members h g → AreEquivalent pairs members g k → AreEquivalent pairs members h k
  equivalent_on h g k a b = record {
    by = product UNIT a.by b.by;
    member = product_member members a.by b.by group a.member b.member;
    same = subst (λ e. IsSameReflection pairs e k) (sym (times_product h a.by b.by))
        (same_on pairs ((h ·ʳ a.by.w) ·ʳ b.by.w) (g ·ʳ b.by.w) k (same_turned pairs (h ·ʳ a.by.w) g b.by a.same) b.same);
  }

-- ---- how many members take h to e

takes : Row → Row → Operator → Bool
takes h e f = row_eq (h ·ʳ f.w) e

module _ (members : List Operator) (group : IsGroup members) (h : Row) where
  -- as many to e W as to e
  pub moved_count : (e : Row) (k : Operator) → Contains members k → count_by (λ f. row_eq (h ·ʳ f.w) (e ·ʳ k.w)) members ≡ count_by (λ f. row_eq (h ·ʳ f.w) e) members
  moved_count e k m =
      sym (permuted.sum_by-permuted cell_operators.eq cell_operators.same (λ f. product UNIT f k) members (actions.right_permutes cell_operators members (closed_list members group) k m) (λ f. cond (row_eq (h ·ʳ f.w) (e ·ʳ k.w)) 1 0))
      ∙ lists.sum_by-agree (λ f. cond (row_eq (h ·ʳ (product UNIT f k).w) (e ·ʳ k.w)) 1 0) (λ f. cond (row_eq (h ·ʳ f.w) e) 1 0) members (λ f n. ap (λ (b : Bool). cond {A = ℕ} b 1 0) (same f))
    where
      back : (a b : Row) → a ·ʳ k.w ≡ b ·ʳ k.w → a ≡ b
      back a b p = sym (undone Apart members group a k m) ∙ ap (λ v. v ·ʳ (inverse UNIT k).w) p ∙ undone Apart members group b k m

      same : (f : Operator) → row_eq (h ·ʳ (product UNIT f k).w) (e ·ʳ k.w) ≡ row_eq (h ·ʳ f.w) e
      same f =
          let a = row_eq-is (h ·ʳ (product UNIT f k).w) (e ·ʳ k.w) in
          let b = row_eq-is (h ·ʳ f.w) e in
          same_from_decides (row_eq (h ·ʳ (product UNIT f k).w) (e ·ʳ k.w)) (row_eq (h ·ʳ f.w) e) a
          ((λ t. times_product h f k ∙ ap (λ v. v ·ʳ k.w) (b.0 t)), (λ p. b.1 (back (h ·ʳ f.w) e (sym (times_product h f k) ∙ p))))

  reached : (e : Row) (k : Operator) → Contains members k → e ≡ h ·ʳ k.w → (count_by (λ f. row_eq (h ·ʳ f.w) e) members ≡ count_by (fixes h) members) × (count_by (λ f. row_eq (h ·ʳ f.w) (neg_row e)) members ≡ count_by (reverses h) members)
  reached e k m p = (
    ap (λ v. count_by (λ f. row_eq (h ·ʳ f.w) v) members) p ∙ moved_count h k m,
    ap (λ v. count_by (λ f. row_eq (h ·ʳ f.w) v) members) (ap neg_row p ∙ sym (neg_row-·ʳ h k.w)) ∙ moved_count (neg_row h) k m,
  )

  once_in : (class : List Row) → AllPairs (λ (a b : Row). a ≢ b) class → (e : Row) → Contains class e → count_by (λ z. row_eq e z) class ≡ 1
  once_in class d e c = actions.count_by-once row_eq row_eq-is e class (IsDistinct-from_AllPairs row_eq-is class d) c

  turned_eq : (e z : Row) → row_eq e (neg_row z) ≡ row_eq (neg_row e) z
  turned_eq e z =
      let a = row_eq-is e (neg_row z) in
      let b = row_eq-is (neg_row e) z in
      same_from_decides (row_eq e (neg_row z)) (row_eq (neg_row e) z) a ((λ t. sym (neg_row-neg_row e) ∙ ap neg_row (b.0 t)), (λ p. b.1 (ap neg_row p ∙ neg_row-neg_row z)))

  pub apart_law : (class : List Row) → IsClass Apart members h class → length members ≡ length class * count_by (fixes h) members
  apart_law class s = length-classes (λ (f : Operator) z. row_eq (h ·ʳ f.w) z) members class (count_by (fixes h) members)
      (λ i d l. let f = get_or members i d in once_in class s.once (h ·ʳ f.w) ((s.exactly (h ·ʳ f.w)).1 (record { by = f; member = Contains-get_or members i d l; same = refl })))
      (λ i d l. let z = get_or class i d in let r = (s.exactly z).0 (Contains-get_or class i d l) in (reached z r.by r.member r.same).0)

  -- a row that is hit by e or by -e
  both : Row → Row → ℕ
  both e z = cond (row_eq e z) 1 0 + cond (row_eq e (neg_row z)) 1 0

  pub friedel_law : (class : List Row) → IsClass Friedel members h class → length members * 2 ≡ length class * (count_by (fixes h) members + count_by (reverses h) members)
  unfolding both
  friedel_law class s =
      let two : All (λ (f : Operator). sum_by (λ z. both (h ·ʳ f.w) z) class ≡ 2) members = λ i d l.
      let f : Operator = get_or members i d in
      let e = h ·ʳ f.w in
      let m : Contains members f = Contains-get_or members i d l in
      let there : Contains class e = (s.exactly e).1 (record { by = f; member = m; same = inl refl }) in
      let back : Contains class (neg_row e) = (s.exactly (neg_row e)).1 (record { by = f; member = m; same = inr refl }) in
      let a = once_in class s.once e there in
      let b = lists.sum_by-agree (λ z. cond (row_eq e (neg_row z)) 1 0) (λ z. cond (row_eq (neg_row e) z) 1 0) class (λ z c. ap (λ (t : Bool). cond {A = ℕ} t 1 0) (turned_eq e z)) ∙ once_in class s.once (neg_row e) back in
      sum_by-add (λ z. cond (row_eq e z) 1 0) (λ z. cond (row_eq e (neg_row z)) 1 0) class ∙ add_ones _ _ a b in
      let each : All (λ z. sum_by (λ (f : Operator). both (h ·ʳ f.w) z) members ≡ count_by (fixes h) members + count_by (reverses h) members) class = λ i d l.
      let z : Row = get_or class i d in
      let r = (s.exactly z).0 (Contains-get_or class i d l) in
      sum_by-add (λ (f : Operator). cond (row_eq (h ·ʳ f.w) z) 1 0) (λ (f : Operator). cond (row_eq (h ·ʳ f.w) (neg_row z)) 1 0) members ∙ of_member z r.by r.member r.same in
      sym (sum_by-all (λ (f : Operator). sum_by (λ z. both (h ·ʳ f.w) z) class) 2 members two)
      ∙ sum_by-exchange (λ (f : Operator) z. both (h ·ʳ f.w) z) members class
      ∙ sum_by-all (λ z. sum_by (λ (f : Operator). both (h ·ʳ f.w) z) members) _ class each
    where
      add_ones : (a b : ℕ) → a ≡ 1 → b ≡ 1 → a + b ≡ 2
      add_ones a b p q = omega (arith, p, q)

      crossed : (a b c d : ℕ) → a ≡ c → b ≡ d → a + b ≡ c + d
      crossed a b c d p q = omega (arith, p, q)

      swapped : (a b c d : ℕ) → a ≡ d → b ≡ c → a + b ≡ c + d
      swapped a b c d p q = omega (arith, p, q)

      of_member : (z : Row) (k : Operator) → Contains members k → IsSameReflection Friedel (h ·ʳ k.w) z
          → count_by (λ f. row_eq (h ·ʳ f.w) z) members + count_by (λ f. row_eq (h ·ʳ f.w) (neg_row z)) members ≡ count_by (fixes h) members + count_by (reverses h) members
      of_member z k m (inl p) = let r = reached z k m p in crossed _ _ _ _ r.0 r.1
      of_member z k m (inr p) =
          let r = reached (neg_row z) k m (ap neg_row p ∙ neg_row-neg_row (h ·ʳ k.w)) in
          let q = ap (λ v. count_by (λ f. row_eq (h ·ʳ f.w) v) members) (sym (neg_row-neg_row z)) ∙ r.1 in
          swapped _ _ _ _ q r.0

  pub some_fixer : 0 < count_by (fixes h) members
  some_fixer = lists.count_by-positive (fixes h) identity_operator members (has_identity Apart members group) ((row_eq-is (h ·ʳ identity) h).1 (·ʳ-identity h)) refl

-- ---- each row has a class

images : List Operator → Row → List Row
images members h = map (λ (f : Operator). h ·ʳ f.w) members

once_each : List Row → List Row
once_each rows = lists.each_once row_eq rows

pub some_class : (pairs : Pairs) (members : List Operator) (h : Row) → (class : List Row) × IsClass pairs members h class
unfolding images once_each
some_class Apart members h = (
  once_each (images members h),
  record {
    exactly = λ g. (
      (λ c. let r = lists.Contains-from_map (λ (f : Operator). h ·ʳ f.w) g members (lists.Contains-from_each_once row_eq (images members h) g c) in record { by = r.0; member = r.1; same = sym r.2 }),
      (λ a. lists.Contains-each_once row_eq row_eq-is (images members h) g (subst (Contains (images members h)) (sym a.same) (lists.Contains-map (λ (f : Operator). h ·ʳ f.w) a.by members a.member))),
    );
    once = AllPairs-from_IsDistinct row_eq-is _ (lists.distinct-each_once row_eq row_eq-is (images members h));
  },
)
some_class Friedel members h =
    let rows : List Row = images members h ++ map neg_row (images members h) in (
      once_each rows,
      record {
        exactly = λ g. (
          (λ c. ⊎_elim
              (λ d. let r = lists.Contains-from_map (λ (f : Operator). h ·ʳ f.w) g members d in record { by = r.0; member = r.1; same = inl (sym r.2) })
              (λ d. let q = lists.Contains-from_map neg_row g (images members h) d in let r = lists.Contains-from_map (λ (f : Operator). h ·ʳ f.w) q.0 members q.1 in record { by = r.0; member = r.1; same = inr (sym q.2 ∙ ap neg_row (sym r.2)) })
              (Contains-append_cases (images members h) (map neg_row (images members h)) g (lists.Contains-from_each_once row_eq rows g c))),
          (λ a. lists.Contains-each_once row_eq row_eq-is rows g (⊎_elim
              (λ p. subst (Contains rows) (sym p) (Contains-append_left (images members h) (map neg_row (images members h)) (h ·ʳ a.by.w) (lists.Contains-map (λ (f : Operator). h ·ʳ f.w) a.by members a.member)))
              (λ p. subst (Contains rows) (sym p) (Contains-append_right (images members h) (map neg_row (images members h)) (neg_row (h ·ʳ a.by.w)) (lists.Contains-map neg_row (h ·ʳ a.by.w) (images members h) (lists.Contains-map (λ (f : Operator). h ·ʳ f.w) a.by members a.member))))
              a.same)),
        );
        once = AllPairs-from_IsDistinct row_eq-is _ (lists.distinct-each_once row_eq row_eq-is rows);
      },
    )

-- ---- the size as a quotient

quotient : (a b n : ℕ) → 0 < a → n ≡ b * a → n / a ≡ b
quotient a b n l e = grind arith

pub apart_size : (members : List Operator) (h : Row) (n fix : ℕ) (class : List Row) → IsGroup members → n ≡ length members → fix ≡ count_by (fixes h) members → IsClass Apart members h class → n / fix ≡ length class
apart_size members h n fix class g e f s =
    let some : 0 < fix = omega (arith, some_fixer members g h, f) in
    quotient fix (length class) n some (e ∙ apart_law members g h class s ∙ ap (λ v. length class * v) (sym f))

pub friedel_size : (members : List Operator) (h : Row) (n fix rev : ℕ) (class : List Row) → IsGroup members → n ≡ length members → fix ≡ count_by (fixes h) members → rev ≡ count_by (reverses h) members → IsClass Friedel members h class → 2 * n / (fix + rev) ≡ length class
friedel_size members h n fix rev class g e f r s =
    let some : 0 < fix + rev = omega (arith, some_fixer members g h, f) in
    let same : fix + rev ≡ count_by (fixes h) members + count_by (reverses h) members = omega (arith, f, r) in
    let law = friedel_law members g h class s in
    let twice : 2 * n ≡ length members * 2 = omega (arith, e) in
    quotient (fix + rev) (length class) (2 * n) some (twice ∙ law ∙ ap (λ v. length class * v) (sym same))
