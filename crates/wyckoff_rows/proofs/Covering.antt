-- Which elements need not be tried: those of a coset of the group, inverses, and those that an element of the space group carries along.
use Rattle.std.proofs.Common.{◌≡◌, ◌<◌, ◌+◌, ◌↔◌, ◌⊎◌, inl, inr, ℕ, zero, suc, Bool, true, false, List, [], ◌∷◌, length, get_or, slice_get, Some, Contains, ap, sym, ◌∙◌, subst, arith, ⊎_elim, refl}
use Rattle.std.proofs.Math.ListN.{replicate, set}
use Rattle.std.proofs.lemmas.Bool.{false≢true}
use Rattle.std.proofs.lemmas.Option.{same_Some, slice_get_within}
use Rattle.std.specs.List.{All}
use Rattle.std.proofs.lemmas.List.Elements.{All-contains, All-weaker}
use Rattle.lattice_algebra.specs.Operator.{Operator, product, inverse, IsInverse, IsOperator, identity_operator}
use Rattle.lattice_algebra.specs.Map.{Map, ◌∘◌, identity_map, undo, operator_of}
use Rattle.lattice_algebra.proofs.Maps.{operator_of-∘}
use Rattle.lattice_algebra.proofs.Operators.{operators, one_is, inverse_once, inverse-IsInverse}
use Rattle.finite_groups.specs.Groups.{Group}
use Rattle.exact_ops.specs.Narrow.{IsNarrow}
use Rattle.finite_groups.proofs.Basics as basics
use Rattle.finite_groups.proofs.Conjugates as conjugates
use Rattle.exact_ops.specs.declared.TheConstants.{UNIT}
use Rattle.exact_ops.proofs.Narrow.{some_parts}
use Rattle.group_closure.specs.GroupList.{IsGroup}
use Rattle.site_symmetry.proofs.SpaceOfGroup.{space_of}
use Rattle.space_groups.specs.Space.{IsElement, ScaledPoint, moved}
use Rattle.space_groups.specs.Search.{FixAll}
use Rattle.space_groups.proofs.ScaledPoints.{moved-∘, moved-identity}
use Rattle.space_groups.proofs.Elements.{SpaceGroup, space, on_points}
use Rattle.wyckoff_rows.specs.Steps.{StandsFor, IsCovered, IsAlike, IsInCoset, IsPlaceIn, AreEnough}
use Rattle.wyckoff_rows.proofs.Lists.{contains_at, at_contains}

module _ (members : List Operator) (group : IsGroup members) (set : List Map) (valid : (s : Map) → Contains set s → IsElement UNIT members s) where
  abbrev L : SpaceGroup
  L = space_of members group

  -- d stands for c, and c for e
  stands_on : (d c e : Map) → StandsFor members set d c → StandsFor members set c e → StandsFor members set d e
  stands_on d c e p q = record {
    by = p.by ∘ q.by;
    element = (space L).mul_in p.by q.by p.element q.element;
    points = λ z.
        let m : moved (p.by ∘ q.by) z ≡ moved p.by (moved q.by z) = moved-∘ p.by q.by z in
        let a = p.points (moved q.by z) in
        let b = q.points z in ((λ h. subst (λ y. FixAll set y × (moved d y ≡ y)) (sym m) (a.0 (b.0 h))), (λ h. b.1 (a.1 (subst (λ y. FixAll set y × (moved d y ≡ y)) m h))));
  }

  -- two elements that move no point which the set fixes, or both move it
  stands_itself : (c e : Map) → ((z : ScaledPoint) → FixAll set z → (moved e z ≡ z) ↔ (moved c z ≡ z)) → StandsFor members set c e
  stands_itself c e h = record {
    by = identity_map;
    element = (space L).one_in;
    points = λ z. let m : moved identity_map z ≡ z = moved-identity z in ((λ p. subst (λ y. FixAll set y × (moved c y ≡ y)) (sym m) (p.0, (h z p.0).0 p.1)), (λ p. let r = subst (λ y. FixAll set y × (moved c y ≡ y)) m p in (r.0, (h z r.0).1 r.1)));
  }

  -- e s^-1 moves what the set fixes as e does
  back_by : (e s : Map) → Contains set s → (z : ScaledPoint) → FixAll set z → moved (e ∘ undo s) z ≡ moved e z
  back_by e s c z f =
      let m = valid s c in
      moved-∘ e (undo s) z ∙ ap (moved e) (ap (moved (undo s)) (sym (f s c)) ∙ conjugates.act_back (space L) (on_points L) s z m)

  undo_fixes : (e : Map) → IsElement UNIT members e → (z : ScaledPoint) → (moved e z ≡ z) ↔ (moved (undo e) z ≡ z)
  undo_fixes e m z = (
    (λ p. ap (moved (undo e)) (sym p) ∙ conjugates.act_back (space L) (on_points L) e z m),
    (λ p. ap (moved e) (sym p) ∙ conjugates.act_there (space L) (on_points L) e z m),
  )

  -- ---- operators of products and inverses

  abbrev O : Group
  O = operators UNIT some_parts

  abbrev op : Map → Operator
  op e = operator_of UNIT e

  op_valid : (e : Map) → IsElement UNIT members e → IsOperator UNIT (op e)
  op_valid e c = (All-contains IsNarrow members (op e) group.narrow c).is_operator

  op_undo : (e : Map) → IsElement UNIT members e → product UNIT (op e) (op (undo e)) ≡ identity_operator
  op_undo e m = operator_of-∘ UNIT some_parts e (undo e) ∙ ap op ((space L).inv_right e m) ∙ one_is UNIT some_parts

  coset_operator : (f : Operator) → IsOperator UNIT f → (e s : Map) → IsElement UNIT members e → IsElement UNIT members s → op e ≡ product UNIT f (op s) → op (e ∘ undo s) ≡ f
  coset_operator f v e s m n q =
      sym (operator_of-∘ UNIT some_parts e (undo s)) ∙ ap (λ x. product UNIT x (op (undo s))) q
      ∙ O.assoc f (op s) (op (undo s)) v (op_valid s n) (op_valid (undo s) ((space L).inv_in s n)) ∙ ap (product UNIT f) (op_undo s n) ∙ O.right f v

  inverse_operator : (p : Operator) → IsOperator UNIT p → (e : Map) → IsElement UNIT members e → IsInverse UNIT p (op e) → op (undo e) ≡ p
  inverse_operator p v e m i =
      let h : op e ≡ inverse UNIT p = inverse_once UNIT p (op e) (inverse UNIT p) i (inverse-IsInverse UNIT p v.unimodular) in
      let one : product UNIT (op e) p ≡ identity_operator = ap (λ x. product UNIT x p) h ∙ O.inv_left p v in
      basics.inverse_once O (op e) (op (undo e)) (op_valid e m) (op_valid (undo e) ((space L).inv_in e m)) (op_undo e m) ∙ sym (basics.inverse_once O (op e) p (op_valid e m) v one)

  -- s^-1 e moves none of what the set fixes, or moves it as e does
  front_by : (e s : Map) → Contains set s → (z : ScaledPoint) → FixAll set z → (moved e z ≡ z) ↔ (moved (undo s ∘ e) z ≡ z)
  front_by e s c z f =
      let m = valid s c in
      let back : moved (undo s) z ≡ z = ap (moved (undo s)) (sym (f s c)) ∙ conjugates.act_back (space L) (on_points L) s z m in (
        (λ p. moved-∘ (undo s) e z ∙ ap (moved (undo s)) p ∙ back),
        (λ p. sym (conjugates.act_there (space L) (on_points L) s (moved e z) m) ∙ ap (moved s) (sym (moved-∘ (undo s) e z) ∙ p) ∙ f s c),
      )

  -- where e has the operator of r times p, r^-1 e has p
  front_operator : (p : Operator) → IsOperator UNIT p → (e r : Map) → IsElement UNIT members r → op e ≡ product UNIT (op r) p → op (undo r ∘ e) ≡ p
  front_operator p v e r n q =
      let i = op_valid (undo r) ((space L).inv_in r n) in
      let none : product UNIT (op (undo r)) (op r) ≡ identity_operator = operator_of-∘ UNIT some_parts (undo r) r ∙ ap op ((space L).inv_left r n) ∙ one_is UNIT some_parts in
      sym (operator_of-∘ UNIT some_parts (undo r) e) ∙ ap (product UNIT (op (undo r))) q ∙ sym (O.assoc (op (undo r)) (op r) p i (op_valid r n) v) ∙ ap (λ x. product UNIT x p) none ∙ O.left p v

  module _ (list : List Map) (f : Operator) (is_operator : IsOperator UNIT f) (covered : IsCovered members set list f) where
    -- the coset
    coset_covered : (s : Map) → Contains set s → IsCovered members set list (product UNIT f (operator_of UNIT s))
    coset_covered s c e m q y k p =
        let i : IsElement UNIT members (undo s) = (space L).inv_in s (valid s c) in
        let d : Map = e ∘ undo s in
        let n : IsElement UNIT members d = (space L).mul_in e (undo s) m i in
        let r = covered d n (coset_operator f is_operator e s m (valid s c) q) y k (back_by e s c y k ∙ p) in
        (r.0, r.1, stands_on r.0 d e r.2 (stands_itself d e (λ z g. ((λ x. back_by e s c z g ∙ x), (λ x. sym (back_by e s c z g) ∙ x)))))

    pub product_valid : (s : Map) → Contains set s → IsOperator UNIT (product UNIT f (operator_of UNIT s))
    product_valid s c = O.mul_in f (operator_of UNIT s) is_operator (op_valid s (valid s c))

    -- the coset on the other side
    front_covered : (r : Map) → Contains set r → IsCovered members set list (product UNIT (operator_of UNIT r) f)
    front_covered r c e m q y k p =
        let i : IsElement UNIT members (undo r) = (space L).inv_in r (valid r c) in
        let d : Map = undo r ∘ e in
        let n : IsElement UNIT members d = (space L).mul_in (undo r) e i m in
        let w = covered d n (front_operator f is_operator e r (valid r c) q) y k ((front_by e r c y k).0 p) in
        (w.0, w.1, stands_on w.0 d e w.2 (stands_itself d e (λ z g. front_by e r c z g)))

    in_coset_covered : (h : Operator) → IsInCoset set f h → IsCovered members set list h
    in_coset_covered h (r, c, inl q) e m o y k p = front_covered r c e m (o ∙ q) y k p
    in_coset_covered h (r, c, inr q) e m o y k p =
        let i : IsElement UNIT members (undo e) = (space L).inv_in e m in
        let g = product UNIT (operator_of UNIT r) f in
        let v = O.mul_in (operator_of UNIT r) f (op_valid r (valid r c)) is_operator in
        let w = front_covered r c (undo e) i (inverse_operator g v e m (subst (IsInverse UNIT g) (sym o) q)) y k ((undo_fixes e m y).0 p) in
        (w.0, w.1, stands_on w.0 (undo e) e w.2 (stands_itself (undo e) e (λ z g. undo_fixes e m z)))

  pub alike_covered : (list : List Map) (f : Operator) → IsOperator UNIT f → IsCovered members set list f → (h : Operator) → IsAlike set f h → IsCovered members set list h
  alike_covered list f v covered h (s, c, q) = in_coset_covered list (product UNIT f (operator_of UNIT s)) (product_valid list f v covered s c) (coset_covered list f v covered s c) h q

  -- where every operator is covered, the list is enough
  pub all_covered : (list : List Map) → ((j : ℕ) (f : Operator) → slice_get members j ≡ Some f → IsCovered members set list f) → AreEnough members set list
  all_covered list h e m y k p = h m.0 (operator_of UNIT e) (at_contains members (operator_of UNIT e) m) e m refl y k p

  -- what covers goes on to do so in a longer list
  pub covered_on : (old new : List Map) (f : Operator) → ((c : Map) → Contains old c → Contains new c) → IsCovered members set old f → IsCovered members set new f
  covered_on old new f h g e m o y k p = let r = g e m o y k p in (r.0, h r.0 r.1, r.2)

below_or : (j i : ℕ) → j < i + 1 → (j < i) ⊎ (j ≡ i)
below_or j i l = grind arith

-- a step of the loop over the operators
module _ (members : List Operator) (group : IsGroup members) (set : List Map) (valid : (s : Map) → Contains set s → IsElement UNIT members s) where
  abbrev pub AreCovered : List Map → List Bool → ℕ → Type 0
  AreCovered list tried i = (j : ℕ) (f : Operator) → (j < i) ⊎ (slice_get tried j ≡ Some true) → slice_get members j ≡ Some f → IsCovered members set list f

  -- the operator at i was tried already
  pub step_tried : (list : List Map) (tried : List Bool) (i : ℕ) → AreCovered list tried i → slice_get tried i ≡ Some true → AreCovered list tried (i + 1)
  step_tried list tried i h t j f (inl l) s = ⊎_elim (λ b. h j f (inl b) s) (λ b. h j f (inr (ap (slice_get tried) b ∙ t)) s) (below_or j i l)
  step_tried list tried i h t j f (inr q) s = h j f (inr q) s

  -- its elements were added
  pub step_added : (old new : List Map) (tried marked : List Bool) (i : ℕ) (f : Operator) → slice_get members i ≡ Some f → AreCovered old tried i → ((c : Map) → Contains old c → Contains new c) → IsCovered members set new f
      → ((j : ℕ) (e h : Operator) → slice_get marked j ≡ Some true → slice_get members i ≡ Some e → slice_get members j ≡ Some h → (slice_get tried j ≡ Some true) ⊎ IsAlike set e h) → AreCovered new marked (i + 1)
  step_added old new tried marked i f at h more covered alike j e (inl l) s = ⊎_elim
      (λ b. covered_on members group set valid old new e more (h j e (inl b) s))
      (λ b. subst (IsCovered members set new) (same_Some f e (sym at ∙ sym (ap (slice_get members) b) ∙ s)) covered)
      (below_or j i l)
  step_added old new tried marked i f at h more covered alike j e (inr q) s = ⊎_elim
      (λ b. covered_on members group set valid old new e more (h j e (inr b) s))
      (λ b. alike_covered members group set valid new f (All-contains IsNarrow members f group.narrow (contains_at members i f at)).is_operator covered e b)
      (alike j f e q at s)

pub none_true : (n j : ℕ) → slice_get (replicate n false) j ≡ Some true → ⊥
none_true zero j e = cc
none_true (suc n) zero e = cc
none_true (suc n) (suc j) e = none_true n j e

pub marked_at : (xs : List Bool) (k : ℕ) → get_or xs k false ≡ true → slice_get xs k ≡ Some true
marked_at [] k e = absurd (false≢true e)
marked_at (x ∷ xs) zero e = ap Some e
marked_at (x ∷ xs) (suc k) e = marked_at xs k e

-- ---- marks

set_true : (xs : List Bool) (n p : ℕ) → slice_get (set xs n true) p ≡ Some true → (p ≡ n) ⊎ (slice_get xs p ≡ Some true)
set_true [] n p e = cc
set_true (x ∷ xs) zero zero e = inl refl
set_true (x ∷ xs) zero (suc p) e = inr e
set_true (x ∷ xs) (suc n) zero e = inr e
set_true (x ∷ xs) (suc n) (suc p) e = ⊎_elim (λ q. inl (ap suc q)) (λ q. inr q) (set_true xs n p e)

-- the places n of a product with an element of the set, and m of its inverse, are marked
pub marked_more : (members : List Operator) (group : List Map) (old tried : List Bool) (j u n m a b : ℕ) → IsPlaceIn members group u → a ≡ n → b ≡ m
    → ((f g : Operator) → slice_get members u ≡ Some f → slice_get members j ≡ Some g → slice_get members n ≡ Some (product UNIT f g))
    → ((f g : Operator) → slice_get members n ≡ Some f → slice_get members m ≡ Some g → IsInverse UNIT f g)
    → ((p : ℕ) (f h : Operator) → slice_get tried p ≡ Some true → slice_get members j ≡ Some f → slice_get members p ≡ Some h → (slice_get old p ≡ Some true) ⊎ IsInCoset group f h)
    → (p : ℕ) (f h : Operator) → slice_get (set (set tried a true) b true) p ≡ Some true → slice_get members j ≡ Some f → slice_get members p ≡ Some h → (slice_get old p ≡ Some true) ⊎ IsInCoset group f h
marked_more members group old tried j u n m a b (s, c, at) an bm prod inv before p f h t sf sh = ⊎_elim
    (λ q. inr (s, c, inr (inv (product UNIT (operator_of UNIT s) f) h (prod (operator_of UNIT s) f at sf) (subst (λ x. slice_get members x ≡ Some h) (q ∙ bm) sh))))
    (λ r. ⊎_elim
    (λ q. inr (s, c, inl (same_Some h (product UNIT (operator_of UNIT s) f) (sym sh ∙ ap (slice_get members) (q ∙ an) ∙ prod (operator_of UNIT s) f at sf))))
    (λ t'. before p f h t' sf sh)
    (set_true tried a p r))
    (set_true (set tried a true) b p t)

-- those of the coset of the product at j are marked
pub marked_coset : (members : List Operator) (group : List Map) (old tried new : List Bool) (i u j : ℕ) → IsPlaceIn members group u
    → ((f g : Operator) → slice_get members i ≡ Some f → slice_get members u ≡ Some g → slice_get members j ≡ Some (product UNIT f g))
    → ((p : ℕ) (f h : Operator) → slice_get new p ≡ Some true → slice_get members j ≡ Some f → slice_get members p ≡ Some h → (slice_get tried p ≡ Some true) ⊎ IsInCoset group f h)
    → ((p : ℕ) (f h : Operator) → slice_get tried p ≡ Some true → slice_get members i ≡ Some f → slice_get members p ≡ Some h → (slice_get old p ≡ Some true) ⊎ IsAlike group f h)
    → (p : ℕ) (f h : Operator) → slice_get new p ≡ Some true → slice_get members i ≡ Some f → slice_get members p ≡ Some h → (slice_get old p ≡ Some true) ⊎ IsAlike group f h
marked_coset members group old tried new i u j (s, c, at) prod more before p f h t sf sh = ⊎_elim (λ q. before p f h q sf sh) (λ q. inr (s, c, q)) (more p (product UNIT f (operator_of UNIT s)) h t (prod f (operator_of UNIT s) sf at) sh)

pub places_within : (members : List Operator) (group : List Map) (places : List ℕ) → All (IsPlaceIn members group) places → All (λ p. p < length members) places
places_within members group places h = All-weaker (IsPlaceIn members group) (λ p. p < length members) (λ p q. slice_get_within members p (operator_of UNIT q.0) q.2) places h
