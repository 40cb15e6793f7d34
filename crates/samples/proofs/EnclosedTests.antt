-- A test of whether a list is enclosed by a set.
use Rattle.std.proofs.Common.{◌≡◌, ◌⊎◌, ◌&&◌, ◌||◌, ℤ, pos, negsuc, unsigned_abs, Bool, true, false, List, [], ◌∷◌, length, refl, subst, arith, leb, ltb, int_eq, Contains, inl, inr, ⊎_elim}
use Rattle.std.specs.List.{list_any}
use Rattle.std.specs.Cmp.{signed_Decides}
use Rattle.std.proofs.lemmas.Int.{ints}
use Rattle.std.proofs.lemmas.List.Elements.{Contains-get_or}
use borrow.Author.Tests.{leb-true, ltb-true}
use Rattle.finite_groups.proofs.Members as lists
use Rattle.lattice_algebra.specs.Matrix.{det}
use Rattle.lattice_algebra.specs.Operator.{Operator, IsPart, AreWithin, product, identity_operator}
use Rattle.lattice_algebra.proofs.Equality.{operator_eq, contains-is}
use Rattle.lattice_algebra.proofs.Matrices.{det-IsUnimodular}
use Rattle.exact_ops.specs.Narrow.{IsNarrow}
use Rattle.exact_ops.specs.declared.TheConstants.{UNIT}
use Rattle.group_closure.specs.declared.TheConstants.{MAX_OPERATORS}
use Rattle.samples.proofs.Enclosed.{IsEnclosed}

both : (a b : Bool) → a && b ≡ true → (a ≡ true) × (b ≡ true)
both true b e = (refl, e)
both false b e = absurd cc

-- ---- one operator

abbrev is_part : ℤ → Bool
is_part (pos n) = ltb n UNIT
is_part (negsuc n) = false

part_is : (x : ℤ) → is_part x ≡ true → IsPart UNIT x
part_is (pos n) e = let l = ltb-true n UNIT e in (omega (arith, ints), omega (arith, ints, l))
part_is (negsuc n) e = absurd cc

abbrev are_small : ℤ → ℤ → ℤ → Bool
are_small a b c = leb (unsigned_abs a) 2 && (leb (unsigned_abs b) 2 && leb (unsigned_abs c) 2)

small_are : (a b c : ℤ) → are_small a b c ≡ true → AreWithin 2 a b c
small_are a b c e =
    let p = both _ _ e in
    let q = both _ _ p.1 in
    record { first = leb-true _ _ p.0; second = leb-true _ _ q.0; third = leb-true _ _ q.1 }

abbrev is_one : ℤ → Bool
is_one d = int_eq d (pos 1) || int_eq d (negsuc 0)

one_is : (d : ℤ) → is_one d ≡ true → (d ≡ pos 1) ⊎ (d ≡ negsuc 0)
one_is d e = by (int_eq d (pos 1)) refl
  where
    by : (b : Bool) → int_eq d (pos 1) ≡ b → (d ≡ pos 1) ⊎ (d ≡ negsuc 0)
    by true p = inl ((signed_Decides d (pos 1)).0 p)
    by false p = inr ((signed_Decides d (negsuc 0)).0 (let q : (false || int_eq d (negsuc 0)) ≡ true = subst (λ b. (b || int_eq d (negsuc 0)) ≡ true) p e in q))

abbrev pub is_narrow : Operator → Bool
is_narrow f =
    is_one (det f.w) && (is_part f.t.x && (is_part f.t.y && (is_part f.t.z && (are_small f.w.xx f.w.xy f.w.xz && (are_small f.w.yx f.w.yy f.w.yz && are_small f.w.zx f.w.zy f.w.zz)))))

narrow_is : (f : Operator) → is_narrow f ≡ true → IsNarrow f
narrow_is f e =
    let a = both _ _ e in
    let b = both _ _ a.1 in
    let c = both _ _ b.1 in
    let d = both _ _ c.1 in
    let g = both _ _ d.1 in
    let h = both _ _ g.1 in
    record {
      is_operator = record { unimodular = det-IsUnimodular f.w (one_is (det f.w) a.0); in_cell = record { x = part_is f.t.x b.0; y = part_is f.t.y c.0; z = part_is f.t.z d.0 } };
      within_two = record { x = small_are _ _ _ g.0; y = small_are _ _ _ h.0; z = small_are _ _ _ h.1 };
    }

-- ---- lists

abbrev pub are_all : (Operator → Bool) → List Operator → Bool
are_all p [] = true
are_all p (f ∷ fs) = p f && are_all p fs

all_are : (p : Operator → Bool) (fs : List Operator) (f : Operator) → are_all p fs ≡ true → Contains fs f → p f ≡ true
all_are p [] f e c = lists.not_in_nil f c
all_are p (g ∷ gs) f e c = let h = both (p g) (are_all p gs) e in ⊎_elim (λ q. subst (λ k. p k ≡ true) q h.0) (λ l. all_are p gs f h.1 l) (lists.Contains-cases f g gs c)

abbrev pub has : List Operator → Operator → Bool
has set f = list_any (λ g. operator_eq g f) set

has_is : (set : List Operator) (f : Operator) → has set f ≡ true → Contains set f
has_is set f e = (contains-is set f (has set f) refl).0 e

abbrev pub is_enclosed : List Operator → List Operator → Bool
is_enclosed list set = leb (length set) MAX_OPERATORS && (are_all is_narrow set && (has set identity_operator && are_all (λ f. are_all (λ g. has set (product UNIT f g)) list) set))

pub enclosed_is : (list set : List Operator) → is_enclosed list set ≡ true → IsEnclosed list set
enclosed_is list set e =
    let a = both _ _ e in
    let b = both _ _ a.1 in
    let c = both _ _ b.1 in
    record {
      few = leb-true _ _ a.0;
      narrow = λ k d l. narrow_is _ (all_are is_narrow set _ b.0 (Contains-get_or set k d l));
      identity = has_is set identity_operator c.0;
      products = λ f g m n. has_is set (product UNIT f g) (all_are (λ g. has set (product UNIT f g)) list g (all_are (λ f. are_all (λ g. has set (product UNIT f g)) list) set f c.1 m) n);
    }

-- a list whose operators are all in another is enclosed as that is
pub all_in : (list all : List Operator) → are_all (has all) list ≡ true → (f : Operator) → Contains list f → Contains all f
all_in list all e f c = has_is all f (all_are (has all) list f e c)

pub fewer_enclosed : (list all set : List Operator) → ((f : Operator) → Contains list f → Contains all f) → IsEnclosed all set → IsEnclosed list set
fewer_enclosed list all set into h = record { few = h.few; narrow = h.narrow; identity = h.identity; products = λ f g c d. h.products f g c (into g d) }
