-- Reading a form as it is kept.
use Rattle.std.proofs.Common.{◌≡◌, ◌≢◌, ◌<◌, ◌≤◌, ◌↔◌, ℕ, zero, suc, Bool, true, not, eqb, ◌∷◌, [], ℤ, pos, unsigned_abs, Some, slice_get, ap, sym, ◌∙◌, ⊎_elim, to_z, of_z, w32, arith}
use Rattle.std.proofs.lemmas.Bool.{false≢true}
use Rattle.std.proofs.lemmas.Bool.Decides.{eqb_tells}
use Rattle.lattice_algebra.specs.Matrix.{Matrix, Column}
use Rattle.lattice_algebra.specs.Operator.{IsPart, AreParts, HasEntriesWithin}
use Rattle.lattice_algebra.proofs.Machine.{kept}
use Rattle.parameter_forms.specs.declared.TheConstants.{MAX_OVER}
use Rattle.parameter_forms.specs.Forms.{coordinate, entry, nth_column, IsFree, IsCoefficientMatrix}
use Rattle.parameter_forms.proofs.Columns.{origin_at}

pub entry_within : (n : ℕ) (b : Matrix) (i j : ℕ) → i < 3 → j < 3 → HasEntriesWithin n b → unsigned_abs (entry b i j) ≤ n
entry_within n b zero zero p q h = h.x.first
entry_within n b zero (suc zero) p q h = h.x.second
entry_within n b zero (suc (suc zero)) p q h = h.x.third
entry_within n b (suc zero) zero p q h = h.y.first
entry_within n b (suc zero) (suc zero) p q h = h.y.second
entry_within n b (suc zero) (suc (suc zero)) p q h = h.y.third
entry_within n b (suc (suc zero)) zero p q h = h.z.first
entry_within n b (suc (suc zero)) (suc zero) p q h = h.z.second
entry_within n b (suc (suc zero)) (suc (suc zero)) p q h = h.z.third
entry_within n b (suc (suc (suc i))) j p q h = absurd (omega (arith, p))
entry_within n b i (suc (suc (suc j))) p q h = absurd (omega (arith, q))

pub part_at : (n : ℕ) (s : Column) (i : ℕ) → i < 3 → AreParts n s → IsPart n (coordinate s i)
part_at n s zero p h = h.x
part_at n s (suc zero) p h = h.y
part_at n s (suc (suc zero)) p h = h.z
part_at n s (suc (suc (suc i))) p h = absurd (omega (arith, p))

-- a coordinate is free where its own coefficient is not 0
free_where : (m : Matrix) (d : ℤ) (b : Matrix) → d ≢ pos 0 → IsCoefficientMatrix m d b → (j : ℕ) → j < 3 → (coordinate (nth_column b j) j ≢ pos 0) ↔ IsFree m j
free_where m d b some is j l = (
  (λ other. ⊎_elim (λ f. f.0) (λ n. absurd (other (ap (λ c. coordinate c j) n.1 ∙ origin_at j))) (is j l)),
  (λ free e. ⊎_elim (λ f. some (sym f.1.one ∙ e)) (λ n. n.0 free) (is j l)),
)

-- what the machine tests
test : ℤ → Bool
test x = not (eqb (of_z w32 x) 0)

test_tells : (x : ℤ) → unsigned_abs x ≤ MAX_OVER → (test x ≡ true) ↔ (x ≢ pos 0)
unfolding test
test_tells x small = (to, from)
  where
    to : not (eqb (of_z w32 x) 0) ≡ true → x ≢ pos 0
    to h e = ⊎_elim (λ p. false≢true (sym (ap not p.0) ∙ h)) (λ n. n.1 (ap (of_z w32) e)) (eqb_tells (of_z w32 x) 0)

    from : x ≢ pos 0 → not (eqb (of_z w32 x) 0) ≡ true
    from some = ⊎_elim (λ p. absurd (some (sym (kept w32 MAX_OVER x small tt) ∙ ap (to_z w32) p.1))) (λ n. ap not n.0) (eqb_tells (of_z w32 x) 0)

one_of : (a b : Bool) → Some a ≡ Some b → a ≡ b
one_of a b e = cc

pub tests_tell : (m : Matrix) (d : ℤ) (b : Matrix) → d ≢ pos 0 → HasEntriesWithin MAX_OVER b → IsCoefficientMatrix m d b → (j : ℕ) → j < 3
    → (slice_get (not (eqb (of_z w32 b.xx) 0) ∷ not (eqb (of_z w32 b.yy) 0) ∷ not (eqb (of_z w32 b.zz) 0) ∷ []) j ≡ Some true) ↔ IsFree m j
unfolding test
tests_tell m d b some small is zero l = let f = free_where m d b some is 0 l in let t = test_tells b.xx small.x.first in ((λ e. f.0 (t.0 (one_of _ _ e))), (λ g. ap Some (t.1 (f.1 g))))
tests_tell m d b some small is (suc zero) l = let f = free_where m d b some is 1 l in let t = test_tells b.yy small.y.second in ((λ e. f.0 (t.0 (one_of _ _ e))), (λ g. ap Some (t.1 (f.1 g))))
tests_tell m d b some small is (suc (suc zero)) l = let f = free_where m d b some is 2 l in let t = test_tells b.zz small.z.third in ((λ e. f.0 (t.0 (one_of _ _ e))), (λ g. ap Some (t.1 (f.1 g))))
tests_tell m d b some small is (suc (suc (suc j))) l = absurd (omega (arith, l))
