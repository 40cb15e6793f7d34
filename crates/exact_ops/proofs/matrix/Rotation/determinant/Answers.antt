use Rattle.std.proofs.Common.{◌≡◌, ◌≤◌, ◌*◌, ◌^◌, ap, sym, subst, ◌∙◌, List, ℕ, ℤ, ◌-ℤ◌, ◌*ℤ◌, unsigned_abs, [], ◌∷◌, w32, w64}
use Rattle.lattice_algebra.specs.Matrix.{det}
use Rattle.lattice_algebra.proofs.Ring.{Expr, var, ◌⊕◌, ◌⊖◌, ◌⊗◌, value}
use Rattle.lattice_algebra.proofs.Machine.{IsWithin, back, fits, computed, computed-size, kept, widened}
use Rattle.exact_ops.specs.declared.TheConstants.{MAX_ENTRY}
use Rattle.exact_ops.specs.Fields.{matrix_in}
use Rattle.exact_ops.proofs.matrix.Rotation.determinant.Goals as goal

abbrev bounds : List ℕ
bounds = MAX_ENTRY ∷ MAX_ENTRY ∷ MAX_ENTRY ∷ (2 * MAX_ENTRY ^ 2) ∷ (2 * MAX_ENTRY ^ 2) ∷ (2 * MAX_ENTRY ^ 2) ∷ []

abbrev numbers : goal.After-from-c → List ℤ
numbers c = c.from-a.result ∷ c.from-b.result ∷ c.from-c.result ∷ c.minor-x.result ∷ c.minor-y.result ∷ c.minor-z.result ∷ []

abbrev minor : ℤ → ℤ → ℤ → ℤ → ℤ
minor a b c d = a *ℤ b -ℤ c *ℤ d

abbrev of_matrix : goal.After-from-c → List ℤ
of_matrix c = let m = matrix_in c.args.self.now in m.xx ∷ m.xy ∷ m.xz ∷ minor m.yy m.zz m.yz m.zy ∷ minor m.yx m.zz m.yz m.zx ∷ minor m.yx m.zy m.yy m.zx ∷ []

-- a minor of entries that were passed on
minor_is : (r a b c d : ℤ) → unsigned_abs a ≤ MAX_ENTRY → unsigned_abs b ≤ MAX_ENTRY → unsigned_abs c ≤ MAX_ENTRY → unsigned_abs d ≤ MAX_ENTRY → r ≡ minor (back w32 a) (back w32 b) (back w32 c) (back w32 d) → r ≡ minor a b c d
minor_is r a b c d p q s t e = e ∙ λ i. minor (kept w32 MAX_ENTRY a p tt i) (kept w32 MAX_ENTRY b q tt i) (kept w32 MAX_ENTRY c s tt i) (kept w32 MAX_ENTRY d t tt i)

same_numbers : (c : goal.After-from-c) → numbers c ≡ of_matrix c
same_numbers c =
    let x = c.requires.x in
    let y = c.requires.y in
    let z = c.requires.z in
    let m = matrix_in c.args.self.now in
    λ i. widened MAX_ENTRY m.xx c.from-a.ensures x.first tt i ∷ widened MAX_ENTRY m.xy c.from-b.ensures x.second tt i ∷ widened MAX_ENTRY m.xz c.from-c.ensures x.third tt i
    ∷ minor_is _ m.yy m.zz m.yz m.zy y.second z.third y.third z.second c.minor-x.ensures.value i
    ∷ minor_is _ m.yx m.zz m.yz m.zx y.first z.third y.third z.first c.minor-y.ensures.value i
    ∷ minor_is _ m.yx m.zy m.yy m.zx y.first z.second y.second z.first c.minor-z.ensures.value i ∷ []

entry_size : (x y : ℤ) → x ≡ y → unsigned_abs y ≤ MAX_ENTRY → unsigned_abs x ≤ MAX_ENTRY
entry_size x y e h = subst (λ v. unsigned_abs v ≤ MAX_ENTRY) (sym e) h

within : (c : goal.After-from-c) → IsWithin bounds (numbers c)
within c =
    let x = c.requires.x in
    let m = matrix_in c.args.self.now in (
      entry_size _ m.xx (widened MAX_ENTRY m.xx c.from-a.ensures x.first tt) x.first,
      (entry_size _ m.xy (widened MAX_ENTRY m.xy c.from-b.ensures x.second tt) x.second, (entry_size _ m.xz (widened MAX_ENTRY m.xz c.from-c.ensures x.third tt) x.third, (c.minor-x.ensures.size, (c.minor-y.ensures.size, (c.minor-z.ensures.size, tt))))),
    )

abbrev first : Expr
first = var 0 ⊗ var 3

abbrev second : Expr
second = var 1 ⊗ var 4

abbrev third : Expr
third = var 2 ⊗ var 5

pub overflow_mul-result : goal.overflow_mul-result
overflow_mul-result c = fits w64 bounds (numbers c) first (within c) tt

pub overflow_mul-result-2 : goal.overflow_mul-result-2
overflow_mul-result-2 c = fits w64 bounds (numbers c) second (within c) tt

pub overflow_sub-result : goal.overflow_sub-result
overflow_sub-result c = fits w64 bounds (numbers c) (first ⊖ second) (within c) tt

pub overflow_mul-result-3 : goal.overflow_mul-result-3
overflow_mul-result-3 c = fits w64 bounds (numbers c) third (within c) tt

pub overflow_add-result : goal.overflow_add-result
overflow_add-result c = fits w64 bounds (numbers c) (first ⊖ second ⊕ third) (within c) tt

pub returns-clause-value : goal.returns-clause-value
unfolding det
returns-clause-value c = computed w64 bounds (numbers c) (first ⊖ second ⊕ third) (within c) tt ∙ ap (λ r. value r (first ⊖ second ⊕ third)) (same_numbers c)

pub returns-clause-size : goal.returns-clause-size
returns-clause-size c = computed-size w64 bounds (numbers c) (first ⊖ second ⊕ third) (within c) tt
