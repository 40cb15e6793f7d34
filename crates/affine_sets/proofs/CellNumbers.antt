-- Remainders and quotients by the parts of a cell, as they are computed.
use Rattle.std.proofs.Common.{◌≡◌, ◌≤◌, ◌<◌, ◌*◌, ℕ, ℤ, pos, ◌*ℤ◌, unsigned_abs, w32, w64, FitsSigned, ap, ap₂, sym, ◌∙◌, subst, arith, to_z-of_z}
use Rattle.std.specs.Int.{int_div_euclid, int_rem_euclid}
use Rattle.std.proofs.lemmas.Int.{ints}
use Rattle.lattice_algebra.specs.Operator.{IsPart, AreWithin, modulo}
use Rattle.lattice_algebra.specs.Matrix.{Column}
use Rattle.space_groups.specs.Averages.{Block}
use Rattle.affine_sets.specs.declared.TheConstants.{MAX_TRANSLATION}
use Rattle.affine_sets.specs.Averages.{whole_part}
use Rattle.lattice_algebra.proofs.Machine.{back, kept}
use Rattle.lattice_algebra.proofs.Remainders.{rem_is}
use Rattle.exact_ops.specs.declared.TheConstants.{UNIT}
use Rattle.group_closure.specs.declared.TheConstants.{MAX_OPERATORS}

kept_cell : (cell : ℤ) (over : ℕ) → over ≤ MAX_OPERATORS → cell ≡ pos (UNIT * over) → back w64 cell ≡ pos (UNIT * over)
kept_cell cell over l e = ap (back w64) e ∙ kept w64 (UNIT * MAX_OPERATORS) (pos (UNIT * over)) (omega (arith, l)) tt

pub remainder_is : (n r cell : ℤ) (over : ℕ) → over ≤ MAX_OPERATORS → FitsSigned w64 n → cell ≡ pos (UNIT * over) → r ≡ int_rem_euclid (back w64 n) (back w64 cell) → r ≡ int_rem_euclid n (pos (UNIT * over))
remainder_is n r cell over l f e q = q ∙ ap₂ int_rem_euclid (to_z-of_z f) (kept_cell cell over l e)

pub quotient_is : (n r cell : ℤ) (over : ℕ) → over ≤ MAX_OPERATORS → FitsSigned w64 n → cell ≡ pos (UNIT * over) → r ≡ int_div_euclid (back w64 n) (back w64 cell) → r ≡ int_div_euclid n (pos (UNIT * over))
quotient_is n r cell over l f e q = q ∙ ap₂ int_div_euclid (to_z-of_z f) (kept_cell cell over l e)

part_small : (r : ℤ) (over : ℕ) → over ≤ MAX_OPERATORS → IsPart (UNIT * over) r → unsigned_abs r ≤ UNIT * MAX_OPERATORS
part_small r over l p = omega (arith, ints)

pub remainder_small : (n r : ℤ) (over : ℕ) → 0 < over → over ≤ MAX_OPERATORS → r ≡ int_rem_euclid n (pos (UNIT * over)) → unsigned_abs r ≤ UNIT * MAX_OPERATORS
remainder_small n r over h l e = part_small r over l (subst (IsPart (UNIT * over)) (sym e) (rem_is (UNIT * over) (omega (arith, h)) n).2)

pub kept_remainder : (r : ℤ) → unsigned_abs r ≤ UNIT * MAX_OPERATORS → back w32 (back w64 r) ≡ r
kept_remainder r l = ap (back w32) (kept w64 (UNIT * MAX_OPERATORS) r l tt) ∙ kept w32 (UNIT * MAX_OPERATORS) r l tt

pub remainder_fits : (r : ℤ) → unsigned_abs r ≤ UNIT * MAX_OPERATORS → FitsSigned w32 (back w64 r)
remainder_fits r l = subst (FitsSigned w32) (sym (kept w64 (UNIT * MAX_OPERATORS) r l tt)) (small r l)
  where
    small : (r : ℤ) → unsigned_abs r ≤ UNIT * MAX_OPERATORS → FitsSigned w32 r
    small r l = omega (arith, ints)

pub not_none : (cell : ℤ) (over : ℕ) → 0 < over → cell ≡ pos (UNIT * over) → cell ≡ pos 0 → ⊥
not_none cell over h e z = omega (arith, ints)

-- ---- the numbers of an average

pub in_cell_number : (n r : ℤ) (over : ℕ) → unsigned_abs n ≤ MAX_TRANSLATION → 0 < over → over ≤ MAX_OPERATORS → r ≡ int_rem_euclid (back w64 n) (pos (UNIT * over)) → back w32 r ≡ int_rem_euclid n (pos (UNIT * over))
in_cell_number n r over s h l e =
    let q : r ≡ int_rem_euclid n (pos (UNIT * over)) = e ∙ ap (λ v. int_rem_euclid v (pos (UNIT * over))) (kept w64 MAX_TRANSLATION n s tt) in
    kept w32 (UNIT * MAX_OPERATORS) r (remainder_small n r over h l q) tt ∙ q

pub in_cell_column : (t : Column) (over : ℕ) (x y z : ℤ) → AreWithin MAX_TRANSLATION t.x t.y t.z → 0 < over → over ≤ MAX_OPERATORS → x ≡ int_rem_euclid (back w64 t.x) (pos (UNIT * over)) → y ≡ int_rem_euclid (back w64 t.y) (pos (UNIT * over))
    → z ≡ int_rem_euclid (back w64 t.z) (pos (UNIT * over)) → record { x = back w32 x; y = back w32 y; z = back w32 z } ≡ modulo (UNIT * over) t
unfolding modulo
in_cell_column t over x y z w h l p q r =
    let a = in_cell_number t.x x over w.first h l p in
    let b = in_cell_number t.y y over w.second h l q in
    let c = in_cell_number t.z z over w.third h l r in
    λ i. record { x = a i; y = b i; z = c i }

whole_number : (n r : ℤ) (over : ℕ) → unsigned_abs n ≤ MAX_TRANSLATION → FitsSigned w64 r → r ≡ int_div_euclid (back w64 n) (pos (UNIT * over)) → back w64 r ≡ int_div_euclid n (pos (UNIT * over))
whole_number n r over s f e = to_z-of_z f ∙ e ∙ ap (λ v. int_div_euclid v (pos (UNIT * over))) (kept w64 MAX_TRANSLATION n s tt)

pub whole_column : (a : Block) (over : ℕ) (x y z : ℤ) → a.n ≡ pos over → AreWithin MAX_TRANSLATION a.t.x a.t.y a.t.z → (FitsSigned w64 x) × (FitsSigned w64 y) × (FitsSigned w64 z) → x ≡ int_div_euclid (back w64 a.t.x) (pos (UNIT * over))
    → y ≡ int_div_euclid (back w64 a.t.y) (pos (UNIT * over)) → z ≡ int_div_euclid (back w64 a.t.z) (pos (UNIT * over)) → record { x = back w64 x; y = back w64 y; z = back w64 z } ≡ whole_part a
whole_column a over x y z e w f p q r =
    let c : pos (UNIT * over) ≡ pos UNIT *ℤ a.n = ap (λ k. pos UNIT *ℤ k) (sym e) in
    let u = whole_number a.t.x x over w.first f.0 p ∙ ap (int_div_euclid a.t.x) c in
    let v = whole_number a.t.y y over w.second f.1 q ∙ ap (int_div_euclid a.t.y) c in
    let s = whole_number a.t.z z over w.third f.2 r ∙ ap (int_div_euclid a.t.z) c in
    λ i. record { x = u i; y = v i; z = s i }
