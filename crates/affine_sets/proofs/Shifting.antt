-- Whole shifts that an equation asks for.
use Rattle.std.proofs.Common.{◌≡◌, ◌≤◌, ◌<◌, ◌+◌, ◌*◌, ◌^◌, ℕ, ℤ, pos, ◌+ℤ◌, ◌-ℤ◌, ◌*ℤ◌, ◌<ℤ◌, unsigned_abs, Option, None, Some, IfSome, [], ◌∷◌, w32, w64, ap, ap₂, sym, ◌∙◌, arith}
use Rattle.std.proofs.lemmas.Int.{ints, unsigned_abs-mul}
use native.Mathlib.Nat.{le_of_mul-le-mul_left}
use Rattle.lattice_algebra.proofs.Ring.{var, con, neg, known, ◌⊕◌, ◌⊖◌, ◌⊗◌, ring_from}
use Rattle.lattice_algebra.proofs.Machine.{back, kept}
use Rattle.exact_ops.specs.declared.TheConstants.{UNIT}
use Rattle.group_closure.specs.declared.TheConstants.{MAX_OPERATORS}
use Rattle.affine_sets.specs.declared.TheConstants.{MAX_GROWN_SHIFT, MAX_TRANSLATION}

pub if_some : {X : Type 0} {P Q : X → Type 0} (o : Option X) → ((x : X) → P x → Q x) → IfSome o P → IfSome o Q
if_some None f h = h
if_some (Some x) f h = f x h

abbrev pub near_limit : ℕ → ℕ
near_limit over = 7 * (over * (UNIT * (MAX_GROWN_SHIFT + 1)))

near_small : (n over : ℕ) → over ≤ MAX_OPERATORS → n ≤ near_limit over → n ≤ MAX_TRANSLATION
near_small n over l h = omega (arith, l, h)

pub kept_near : (n : ℤ) (over : ℕ) → over ≤ MAX_OPERATORS → unsigned_abs n ≤ near_limit over → back w64 n ≡ n
kept_near n over l h = kept w64 MAX_TRANSLATION n (near_small (unsigned_abs n) over l h) tt

pub kept_near_size : (n : ℤ) (over : ℕ) → over ≤ MAX_OPERATORS → unsigned_abs n ≤ near_limit over → unsigned_abs (back w64 n) ≤ MAX_TRANSLATION
kept_near_size n over l h = rw (kept_near n over l h) (near_small (unsigned_abs n) over l h)

pub record IsRest (n t m cell : ℤ) (over : ℕ) : Type 0 where
  pub rest : back w64 m ≡ n -ℤ pos over *ℤ t
  pub whole : back w64 cell ≡ pos (UNIT * over)

pub rest_is : (n t m cell : ℤ) (over : ℕ) → over ≤ MAX_OPERATORS → unsigned_abs n ≤ near_limit over → unsigned_abs t ≤ UNIT → m ≡ back w64 n -ℤ pos over *ℤ back w32 t → unsigned_abs m ≤ MAX_TRANSLATION + 10 ^ 12 → cell ≡ pos (UNIT * over) → IsRest n t m cell over
rest_is n t m cell over l h p e s q = record {
  rest = kept w64 (MAX_TRANSLATION + 10 ^ 12) m s tt ∙ e ∙ ap₂ (λ a b. a -ℤ pos over *ℤ b) (kept_near n over l h) (kept w32 UNIT t p tt);
  whole = ap (back w64) q ∙ kept w64 (UNIT * MAX_OPERATORS) (pos (UNIT * over)) (omega (arith, l)) tt;
}

from_rest : (n t r k o u : ℤ) → r ≡ n -ℤ o *ℤ t → r ≡ k *ℤ (u *ℤ o) → n ≡ o *ℤ (t +ℤ u *ℤ k)
from_rest n t r k o u e f =
    let N = var 0 in
    let T = var 1 in
    let R = var 2 in
    let K = var 3 in
    let O = var 4 in
    let U = var 5 in
    ring_from (n ∷ t ∷ r ∷ k ∷ o ∷ u ∷ []) N (O ⊗ (T ⊕ U ⊗ K)) (known (neg (con (pos 1))) R (N ⊖ O ⊗ T) ∷ known (con (pos 1)) R (K ⊗ (U ⊗ O)) ∷ []) (e, (f, tt)) tt

to_rest : (n t r k o u : ℤ) → r ≡ n -ℤ o *ℤ t → n ≡ o *ℤ (t +ℤ u *ℤ k) → r ≡ k *ℤ (u *ℤ o)
to_rest n t r k o u e f =
    let N = var 0 in
    let T = var 1 in
    let R = var 2 in
    let K = var 3 in
    let O = var 4 in
    let U = var 5 in
    ring_from (n ∷ t ∷ r ∷ k ∷ o ∷ u ∷ []) R (K ⊗ (U ⊗ O)) (known (con (pos 1)) R (N ⊖ O ⊗ T) ∷ known (con (pos 1)) N (O ⊗ (T ⊕ U ⊗ K)) ∷ []) (e, (f, tt)) tt

pub shift_value : (n t m cell k : ℤ) (over : ℕ) → IsRest n t m cell over → back w64 m ≡ k *ℤ back w64 cell → n ≡ pos over *ℤ (t +ℤ pos UNIT *ℤ k)
shift_value n t m cell k over r e = from_rest n t (back w64 m) k (pos over) (pos UNIT) r.rest (e ∙ ap (λ c. k *ℤ c) r.whole)

pub shift_some : (n t m cell k : ℤ) (over : ℕ) → IsRest n t m cell over → n ≡ pos over *ℤ (t +ℤ pos UNIT *ℤ k) → back w64 m ≡ k *ℤ back w64 cell
shift_some n t m cell k over r e = to_rest n t (back w64 m) k (pos over) (pos UNIT) r.rest e ∙ ap (λ c. k *ℤ c) (sym r.whole)

inner_size : (t k x : ℤ) → x ≡ t +ℤ pos UNIT *ℤ k → unsigned_abs x ≤ 7 * (UNIT * (MAX_GROWN_SHIFT + 1)) → unsigned_abs t ≤ UNIT → unsigned_abs k ≤ 8 * MAX_GROWN_SHIFT
inner_size t k x e h p = omega (arith, ints)

pub shift_size : (n t k : ℤ) (over : ℕ) → 0 < over → unsigned_abs n ≤ near_limit over → unsigned_abs t ≤ UNIT → n ≡ pos over *ℤ (t +ℤ pos UNIT *ℤ k) → unsigned_abs k ≤ 8 * MAX_GROWN_SHIFT
shift_size n t k over some h p e =
    let x = t +ℤ pos UNIT *ℤ k in
    let s : unsigned_abs n ≡ over * unsigned_abs x = ap unsigned_abs e ∙ unsigned_abs-mul (pos over) x in
    let l : over * unsigned_abs x ≤ over * (7 * (UNIT * (MAX_GROWN_SHIFT + 1))) = omega (arith, s, h) in
    inner_size t k x (λ _. x) (le_of_mul-le-mul_left l some) p

pub some_cell : (cell : ℤ) (over : ℕ) → 0 < over → back w64 cell ≡ pos (UNIT * over) → pos 0 <ℤ back w64 cell
some_cell cell over h e = omega (arith, ints)
