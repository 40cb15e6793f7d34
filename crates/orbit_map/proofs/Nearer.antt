-- Remainders of numbers that lie in the cell or beside it.
use Rattle.std.proofs.Common.{◌≡◌, ◌<◌, ℕ, ℤ, pos, ◌+ℤ◌, ◌-ℤ◌, ◌<ℤ◌, ◌≤ℤ◌, unsigned_abs, FitsSigned, to_z-of_z, ap, ap₂, sym, subst, ◌∙◌, T, true, arith}
use Rattle.std.proofs.lemmas.Int.{ints}
use mir.Syntax.{w128}
use Rattle.std.specs.Int.{int_rem_euclid}
use Rattle.std.specs.Int.Signed.{lt_z, le_z, lt_z_yes, le_z_yes}
use Rattle.lattice_algebra.proofs.Numbers.{positive_size, positive_is}
use Rattle.lattice_algebra.proofs.Machine.{back}
use Rattle.lattice_algebra.proofs.Remainders.{rem_same, rem_part}

in_cell_by : (m : ℕ) → 0 < m → (n : ℤ) → pos 0 ≤ℤ n → n <ℤ pos m → int_rem_euclid n (pos m) ≡ n
in_cell_by m h n l k = rem_part m h n (omega (arith, ints))

pub in_cell : (n d : ℤ) → pos 0 <ℤ d → pos 0 ≤ℤ n → n <ℤ d → n ≡ int_rem_euclid n d
in_cell n d h l k =
    let e = positive_is d h in
    sym (ap (λ v. int_rem_euclid n v) e ∙ in_cell_by (unsigned_abs d) (positive_size d h) n l (subst (λ v. n <ℤ v) e k))

pub cell_before : (n d : ℤ) → pos 0 <ℤ d → int_rem_euclid (n +ℤ d) d ≡ int_rem_euclid n d
cell_before n d h =
    let e = positive_is d h in
    subst (λ v. int_rem_euclid (n +ℤ v) v ≡ int_rem_euclid n v) (sym e) (rem_same (unsigned_abs d) (positive_size d h) (n +ℤ pos (unsigned_abs d)) n (pos 1) (omega (arith, ints)))

pub cell_behind : (n d : ℤ) → pos 0 <ℤ d → int_rem_euclid (n -ℤ d) d ≡ int_rem_euclid n d
cell_behind n d h =
    let e = positive_is d h in
    subst (λ v. int_rem_euclid (n -ℤ v) v ≡ int_rem_euclid n v) (sym e) (sym (rem_same (unsigned_abs d) (positive_size d h) n (n -ℤ pos (unsigned_abs d)) (pos 1) (omega (arith, ints))))

-- as the machine passes numbers on
is_below : {a b : ℤ} → lt_z a b ≡ true → a <ℤ b
is_below t = lt_z_yes (subst T (sym t) tt)

is_at_most : {a b : ℤ} → le_z a b ≡ true → a ≤ℤ b
is_at_most t = le_z_yes (subst T (sym t) tt)

module _ (n d : ℤ) (n_fits : FitsSigned w128 n) (d_fits : FitsSigned w128 d) (some : pos 0 <ℤ d) where
  n_back : back w128 n ≡ n
  n_back = to_z-of_z n_fits

  d_back : back w128 d ≡ d
  d_back = to_z-of_z d_fits

  sum_fits : n <ℤ pos 0 → FitsSigned w128 (n +ℤ d)
  sum_fits l = omega (arith, ints)

  difference_fits : d ≤ℤ n → FitsSigned w128 (n -ℤ d)
  difference_fits l = omega (arith, ints)

  pub before : lt_z (back w128 n) (pos 0) ≡ true → int_rem_euclid (back w128 (back w128 n +ℤ back w128 d)) d ≡ int_rem_euclid n d
  before t =
      let l : n <ℤ pos 0 = subst (λ v. v <ℤ pos 0) n_back (is_below t) in
      ap (λ v. int_rem_euclid v d) (ap (back w128) (ap₂ ◌+ℤ◌ n_back d_back) ∙ to_z-of_z (sum_fits l)) ∙ cell_before n d some

  pub behind : le_z (back w128 d) (back w128 n) ≡ true → int_rem_euclid (back w128 (back w128 n -ℤ back w128 d)) d ≡ int_rem_euclid n d
  behind t =
      let l : d ≤ℤ n = subst (λ v. v ≤ℤ n) d_back (subst (λ v. back w128 d ≤ℤ v) n_back (is_at_most t)) in
      ap (λ v. int_rem_euclid v d) (ap (back w128) (ap₂ ◌-ℤ◌ n_back d_back) ∙ to_z-of_z (difference_fits l)) ∙ cell_behind n d some

  module _ (near : ℤ) (near_fits : FitsSigned w128 near) (same : int_rem_euclid near (back w128 d) ≡ int_rem_euclid (back w128 n) (back w128 d)) where
    near_back : back w128 near ≡ near
    near_back = to_z-of_z near_fits

    same_back : int_rem_euclid near d ≡ int_rem_euclid n d
    same_back = ap (λ v. int_rem_euclid near v) (sym d_back) ∙ same ∙ ap₂ int_rem_euclid n_back d_back

    pub undivided : le_z (pos 0) (back w128 near) ≡ true → lt_z (back w128 near) (back w128 d) ≡ true → back w128 near ≡ int_rem_euclid n d
    undivided t u =
        let l : pos 0 ≤ℤ near = subst (λ v. pos 0 ≤ℤ v) near_back (is_at_most t) in
        let k : near <ℤ d = subst (λ v. v <ℤ d) near_back (subst (λ v. back w128 near <ℤ v) d_back (is_below u)) in
        near_back ∙ in_cell near d some l k ∙ same_back

    pub divided : (r : ℤ) → FitsSigned w128 r → r ≡ int_rem_euclid (back w128 near) (back w128 d) → back w128 r ≡ int_rem_euclid n d
    divided r f e = to_z-of_z f ∙ e ∙ ap₂ int_rem_euclid near_back d_back ∙ same_back
