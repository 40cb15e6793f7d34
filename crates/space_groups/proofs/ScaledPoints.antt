-- What maps do to points over a denominator that is a multiple of unit.
use Rattle.std.proofs.Common.{◌≡◌, ◌++◌, ◌∷◌, ℕ, ◌<◌, ℤ, pos, refl, subst}
use Rattle.std.proofs.Math.Bridge.{le_prop}
use Rattle.lattice_algebra.specs.Matrix.{Matrix, Column, entries, coordinates, ◌·◌, ◌·ᶜ◌, ◌+ᶜ◌, times, identity, origin}
use Rattle.lattice_algebra.specs.Map.{Map, ◌∘◌, identity_map}
use Rattle.lattice_algebra.proofs.Ring.{var}
use Rattle.lattice_algebra.proofs.MatrixRing.{matrix_at, column_at, ◌·ˢ◌, ◌·ˢᶜ◌, ◌+ˢᶜ◌, sym_times, sym_identity, sym_origin, column_ring}
use Rattle.space_groups.specs.Space.{ScaledPoint, moved}

pub scaled_path : (x y : ScaledPoint) → x.n ≡ y.n → x.d ≡ y.d → x ≡ y
scaled_path x y p e =
    let P : ℕ → Type 0 = λ k. (q : 0 < k) → x ≡ record { n = y.n; d = k; some = q } in
    subst P e (λ q i. record { n = p i; d = x.d; some = le_prop x.some q i }) y.some

moved-identity-column : (d : ℤ) (p : Column) → identity ·ᶜ p +ᶜ times d origin ≡ p
unfolding ◌·ᶜ◌ ◌+ᶜ◌ times
moved-identity-column d p = column_ring (d ∷ coordinates p) (sym_identity ·ˢᶜ column_at 1 +ˢᶜ sym_times (var 0) sym_origin) (column_at 1) tt

pub moved-identity : (y : ScaledPoint) → moved identity_map y ≡ y
unfolding moved
moved-identity y = scaled_path _ _ (moved-identity-column (pos y.d) y.n) refl

moved-∘-column : (d : ℤ) (v w : Matrix) (s t p : Column) → (v · w) ·ᶜ p +ᶜ times d (v ·ᶜ t +ᶜ s) ≡ v ·ᶜ (w ·ᶜ p +ᶜ times d t) +ᶜ times d s
unfolding ◌·◌ ◌·ᶜ◌ ◌+ᶜ◌ times
moved-∘-column d v w s t p =
    let D = var 0 in
    let V = matrix_at 1 in
    let W = matrix_at 10 in
    let S = column_at 19 in
    let T = column_at 22 in
    let P = column_at 25 in
    column_ring (d ∷ (entries v ++ (entries w ++ (coordinates s ++ (coordinates t ++ coordinates p))))) ((V ·ˢ W) ·ˢᶜ P +ˢᶜ sym_times D (V ·ˢᶜ T +ˢᶜ S)) (V ·ˢᶜ (W ·ˢᶜ P +ˢᶜ sym_times D T) +ˢᶜ sym_times D S) tt

pub moved-∘ : (g f : Map) (y : ScaledPoint) → moved (g ∘ f) y ≡ moved g (moved f y)
unfolding moved ◌∘◌
moved-∘ g f y = scaled_path _ _ (moved-∘-column (pos y.d) g.w f.w g.s f.s y.n) refl
