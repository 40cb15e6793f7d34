-- Columns on one line through the origin.
use Rattle.std.proofs.Common.{◌≡◌, ◌∷◌, [], ℤ, pos, ◌+ℤ◌, ◌*ℤ◌, sym, subst, ◌∙◌}
use Rattle.lattice_algebra.specs.Matrix.{Matrix, Column, entries, ◌·ᶜ◌}
use Rattle.lattice_algebra.proofs.Ring.{Expr, Step, var, con, ◌⊕◌, ◌⊗◌, ring_from}
use Rattle.lattice_algebra.proofs.MatrixRing.{matrix_at, ◌·ˢᶜ◌, column_ring}
use Rattle.op_types.specs.Vector.{AreParallel, IsImage, x_column_of, y_column_of, z_column_of}

-- ---- the columns of a matrix are the images of three columns

pub x_image : (m : Matrix) → IsImage m (x_column_of m)
unfolding ◌·ᶜ◌
x_image m = (record { x = pos 1; y = pos 0; z = pos 0 }, column_ring (entries m) (record { x = var 0; y = var 3; z = var 6 }) (matrix_at 0 ·ˢᶜ record { x = con (pos 1); y = con (pos 0); z = con (pos 0) }) tt)

pub y_image : (m : Matrix) → IsImage m (y_column_of m)
unfolding ◌·ᶜ◌
y_image m = (record { x = pos 0; y = pos 1; z = pos 0 }, column_ring (entries m) (record { x = var 1; y = var 4; z = var 7 }) (matrix_at 0 ·ˢᶜ record { x = con (pos 0); y = con (pos 1); z = con (pos 0) }) tt)

pub z_image : (m : Matrix) → IsImage m (z_column_of m)
unfolding ◌·ᶜ◌
z_image m = (record { x = pos 0; y = pos 0; z = pos 1 }, column_ring (entries m) (record { x = var 2; y = var 5; z = var 8 }) (matrix_at 0 ·ˢᶜ record { x = con (pos 0); y = con (pos 0); z = con (pos 1) }) tt)

pub image_column : (m : Matrix) (a b : Column) → a ≡ b → IsImage m b → IsImage m a
image_column m a b e h = (h.0, e ∙ h.1)

-- a column that is on one line with the three columns is so with each image
entry_along : (p q r a b x y z : ℤ) → a *ℤ x ≡ b *ℤ p → a *ℤ y ≡ b *ℤ q → a *ℤ z ≡ b *ℤ r → (e f g : ℤ) → a *ℤ (x *ℤ e +ℤ y *ℤ f +ℤ z *ℤ g) ≡ b *ℤ (p *ℤ e +ℤ q *ℤ f +ℤ r *ℤ g)
entry_along p q r a b x y z h k l e f g =
    let A = var 3 in
    let B = var 4 in
    let step : Expr → Expr → Expr → Step = λ w i j. record { factor = w; left = A ⊗ i; right = B ⊗ j } in
    ring_from (p ∷ q ∷ r ∷ a ∷ b ∷ x ∷ y ∷ z ∷ e ∷ f ∷ g ∷ []) (A ⊗ (var 5 ⊗ var 8 ⊕ var 6 ⊗ var 9 ⊕ var 7 ⊗ var 10)) (B ⊗ (var 0 ⊗ var 8 ⊕ var 1 ⊗ var 9 ⊕ var 2 ⊗ var 10))
    (step (var 8) (var 5) (var 0) ∷ step (var 9) (var 6) (var 1) ∷ step (var 10) (var 7) (var 2) ∷ []) (h, (k, (l, tt))) tt

pub each_image : (m : Matrix) (a : Column) → AreParallel a (x_column_of m) → AreParallel a (y_column_of m) → AreParallel a (z_column_of m) → (e : Column) → AreParallel a (m ·ᶜ e)
unfolding ◌·ᶜ◌
each_image m a p q r e = record {
  xy = entry_along m.xx m.xy m.xz a.x a.y m.yx m.yy m.yz p.xy q.xy r.xy e.x e.y e.z;
  yz = entry_along m.yx m.yy m.yz a.y a.z m.zx m.zy m.zz p.yz q.yz r.yz e.x e.y e.z;
  zx = entry_along m.zx m.zy m.zz a.z a.x m.xx m.xy m.xz p.zx q.zx r.zx e.x e.y e.z;
}

pub parallel_to : (m : Matrix) (a b : Column) → IsImage m b → ((e : Column) → AreParallel a (m ·ᶜ e)) → AreParallel a b
parallel_to m a b h k = subst (AreParallel a) (sym h.1) (k h.0)
