-- The numbers of a point that is made.
use Rattle.std.proofs.Common.{◌≡◌, ◌<◌, ◌*◌, ℕ, ℤ, pos, ◌*ℤ◌, to_z, of_z, ap, subst, ◌∙◌, arith}
use Rattle.std.specs.Int.{w128}
use Rattle.std.proofs.lemmas.Int.{ints}
use Rattle.lattice_algebra.specs.Matrix.{times}
use Rattle.lattice_algebra.specs.Point.{Point, ◌≈◌}
use Rattle.exact_ops.specs.declared.TheConstants.{UNIT}
use Rattle.samples.specs.Points.{next, drawn, point_from}

abbrev pub in_twelfths : ℕ → ℕ → ℕ → Point
in_twelfths x y z = record { n = record { x = pos x; y = pos y; z = pos z }; d = pos 12 }

passed : (u : ℤ) (n : ℕ) → n < 13 → u ≡ pos (UNIT * n) → to_z w128 (of_z w128 u) ≡ pos (UNIT * n)
passed u n few e = omega (arith, ints, few, e)

one_number : (n : ℕ) → pos 12 *ℤ pos (UNIT * n) ≡ pos (UNIT * 12) *ℤ pos n
one_number n = omega (arith, ints)

-- as they are passed on
pub are_twelfths : (a b c d : ℤ) (x y z : ℕ) → x < 12 → y < 12 → z < 12 → a ≡ pos (UNIT * x) → b ≡ pos (UNIT * y) → c ≡ pos (UNIT * z) → d ≡ pos (UNIT * 12)
    → times (pos 12) (record { x = to_z w128 (of_z w128 a); y = to_z w128 (of_z w128 b); z = to_z w128 (of_z w128 c) }) ≡ times (to_z w128 (of_z w128 d)) (record { x = pos x; y = pos y; z = pos z })
unfolding times
are_twelfths a b c d x y z lx ly lz ea eb ec ed =
    let fd = passed d 12 (omega arith) ed in
    let at : (u : ℤ) (n : ℕ) → n < 12 → u ≡ pos (UNIT * n) → pos 12 *ℤ to_z w128 (of_z w128 u) ≡ to_z w128 (of_z w128 d) *ℤ pos n = λ u n l e. rw (passed u n (omega (arith, l)) e, fd) (one_number n) in
    let fx = at a x lx ea in
    let fy = at b y ly eb in
    let fz = at c z lz ec in
    λ i. record { x = fx i; y = fy i; z = fz i }

-- three numbers that are drawn one after the other
pub made_from : (p : Point) (s a b c x y z : ℕ) → a ≡ next s → b ≡ next a → c ≡ next b → x ≡ drawn a → y ≡ drawn b → z ≡ drawn c → p ≈ in_twelfths x y z → p ≈ point_from s
made_from p s a b c x y z ea eb ec ex ey ez h =
    let eb' = eb ∙ ap next ea in
    let ec' = ec ∙ ap next eb' in
    let fx = ex ∙ ap drawn ea in
    let fy = ey ∙ ap drawn eb' in
    let fz = ez ∙ ap drawn ec' in
    subst (λ q. p ≈ q) (λ i. in_twelfths (fx i) (fy i) (fz i)) h
