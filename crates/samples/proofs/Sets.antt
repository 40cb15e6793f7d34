-- Sets of operators that enclose the lists of the samples.
use Rattle.std.proofs.Common.{◌≡◌, ◌/◌, ◌++◌, ℤ, pos, negsuc, true, List, [], ◌∷◌, refl}
use Rattle.lattice_algebra.specs.Matrix.{Matrix, Column, ◌·◌, ◌·ᶜ◌, ◌+ᶜ◌, det, identity, origin}
use Rattle.lattice_algebra.specs.Operator.{Operator, product, modulo}
use Rattle.exact_ops.specs.declared.TheConstants.{UNIT}
use Rattle.samples.proofs.EnclosedTests.{is_enclosed}

-- ---- parts

abbrev half : ℤ
half = pos (UNIT / 2)

abbrev minus : ℤ
minus = negsuc 0

abbrev matrix : ℤ → ℤ → ℤ → ℤ → ℤ → ℤ → ℤ → ℤ → ℤ → Matrix
matrix a b c d e f g h k = record { xx = a; xy = b; xz = c; yx = d; yy = e; yz = f; zx = g; zy = h; zz = k }

abbrev column : ℤ → ℤ → ℤ → Column
column a b c = record { x = a; y = b; z = c }

abbrev with : Column → Matrix → Operator
with t w = record { w = w; t = t }

abbrev diagonal : ℤ → ℤ → ℤ → Matrix
diagonal a b c = matrix a (pos 0) (pos 0) (pos 0) b (pos 0) (pos 0) (pos 0) c

-- one list behind the other
abbrev each : {A : Type 0} → List A → (A → List Operator) → List Operator
each [] f = []
each (x ∷ xs) f = f x ++ each xs f

abbrev signs : List ℤ
signs = pos 1 ∷ minus ∷ []

abbrev halves : List ℤ
halves = pos 0 ∷ half ∷ []

-- ---- matrices with 1 or -1 on the diagonal, with translations of 0 or a half

abbrev pub diagonal_set : List Operator
diagonal_set = each signs (λ a. each signs (λ b. each signs (λ c. each halves (λ x. each halves (λ y. each halves (λ z. with (column x y z) (diagonal a b c) ∷ []))))))

-- ---- the matrices of a hexagonal lattice

abbrev turn : ℤ → ℤ → ℤ → ℤ → ℤ → Operator
turn c a b d e = with origin (matrix a b (pos 0) d e (pos 0) (pos 0) (pos 0) c)

abbrev pub hexagonal_set : List Operator
hexagonal_set =
    each signs (λ c.
    turn c (pos 1) (pos 0) (pos 0) (pos 1) ∷ turn c (pos 1) minus (pos 1) (pos 0) ∷ turn c (pos 0) minus (pos 1) minus ∷ turn c minus (pos 0) (pos 0) minus ∷ turn c minus (pos 1) minus (pos 0) ∷ turn c (pos 0) (pos 1) minus (pos 1)
    ∷ turn c (pos 0) (pos 1) (pos 1) (pos 0) ∷ turn c minus (pos 1) (pos 0) (pos 1) ∷ turn c minus (pos 0) minus (pos 1) ∷ turn c (pos 0) minus minus (pos 0) ∷ turn c (pos 1) minus (pos 0) minus ∷ turn c (pos 1) (pos 0) (pos 1) minus ∷ [])

-- ---- signed permutation matrices, with translations of 0 or a half, an even number of them a half

abbrev permuted : ℤ → ℤ → ℤ → List Matrix
permuted a b c =
    diagonal a b c ∷ matrix a (pos 0) (pos 0) (pos 0) (pos 0) b (pos 0) c (pos 0) ∷ matrix (pos 0) a (pos 0) b (pos 0) (pos 0) (pos 0) (pos 0) c ∷ matrix (pos 0) a (pos 0) (pos 0) (pos 0) b c (pos 0) (pos 0)
    ∷ matrix (pos 0) (pos 0) a b (pos 0) (pos 0) (pos 0) c (pos 0) ∷ matrix (pos 0) (pos 0) a (pos 0) b (pos 0) c (pos 0) (pos 0) ∷ []

abbrev centrings : List Column
centrings = origin ∷ column (pos 0) half half ∷ column half (pos 0) half ∷ column half half (pos 0) ∷ []

abbrev pub cubic_set : List Operator
cubic_set = each signs (λ a. each signs (λ b. each signs (λ c. each (permuted a b c) (λ w. each centrings (λ t. with t w ∷ [])))))

-- ---- the listed operators

abbrev pub inversion : Operator
inversion = with origin (diagonal minus minus minus)

abbrev pub about_y : Operator
about_y = with origin (diagonal minus (pos 1) minus)

abbrev pub about_z : Operator
about_z = with origin (diagonal minus minus (pos 1))

abbrev pub screw_y : Operator
screw_y = with (column (pos 0) half half) (diagonal minus (pos 1) minus)

abbrev pub screw_z : Operator
screw_z = with (column half (pos 0) half) (diagonal minus minus (pos 1))

abbrev pub threefold : Operator
threefold = turn (pos 1) (pos 0) minus (pos 1) minus

abbrev pub sixfold : Operator
sixfold = turn (pos 1) (pos 1) minus (pos 1) (pos 0)

abbrev pub twofold : Operator
twofold = turn minus (pos 0) (pos 1) (pos 1) (pos 0)

abbrev pub centring_x : Operator
centring_x = with (column (pos 0) half half) identity

abbrev pub centring_y : Operator
centring_y = with (column half (pos 0) half) identity

abbrev pub about_diagonal : Operator
about_diagonal = with origin (matrix (pos 0) (pos 0) (pos 1) (pos 1) (pos 0) (pos 0) (pos 0) (pos 1) (pos 0))

-- ---- the lists, and how they are enclosed

abbrev pub diagonal_list : List Operator
diagonal_list = inversion ∷ screw_y ∷ screw_z ∷ about_z ∷ about_y ∷ []

abbrev pub hexagonal_list : List Operator
hexagonal_list = threefold ∷ sixfold ∷ twofold ∷ inversion ∷ []

abbrev pub cubic_list : List Operator
cubic_list = centring_x ∷ centring_y ∷ about_z ∷ about_y ∷ about_diagonal ∷ twofold ∷ inversion ∷ []

pub diagonal_enclosed : is_enclosed diagonal_list diagonal_set ≡ true
unfolding product modulo det ◌·◌ ◌·ᶜ◌ ◌+ᶜ◌
diagonal_enclosed = refl

pub hexagonal_enclosed : is_enclosed hexagonal_list hexagonal_set ≡ true
unfolding product modulo det ◌·◌ ◌·ᶜ◌ ◌+ᶜ◌
hexagonal_enclosed = refl

pub cubic_enclosed : is_enclosed cubic_list cubic_set ≡ true
unfolding product modulo det ◌·◌ ◌·ᶜ◌ ◌+ᶜ◌
cubic_enclosed = refl
