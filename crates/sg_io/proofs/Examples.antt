-- Worked examples: counts, and what is taken and held, on literals.
use Rattle.std.proofs.Common.{length-append, slice_index_or, ◌≡◌, ◌∷◌, [], ◌++◌, ℕ, ◌-◌, ◌^◌, List, length, Some, Ok, Err, codes, ap, refl, arith}
use Rattle.sg_io.specs.Bytes.{ConsumesSome, AppendsPrefix}
use Rattle.sg_io.specs.Count.{Rose, CountsErrors, CountsError}

-- a count rises from 3 to 4; at its last value it stands still and counts as risen
rises : Rose 3 4
rises = omega arith

stays : Rose 3 3 → ⊥
stays l = omega arith

at_the_end : Rose (2 ^ 64 - 1) (2 ^ 64 - 1)
at_the_end = omega arith

before_the_end : Rose (2 ^ 64 - 2) (2 ^ 64 - 2) → ⊥
before_the_end l = omega arith

-- an error raises the count, and a success leaves it
error_counts : CountsErrors {T = ℕ} {E = ℕ} 3 4 (Err 7)
error_counts = refl

error_not_counted : CountsErrors {T = ℕ} {E = ℕ} 3 3 (Err 7) → ⊥
error_not_counted e = omega arith

success_counts_not : CountsErrors {T = ℕ} {E = ℕ} 3 3 (Ok 7)
success_counts_not = refl

success_counted : CountsErrors {T = ℕ} {E = ℕ} 3 4 (Ok 7) → ⊥
success_counted e = omega arith

-- only this error
other_error : CountsError {T = ℕ} {E = ℕ} 3 3 (Err 7) 8
other_error = ((λ e. cc), (λ n. refl))

this_error : CountsError {T = ℕ} {E = ℕ} 3 3 (Err 7) 7 → ⊥
this_error h = let e : ◌≡◌ {A = ℕ} 3 4 = h.0 refl in omega arith

-- x, and then y of y,z
front_appended : AppendsPrefix (Some (codes "x,")) (Some (codes "x,y")) (codes "y,z")
front_appended = (codes "y", (codes ",z", refl), refl)

-- not z, though it stands in y,z
no_front : AppendsPrefix (Some (codes "x,")) (Some (codes "x,z")) (codes "y,z") → ⊥
no_front h = by h.0 h.1.0 h.1.1 h.2
  where
    by : (front rest : List ℕ) → front ++ rest ≡ codes "y,z" → codes "x,z" ≡ codes "x," ++ front → ⊥
    by [] rest e f = let l : ◌≡◌ {A = ℕ} 3 2 = ap length f in omega arith
    by (b ∷ front) rest e f =
        let first : b ≡ 121 = ap (λ (l : List ℕ). slice_index_or l 0 0) e in
        let added : 122 ≡ b = ap (λ (l : List ℕ). slice_index_or l 2 0) f in
        omega arith

-- of x,y one byte is taken, and ,y is left
one_taken : ConsumesSome (Some (codes "x,y")) (Some (codes ",y")) (λ count. count ≡ 1)
one_taken = (codes "x", refl, refl)

not_two_taken : ConsumesSome (Some (codes "x,y")) (Some (codes ",y")) (λ count. count ≡ 2) → ⊥
not_two_taken h = let l : 3 ≡ length (h.0 ++ codes ",y") = ap length h.1 in omega (arith, length-append h.0 (codes ",y"), h.2)
