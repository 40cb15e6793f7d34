-- Numbers that were passed on or put into a field keep their sizes.
use Rattle.std.proofs.Common.{◌≡◌, ◌≤◌, ◌^◌, ℕ, ℤ, unsigned_abs, w32, w64, FitsSigned, sym, subst, ap, ◌∙◌, lt_of_le_of_lt}
use Rattle.std.proofs.lemmas.Int.{to_z-of_z, fits_signed_from_abs}
use lib.Dec.{ltb→lt}
use Rattle.lattice_algebra.specs.Operator.{AreWithin}
use Rattle.lattice_algebra.proofs.Machine.{back, kept}
use Rattle.exact_ops.specs.declared.TheConstants.{MAX_ENTRY}

pub stored : (n : ℕ) (x : ℤ) → FitsSigned w64 x → unsigned_abs x ≤ n → unsigned_abs (back w64 x) ≤ n
stored n x f h = subst (λ v. unsigned_abs v ≤ n) (sym (to_z-of_z w64 x f)) h

pub passed : (n : ℕ) (a b c : ℤ) → FitsSigned w64 a → FitsSigned w64 b → FitsSigned w64 c → AreWithin n a b c → AreWithin n (back w64 a) (back w64 b) (back w64 c)
passed n a b c f g h w = record { first = stored n a f w.first; second = stored n b g w.second; third = stored n c h w.third }

-- a sign, and an entry of a matrix that is read
pub sign_passed : (x : ℤ) → unsigned_abs x ≤ 1 → unsigned_abs (back w64 x) ≤ 1
sign_passed x h = rw (kept w64 1 x h tt) h

pub entry_passed : (x : ℤ) → unsigned_abs x ≤ MAX_ENTRY → unsigned_abs (back w64 x) ≤ MAX_ENTRY
entry_passed x h = rw (kept w64 MAX_ENTRY x h tt) h

-- an entry of an operator fits 32 bits, and is the same there
pub cast_fits : (x : ℤ) → unsigned_abs x ≤ 2 → FitsSigned w32 (back w64 x)
cast_fits x h = subst (FitsSigned w32) (sym (kept w64 2 x h tt)) (fits_signed_from_abs w32 x (lt_of_le_of_lt h (ltb→lt 2 (2 ^ 31) tt)))

pub cast_kept : (x : ℤ) → unsigned_abs x ≤ 2 → back w32 (back w64 x) ≡ x
cast_kept x h = ap (back w32) (kept w64 2 x h tt) ∙ kept w32 2 x h tt
