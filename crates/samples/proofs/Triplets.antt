-- What the triplets of the samples say, and that the operators close.
use Rattle.std.proofs.Common.{◌≡◌, ◌⊎◌, ◌≤◌, ℕ, zero, suc, pos, negsuc, true, false, List, [], ◌∷◌, Some, codes, inl, inr, refl, sym, subst, arith}
use Rattle.lattice_algebra.specs.Matrix.{det}
use Rattle.lattice_algebra.specs.Operator.{Operator}
use Rattle.lattice_algebra.proofs.Matrices.{det-IsUnimodular}
use Rattle.group_closure.specs.Words.{Closes, IsUnclosed}
use Rattle.group_closure.proofs.Lists.{not_closing}
use Rattle.triplet_text.specs.Pieces.{is_skipped}
use Rattle.triplet_text.specs.Triplets.{triplet_of}
use Rattle.triplet_text.specs.declared.lines.LineFault.{LineFault}
use Rattle.triplet_text.specs.declared.lines.LineFault.TheVariants.{Unreadable, NotUnimodular, NoMemory}
use Rattle.triplet_text.specs.Lines.{lines_of, IsRead, AreRead, end, skipped, read, blank, IsFaultOf, IsUnreadable, IsNotUnimodular}
use Rattle.triplet_text.proofs.GrammarLaw.{triplet_from}
use Rattle.triplet_text.proofs.LineLaws.{read_are_operators, none_bad, unreadable_are_bad, not_unimodular_are_bad, same_list}
use Rattle.triplet_text.proofs.LineSteps.{not_skipped}
use Rattle.samples.specs.Groups.{triplets_of}
use Rattle.samples.proofs.Enclosed.{IsEnclosed, enclosed_closes}
use Rattle.samples.proofs.EnclosedTests.{are_all, has, all_in, fewer_enclosed, enclosed_is}
use Rattle.samples.proofs.Sets.{inversion, about_y, about_z, screw_y, screw_z, threefold, sixfold, twofold, centring_x, centring_y, about_diagonal, diagonal_list, hexagonal_list, cubic_list, diagonal_set, hexagonal_set, cubic_set, diagonal_enclosed, hexagonal_enclosed, cubic_enclosed}

-- ---- what is read

line_reads : (line : List ℕ) (f : Operator) → is_skipped line ≡ false → triplet_of line ≡ Some f → (det f.w ≡ pos 1) ⊎ (det f.w ≡ negsuc 0) → IsRead line f
line_reads line f s t d = record { kept = not_skipped line false (sym s) refl; triplet = triplet_from line f t; unimodular = det-IsUnimodular f.w d }

inversion_reads : IsRead (codes "-x,-y,-z") inversion
unfolding det
inversion_reads = line_reads (codes "-x,-y,-z") inversion refl refl (inr refl)

about_y_reads : IsRead (codes "-x,y,-z") about_y
unfolding det
about_y_reads = line_reads (codes "-x,y,-z") about_y refl refl (inl refl)

about_z_reads : IsRead (codes "-x,-y,z") about_z
unfolding det
about_z_reads = line_reads (codes "-x,-y,z") about_z refl refl (inl refl)

screw_y_reads : IsRead (codes "-x,y+1/2,-z+1/2") screw_y
unfolding det
screw_y_reads = line_reads (codes "-x,y+1/2,-z+1/2") screw_y refl refl (inl refl)

screw_z_reads : IsRead (codes "-x+1/2,-y,z+1/2") screw_z
unfolding det
screw_z_reads = line_reads (codes "-x+1/2,-y,z+1/2") screw_z refl refl (inl refl)

threefold_reads : IsRead (codes "-y,x-y,z") threefold
unfolding det
threefold_reads = line_reads (codes "-y,x-y,z") threefold refl refl (inl refl)

sixfold_reads : IsRead (codes "x-y,x,z") sixfold
unfolding det
sixfold_reads = line_reads (codes "x-y,x,z") sixfold refl refl (inl refl)

twofold_reads : IsRead (codes "y,x,-z") twofold
unfolding det
twofold_reads = line_reads (codes "y,x,-z") twofold refl refl (inl refl)

centring_x_reads : IsRead (codes "x,y+1/2,z+1/2") centring_x
unfolding det
centring_x_reads = line_reads (codes "x,y+1/2,z+1/2") centring_x refl refl (inl refl)

centring_y_reads : IsRead (codes "x+1/2,y,z+1/2") centring_y
unfolding det
centring_y_reads = line_reads (codes "x+1/2,y,z+1/2") centring_y refl refl (inl refl)

about_diagonal_reads : IsRead (codes "z,x,y") about_diagonal
unfolding det
about_diagonal_reads = line_reads (codes "z,x,y") about_diagonal refl refl (inl refl)

-- ---- that they close

-- the triplets of this number are read, and the operators close
abbrev pub ReadsAndCloses : ℕ → Type 0
ReadsAndCloses number = (list : List Operator) × AreRead (lines_of (triplets_of number)) list × Closes list

closes_among : (number : ℕ) (list all set : List Operator) → AreRead (lines_of (triplets_of number)) list → are_all (has all) list ≡ true → IsEnclosed all set → ReadsAndCloses number
closes_among number list all set r among h = (list, r, enclosed_closes list set (read_are_operators (lines_of (triplets_of number)) list r) (fewer_enclosed list all set (all_in list all among) h))

first : ReadsAndCloses 1
first = closes_among 1 [] diagonal_list diagonal_set (skipped (blank tt) end) refl (enclosed_is diagonal_list diagonal_set diagonal_enclosed)

second : ReadsAndCloses 2
second = closes_among 2 (inversion ∷ []) diagonal_list diagonal_set (read inversion_reads end) refl (enclosed_is diagonal_list diagonal_set diagonal_enclosed)

third : ReadsAndCloses 3
third = closes_among 3 (screw_y ∷ inversion ∷ []) diagonal_list diagonal_set (read screw_y_reads (read inversion_reads end)) refl (enclosed_is diagonal_list diagonal_set diagonal_enclosed)

fourth : ReadsAndCloses 4
fourth = closes_among 4 (screw_z ∷ screw_y ∷ []) diagonal_list diagonal_set (read screw_z_reads (read screw_y_reads end)) refl (enclosed_is diagonal_list diagonal_set diagonal_enclosed)

fifth : ReadsAndCloses 5
fifth = closes_among 5 (about_z ∷ about_y ∷ inversion ∷ []) diagonal_list diagonal_set (read about_z_reads (read about_y_reads (read inversion_reads end))) refl (enclosed_is diagonal_list diagonal_set diagonal_enclosed)

sixth : ReadsAndCloses 6
sixth = closes_among 6 (threefold ∷ []) hexagonal_list hexagonal_set (read threefold_reads end) refl (enclosed_is hexagonal_list hexagonal_set hexagonal_enclosed)

seventh : ReadsAndCloses 7
seventh = closes_among 7 (sixfold ∷ twofold ∷ inversion ∷ []) hexagonal_list hexagonal_set (read sixfold_reads (read twofold_reads (read inversion_reads end))) refl (enclosed_is hexagonal_list hexagonal_set hexagonal_enclosed)

eighth : ReadsAndCloses 8
eighth = closes_among 8 (centring_x ∷ centring_y ∷ about_z ∷ about_y ∷ about_diagonal ∷ twofold ∷ inversion ∷ []) cubic_list cubic_set (read centring_x_reads (read centring_y_reads (read about_z_reads (read about_y_reads (read about_diagonal_reads (read twofold_reads (read inversion_reads end))))))) refl (enclosed_is cubic_list cubic_set cubic_enclosed)

pub each : (number : ℕ) → 1 ≤ number → number ≤ 8 → ReadsAndCloses number
each zero some few = absurd (omega (arith, some))
each (suc zero) some few = first
each (suc (suc zero)) some few = second
each (suc (suc (suc zero))) some few = third
each (suc (suc (suc (suc zero)))) some few = fourth
each (suc (suc (suc (suc (suc zero))))) some few = fifth
each (suc (suc (suc (suc (suc (suc zero)))))) some few = sixth
each (suc (suc (suc (suc (suc (suc (suc zero))))))) some few = seventh
each (suc (suc (suc (suc (suc (suc (suc (suc zero)))))))) some few = eighth
each (suc (suc (suc (suc (suc (suc (suc (suc (suc number))))))))) some few = absurd (omega (arith, few))

-- ---- so there is no refusal

no_bad_line : (lines : List (List ℕ)) (list : List Operator) → AreRead lines list → (fault : LineFault) → IsFaultOf lines fault → (fault ≡ NoMemory → ⊥) → ⊥
no_bad_line lines list r (Unreadable k) f other = none_bad IsUnreadable lines list k unreadable_are_bad r f
no_bad_line lines list r (NotUnimodular k) f other = none_bad IsNotUnimodular lines list k not_unimodular_are_bad r f
no_bad_line lines list r NoMemory f other = other refl

pub no_fault : (number : ℕ) → 1 ≤ number → number ≤ 8 → (text : List ℕ) (fault : LineFault) → text ≡ triplets_of number → IsFaultOf (lines_of text) fault → (fault ≡ NoMemory → ⊥) → ⊥
no_fault number some few text fault e f other = let r = each number some few in no_bad_line (lines_of (triplets_of number)) r.0 r.1 fault (subst (λ (t : List ℕ). IsFaultOf (lines_of t) fault) e f) other

pub no_unclosed : (number : ℕ) → 1 ≤ number → number ≤ 8 → (list : List Operator) → AreRead (lines_of (triplets_of number)) list → IsUnclosed list → ⊥
no_unclosed number some few list r u = let s = each number some few in not_closing list u (subst Closes (same_list (lines_of (triplets_of number)) s.0 list s.1 r) s.2)
