-- Worked examples of labels, sites and their lines, on literals.
use Rattle.std.proofs.Common.{codes, refl, arith}
use Rattle.std.specs.Fmt.{digits}
use Rattle.atom_expand.specs.declared.expansion.Expanded.TheVariants.{Same}
use Rattle.atom_expand.specs.Labels.{IsLabel}
use Rattle.atom_expand.specs.Printing.{IsEntryText}

label : IsLabel (codes "Na_2")
label = record { some = omega arith; short = omega arith; bytes = (refl, (refl, (refl, (refl, tt)))) }

no_dash : IsLabel (codes "Na-2") → ⊥
no_dash l = let e = l.bytes.1.1.0 in absurd cc

-- the third site has the orbit of the first
same : IsEntryText 3 (codes "Na2") (Same 0) (codes "same 3 Na2 1\n")
unfolding digits
same = refl
