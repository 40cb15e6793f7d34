-- The lines of the command `atoms`: each site with the points of its orbit in the cell, or with the first site that has this orbit. Sites are counted from 1.
use Rattle.std.specs.Prelude.{◌≡◌, ◌+◌, ℕ, List, [], ◌∷◌, ◌++◌, length, decimal, codes}
use Rattle.lattice_algebra.specs.Point.{Point}
use Rattle.triplet_text.specs.Bytes.{line_feed, space}
use Rattle.triplet_text.specs.Fractions.{frac_text}
use Rattle.page_print.specs.Lines.{AreLines}
use Rattle.page_print.specs.Parts.{Is, Then}
use Rattle.atom_expand.specs.declared.expansion.Expanded.{Expanded}
use Rattle.atom_expand.specs.declared.expansion.Expanded.TheVariants.{First, Same}
use Rattle.atom_expand.specs.Sites.{AtomSite}

-- a word, the number of a site, its label, and another number
abbrev pub site_line : List ℕ → ℕ → List ℕ → ℕ → List ℕ
site_line word number label other = word ++ decimal number ++ space ∷ label ++ space ∷ decimal other ++ line_feed ∷ []

-- the line of a point of the orbit of a site: its coordinates as fractions
abbrev pub IsPointLine : ℕ → Point → List ℕ → Type 0
IsPointLine number p text = text ≡ codes "at " ++ decimal number ++ space ∷ frac_text p.n.x p.d ++ space ∷ frac_text p.n.y p.d ++ space ∷ frac_text p.n.z p.d ++ line_feed ∷ []

-- the lines of a site: with how many points its orbit has, and these; or with the number of the first site that has it
abbrev pub IsEntryText : ℕ → List ℕ → Expanded → List ℕ → Type 0
IsEntryText number label (First points) = Then (Is (site_line (codes "site ") number label (length points))) (AreLines (IsPointLine number) points)
IsEntryText number label (Same j) = Is (site_line (codes "same ") number label (j + 1))

-- a site with its number and with what it is expanded to
pub record Numbered : Type 0 where
  pub number : ℕ
  pub site : AtomSite
  pub entry : Expanded

abbrev pub IsAtomText : Numbered → List ℕ → Type 0
IsAtomText n = IsEntryText n.number n.site.label n.entry

-- the sites with their entries, numbered in their order
abbrev pub numbered : ℕ → List AtomSite → List Expanded → List Numbered
numbered number [] entries = []
numbered number (site ∷ sites) [] = []
numbered number (site ∷ sites) (entry ∷ entries) = record { number = number; site = site; entry = entry } ∷ numbered (number + 1) sites entries

-- the lines of each site, in their order
abbrev pub IsAtomsText : List AtomSite → List Expanded → List ℕ → Type 0
IsAtomsText sites entries = AreLines IsAtomText (numbered 1 sites entries)
