-- Labelled sites, and the data lines that write them.
use Rattle.std.specs.Prelude.{◌≡◌, ◌<◌, ℕ, List, [], ◌∷◌, length}
use Rattle.lattice_algebra.specs.Point.{Point}
use Rattle.exact_ops.specs.Numbers.{point_in}
use Rattle.triplet_text.specs.Points.{ArePointTexts}
use Rattle.data_lines.specs.Fields.{fields_of}
use Rattle.data_lines.specs.DataLines.{AreWritten, IsFirstSuch, IsBadLine, IsWrittenLine}
use Rattle.data_lines.specs.declared.read.DataFault as data_fault
use Rattle.data_lines.specs.declared.read.DataFault.TheVariants as data_faults
use Rattle.atom_expand.specs.declared.TheConstants.{MAX_ATOMS}
use Rattle.atom_expand.specs.declared.atom.Atom.{Atom}
use Rattle.atom_expand.specs.declared.atoms.AtomFault.{AtomFault}
use Rattle.atom_expand.specs.declared.atoms.AtomFault.TheVariants.{Bad, Many, NoMemory}
use Rattle.atom_expand.specs.Labels.{IsLabel}

-- a point with a name
pub record AtomSite : Type 0 where
  pub label : List ℕ
  pub at : Point

-- an Atom as contracts see it
abbrev pub site_in : Atom → AtomSite
site_in atom = record { label = atom.label; at = point_in atom.at }

-- the fields of the line are a label and three coordinates, and the site has them
pub record IsAtomLine (line : List ℕ) (site : AtomSite) : Type 0 where
  pub x : List ℕ
  pub y : List ℕ
  pub z : List ℕ
  pub fields : fields_of line ≡ site.label ∷ x ∷ y ∷ z ∷ []
  pub label : IsLabel site.label
  pub at : ArePointTexts x y z site.at

-- the lines that are not skipped write these sites
abbrev pub AreAtomLines : List (List ℕ) → List AtomSite → Type 0
AreAtomLines = AreWritten IsAtomLine

-- the lines that are not skipped are all good, and write too many sites
pub record AreTooMany (lines : List (List ℕ)) : Type 0 where
  pub sites : List AtomSite
  pub written : AreAtomLines lines sites
  pub many : MAX_ATOMS < length sites

-- a fault names the first bad line, counted from first on, or says that there are too many sites; memory is wanted for a site alone
abbrev pub IsAtomFaultOf : ℕ → List (List ℕ) → AtomFault → Type 0
IsAtomFaultOf first lines (Bad k) = IsFirstSuch IsAtomLine (IsBadLine IsAtomLine) first lines k
IsAtomFaultOf first lines Many = AreTooMany lines
IsAtomFaultOf first lines NoMemory = (k : ℕ) × IsFirstSuch IsAtomLine (IsWrittenLine IsAtomLine) first lines k

-- the fault of data lines, as one of sites
abbrev pub atom_fault : data_fault.DataFault → AtomFault
atom_fault (data_faults.Bad k) = Bad k
atom_fault data_faults.NoMemory = NoMemory
