-- The eight groups of the command `sample`. This project's own.
use Rattle.std.specs.Prelude.{ℕ, ◌+◌, ◌-◌, ◌%◌, List, [], ◌∷◌, codes, slice_index_or}
use Rattle.lattice_algebra.specs.Operator.{Operator}
use Rattle.triplet_text.specs.Lines.{lines_of, AreRead}
use Rattle.group_closure.specs.GroupList.{IsGroupList}

-- which of them a seed asks for, from 1 to 8
abbrev pub number_of : ℕ → ℕ
number_of seed = seed % 8 + 1

-- the triplets of each, one a line: P1, P-1, P2_1/c, P2_12_12_1, Pmmm, P3, P6/mmm and Fm-3m
abbrev pub all_triplets : List (List ℕ)
all_triplets =
    codes "" ∷ codes "-x,-y,-z" ∷ codes "-x,y+1/2,-z+1/2\n-x,-y,-z" ∷ codes "-x+1/2,-y,z+1/2\n-x,y+1/2,-z+1/2" ∷ codes "-x,-y,z\n-x,y,-z\n-x,-y,-z" ∷ codes "-y,x-y,z" ∷ codes "x-y,x,z\ny,x,-z\n-x,-y,-z"
    ∷ codes "x,y+1/2,z+1/2\nx+1/2,y,z+1/2\n-x,-y,z\n-x,y,-z\nz,x,y\ny,x,-z\n-x,-y,-z" ∷ []

abbrev pub triplets_of : ℕ → List ℕ
triplets_of number = slice_index_or all_triplets (number - 1) []

-- the members are the group of the triplets of this number
pub record IsSampleGroup (number : ℕ) (members : List Operator) : Type 0 where
  pub list : List Operator
  pub read : AreRead (lines_of (triplets_of number)) list
  pub group : IsGroupList list members
