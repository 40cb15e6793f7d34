-- Measured reflections merged by their classes, as C has them.
use Rattle.std.specs.Prelude.{◌≡◌, ◌<◌, ◌++◌, ℕ, ℤ, List, length, drop}
use Rattle.lattice_algebra.specs.Operator as lattice
use Rattle.phase_rules.specs.declared.pairs.Pairs.{Pairs}
use Rattle.phase_rules.specs.Rows.{row_of}
use Rattle.refl_merge.specs.declared.measured.Measured.{Measured}
use Rattle.refl_merge.specs.declared.merged.MergedLine.{MergedLine}
use Rattle.refl_merge.specs.Merged.{IsMergedList}
use Rattle.sg_c.specs.declared.questions.IndexNumbers.{IndexNumbers}
use Rattle.sg_c.specs.declared.merging.MergedClass.{MergedClass}
use Rattle.sg_c.specs.Arrays.{AreAnswers}

-- the line has this index
abbrev pub HasIndex : IndexNumbers → Measured → Type 0
HasIndex i line = line.index ≡ record { h = i.h; k = i.k; l = i.l }

-- the line has this value
abbrev pub HasValue : ℤ → Measured → Type 0
HasValue value line = line.value ≡ value

-- the lines have these indices and values, each at its place
pub record AreMeasured (indices : List IndexNumbers) (values : List ℤ) (lines : List Measured) : Type 0 where
  pub by_index : AreAnswers HasIndex indices lines
  pub by_value : AreAnswers HasValue values lines

-- the class has the numbers of the merged line
pub record IsClassAs (line : MergedLine) (class : MergedClass) : Type 0 where
  pub key : record { h = class.key.h; k = class.key.k; l = class.key.l } ≡ row_of line.key
  pub count : class.count ≡ line.count
  pub sum : class.sum ≡ line.sum
  pub absent : class.absent ≡ line.absent
  pub observed : class.observed ≡ line.observed

-- the merged list of these values
pub record IsMergeOf (pairs : Pairs) (members : List lattice.Operator) (indices : List IndexNumbers) (values : List ℤ) (merged : List MergedLine) : Type 0 where
  pub lines : List Measured
  pub are_lines : AreMeasured indices values lines
  pub is_merged : IsMergedList pairs members lines merged

-- the classes begin with those of the merged list of these values, of which there are so many, and go on as they were
pub record AreMerged (pairs : Pairs) (members : List lattice.Operator) (indices : List IndexNumbers) (values : List ℤ) (old new : List MergedClass) (count : ℕ) : Type 0 where
  pub merged : List MergedLine
  pub is_merged : IsMergeOf pairs members indices values merged
  pub counted : count ≡ length merged
  pub classes : List MergedClass
  pub are_classes : AreAnswers IsClassAs merged classes
  pub written : new ≡ classes ++ drop count old

-- the merged list has more classes than there is room for
pub record IsMoreThanRoom (pairs : Pairs) (members : List lattice.Operator) (indices : List IndexNumbers) (values : List ℤ) (room : ℕ) : Type 0 where
  pub merged : List MergedLine
  pub is_merged : IsMergeOf pairs members indices values merged
  pub more : room < length merged
