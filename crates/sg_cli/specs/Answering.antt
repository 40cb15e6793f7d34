-- What each command answers over a group and data lines.
use Rattle.std.specs.Prelude.{◌≡◌, ◌≤◌, List, ℕ, ℤ, length}
use Rattle.lattice_algebra.specs.Operator.{Operator}
use Rattle.lattice_algebra.specs.Map.{Map}
use Rattle.lattice_algebra.specs.Point.{Point}
use Rattle.exact_ops.specs.declared.TheConstants.{UNIT}
use Rattle.group_closure.specs.declared.TheConstants.{MAX_OPERATORS}
use Rattle.group_closure.specs.GroupList.{IsGroup}
use Rattle.space_groups.specs.Bases.{CoordinateChange, IsChangedGroup, IsCell, AreWhole, AreNarrow, AreInParts, IsMoreThan}
use Rattle.space_groups.specs.Rows.{Row}
use Rattle.site_symmetry.specs.OrderedSite.{IsOrderedSite}
use Rattle.orbit_map.specs.OrderedOrbit.{IsOrderedOrbit}
use Rattle.grid_tags.specs.Grids as grids
use Rattle.grid_tags.specs.Grids.{IsKept, points}
use Rattle.data_lines.specs.DataLines.{AreWritten, IsFirstSuch, IsBadLine}
use Rattle.atom_expand.specs.declared.TheConstants.{MAX_ATOMS}
use Rattle.atom_expand.specs.declared.expansion.Expanded.{Expanded}
use Rattle.atom_expand.specs.Sites.{AtomSite, IsAtomLine}
use Rattle.atom_expand.specs.Expansions.{IsExpansion}
use Rattle.atom_expand.specs.Printing.{IsAtomsText}
use Rattle.phase_rules.specs.declared.pairs.Pairs.{Pairs}
use Rattle.refl_merge.specs.MeasuredLines.{IsMeasuredLine}
use Rattle.refl_merge.specs.Texts.{IsMergedText}
use Rattle.map_sym.specs.SummedMaps.{SummedMap, IsSummedMap}
use Rattle.map_sym.specs.ValueLines.{IsValueLine}
use Rattle.map_sym.specs.MapTexts.{IsMapText}
use Rattle.table_print.specs.Operators.{AreOperatorLines}
use Rattle.table_print.specs.Types.{AreTypeLines}
use Rattle.table_print.specs.Sites.{IsSiteText}
use Rattle.table_print.specs.Classes.{IsIndexText, IsBoxText}
use Rattle.table_print.specs.Grids.{IsGridText}
use Rattle.table_print.specs.Rows.{IsRowsText}
use Rattle.table_print.specs.Params.{IsParamsText}
use Rattle.json_report.specs.Report.{IsReportText}
use Rattle.table_print.specs.Table.{IsTableText}
use Rattle.sg_cli.specs.declared.fault.Fault.TheVariants.{BadData, TooManySites, WrongCount, NotKept, NotCell, NotWhole, TooWide, TooFine, TooMany}
use Rattle.sg_cli.specs.declared.words.Name.{Name}
use Rattle.sg_cli.specs.declared.words.Name.TheVariants as named
use Rattle.sg_cli.specs.Words.{Given, family}
use Rattle.sg_cli.specs.Inputs.{DataLines}
use Rattle.sg_cli.specs.Stages.{Outcome, Gives, Refuses, Stage, ◌>>=◌, Giving, Needing}
use Rattle.sg_cli.specs.Wyckoff.{IsTextOfRows, IsFitText, IsCountedText}

-- ---- stages

-- a text
abbrev pub Printing : (List ℕ → Type 0) → Stage (List ℕ)
Printing IsText = Giving IsText

-- the data lines write values, or one of them is the first bad one
pub data Gathering {A : Type 0} (IsWritten : List ℕ → A → Type 0) (rest : DataLines) : Outcome (List A) → Type 0 where
  gathered : {values : List A} → AreWritten IsWritten rest.lines values → Gathering IsWritten rest (Gives values)
  bad : {line : ℕ} → IsFirstSuch IsWritten (IsBadLine IsWritten) rest.first rest.lines line → Gathering IsWritten rest (Refuses (BadData line))

-- ---- texts

-- the text is that of the site-symmetry group of x and of its orbit
pub record IsSiteTextFor (members : List Operator) (x : Point) (text : List ℕ) : Type 0 where
  pub site : List Map
  pub is_site : IsOrderedSite members x site
  pub orbit : List Point
  pub is_orbit : IsOrderedOrbit members x orbit
  pub is_text : IsSiteText site orbit text

-- the text is that of the orbits of a grid, which the group has to keep
abbrev pub OverGrid : List Operator → grids.Grid → Stage (List ℕ)
OverGrid members s = do
  _ ← Needing (IsKept members s) NotKept
  Printing (IsGridText members s)

-- the text is that of the operators of the changed group
pub record IsChangedText (members : List Operator) (c : CoordinateChange) (text : List ℕ) : Type 0 where
  pub changed : List Operator
  pub group : IsGroup changed
  pub is_changed : IsChangedGroup UNIT members c changed
  pub is_text : AreOperatorLines changed text

-- the text is that of the group in another basis, where no entry becomes too large
abbrev pub OverBasis : List Operator → CoordinateChange → Stage (List ℕ)
OverBasis members c = do
  _ ← Needing (AreNarrow UNIT members c) TooWide
  Printing (IsChangedText members c)

-- the text is that of the group in another cell, where there is such a group
abbrev pub OverCell : List Operator → CoordinateChange → Stage (List ℕ)
OverCell members c = do
  _ ← Needing (IsCell UNIT members c) NotCell
  _ ← Needing (AreWhole UNIT members c) NotWhole
  _ ← Needing (AreNarrow UNIT members c) TooWide
  _ ← Needing (AreInParts UNIT members c) TooFine
  _ ← Needing (¬ IsMoreThan MAX_OPERATORS UNIT members c) TooMany
  Printing (IsChangedText members c)

-- the text is that of the sites of the data lines, each with the points of its orbit
pub record IsExpandedText (members : List Operator) (sites : List AtomSite) (text : List ℕ) : Type 0 where
  pub entries : List Expanded
  pub expansion : IsExpansion members sites entries
  pub is_text : IsAtomsText sites entries text

-- the text is that of the sites, of which there may not be too many
abbrev pub OverSites : List Operator → DataLines → Stage (List ℕ)
OverSites members rest = do
  sites ← Gathering IsAtomLine rest
  _ ← Needing (length sites ≤ MAX_ATOMS) TooManySites
  Printing (IsExpandedText members sites)

-- the text is that of the classes of the measured lines
abbrev pub OverMeasured : Pairs → List Operator → DataLines → Stage (List ℕ)
OverMeasured pairs members rest = do
  lines ← Gathering IsMeasuredLine rest
  Printing (IsMergedText pairs members lines)

-- the text is that of these values at the grid points of a cell, in ascending order of the points, summed over the orbits
pub record IsSummedText (members : List Operator) (s : grids.Grid) (values : List ℤ) (text : List ℕ) : Type 0 where
  pub map : SummedMap
  pub summed : IsSummedMap members (record { size = s; values = values }) map
  pub is_text : IsMapText members map text

-- there has to be a value for each grid point of a cell, and the group has to keep the grid
abbrev pub OverValues : List Operator → grids.Grid → DataLines → Stage (List ℕ)
OverValues members s rest = do
  values ← Gathering IsValueLine rest
  _ ← Needing (length values ≡ points s) WrongCount
  _ ← Needing (IsKept members s) NotKept
  Printing (IsSummedText members s values)

-- ---- each command

-- what a command asks: a text that shows rows of the group, or what a stage answers over the group and the data lines
pub data Question : Type 1 where
  OfRows : (List Operator → List Row → List ℕ → Type 0) → Question
  Of : (List Operator → DataLines → Stage (List ℕ)) → Question

-- the command's question. Of rows `wyckoff` and `params` show the line of each, `report` an object for each, `table`
-- and `sample` these lines under a heading, `fit` the line of that which the point fits
abbrev pub question : (name : Name) → Given (family name) → Question
question named.Ops given = Of (λ members rest. Printing (AreOperatorLines members))
question named.Types given = Of (λ members rest. Printing (AreTypeLines members))
question named.Site x = Of (λ members rest. Printing (IsSiteTextFor members x))
question named.Index g = Of (λ members rest. Printing (IsIndexText g.1 members g.0))
question named.Refl g = Of (λ members rest. Printing (IsBoxText g.1 members g.0))
question named.Grid s = Of (λ members rest. OverGrid members s)
question named.Basis c = Of (λ members rest. OverBasis members c)
question named.Recell c = Of (λ members rest. OverCell members c)
question named.Wyckoff given = OfRows IsRowsText
question named.Params given = OfRows IsParamsText
question named.Report given = OfRows IsReportText
question named.Fit x = OfRows (λ members. IsFitText members x)
question named.Table g = OfRows (λ members rows. IsTableText g.1 members rows g.0)
question named.Sample seed = OfRows (λ members. IsCountedText members seed)
question named.Atoms given = Of OverSites
question named.Merge pairs = Of (OverMeasured pairs)
question named.Map s = Of (λ members. OverValues members s)

-- what is answered to a question over a group and data lines
abbrev pub Asking : Question → List Operator → DataLines → Stage (List ℕ)
Asking (OfRows IsText) members rest = Printing (IsTextOfRows members (IsText members))
Asking (Of stage) members rest = stage members rest

-- the text shows these rows, where the question is of rows
abbrev pub ShowsRows : Question → List Operator → List Row → List ℕ → Type 0
ShowsRows (OfRows IsText) members rows text = IsText members rows text
ShowsRows (Of stage) members rows text = Unit {0}

-- what each command answers over a group and data lines
abbrev pub Answering : (name : Name) → Given (family name) → List Operator → DataLines → Stage (List ℕ)
Answering name given = Asking (question name given)
