-- The words of the command line, and the commands that they are.
use Rattle.std.specs.Prelude.{◌≡◌, ◌≤◌, ◌<◌, ◌^◌, ◌++◌, if◌then◌else◌, Bool, true, false, List, [], ◌∷◌, ℕ, pos, map, codes}
use Rattle.std.specs.String.{string_bytes}
use Rattle.std.specs.Global.{Global}
use Rattle.std.specs.declared.string.String.{String}
use Rattle.lattice_algebra.specs.Point.{Point}
use Rattle.exact_ops.specs.Numbers.{point_in}
use Rattle.lattice_algebra.specs.Matrix.{IsUnimodular}
use Rattle.lattice_algebra.specs.Operator.{Operator, AreWithin, HasEntriesWithin}
use Rattle.phase_rules.specs.declared.TheConstants.{MAX_INDEX}
use Rattle.phase_rules.specs.declared.pairs.Pairs.{Pairs}
use Rattle.phase_rules.specs.declared.pairs.Pairs.TheVariants.{Friedel, Apart}
use Rattle.phase_rules.specs.Rows.{Row}
use Rattle.reflections.specs.Boxes.{Box, IsBoxInRange}
use Rattle.grid_tags.specs.Grids as grids
use Rattle.grid_tags.specs.Grids.{IsGridInRange}
use Rattle.space_groups.specs.Bases.{CoordinateChange, IsInvertible}
use Rattle.basis_change.specs.declared.TheConstants.{MAX_CELL}
use Rattle.triplet_text.specs.Points.{ArePointTexts}
use Rattle.triplet_text.specs.Grammar.{IsTriplet}
use Rattle.triplet_text.specs.Integers.{IsNatural, IsInteger}
use Rattle.data_lines.specs.declared.number.TheConstants.{NUMBER_DIGITS}
use Rattle.sg_cli.specs.declared.TheConstants.{CELL_DIGITS, SEED_DIGITS}
use Rattle.sg_cli.specs.declared.words.Command.{Command}
use Rattle.sg_cli.specs.declared.words.Command.TheVariants as command
use Rattle.sg_cli.specs.declared.words.Name.{Name}
use Rattle.sg_cli.specs.declared.words.Name.TheVariants as named

-- each word as its bytes
abbrev pub texts : List (String Global) → List (List ℕ)
texts words = map string_bytes words

-- ---- what follows a name

-- no further word
abbrev pub AreNone : List (List ℕ) → Type 0
AreNone words = words ≡ []

-- the texts are three numbers, and a, which is in range, has them
pub record AreNumbersOf {N A : Type 0} (Is : List ℕ → N → Type 0) (numbers : A → N × N × N) (IsInRange : A → Type 0) (x y z : List ℕ) (a : A) : Type 0 where
  pub first : Is x (numbers a).0
  pub second : Is y (numbers a).1
  pub third : Is z (numbers a).2
  pub in_range : IsInRange a

-- the texts are three whole numbers, and h is the index that has them
abbrev pub AreIndexTexts : List ℕ → List ℕ → List ℕ → Row → Type 0
AreIndexTexts = AreNumbersOf (IsInteger NUMBER_DIGITS) (λ (h : Row). (h.h, h.k, h.l)) (λ (h : Row). AreWithin MAX_INDEX h.h h.k h.l)

-- the texts are three whole numbers without a sign, and b is the box of indices that has them
abbrev pub AreBoxTexts : List ℕ → List ℕ → List ℕ → Box → Type 0
AreBoxTexts = AreNumbersOf (IsNatural NUMBER_DIGITS) (λ (b : Box). (b.h, b.k, b.l)) IsBoxInRange

-- the texts are three whole numbers without a sign, and s is the grid that has them
abbrev pub AreGridTexts : List ℕ → List ℕ → List ℕ → grids.Grid → Type 0
AreGridTexts = AreNumbersOf (IsNatural NUMBER_DIGITS) (λ (s : grids.Grid). (s.a, s.b, s.c)) IsGridInRange

-- the text is a triplet whose matrix has a whole inverse, and c is the change of the basis and the origin that has its numbers
pub record IsBasisText (text : List ℕ) (c : CoordinateChange) : Type 0 where
  pub operator : Operator
  pub triplet : IsTriplet text operator
  pub unimodular : IsUnimodular operator.w
  pub change : c ≡ record { w = operator.w; t = operator.t; d = pos 1 }

-- the texts are a whole number without a sign and a triplet, and c is the change of the cell that has their numbers
pub record AreCellTexts (over text : List ℕ) (c : CoordinateChange) : Type 0 where
  pub d : ℕ
  pub operator : Operator
  pub number : IsNatural CELL_DIGITS over d
  pub triplet : IsTriplet text operator
  pub first : 1 ≤ d
  pub last : d ≤ MAX_CELL
  pub within : HasEntriesWithin MAX_CELL operator.w
  pub invertible : IsInvertible operator.w
  pub change : c ≡ record { w = operator.w; t = operator.t; d = pos d }

-- the text is a whole number without a sign, which 32 bits hold
pub record IsSeedText (text : List ℕ) (seed : ℕ) : Type 0 where
  pub number : IsNatural SEED_DIGITS text seed
  pub in_range : seed < 2 ^ 32

-- one word, whose text says this
pub record IsOne {A : Type 0} (Say : List ℕ → A → Type 0) (words : List (List ℕ)) (a : A) : Type 0 where
  pub text : List ℕ
  pub words_are : words ≡ text ∷ []
  pub say : Say text a

-- two words, whose texts say this
pub record AreTwo {A : Type 0} (Say : List ℕ → List ℕ → A → Type 0) (words : List (List ℕ)) (a : A) : Type 0 where
  pub x : List ℕ
  pub y : List ℕ
  pub words_are : words ≡ x ∷ y ∷ []
  pub say : Say x y a

-- three words, whose texts say this
pub record AreThree {A : Type 0} (Say : List ℕ → List ℕ → List ℕ → A → Type 0) (words : List (List ℕ)) (a : A) : Type 0 where
  pub x : List ℕ
  pub y : List ℕ
  pub z : List ℕ
  pub words_are : words ≡ x ∷ y ∷ z ∷ []
  pub say : Say x y z a

-- these arguments, and behind them this further word, or none
pub record MayEndWith (word : List ℕ) (AreArguments : List (List ℕ) → Type 0) (words : List (List ℕ)) (further : Bool) : Type 0 where
  pub arguments : List (List ℕ)
  pub are : AreArguments arguments
  pub words_are : words ≡ arguments ++ (if further then word ∷ [] else [])

-- whether Friedel pairs are apart
abbrev pub are_apart : Pairs → Bool
are_apart Friedel = false
are_apart Apart = true

-- three words, and behind them the word that takes Friedel pairs apart, or none
abbrev pub three_with : List ℕ → List ℕ → List ℕ → Bool → List (List ℕ)
three_with x y z apart = (x ∷ y ∷ z ∷ []) ++ (if apart then codes "anomalous" ∷ [] else [])

-- no word, or the word that takes Friedel pairs apart
abbrev pub pairs_words : Pairs → List (List ℕ)
pairs_words Friedel = []
pairs_words Apart = codes "anomalous" ∷ []

-- the families of arguments
pub data Family : Type 0 where
  Bare : Family
  OfPoint : Family
  OfIndex : Family
  OfBox : Family
  OfGrid : Family
  OfBasis : Family
  OfCell : Family
  OfSeed : Family
  OfPairs : Family

-- what the arguments of a family give
abbrev pub Given : Family → Type 0
Given Bare = Unit {0}
Given OfPoint = Point
Given OfIndex = Row × Pairs
Given OfBox = Box × Pairs
Given OfGrid = grids.Grid
Given OfBasis = CoordinateChange
Given OfCell = CoordinateChange
Given OfSeed = ℕ
Given OfPairs = Pairs

-- the words are arguments that give this
abbrev pub HasArguments : (f : Family) → Given f → List (List ℕ) → Type 0
HasArguments Bare given words = AreNone words
HasArguments OfPoint p words = AreThree ArePointTexts words p
HasArguments OfIndex g words = MayEndWith (codes "anomalous") (λ three. AreThree AreIndexTexts three g.0) words (are_apart g.1)
HasArguments OfBox g words = MayEndWith (codes "anomalous") (λ three. AreThree AreBoxTexts three g.0) words (are_apart g.1)
HasArguments OfGrid s words = AreThree AreGridTexts words s
HasArguments OfBasis c words = IsOne IsBasisText words c
HasArguments OfCell c words = AreTwo AreCellTexts words c
HasArguments OfSeed seed words = IsOne IsSeedText words seed
HasArguments OfPairs pairs words = words ≡ pairs_words pairs

-- ---- commands

-- how the name of a command is written
abbrev pub written : Name → List ℕ
written named.Ops = codes "ops"
written named.Types = codes "types"
written named.Site = codes "site"
written named.Index = codes "index"
written named.Refl = codes "refl"
written named.Grid = codes "grid"
written named.Basis = codes "basis"
written named.Recell = codes "recell"
written named.Wyckoff = codes "wyckoff"
written named.Params = codes "params"
written named.Report = codes "report"
written named.Fit = codes "fit"
written named.Table = codes "table"
written named.Sample = codes "sample"
written named.Atoms = codes "atoms"
written named.Merge = codes "merge"
written named.Map = codes "map"

-- the names of all commands
abbrev pub all_names : List Name
all_names =
    named.Ops ∷ named.Types ∷ named.Site ∷ named.Index ∷ named.Refl ∷ named.Grid ∷ named.Basis ∷ named.Recell ∷ named.Wyckoff ∷ named.Params ∷ named.Report ∷ named.Fit ∷ named.Table ∷ named.Sample ∷ named.Atoms ∷ named.Merge ∷ named.Map ∷ []

-- which arguments follow it
abbrev pub family : Name → Family
family named.Ops = Bare
family named.Types = Bare
family named.Site = OfPoint
family named.Index = OfIndex
family named.Refl = OfBox
family named.Grid = OfGrid
family named.Basis = OfBasis
family named.Recell = OfCell
family named.Wyckoff = Bare
family named.Params = Bare
family named.Report = Bare
family named.Fit = OfPoint
family named.Table = OfBox
family named.Sample = OfSeed
family named.Atoms = Bare
family named.Merge = OfPairs
family named.Map = OfGrid

-- a command as contracts see it: its name, and what its arguments give
pub record Asked : Type 0 where
  pub name : Name
  pub given : Given (family name)

abbrev pub seen : Command → Asked
seen command.Ops = record { name = named.Ops; given = tt }
seen command.Types = record { name = named.Types; given = tt }
seen (command.Site p) = record { name = named.Site; given = point_in p }
seen (command.Index h pairs) = record { name = named.Index; given = (h, pairs) }
seen (command.Refl box pairs) = record { name = named.Refl; given = (box, pairs) }
seen (command.Grid size) = record { name = named.Grid; given = size }
seen (command.Basis c) = record { name = named.Basis; given = c }
seen (command.Recell c) = record { name = named.Recell; given = c }
seen command.Wyckoff = record { name = named.Wyckoff; given = tt }
seen command.Params = record { name = named.Params; given = tt }
seen command.Report = record { name = named.Report; given = tt }
seen (command.Fit p) = record { name = named.Fit; given = point_in p }
seen (command.Table box pairs) = record { name = named.Table; given = (box, pairs) }
seen (command.Sample seed) = record { name = named.Sample; given = seed }
seen command.Atoms = record { name = named.Atoms; given = tt }
seen (command.Merge pairs) = record { name = named.Merge; given = pairs }
seen (command.Map size) = record { name = named.Map; given = size }

-- the words are this name and arguments that give this
pub record IsAsked (words : List (List ℕ)) (asked : Asked) : Type 0 where
  pub arguments : List (List ℕ)
  pub words_are : words ≡ written asked.name ∷ arguments
  pub given : HasArguments (family asked.name) asked.given arguments

-- the words are the words of this command
abbrev pub IsCommand : List (List ℕ) → Command → Type 0
IsCommand words command = IsAsked words (seen command)

-- the words are no command
abbrev pub IsNoCommand : List (List ℕ) → Type 0
IsNoCommand words = (asked : Asked) → IsAsked words asked → ⊥

-- a command of this name, which has these arguments
abbrev pub IsSeenAs : Name → List (List ℕ) → Command → Type 0
IsSeenAs name words command = ((seen command).name ≡ name) × HasArguments (family (seen command).name) (seen command).given words
