-- The status and the text of each fault.
use Rattle.std.specs.Prelude.{List, ◌++◌, ℕ, codes, decimal}
use Rattle.exact_ops.specs.declared.TheConstants.{UNIT}
use Rattle.exact_ops.specs.declared.op_list.NoMemory as exact_ops
use Rattle.group_closure.specs.declared.TheConstants.{MAX_OPERATORS}
use Rattle.basis_change.specs.declared.basis.ChangeFault.{ChangeFault}
use Rattle.basis_change.specs.declared.basis.ChangeFault.TheVariants as changes
use Rattle.basis_change.specs.declared.cell.RecellFault.{RecellFault}
use Rattle.basis_change.specs.declared.cell.RecellFault.TheVariants as cells
use Rattle.sg_io.specs.declared.sink.SinkStop.{SinkStop}
use Rattle.sg_io.specs.declared.sink.SinkStop.TheVariants as sinks
use Rattle.sg_io.specs.declared.source.ReadStop.{ReadStop}
use Rattle.sg_io.specs.declared.source.ReadStop.TheVariants as reads
use Rattle.triplet_text.specs.declared.lines.LineFault.{LineFault}
use Rattle.triplet_text.specs.declared.lines.LineFault.TheVariants as lines
use Rattle.group_closure.specs.declared.group.CloseFault.{CloseFault}
use Rattle.group_closure.specs.declared.group.CloseFault.TheVariants as closes
use Rattle.grid_tags.specs.declared.grid_orbits.GridFault.{GridFault}
use Rattle.grid_tags.specs.declared.grid_orbits.GridFault.TheVariants as grids
use Rattle.atom_expand.specs.declared.atoms.AtomFault.{AtomFault}
use Rattle.atom_expand.specs.declared.atoms.AtomFault.TheVariants as atoms
use Rattle.data_lines.specs.declared.read.DataFault.{DataFault}
use Rattle.data_lines.specs.declared.read.DataFault.TheVariants as data_faults
use Rattle.map_sym.specs.declared.reading.ValueFault.{ValueFault}
use Rattle.map_sym.specs.declared.reading.ValueFault.TheVariants as values
use Rattle.sg_cli.specs.declared.fault.Fault.{Fault}
use Rattle.sg_cli.specs.declared.fault.Fault.TheVariants.{Words, Reading, TooLong, Unreadable, NotUnimodular, Unclosed, BadData, TooManySites, WrongCount, NotKept, NotCell, NotWhole, TooWide, TooFine, TooMany, Writing, NoMemory}

-- the status that the program ends with
abbrev pub status_of : Fault → ℕ
status_of Words = 2
status_of Reading = 3
status_of TooLong = 10
status_of (Unreadable line) = 5
status_of (NotUnimodular line) = 6
status_of Unclosed = 7
status_of (BadData line) = 11
status_of TooManySites = 12
status_of WrongCount = 12
status_of NotKept = 8
status_of NotCell = 8
status_of NotWhole = 8
status_of TooWide = 8
status_of TooFine = 8
status_of TooMany = 8
status_of Writing = 4
status_of NoMemory = 9

-- the line that is told of a line of the input
abbrev pub at_line : ℕ → List ℕ → List ℕ
at_line line what = codes "sg: line " ++ decimal line ++ what

-- the line that is told
abbrev pub text_of : Fault → List ℕ
text_of Words = codes "sg: words are not a command in range\n"
text_of Reading = codes "sg: reading failed\n"
text_of TooLong = codes "sg: input too long\n"
text_of (Unreadable line) = at_line line (codes ": not a triplet\n")
text_of (NotUnimodular line) = at_line line (codes ": not unimodular\n")
text_of Unclosed = codes "sg: operators do not close\n"
text_of (BadData line) = at_line line (codes ": not a data line\n")
text_of TooManySites = codes "sg: too many data lines\n"
text_of WrongCount = codes "sg: wrong number of values\n"
text_of NotKept = codes "sg: grid is not kept\n"
text_of NotCell = codes "sg: changed cell is no lattice cell\n"
text_of NotWhole = codes "sg: changed entry is not whole\n"
text_of TooWide = codes "sg: changed entry beyond 2\n"
text_of TooFine = codes "sg: changed translation is finer than 1/" ++ decimal UNIT ++ codes "\n"
text_of TooMany = codes "sg: changed group has more than " ++ decimal MAX_OPERATORS ++ codes " operators\n"
text_of Writing = codes "sg: writing failed\n"
text_of NoMemory = codes "sg: no memory\n"

-- what a read that stopped is as a fault
abbrev pub fault_of_read : ReadStop → Fault
fault_of_read reads.NoMemory = NoMemory
fault_of_read reads.Failed = Reading
fault_of_read reads.TooLong = TooLong

-- what lines that could not be read are as a fault
abbrev pub fault_of_lines : LineFault → Fault
fault_of_lines (lines.Unreadable line) = Unreadable line
fault_of_lines (lines.NotUnimodular line) = NotUnimodular line
fault_of_lines lines.NoMemory = NoMemory

-- what a list that was not closed is as a fault
abbrev pub fault_of_close : CloseFault → Fault
fault_of_close closes.Unclosed = Unclosed
fault_of_close closes.NoMemory = NoMemory

-- what a walk through a grid that was not begun is as a fault
abbrev pub fault_of_grid : GridFault → Fault
fault_of_grid grids.NotKept = NotKept
fault_of_grid grids.NoMemory = NoMemory

-- what a group that has none in another basis is as a fault
abbrev pub fault_of_change : ChangeFault → Fault
fault_of_change changes.Wide = TooWide
fault_of_change changes.NoMemory = NoMemory

-- and one that has none in another cell
abbrev pub fault_of_recell : RecellFault → Fault
fault_of_recell cells.NotCell = NotCell
fault_of_recell cells.NotWhole = NotWhole
fault_of_recell cells.Wide = TooWide
fault_of_recell cells.Fine = TooFine
fault_of_recell cells.Many = TooMany
fault_of_recell cells.NoMemory = NoMemory

-- what sites that could not be read are as a fault
abbrev pub fault_of_atoms : AtomFault → Fault
fault_of_atoms (atoms.Bad line) = BadData line
fault_of_atoms atoms.Many = TooManySites
fault_of_atoms atoms.NoMemory = NoMemory

-- what data lines that could not be read are as a fault
abbrev pub fault_of_data : DataFault → Fault
fault_of_data (data_faults.Bad line) = BadData line
fault_of_data data_faults.NoMemory = NoMemory

-- what values that could not be read are as a fault
abbrev pub fault_of_values : ValueFault → Fault
fault_of_values (values.Bad line) = BadData line
fault_of_values (values.Count n) = WrongCount
fault_of_values values.NoMemory = NoMemory

-- what a write to the output that stopped is as a fault
abbrev pub fault_of_write : SinkStop → Fault
fault_of_write sinks.Failed = Writing
fault_of_write sinks.NoMemory = NoMemory

-- what want of memory is as a fault
abbrev pub fault_of_want : exact_ops.NoMemory → Fault
fault_of_want want = NoMemory
