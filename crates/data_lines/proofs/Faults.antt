-- Faults of data lines that were read one by one.
use Rattle.std.proofs.Common.{ℕ, List, ◌∷◌, refl}
use Rattle.data_lines.specs.declared.read.DataFault.{DataFault}
use Rattle.data_lines.specs.declared.read.DataFault.TheVariants.{Bad, NoMemory}
use Rattle.data_lines.specs.DataLines.{IsDataLine, IsWrittenLine, IsBadLine, IsDataFaultOf, IsDataFaultAt}
use Rattle.triplet_text.proofs.SaidLines.{AreSaidBefore, first_bad}

module _ {A : Type 0} (IsWritten : List ℕ → A → Type 0) where
  pub fault_found : (first : ℕ) (lines left : List (List ℕ)) (line : List ℕ) (k : ℕ) (list : List A) (fault : DataFault) → AreSaidBefore (IsDataLine IsWritten) first lines (line ∷ left) k list → IsDataFaultAt IsWritten k line fault → IsDataFaultOf IsWritten first lines fault
  fault_found first lines left line k list (Bad n) h f = first_bad (IsDataLine IsWritten) (IsBadLine IsWritten) first lines left line k n list h f.0 f.1
  fault_found first lines left line k list NoMemory h f = (k, first_bad (IsDataLine IsWritten) (IsWrittenLine IsWritten) first lines left line k k list h refl f)
