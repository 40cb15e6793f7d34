-- What the streams in memory are seen as.
use Rattle.std.specs.Prelude.{◌≡◌, ◌<◌, ◌⊎◌, ℕ, List}

-- the bytes still to come, and the greatest number of them that one call gives
pub record MemoryInput : Type 0 where
  pub left : List ℕ
  pub piece : ℕ

-- a line that is given again and again, the place in it of the next byte, and the greatest number of bytes that one call gives
pub record RepeatedInput : Type 0 where
  pub line : List ℕ
  pub at : ℕ
  pub piece : ℕ

-- behind the last byte of the line the first is the next
abbrev pub IsPlaceAfter : ℕ → ℕ → ℕ → Type 0
IsPlaceAfter end size at = ((end < size) × (at ≡ end)) ⊎ ((end ≡ size) × (at ≡ 0))

-- the bytes taken, the greatest number of them that one call takes, and how often memory was wanted
pub record MemoryOutput : Type 0 where
  pub held : List ℕ
  pub piece : ℕ
  pub wants : ℕ

-- the calls of a stream: the numbers, from 0, of those that fail, how many were made, and how many of these failed
pub record NumberedCalls : Type 0 where
  pub fails : List ℕ
  pub made : ℕ
  pub faults : ℕ

-- a MemoryInput, whose reads are such calls
pub record FailingInput : Type 0 where
  pub left : List ℕ
  pub piece : ℕ
  pub fails : List ℕ
  pub made : ℕ
  pub faults : ℕ

-- a MemoryOutput, whose writes are such calls
pub record FailingOutput : Type 0 where
  pub held : List ℕ
  pub piece : ℕ
  pub wants : ℕ
  pub fails : List ℕ
  pub made : ℕ
  pub faults : ℕ
