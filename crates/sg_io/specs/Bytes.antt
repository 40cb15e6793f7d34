-- What a loop over a source or a sink does to the bytes that are told. Where they are not told, it says nothing.
use Rattle.std.specs.Prelude.{ℕ, ◌≡◌, List, ◌++◌, length, Option}
use Rattle.std.specs.Io.KnownBytes.{Appends, Consumes}

-- some bytes were taken off the front, and IsSuch holds of their number
abbrev pub ConsumesSome : Option (List ℕ) → Option (List ℕ) → (ℕ → Type 0) → Type 0
ConsumesSome old new IsSuch = (bytes : List ℕ) × Consumes old new bytes × IsSuch (length bytes)

-- the bytes begin with the front
abbrev pub IsPrefixOf : List ℕ → List ℕ → Type 0
IsPrefixOf front bytes = (rest : List ℕ) × (front ++ rest ≡ bytes)

-- what is held grew by a prefix of the bytes
abbrev pub AppendsPrefix : Option (List ℕ) → Option (List ℕ) → List ℕ → Type 0
AppendsPrefix old new bytes = (front : List ℕ) × IsPrefixOf front bytes × Appends old new front
