-- What contracts see of a sink over a writer of std.
use Rattle.std.specs.Prelude.{ℕ, List, Option}

-- the bytes that the writer has taken, where it tells them, and how often a write has failed
pub record Writer : Type 0 where
  pub contents : Option (List ℕ)
  pub faults : ℕ
