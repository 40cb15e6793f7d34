-- What clauses see of a source and of a sink.
use Rattle.std.specs.Prelude.{List, ℕ, Option}

-- the bytes that are left, where they are told, and how often a read has failed
pub record SeenSource (S : Type 0) : Type 0 where
  pub left : S → Option (List ℕ)
  pub faults : S → ℕ

-- the bytes taken, where they are told, how often a write has failed, and how often memory was wanted
pub record SeenSink (K : Type 0) : Type 0 where
  pub held : K → Option (List ℕ)
  pub faults : K → ℕ
  pub wants : K → ℕ
