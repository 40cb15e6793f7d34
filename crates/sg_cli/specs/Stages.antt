-- Stages, one behind the other. What a stage answers is a relation: it gives a value, with which the next goes on, or it
-- refuses, and that is the end.
use Rattle.std.specs.Prelude.{◌≡◌}
use Rattle.sg_cli.specs.declared.fault.Fault.{Fault}

-- how a stage ends
pub data Outcome (A : Type 0) : Type 0 where
  Gives : A → Outcome A
  Refuses : Fault → Outcome A

-- the outcomes that a stage may have
abbrev pub Stage : Type 0 → Type 1
Stage A = Outcome A → Type 0

-- a stage that gives such a value, and refuses nothing
abbrev pub Giving : {A : Type 0} → (A → Type 0) → Stage A
Giving IsSuch (Gives value) = IsSuch value
Giving IsSuch (Refuses fault) = ⊥

-- the fact holds, or it does not, and that is the refusal
pub data Needing (Fact : Type 0) (fault : Fault) : Outcome (Unit {0}) → Type 0 where
  holds : Fact → Needing Fact fault (Gives tt)
  fails : (¬ Fact) → Needing Fact fault (Refuses fault)

-- one stage, and the next over the value that it gives
infixl 1 ◌>>=◌
pub data ◌>>=◌ {A B : Type 0} (first : Stage A) (next : A → Stage B) : Outcome B → Type 0 where
  behind : {value : A} {outcome : Outcome B} → first (Gives value) → next value outcome → (first >>= next) outcome
  refused : {fault : Fault} → first (Refuses fault) → (first >>= next) (Refuses fault)

-- a stage has one outcome at most
abbrev pub HasOneAtMost : {A : Type 0} → Stage A → Type 0
HasOneAtMost stage = (a b : Outcome _) → stage a → stage b → a ≡ b

-- a stage has an outcome
abbrev pub HasSome : {A : Type 0} → Stage A → Type 0
HasSome stage = (a : Outcome _) × stage a
