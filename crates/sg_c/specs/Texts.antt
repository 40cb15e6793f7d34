-- What a call leaves in the buffers of its caller.
use Rattle.std.specs.Prelude.{◌≡◌, ◌≢◌, ◌++◌, ℕ, List, length, take, drop}
use Rattle.triplet_text.specs.declared.text.TheConstants.{TEXT_ROOM}
use Rattle.sg_cli.specs.declared.fault.Fault.{Fault}
use Rattle.sg_cli.specs.Stages.{Gives, Refuses}
use Rattle.sg_cli.specs.Words.{Asked, IsAsked}
use Rattle.sg_cli.specs.Answer.{IsAnswer}
use Rattle.sg_cli.specs.Fault.{status_of, text_of}
use Rattle.sg_cli.specs.Run.{IsTabled}

-- the buffer begins with the text, or with as much of it as has room, and goes on as it was
abbrev pub Shows : List ℕ → List ℕ → List ℕ → Type 0
Shows text old new = new ≡ take (length old) text ++ drop (length text) old

-- what a sink with room for one text has taken, and how often it had no more room
pub record TakenText : Type 0 where
  pub held : List ℕ
  pub refused : ℕ

-- the answer is a text, of which this is the length, and the buffer shows it; where the words ask for rows, the text shows those
-- of a Wyckoff table
pub record IsGivenText (words : List (List ℕ)) (input : List ℕ) (count : ℕ) (old new : List ℕ) : Type 0 where
  pub text : List ℕ
  pub answer : IsAnswer words input (Gives text)
  pub table : (asked : Asked) → IsAsked words asked → IsTabled input asked text
  pub counted : count ≡ length text
  pub shown : Shows text old new

-- what is told of a fault: its text, which is cut where it is longer than TEXT_ROOM, as none is of an input that can be read
abbrev pub told_of : Fault → List ℕ
told_of fault = take TEXT_ROOM (text_of fault)

-- a fault has this status, and is the answer, unless memory was wanted. The buffer shows what is told of it, of which this is the
-- length
pub record IsGivenFault (words : List (List ℕ)) (input : List ℕ) (status count : ℕ) (old new : List ℕ) : Type 0 where
  pub fault : Fault
  pub is : status_of fault ≡ status
  pub answer : status ≢ 9 → IsAnswer words input (Refuses fault)
  pub counted : count ≡ length (told_of fault)
  pub shown : Shows (told_of fault) old new
