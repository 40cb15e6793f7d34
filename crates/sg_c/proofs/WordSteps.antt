-- Words that were cut off one by one.
use Rattle.std.proofs.Common.{◌≡◌, ℕ, List, ◌∷◌, ◌++◌, length, length-append, arith}
use Rattle.std.proofs.Math.Seq.{get_or-append_seam}
use Rattle.std.specs.List.{All}

-- not all of a list pass where one within it does not
pub one_breaks : (Passes : List ℕ → Type 0) (all front : List (List ℕ)) (word : List ℕ) (rest : List (List ℕ))
    → front ++ word ∷ rest ≡ all → ¬ Passes word → ¬ All Passes all
one_breaks Passes all front word rest e breaks each =
    let count = length-append front (word ∷ rest) in let passes : All Passes (front ++ word ∷ rest) = rw e each in
    let found = passes (length front) word (omega arith) in breaks (rw get_or-append_seam at found)
