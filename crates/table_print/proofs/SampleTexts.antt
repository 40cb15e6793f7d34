-- The text of a sample, piece by piece.
use Rattle.std.proofs.Common.{◌≡◌, ℕ, List, [], ◌∷◌, ◌++◌, append_assoc}
use Rattle.triplet_text.specs.Bytes.{space, line_feed}

-- a row, a space and a count, and the end of the line
counted_added : (l s d : List ℕ) → (((l ++ s) ++ space ∷ []) ++ d) ++ line_feed ∷ [] ≡ l ++ (s ++ space ∷ d ++ line_feed ∷ [])
counted_added l s d = simp append_assoc

pub counted_pushed : (l l1 l2 l3 l4 s d u : List ℕ) → l1 ≡ l ++ s → l2 ≡ l1 ++ space ∷ [] → l3 ≡ l2 ++ d → l4 ≡ l3 ++ line_feed ∷ [] → d ≡ u → l4 ≡ l ++ (s ++ space ∷ u ++ line_feed ∷ [])
counted_pushed l l1 l2 l3 l4 s d u e1 e2 e3 e4 f = let all = counted_added l s d in cc

-- a word, a number, and what is counted
heading_added : (l w d c : List ℕ) → ((l ++ w) ++ d) ++ c ≡ l ++ (w ++ d ++ c)
heading_added l w d c = simp append_assoc

pub heading_pushed : (l l1 l2 l3 w d c u v : List ℕ) → l1 ≡ l ++ w → l2 ≡ l1 ++ d → l3 ≡ l2 ++ c → d ≡ u → c ≡ v → l3 ≡ l ++ (w ++ u ++ v)
heading_pushed l l1 l2 l3 w d c u v e1 e2 e3 f g = let all = heading_added l w d c in cc
