-- Pieces that were added to a page, as one text.
use Rattle.std.proofs.Common.{◌≡◌, ℕ, List, [], ◌∷◌, ◌++◌, append_assoc}
use Rattle.triplet_text.specs.Bytes.{space, line_feed}

-- three texts that were added with spaces between them
three_added : (l a b c : List ℕ) → ((((l ++ a) ++ space ∷ []) ++ b) ++ space ∷ []) ++ c ≡ l ++ (a ++ space ∷ b ++ space ∷ c)
three_added l a b c = simp append_assoc

pub three_pushed : (l l1 l2 l3 l4 l5 a b c u v w : List ℕ) → l1 ≡ l ++ a → l2 ≡ l1 ++ space ∷ [] → l3 ≡ l2 ++ b → l4 ≡ l3 ++ space ∷ [] → l5 ≡ l4 ++ c → a ≡ u → b ≡ v → c ≡ w → l5 ≡ l ++ (u ++ space ∷ v ++ space ∷ w)
three_pushed l l1 l2 l3 l4 l5 a b c u v w e1 e2 e3 e4 e5 f g h = let all = three_added l a b c in cc

-- four, and the end of the line
four_added : (l r a b m : List ℕ) → (((((((l ++ r) ++ space ∷ []) ++ a) ++ space ∷ []) ++ b) ++ space ∷ []) ++ m) ++ line_feed ∷ [] ≡ l ++ (r ++ space ∷ a ++ space ∷ b ++ space ∷ m ++ line_feed ∷ [])
four_added l r a b m = simp append_assoc

pub four_pushed : (l l1 l2 l3 l4 l5 l6 l7 l8 r a b m u v : List ℕ) → l1 ≡ l ++ r → l2 ≡ l1 ++ space ∷ [] → l3 ≡ l2 ++ a → l4 ≡ l3 ++ space ∷ [] → l5 ≡ l4 ++ b → l6 ≡ l5 ++ space ∷ [] → l7 ≡ l6 ++ m → l8 ≡ l7 ++ line_feed ∷ [] → a ≡ u → b ≡ v
    → l8 ≡ l ++ (r ++ space ∷ u ++ space ∷ v ++ space ∷ m ++ line_feed ∷ [])
four_pushed l l1 l2 l3 l4 l5 l6 l7 l8 r a b m u v e1 e2 e3 e4 e5 e6 e7 e8 f g = let all = four_added l r a b m in cc
