-- The lines of a map, piece by piece.
use Rattle.std.proofs.Common.{◌≡◌, ℕ, List, [], ◌∷◌, ◌++◌, codes, ap, ◌∙◌, append_assoc}
use Rattle.triplet_text.specs.Bytes.{space, line_feed}

-- a text behind another, with a space between them
one_more : (l now spaced new text piece t : List ℕ) → now ≡ l ++ text → spaced ≡ now ++ space ∷ [] → new ≡ spaced ++ piece → piece ≡ t → new ≡ l ++ (text ++ space ∷ t)
one_more l now spaced new text piece t e s n p =
    n ∙ ap (λ (z : List ℕ). z ++ piece) s ∙ append_assoc now (space ∷ []) piece ∙ ap (λ (z : List ℕ). now ++ space ∷ z) p
    ∙ ap (λ (z : List ℕ). z ++ space ∷ t) e ∙ append_assoc l text (space ∷ t)

-- and the end of the line
line_ended : (l now new text : List ℕ) → now ≡ l ++ text → new ≡ now ++ line_feed ∷ [] → new ≡ l ++ (text ++ line_feed ∷ [])
line_ended l now new text e n = n ∙ ap (λ (z : List ℕ). z ++ line_feed ∷ []) e ∙ append_assoc l text (line_feed ∷ [])

-- five texts that were added with spaces between them
pub sum_pushed : (l l1 l2 l3 l4 l5 l6 l7 l8 l9 l10 a b c d e t u v w x : List ℕ) → l1 ≡ l ++ a → l2 ≡ l1 ++ space ∷ [] → l3 ≡ l2 ++ b → l4 ≡ l3 ++ space ∷ [] → l5 ≡ l4 ++ c → l6 ≡ l5 ++ space ∷ [] → l7 ≡ l6 ++ d → l8 ≡ l7 ++ space ∷ [] → l9 ≡ l8 ++ e → l10 ≡ l9 ++ line_feed ∷ []
    → a ≡ t → b ≡ u → c ≡ v → d ≡ w → e ≡ x → l10 ≡ l ++ (t ++ space ∷ u ++ space ∷ v ++ space ∷ w ++ space ∷ x ++ line_feed ∷ [])
sum_pushed l l1 l2 l3 l4 l5 l6 l7 l8 l9 l10 a b c d e t u v w x e1 e2 e3 e4 e5 e6 e7 e8 e9 e10 p q r s o =
    let first = e1 ∙ ap (λ (z : List ℕ). l ++ z) p in
    let second = one_more l l1 l2 l3 t b u first e2 e3 q in
    let third = one_more l l3 l4 l5 (t ++ space ∷ u) c v second e4 e5 r in
    let fourth = one_more l l5 l6 l7 (t ++ space ∷ u ++ space ∷ v) d w third e6 e7 s in
    let fifth = one_more l l7 l8 l9 (t ++ space ∷ u ++ space ∷ v ++ space ∷ w) e x fourth e8 e9 o in
    line_ended l l9 l10 (t ++ space ∷ u ++ space ∷ v ++ space ∷ w ++ space ∷ x) fifth e10

pub total_pushed : (l l1 l2 l3 a t : List ℕ) → l1 ≡ l ++ codes "total " → l2 ≡ l1 ++ a → l3 ≡ l2 ++ line_feed ∷ [] → a ≡ t → l3 ≡ l ++ (codes "total " ++ t ++ line_feed ∷ [])
total_pushed l l1 l2 l3 a t e1 e2 e3 p = line_ended l l2 l3 (codes "total " ++ t) (e2 ∙ ap (λ (z : List ℕ). z ++ a) e1 ∙ append_assoc l (codes "total ") a ∙ ap (λ (z : List ℕ). l ++ (codes "total " ++ z)) p) e3
