-- The text of a site: the counts, the elements, the points.
use Rattle.std.proofs.Common.{◌≡◌, ℕ, List, [], ◌∷◌, ◌++◌, length, refl, sym, ap, ap₂, subst, ◌∙◌, append_assoc}
use Rattle.std.proofs.lemmas.List.{append-nil}
use Rattle.lattice_algebra.specs.Map.{Map}
use Rattle.lattice_algebra.specs.Point.{Point}
use Rattle.triplet_text.specs.Bytes.{space, line_feed}
use Rattle.page_print.specs.Lines.{AreLines, IsNothing}
use Rattle.table_print.specs.Sites.{counts_text, IsElementLine, IsPointLine, IsSiteText}
use Rattle.page_print.proofs.LineTexts.{one_text, some_lines}

-- three texts that were added behind a word with spaces between them, and the end of the line
point_added : (l word x y z : List ℕ) → ((((((l ++ word) ++ x) ++ space ∷ []) ++ y) ++ space ∷ []) ++ z) ++ line_feed ∷ [] ≡ l ++ (word ++ x ++ space ∷ y ++ space ∷ z ++ line_feed ∷ [])
point_added l word x y z = simp append_assoc

pub point_pushed : (l l1 l2 l3 l4 l5 l6 l7 word x y z u v w : List ℕ) → l1 ≡ l ++ word → l2 ≡ l1 ++ x → l3 ≡ l2 ++ space ∷ [] → l4 ≡ l3 ++ y → l5 ≡ l4 ++ space ∷ [] → l6 ≡ l5 ++ z → l7 ≡ l6 ++ line_feed ∷ [] → x ≡ u → y ≡ v → z ≡ w
    → l7 ≡ l ++ (word ++ u ++ space ∷ v ++ space ∷ w ++ line_feed ∷ [])
point_pushed l l1 l2 l3 l4 l5 l6 l7 word x y z u v w e1 e2 e3 e4 e5 e6 e7 f g h = let all = point_added l word x y z in cc

module _ (site : List Map) (orbit : List Point) where
  abbrev pub Counts : List ℕ
  Counts = counts_text (length site) (length orbit)

  abbrev pub some_elements : (text : List ℕ) × AreLines IsElementLine site text
  some_elements = some_lines IsElementLine site (λ g m. (_, refl))

  abbrev pub some_points : (text : List ℕ) × AreLines IsPointLine orbit text
  some_points = some_lines IsPointLine orbit (λ p m. (_, refl))

  site_text : (elements points : List ℕ) → AreLines IsElementLine site elements → AreLines IsPointLine orbit points → IsSiteText site orbit (Counts ++ elements ++ points)
  site_text elements points are_elements are_points = record { elements = elements; are_elements = are_elements; points = points; are_points = are_points; whole = refl }

  -- a site and an orbit have one text at most
  pub one_site_text : (s t : List ℕ) → IsSiteText site orbit s → IsSiteText site orbit t → s ≡ t
  one_site_text s t p q =
      let elements = one_text IsElementLine (λ g l m a b. a ∙ sym b) site p.elements q.elements p.are_elements q.are_elements in
      let points = one_text IsPointLine (λ g l m a b. a ∙ sym b) orbit p.points q.points p.are_points q.are_points in
      p.whole ∙ ap₂ (λ u v. Counts ++ u ++ v) elements points ∙ sym q.whole

  -- and they have one
  pub some_site_text : (text : List ℕ) × IsSiteText site orbit text
  some_site_text = (Counts ++ some_elements.0 ++ some_points.0, site_text some_elements.0 some_points.0 some_elements.1 some_points.1)

  -- what stands behind the counts
  pub record IsRestOfSite (rest : List ℕ) : Type 0 where
    pub elements : List ℕ
    pub are_elements : AreLines IsElementLine site elements
    pub points : List ℕ
    pub are_points : AreLines IsPointLine orbit points
    pub whole : rest ≡ elements ++ points

  pub counts_before : (rest : List ℕ) → IsRestOfSite rest → IsSiteText site orbit (Counts ++ rest)
  counts_before rest r =
      subst (IsSiteText site orbit) (append_assoc Counts r.elements r.points ∙ ap (λ (t : List ℕ). Counts ++ t) (sym r.whole))
      (site_text r.elements r.points r.are_elements r.are_points)

  pub elements_before : (elements points : List ℕ) → AreLines IsElementLine site elements → AreLines IsPointLine orbit points → IsRestOfSite (elements ++ points)
  elements_before elements points p q = record { elements = elements; are_elements = p; points = points; are_points = q; whole = refl }

  pub points_before : (points rest : List ℕ) → AreLines IsPointLine orbit points → IsNothing rest → AreLines IsPointLine orbit (points ++ rest)
  points_before points rest p e = subst (AreLines IsPointLine orbit) (sym (append-nil points) ∙ ap (λ (t : List ℕ). points ++ t) (sym e)) p
