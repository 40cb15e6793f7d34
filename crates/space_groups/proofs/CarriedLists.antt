-- A closed list of maps carried by an element, v s v^-1 for each s: its average goes along, and keeps its key.
-- For the search to come: `key_carried_back`, `turned_closed` and `turned_fixes`, by which it keeps sets near the origin.
use Rattle.std.proofs.Common.{◌≡◌, ◌∷◌, [], ℕ, ◌↔◌, List, length, map, ℤ, pos, Contains, ap, ap₂, sym, ◌∙◌, subst}
use Rattle.std.specs.List.{IsDistinct}
use Rattle.std.proofs.lemmas.List.{length-map}
use Rattle.std.proofs.lemmas.List.Elements.{All-contains, Contains-get_or}
use Rattle.lattice_algebra.specs.Map.{Map, ◌∘◌, identity_map, undo}
use Rattle.lattice_algebra.proofs.Maps.{map_eq, map_eq-is, ∘_assoc, identity-∘, ∘-identity}
use Rattle.finite_groups.specs.Words.{IsClosedList}
use Rattle.finite_groups.proofs.Members as lists
use Rattle.finite_groups.proofs.Conjugates as conjugates
use Rattle.space_groups.specs.Space.{IsElement, ScaledPoint, moved}
use Rattle.space_groups.specs.Averages.{Block, no_block, block_of, block_plus, block_times, block_scaled, sum_of, IsMean}
use Rattle.space_groups.specs.Keys.{carried, Key, key_of, ComesBefore, IsKey}
use Rattle.space_groups.proofs.Blocks.{block_of-∘, times_plus, plus_times, times_none, none_times, times_scaled, scaled_times}
use Rattle.space_groups.proofs.Elements.{SpaceGroup, space, on_points}
use Rattle.space_groups.proofs.Carried.{carried-∘, on_blocks}

-- v s v^-1
abbrev pub turned : Map → Map → Map
turned v s = (v ∘ s) ∘ undo v

turned_block : (v s : Map) → block_of (turned v s) ≡ carried v (block_of s)
unfolding carried
turned_block v s = block_of-∘ (v ∘ s) (undo v) ∙ ap (λ b. block_times b (block_of (undo v))) (block_of-∘ v s)

carried_plus : (v : Map) (a b : Block) → carried v (block_plus a b) ≡ block_plus (carried v a) (carried v b)
unfolding carried
carried_plus v a b = ap (λ c. block_times c (block_of (undo v))) (times_plus (block_of v) a b) ∙ plus_times (block_times (block_of v) a) (block_times (block_of v) b) (block_of (undo v))

carried_none : (v : Map) → carried v no_block ≡ no_block
unfolding carried
carried_none v = ap (λ c. block_times c (block_of (undo v))) (times_none (block_of v)) ∙ none_times (block_of (undo v))

pub carried_scaled : (v : Map) (k : ℤ) (a : Block) → carried v (block_scaled k a) ≡ block_scaled k (carried v a)
unfolding carried
carried_scaled v k a = ap (λ c. block_times c (block_of (undo v))) (times_scaled k (block_of v) a) ∙ scaled_times k (block_times (block_of v) a) (block_of (undo v))

pub carried_sum : (v : Map) (list : List Map) → sum_of (map (turned v) list) ≡ carried v (sum_of list)
carried_sum v [] = sym (carried_none v)
carried_sum v (s ∷ list) = ap₂ block_plus (turned_block v s) (carried_sum v list) ∙ sym (carried_plus v (block_of s) (sum_of list))

-- the average goes along
pub carried_mean : (v : Map) (n : ℕ) (list : List Map) (a : Block) → IsMean n list a → IsMean n (map (turned v) list) (carried v a)
carried_mean v n list a e =
    ap (λ k. block_scaled (pos k) (carried v a)) (length-map list (turned v)) ∙ sym (carried_scaled v (pos (length list)) a) ∙ ap (carried v) e ∙ carried_scaled v (pos n) (sum_of list) ∙ ap (block_scaled (pos n)) (sym (carried_sum v list))

module _ (L : SpaceGroup) where
  open L use {unit, some, members, closed}

  -- it keeps its key
  pub key_carried : (n : ℕ) (v : Map) (a : Block) (p : Key) → IsElement unit members v → IsKey unit members n a p → IsKey unit members n (carried v a) p
  key_carried n v a p m k =
      let i : IsElement unit members (undo v) = (space L).inv_in v m in
      let back : (b : Block) → carried (undo v) (carried v b) ≡ b = λ b. conjugates.act_back (space L) (on_blocks L) v b m in
      record {
        by = k.by ∘ undo v;
        element = (space L).mul_in k.by (undo v) k.element i;
        gives = ap (key_of unit n) (carried-∘ L k.by (undo v) (carried v a) k.element i ∙ ap (carried k.by) (back a)) ∙ k.gives;
        first = λ g h l. k.first (g ∘ v) ((space L).mul_in g v h m) (subst (λ b. ComesBefore (key_of unit n b) p) (sym (carried-∘ L g v a h m)) l);
      }

  pub key_carried_back : (n : ℕ) (v : Map) (a : Block) (p : Key) → IsElement unit members v → IsKey unit members n (carried v a) p → IsKey unit members n a p
  key_carried_back n v a p m k = subst (λ b. IsKey unit members n b p) (conjugates.act_back (space L) (on_blocks L) v a m) (key_carried n (undo v) (carried v a) p ((space L).inv_in v m) k)

  turned_apart : (v : Map) (list : List Map) → IsElement unit members v → ((e : Map) → Contains list e → IsElement unit members e) → lists.IsInjectiveOn map_eq map_eq-is (turned v) list
  turned_apart v list m h a b p q e = conjugates.conj_apart (space L) (on_points L) v a b m (h a p) (h b q) e

  pub turned_distinct : (v : Map) (list : List Map) → IsElement unit members v → ((e : Map) → Contains list e → IsElement unit members e) → IsDistinct map_eq list → IsDistinct map_eq (map (turned v) list)
  turned_distinct v list m h d = lists.distinct-map map_eq map_eq-is (turned v) list d (turned_apart v list m h)

  turned_product : (v a b : Map) → IsElement unit members v → IsElement unit members a → IsElement unit members b → turned v a ∘ turned v b ≡ turned v (a ∘ b)
  turned_product v a b m p q =
      let u = undo v in
      let inner : u ∘ ((v ∘ b) ∘ u) ≡ b ∘ u = sym (∘_assoc u (v ∘ b) u) ∙ ap (λ x. x ∘ u) (sym (∘_assoc u v b) ∙ ap (λ x. x ∘ b) ((space L).inv_left v m) ∙ identity-∘ b) in
      ∘_assoc (v ∘ a) u ((v ∘ b) ∘ u) ∙ ap (λ x. (v ∘ a) ∘ x) inner ∙ sym (∘_assoc (v ∘ a) b u) ∙ ap (λ x. x ∘ u) (∘_assoc v a b)

  pub turned_closed : (v : Map) (list : List Map) → IsElement unit members v → IsClosedList (space L) list → IsClosedList (space L) (map (turned v) list)
  turned_closed v list m c =
      let at : (e : Map) → Contains list e → IsElement unit members e = λ e p. All-contains (IsElement unit members) list e c.valid p in
      record {
        distinct = turned_distinct v list m at c.distinct;
        valid = λ k d l. let r = lists.Contains-from_map (turned v) _ list (Contains-get_or (map (turned v) list) k d l) in
            subst (IsElement unit members) r.2 (conjugates.conj_in (space L) (on_points L) v r.0 m (at r.0 r.1));
        has_one = subst (Contains (map (turned v) list)) (ap (λ x. x ∘ undo v) (∘-identity v) ∙ (space L).inv_right v m) (lists.Contains-map (turned v) identity_map list c.has_one);
        closed = λ a b p q.
            let x = lists.Contains-from_map (turned v) a list p in
            let y = lists.Contains-from_map (turned v) b list q in
            subst (Contains (map (turned v) list)) (sym (turned_product v x.0 y.0 m (at x.0 x.1) (at y.0 y.1)) ∙ ap₂ (λ f g. f ∘ g) x.2 y.2) (lists.Contains-map (turned v) (x.0 ∘ y.0) list (c.closed x.0 y.0 x.1 y.1));
      }

  -- a point is fixed by the list exactly where its image is fixed by the carried list
  pub turned_fixes : (v e : Map) (z : ScaledPoint) → IsElement unit members v → IsElement unit members e → (moved e z ≡ z) ↔ (moved (turned v e) (moved v z) ≡ moved v z)
  turned_fixes v e z m p =
      let k = conjugates.site_moved (space L) (on_points L) v e z m p in
      ((λ q. (k.0 (p, q)).1), (λ q. (k.1 (conjugates.conj_in (space L) (on_points L) v e m p, q)).1))
