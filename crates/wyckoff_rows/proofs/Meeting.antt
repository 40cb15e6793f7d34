-- Averages that were met, and what is kept for an average.
use Rattle.std.proofs.Common.{◌≡◌, ◌≢◌, ◌<◌, ◌*◌, ◌/◌, ℕ, pos, List, [], ◌∷◌, ◌++◌, length, get_or, Contains, ap, sym, ◌∙◌, subst, arith, ⊎_elim}
use Rattle.std.proofs.lemmas.Map.Made.{IsDistinct-from_AllPairs}
use Rattle.std.proofs.lemmas.List.Elements.{All-contains, All-cons, All-append, Contains-get_or, Contains-append_left, Contains-append_cases}
use Rattle.lattice_algebra.specs.Operator.{Operator}
use Rattle.lattice_algebra.specs.Map.{Map}
use Rattle.lattice_algebra.proofs.Maps.{map_eq-is}
use Rattle.finite_groups.proofs.Members as lists
use Rattle.finite_groups.proofs.Pairs.{AllPairs-append_one}
use Rattle.exact_ops.specs.declared.TheConstants.{UNIT}
use Rattle.exact_ops.proofs.Narrow.{some_parts}
use Rattle.group_closure.specs.GroupList.{IsGroup}
use Rattle.site_symmetry.proofs.SpaceOfGroup.{space_of}
use Rattle.space_groups.specs.Space.{IsElement}
use Rattle.space_groups.specs.Averages.{Block, IsMean}
use Rattle.space_groups.specs.Keys.{Key, key_of, IsKey}
use Rattle.space_groups.specs.Search.{IsSub, IsFull}
use Rattle.space_groups.specs.Regions.{shift_by}
use Rattle.space_groups.proofs.Elements.{SpaceGroup}
use Rattle.space_groups.proofs.Means.{Averaged, number, idempotent_itself, image_fixed, full_exactly, same_mean}
use Rattle.space_groups.proofs.Divided.{divides}
use Rattle.space_groups.proofs.Keys.{same_by_shift}
use Rattle.space_groups.proofs.Regions.{shift_in}
use Rattle.space_groups.proofs.Rows.{some_members}
use Rattle.space_groups.proofs.SiteLists.{one_length}
use Rattle.space_groups.proofs.CarriedLists.{key_carried}
use Rattle.affine_sets.specs.Averages.{KeyOver}
use Rattle.affine_sets.specs.Subs.{IsSubList, AreElements}
use Rattle.affine_sets.specs.Conditions.{IsAverage}
use Rattle.wyckoff_rows.specs.Steps.{IsEntry, IsAverageNearOrigin, AreKept, AreMet, HasKeyOf}
use Rattle.wyckoff_rows.specs.declared.entry.Entry.{Entry}
use Rattle.wyckoff_rows.proofs.Standing.{closed_of_sub}
use Rattle.affine_sets.proofs.Groups.{sub_of_list}
use Rattle.wyckoff_rows.proofs.NearFull.{full_within}

module _ (members : List Operator) (group : IsGroup members) where
  abbrev L : SpaceGroup
  L = space_of members group

  abbrev of_group : (list : List Map) (a : Block) → IsSub UNIT members list → IsMean (length members) list a → Averaged L (length members)
  of_group list a s m = record { some = some_members L; list = list; closed = closed_of_sub members group list s; average = a; is_mean = m }

  -- averages that differ by whole cells have one key
  pub same_cell_key : (a b : Block) (p : Key) → IsAverage members a → IsAverage members b → key_of UNIT (length members) a ≡ key_of UNIT (length members) b → IsKey UNIT members (length members) a p → IsKey UNIT members (length members) b p
  same_cell_key a b p h i e k =
      let v = of_group h.group a h.is_group h.mean in
      let w = of_group i.group b i.is_group i.mean in
      let s = same_by_shift UNIT (length members) some_parts (some_members L) a b (number v) (number w) (idempotent_itself v) (idempotent_itself w) e in
      subst (λ x. IsKey UNIT members (length members) x p) s.1 (key_carried L (length members) (shift_by UNIT s.0) a p (shift_in L s.0) k)

  pub met_more : (kept : List Entry) (met : List KeyOver) (place : KeyOver) (a : Block) → AreMet members kept met → IsAverage members a → place.key ≡ key_of UNIT (length members) a → HasKeyOf members kept a → AreMet members kept (met ++ place ∷ [])
  met_more kept met place a m h e r k c b i q = ⊎_elim
      (λ d. m k d b i q)
      (λ d.
      let s : place ≡ k = ⊎_elim (λ x. x) (λ x. absurd (lists.not_in_nil k x)) (lists.Contains-cases k place [] d) in
      (r.0, r.1, same_cell_key a b r.0.key.key h i (sym e ∙ ap (λ (x : KeyOver). x.key) s ∙ sym q) r.2))
      (Contains-append_cases met (place ∷ []) k c)

  -- ---- what is kept of an average

  module _ (set : List Map) (a : Block) (near : IsAverageNearOrigin members a) (full : IsFull UNIT members a set) (list : IsSubList set) where
    full_elements : AreElements members set
    full_elements = λ k d l. ((full.exactly (get_or set k d)).0 (Contains-get_or set k d l)).0

    pub full_sub : IsSub UNIT members set
    full_sub = sub_of_list members set list full_elements

    v : Averaged L (length members)
    v = of_group near.group a near.is_group near.mean

    pub full_mean : IsMean (length members) set a
    unfolding v
    full_mean = same_mean v set (closed_of_sub members group set full_sub)
        (λ e c. (full.exactly e).1 (All-contains (IsElement UNIT members) near.group e near.is_group.elements c, (λ y i. image_fixed v y i e c)))
        (λ e c. (full_exactly v e).1 ((full.exactly e).0 c).1)

    pub full_mult : (other : List Map) → IsFull UNIT members a other → length other * (length members / length set) ≡ length members
    full_mult other f =
        let l : length other ≡ length set = one_length other set (IsDistinct-from_AllPairs map_eq-is other f.once) (IsDistinct-from_AllPairs map_eq-is set full.once) (λ e. ((λ c. (full.exactly e).1 ((f.exactly e).0 c)), (λ c. (f.exactly e).1 ((full.exactly e).0 c)))) in
        let d = divides L set (closed_of_sub members group set full_sub) in
        quotient (length other) (length set) d.0 (length members) l d.1 (omega (arith, full_sub.identity.1))
      where
        quotient : (a b q n : ℕ) → a ≡ b → n ≡ q * b → 0 < b → a * (n / b) ≡ n
        quotient a b q n e f h = grind arith

    pub entry_of : (key : KeyOver) (mult : ℕ) → IsKey UNIT members (length members) a key.key → key.over ≡ length members → mult ≡ length members / length set → IsEntry members (record { set = set; average = a; key = key; mult = mult })
    entry_of key mult k o m = record {
      kept = record { sub = full_sub; mean = full_mean; key = k; mult = λ other f. ap (λ x. length other * x) m ∙ full_mult other f };
      over = o;
      near = near;
      full = full;
      shifts = full_within members group a set near full full_elements;
    }

pub kept_more : (members : List Operator) (old : List Entry) (t : Entry) → AreKept members old → IsEntry members t → ((s : Entry) → Contains old s → s.key ≢ t.key) → AreKept members (old ++ t ∷ [])
kept_more members old t h i n = record { group = h.group; each = All-append (IsEntry members) old (t ∷ []) h.each (All-cons (IsEntry members) t [] i (λ k d l. absurd (omega (arith, l)))); apart = AllPairs-append_one (λ (s u : Entry). s.key ≢ u.key) old t h.apart n }

pub place_is : (a : Block) (place : KeyOver) (n : ℕ) → place.key ≡ key_of UNIT place.over a → pos place.over ≡ a.n → a.n ≡ pos n → place.key ≡ key_of UNIT n a
place_is a place n e o m = let q : place.over ≡ n = same_pos place.over n (o ∙ m) in e ∙ ap (λ k. key_of UNIT k a) q
  where
    same_pos : (m n : ℕ) → pos m ≡ pos n → m ≡ n
    same_pos m n e = cc

pub has_key_of : (members : List Operator) (kept : List Entry) (a : Block) (k : KeyOver) (t : Entry) → Contains kept t → t.key ≡ k → IsKey UNIT members (length members) a k.key → HasKeyOf members kept a
has_key_of members kept a k t c e h = (t, c, subst (IsKey UNIT members (length members) a) (ap (λ (x : KeyOver). x.key) (sym e)) h)

pub met_on : (members : List Operator) (old more : List Entry) (met : List KeyOver) → AreMet members old met → AreMet members (old ++ more) met
met_on members old more met m = λ k c a i q. let r = m k c a i q in (r.0, Contains-append_left old more r.0 r.1, r.2)
