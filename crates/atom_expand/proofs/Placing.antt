-- Sites that are expanded one by one.
use Rattle.std.proofs.Common.{◌≡◌, ◌⊎◌, ◌<◌, ◌≤◌, ◌+◌, ◌∷◌, ◌++◌, [], ℕ, zero, suc, List, length, get_or, slice_get, Some, All, inl, inr, ⊎_elim, sym, ap, subst, ◌∙◌, refl, arith, length-append}
use Rattle.std.proofs.lemmas.Bool.{cases_lt}
use Rattle.std.proofs.lemmas.Option.{slice_get-get_or, slice_get_within, get_or_from_slice_get}
use Rattle.std.proofs.lemmas.List.Elements.{All-nil, All-cons, All-append}
use Rattle.lattice_algebra.specs.Operator.{Operator}
use Rattle.lattice_algebra.specs.Point.{Point, IsPoint, ◌≈◌}
use Rattle.exact_ops.specs.declared.TheConstants.{UNIT}
use Rattle.group_closure.specs.GroupList.{IsGroup}
use Rattle.group_closure.proofs.Places.{some_member}
use Rattle.space_groups.proofs.Laws.{some_site, order_times_multiplicity}
use Rattle.site_symmetry.proofs.SpaceOfGroup.{space_of}
use Rattle.exact_ops.proofs.Narrow.{some_parts}
use Rattle.space_groups.proofs.Points.{IsPoint-scaled}
use Rattle.orbit_map.specs.OrderedOrbit.{IsScaled, IsOrderedOrbit}
use Rattle.orbit_map.proofs.OrbitLists.{some_ordered_orbit}
use Rattle.atom_expand.specs.declared.expansion.Expanded.{Expanded}
use Rattle.atom_expand.specs.declared.expansion.Expanded.TheVariants.{First, Same}
use Rattle.atom_expand.specs.Sites.{AtomSite}
use Rattle.atom_expand.specs.Expansions.{HaveOneOrbit, IsFirstWith, IsExpandedTo, IsExpansion, AreAtScaledPoints}
use Rattle.atom_expand.specs.Steps.{BeginsInCell, BeginsWith, IfFirst, IsFirstAnd, NoneIs, IsAt, IsEntryFor, AreLinked}
use Rattle.atom_expand.proofs.Orbits.{first_among, one_from_first, first_from_one}
use Rattle.atom_expand.proofs.Places.{kept_at, at_more, same_some, some_at}
use Rattle.atom_expand.proofs.SamePoints.{same_or_not}

-- ---- an orbit has a first point, in the cell

some_points : (members : List Operator) (group : IsGroup members) (x : Point) → IsPoint x → (orbit : List Point) → IsOrderedOrbit members x orbit → 0 < length orbit
some_points members group x px [] o =
    let L = space_of members group in
    let s = some_site L x px in
    absurd (let e = order_times_multiplicity L x px s.0 [] s.1 o.orbit in let m = some_member members group in omega (arith, e, m))
some_points members group x px (p ∷ points) o = omega arith

pub begins_in_cell : (members : List Operator) (group : IsGroup members) (x : Point) → IsPoint x → (orbit : List Point) → IsOrderedOrbit members x orbit → BeginsInCell orbit
begins_in_cell members group x px orbit o =
    let l = some_points members group x px orbit o in
    let here = slice_get-get_or orbit 0 x l in
    record { least = get_or orbit 0 x; here = here; in_cell = (o.orbit.in_orbit (get_or orbit 0 x) (first_among orbit (get_or orbit 0 x) here)).1.in_cell }

-- ---- one orbit, however it is reached

pub one_and_one : (members : List Operator) (x y z : Point) → HaveOneOrbit members x y → HaveOneOrbit members y z → HaveOneOrbit members x z
one_and_one members x y z a b = λ p h. ((λ o. (b p h).0 ((a p h).0 o)), (λ o. (a p h).1 ((b p h).1 o)))

pub one_back : (members : List Operator) (x y : Point) → HaveOneOrbit members x y → HaveOneOrbit members y x
one_back members x y a = λ p h. ((a p h).1, (a p h).0)

pub one_itself : (members : List Operator) (x : Point) → HaveOneOrbit members x x
one_itself members x = λ p h. ((λ o. o), (λ o. o))

module _ (members : List Operator) (sites : List AtomSite) where
  -- the first site with the orbit of x is that with the orbit of y, where they have one
  pub first_along : (x y : Point) (j : ℕ) → HaveOneOrbit members x y → IsFirstWith members sites x j → IsFirstWith members sites y j
  first_along x y j one f = record {
    site = f.site;
    here = f.here;
    one = one_and_one members f.site.at x y f.one one;
    first = λ i other l at o. f.first i other l at (one_and_one members other.at y x o (one_back members x y one));
  }

  -- the first n sites are expanded to these
  pub record ArePlaced (n : ℕ) (entries : List Expanded) : Type 0 where
    pub count : length entries ≡ n
    pub each : (k : ℕ) (site : AtomSite) (entry : Expanded) → slice_get sites k ≡ Some site → slice_get entries k ≡ Some entry → IsExpandedTo members sites k site.at entry
    pub linked : AreLinked entries
    pub begin : All (IfFirst BeginsInCell) entries
    pub points : (k : ℕ) (site : AtomSite) → k < n → slice_get sites k ≡ Some site → IsPoint site.at

  pub none_placed : ArePlaced 0 []
  none_placed = record { count = refl; each = λ k site entry s e. absurd cc; linked = λ k j e. absurd cc; begin = All-nil (IfFirst BeginsInCell); points = λ k site l s. absurd (omega arith) }

  module _ (group : IsGroup members) (n : ℕ) (entries : List Expanded) (placed : ArePlaced n entries) (within : n ≤ length sites) where
    -- the site of an entry
    site_at : (k : ℕ) → k < n → (site : AtomSite) × (slice_get sites k ≡ Some site)
    site_at k l = some_at sites k (omega arith)

    entry_at : (k : ℕ) → k < n → (entry : Expanded) × (slice_get entries k ≡ Some entry)
    entry_at k l = some_at entries k (omega (arith, placed.count))

    -- for an earlier site, that which has the points of its orbit under it
    record Owner (x : Point) : Type 0 where
      place : ℕ
      site : AtomSite
      points : List Point
      before : place < n
      at : slice_get sites place ≡ Some site
      under : slice_get entries place ≡ Some (First points)
      one : HaveOneOrbit members site.at x
      is_first : IsFirstWith members sites site.at place
      orbit : IsOrderedOrbit members site.at points

    own_owner : (k : ℕ) (site : AtomSite) (points : List Point) → slice_get sites k ≡ Some site → slice_get entries k ≡ Some (First points) → Owner site.at
    own_owner k site points s e =
        let p = placed.each k site (First points) s e in
        record { place = k; site = site; points = points; before = omega (arith, placed.count, slice_get_within entries k (First points) e); at = s; under = e; one = one_itself members site.at; is_first = p.0; orbit = p.1 }

    owner : (k : ℕ) (site : AtomSite) → k < n → slice_get sites k ≡ Some site → Owner site.at
    owner k site l s = by (entry_at k l).0 (entry_at k l).1
      where
        by : (entry : Expanded) → slice_get entries k ≡ Some entry → Owner site.at
        by (First points) e = own_owner k site points s e
        by (Same j) e =
            let p = placed.each k site (Same j) s e in
            let q = placed.linked k j e in
            let o = own_owner j p.0.site q.0 p.0.here q.1 in
            record { place = o.place; site = o.site; points = o.points; before = o.before; at = o.at; under = o.under; one = one_and_one members o.site.at p.0.site.at site.at o.one p.0.one; is_first = o.is_first; orbit = o.orbit }

    -- ---- one site more

    module _ (site : AtomSite) (here : slice_get sites n ≡ Some site) (point : IsPoint site.at) (orbit : List Point) (is_orbit : IsOrderedOrbit members site.at orbit) where
      least : BeginsInCell orbit
      least = begins_in_cell members group site.at point orbit is_orbit

      -- an earlier site with this orbit has points under it that begin as these do
      begun : (x : Point) → (o : Owner x) → HaveOneOrbit members x site.at → (p : Point) → slice_get orbit 0 ≡ Some p → BeginsWith p o.points
      begun x o one p e =
          let px = placed.points o.place o.site o.before o.at in
          let b = begins_in_cell members group o.site.at px o.points o.orbit in
          record {
            least = b.least;
            here = b.here;
            same = first_from_one members group o.site.at site.at px point o.points orbit o.orbit is_orbit b.least p b.here e (one_and_one members o.site.at x site.at o.one one);
          }

      -- where none begins so, the site is the first with its orbit
      first_here : ((p : Point) → slice_get orbit 0 ≡ Some p → NoneIs (IsFirstAnd (BeginsWith p)) entries) → IsFirstWith members sites site.at n
      first_here none = record {
        site = site;
        here = here;
        one = one_itself members site.at;
        first = λ i other l at one. let o = owner i other l at in none least.least least.here o.place (First o.points) o.under (begun other.at o one least.least least.here);
      }

      -- and where one does, its site is
      first_there : (j : ℕ) (points : List Point) → slice_get entries j ≡ Some (First points) → (p : Point) → slice_get orbit 0 ≡ Some p → BeginsWith p points → IsFirstWith members sites site.at j × (j < n)
      first_there j points e p here_p b =
          let l : j < n = omega (arith, placed.count, slice_get_within entries j (First points) e) in
          let other = site_at j l in
          let q = placed.each j other.0 (First points) other.1 e in
          let one = one_from_first members group other.0.at site.at (placed.points j other.0 l other.1) point points orbit q.1 is_orbit b.least p b.here here_p b.same in
          (first_along other.0.at site.at j one q.0, l)

      -- the entry of the site
      abbrev IsFor : Expanded → Type 0
      IsFor entry = IsEntryFor entries orbit entry

      expanded : (entry : Expanded) → IsFor entry → IsExpandedTo members sites n site.at entry
      expanded (First own) e = (first_here e.1, subst (IsOrderedOrbit members site.at) (sym e.0) is_orbit)
      expanded (Same j) e = let a = e least.least least.here in there a.entry a.here a.such
        where
          there : (entry : Expanded) → slice_get entries j ≡ Some entry → IsFirstAnd (BeginsWith least.least) entry → IsFirstWith members sites site.at j × (j < n)
          there (First points) e b = first_there j points e least.least least.here b
          there (Same i) e b = absurd b

      linked_more : (entry : Expanded) → IsFor entry → AreLinked (entries ++ entry ∷ [])
      linked_more entry is k j e = by (at_more entries entry (Same j) k e)
        where
          under : (other : Expanded) → IsFor other → other ≡ Same j → (points : List Point) × (slice_get entries j ≡ Some (First points))
          under (First points) is e = absurd cc
          under (Same i) is e =
              let same : i ≡ j = cc in
              let a = is least.least least.here in
              let p = pointed a.entry a.such in (
                p.0,
                ap (slice_get entries) (sym same) ∙ a.here ∙ ap Some p.1,
              )
            where
              pointed : (entry : Expanded) → IsFirstAnd (BeginsWith least.least) entry → (points : List Point) × (entry ≡ First points)
              pointed (First points) b = (points, refl)
              pointed (Same i) b = absurd b

          by : (slice_get entries k ≡ Some (Same j)) ⊎ ((k ≡ length entries) × (entry ≡ Same j)) → (points : List Point) × (slice_get (entries ++ entry ∷ []) j ≡ Some (First points))
          by (inl h) = let p = placed.linked k j h in (p.0, kept_at entries (entry ∷ []) j (First p.0) p.1)
          by (inr h) = let p = under entry is h.1 in (p.0, kept_at entries (entry ∷ []) j (First p.0) p.1)

      begins_too : (entry : Expanded) → IsFor entry → IfFirst BeginsInCell entry
      begins_too (First own) e = subst BeginsInCell (sym e.0) least
      begins_too (Same j) e = tt

      pub placed_more : (entry : Expanded) → IsFor entry → ArePlaced (n + 1) (entries ++ entry ∷ [])
      placed_more entry is = record {
        count = omega (arith, length-append entries (entry ∷ []), placed.count);
        each = λ k other found s e. by k other found s (at_more entries entry found k e);
        linked = linked_more entry is;
        begin = All-append (IfFirst BeginsInCell) entries (entry ∷ []) placed.begin (All-cons (IfFirst BeginsInCell) entry [] (begins_too entry is) (All-nil (IfFirst BeginsInCell)));
        points = λ k other l s. ⊎_elim (λ m. placed.points k other m s) (λ m. let e : k ≡ n = omega arith in subst (λ (v : AtomSite). IsPoint v.at) (same_some site other (sym here ∙ ap (slice_get sites) (sym e) ∙ s)) point) (cases_lt k n);
      }
        where
          by : (k : ℕ) (other : AtomSite) (found : Expanded) → slice_get sites k ≡ Some other → (slice_get entries k ≡ Some found) ⊎ ((k ≡ length entries) × (entry ≡ found)) → IsExpandedTo members sites k other.at found
          by k other found s (inl h) = placed.each k other found s h
          by k other found s (inr h) =
              let at : k ≡ n = h.0 ∙ placed.count in
              let same : site ≡ other = same_some site other (sym here ∙ ap (slice_get sites) (sym at) ∙ s) in
              subst (λ v. IsExpandedTo members sites k other.at v) h.1 (subst (λ (v : AtomSite). IsExpandedTo members sites k v.at entry) same (subst (λ m. IsExpandedTo members sites m site.at entry) (sym at) (expanded entry is)))

  pub all_placed : (n : ℕ) (entries : List Expanded) → length sites ≤ n → n ≤ length sites → ArePlaced n entries → IsExpansion members sites entries
  all_placed n entries l m p = record { as_many = omega (arith, p.count, l, m); each = p.each }

-- ---- there is an expansion

-- whether some entry begins with the point
begin_or_none : (p : Point) (entries : List Expanded) → ((j : ℕ) × IsAt (IsFirstAnd (BeginsWith p)) entries j) ⊎ NoneIs (IsFirstAnd (BeginsWith p)) entries
begin_or_none p [] = inr (λ i entry e b. absurd cc)
begin_or_none p (entry ∷ entries) = by (this entry) (begin_or_none p entries)
  where
    this : (entry : Expanded) → IsFirstAnd (BeginsWith p) entry ⊎ (IsFirstAnd (BeginsWith p) entry → ⊥)
    this (First []) = inr (λ b. let e = b.here in absurd cc)
    this (First (q ∷ points)) = ⊎_elim (λ s. inl (record { least = q; here = refl; same = s })) (λ n. inr (λ b. n (subst (λ (v : Point). v ≈ p) (same_some b.least q (sym b.here)) b.same))) (same_or_not q p)
    this (Same j) = inr (λ b. b)

    none : NoneIs (IsFirstAnd (BeginsWith p)) entries → (IsFirstAnd (BeginsWith p) entry → ⊥) → NoneIs (IsFirstAnd (BeginsWith p)) (entry ∷ entries)
    none all n zero other e b = n (subst (IsFirstAnd (BeginsWith p)) (sym (same_some entry other e)) b)
    none all n (suc i) other e b = all i other e b

    by : IsFirstAnd (BeginsWith p) entry ⊎ (IsFirstAnd (BeginsWith p) entry → ⊥) → ((j : ℕ) × IsAt (IsFirstAnd (BeginsWith p)) entries j) ⊎ NoneIs (IsFirstAnd (BeginsWith p)) entries
        → ((j : ℕ) × IsAt (IsFirstAnd (BeginsWith p)) (entry ∷ entries) j) ⊎ NoneIs (IsFirstAnd (BeginsWith p)) (entry ∷ entries)
    by (inl b) rest = inl (0, record { entry = entry; here = refl; such = b })
    by (inr n) (inl a) = inl (suc a.0, record { entry = a.1.entry; here = a.1.here; such = a.1.such })
    by (inr n) (inr all) = inr (none all n)

module _ (members : List Operator) (group : IsGroup members) (sites : List AtomSite) (scaled : AreAtScaledPoints sites) where
  scaled_at : (k : ℕ) (site : AtomSite) → slice_get sites k ≡ Some site → IsScaled site.at
  scaled_at k site s = subst (λ (v : AtomSite). IsScaled v.at) (get_or_from_slice_get sites k site site s) (scaled k site (slice_get_within sites k site s))

  point_of_scaled : (x : Point) → IsScaled x → IsPoint x
  point_of_scaled x s = subst IsPoint (sym s.1) (IsPoint-scaled UNIT some_parts s.0)

  entry_for : (entries : List Expanded) (orbit : List Point) (least : Point) → slice_get orbit 0 ≡ Some least → (entry : Expanded) × IsEntryFor entries orbit entry
  entry_for entries orbit least e = by (begin_or_none least entries)
    where
      is_least : (p : Point) → slice_get orbit 0 ≡ Some p → least ≡ p
      is_least p f = same_some least p (sym e ∙ f)

      by : ((j : ℕ) × IsAt (IsFirstAnd (BeginsWith least)) entries j) ⊎ NoneIs (IsFirstAnd (BeginsWith least)) entries → (entry : Expanded) × IsEntryFor entries orbit entry
      by (inl a) = (Same a.0, λ p f. subst (λ v. IsAt (IsFirstAnd (BeginsWith v)) entries a.0) (is_least p f) a.1)
      by (inr n) = (First orbit, (refl, λ p f. subst (λ v. NoneIs (IsFirstAnd (BeginsWith v)) entries) (is_least p f) n))

  some_placed : (n : ℕ) → n ≤ length sites → (entries : List Expanded) × ArePlaced members sites n entries
  some_placed zero l = ([], none_placed members sites)
  some_placed (suc n) l = more (some_placed n (omega arith)) (some_at sites n (omega arith))
    where
      more : ((entries : List Expanded) × ArePlaced members sites n entries) → ((site : AtomSite) × (slice_get sites n ≡ Some site)) → (entries : List Expanded) × ArePlaced members sites (suc n) entries
      more before here =
          let is_scaled = scaled_at n here.0 here.1 in
          let point = point_of_scaled here.0.at is_scaled in
          let o = some_ordered_orbit members here.0.at group is_scaled in
          let b = begins_in_cell members group here.0.at point o.0 o.1 in
          let e = entry_for before.0 o.0 b.least b.here in (
            before.0 ++ e.0 ∷ [],
            subst (λ m. ArePlaced members sites m (before.0 ++ e.0 ∷ [])) (omega arith) (placed_more members sites group n before.0 before.1 (omega arith) here.0 here.1 point o.0 o.1 e.0 e.1),
          )

  pub some_expansion : (entries : List Expanded) × IsExpansion members sites entries
  some_expansion = let p = some_placed (length sites) (omega arith) in (p.0, all_placed members sites (length sites) p.0 (omega arith) (omega arith) p.1)
