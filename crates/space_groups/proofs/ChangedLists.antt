-- A basis change: the changed operators modulo the cell are the members of the changed group, as many as before, and orbits are as long.
use Rattle.std.proofs.Common.{◌≡◌, ◌++◌, ◌∷◌, ℕ, ◌*◌, ◌<◌, ◌↔◌, List, length, map, get_or, ℤ, pos, ◌*ℤ◌, Contains, All, AllPairs, ap, ap₂, sym, ◌∙◌, subst, arith}
use Rattle.std.proofs.lemmas.List.{length-map}
use Rattle.std.proofs.lemmas.List.Elements.{Contains-get_or, All-contains}
use Rattle.lattice_algebra.specs.Matrix.{Matrix, Column, coordinates, ◌·◌, ◌·ᶜ◌, ◌+ᶜ◌, times, identity, origin, IsUnimodular, inverse_matrix}
use Rattle.lattice_algebra.specs.Operator.{Operator, IsOperator, product}
use Rattle.lattice_algebra.specs.Map.{Map, ◌∘◌, identity_map, operator_of, map_of}
use Rattle.lattice_algebra.specs.Point.{Point, IsPoint, ◌≈◌, image}
use Rattle.lattice_algebra.proofs.MatrixRing.{column_at, ◌·ˢᶜ◌, ◌+ˢᶜ◌, sym_times, sym_identity, sym_origin, column_ring}
use Rattle.lattice_algebra.proofs.Ring.{var, con, ◌⊗◌}
use Rattle.lattice_algebra.proofs.Matrices.{·ᶜ_assoc, identity-·, ·-identity, ·-inverse_matrix, IsUnimodular-·, IsUnimodular-inverse}
use Rattle.lattice_algebra.proofs.Columns.{·ᶜ-times}
use Rattle.lattice_algebra.proofs.Remainders.{modulo_is, modulo_same, whole_part}
use Rattle.lattice_algebra.proofs.Maps.{map_path, operator_path, join_shifts, operator_of-∘, operator_of-map, IsOperator-of, map_eq, map_eq-is}
use Rattle.lattice_algebra.proofs.Operators.{operators, one_is}
use Rattle.finite_groups.specs.Groups.{Group}
use Rattle.finite_groups.specs.Words.{IsClosedList}
use Rattle.finite_groups.proofs.Members as lists
use Rattle.space_groups.specs.Space.{IsElement}
use Rattle.space_groups.specs.Lists.{IsSiteList, IsOrbitList}
use Rattle.space_groups.specs.Regions.{shift_by}
use Rattle.space_groups.specs.Bases.{CoordinateChange, IsChange, IsBasisChange, IsChanged, IsInChanged, IsChangedGroup, changed_point, changed_map, changed_operator}
use Rattle.space_groups.proofs.Elements.{SpaceGroup, space}
use Rattle.space_groups.proofs.Regions.{shift_in}
use Rattle.space_groups.proofs.Orbits.{member_map}
use Rattle.space_groups.proofs.Laws.{order_times_multiplicity, some_site}
use Rattle.space_groups.proofs.Changes.{one_changed, one_origin, changed-identity, changed-∘, IsPoint-changed, IsChange-basis, changed_map-is}
use Rattle.space_groups.proofs.ChangedGroups.{changed_group, changed_exactly, site_changed}

-- ---- maps of one operator differ by a whole shift

identity_sum : (a b : Column) → identity ·ᶜ a +ᶜ b ≡ a +ᶜ b
unfolding ◌·ᶜ◌ ◌+ᶜ◌
identity_sum a b = column_ring (coordinates a ++ coordinates b) (sym_identity ·ˢᶜ column_at 0 +ˢᶜ column_at 3) (column_at 0 +ˢᶜ column_at 3) tt

module _ (unit : ℕ) (some : 0 < unit) where
  pub shift_between : (g h : Map) → operator_of unit g ≡ operator_of unit h → (k : Column) × (g ≡ shift_by unit k ∘ h)
  unfolding operator_of ◌∘◌
  shift_between g h e =
      let j = whole_part unit some g.s in
      let i = modulo_is unit some h.s in (
        i.0 +ᶜ j.0,
        map_path _ _ (ap (λ (f : Operator). f.w) e ∙ sym (identity-· h.w))
            (j.1 ∙ ap (λ (f : Operator). f.t +ᶜ times (pos unit) j.0) e ∙ ap (λ v. v +ᶜ times (pos unit) j.0) i.1 ∙ join_shifts (pos unit) h.s i.0 j.0 ∙ sym (identity_sum h.s (times (pos unit) (i.0 +ᶜ j.0)))),
      )

  pub operator_of-shift : (k : Column) (h : Map) → operator_of unit (shift_by unit k ∘ h) ≡ operator_of unit h
  unfolding operator_of ◌∘◌
  operator_of-shift k h = operator_path _ _ (identity-· h.w) (modulo_same unit some _ h.s k (identity_sum h.s (times (pos unit) k)))

-- ---- the changed whole shifts

shift_column : (u : ℤ) (t a k : Column) → a ≡ times u k → times (pos 1) (identity ·ᶜ t +ᶜ times u k) ≡ a +ᶜ times (pos 1) t
unfolding ◌·ᶜ◌ ◌+ᶜ◌ times
shift_column u t a k e =
    column_ring (u ∷ (coordinates t ++ coordinates k)) (sym_times (con (pos 1)) (sym_identity ·ˢᶜ column_at 1 +ˢᶜ sym_times (var 0) (column_at 4))) (sym_times (var 0) (column_at 4) +ˢᶜ sym_times (con (pos 1)) (column_at 1)) tt
    ∙ ap (λ v. v +ᶜ times (pos 1) t) (sym e)

pub shift_changed : (unit : ℕ) (c : CoordinateChange) → IsBasisChange c → (k : Column) → IsChanged c (shift_by unit k) (shift_by unit (c.w ·ᶜ k))
shift_changed unit c b k =
    let j = c.w ·ᶜ k in
    let T : ℤ → Type 0 = λ d. times d (identity ·ᶜ c.t +ᶜ times (pos unit) j) ≡ c.w ·ᶜ times (pos unit) k +ᶜ times d c.t in
    record {
      rotation = identity-· c.w ∙ sym (·-identity c.w);
      translation = subst T (sym b.one) (shift_column (pos unit) c.t (c.w ·ᶜ times (pos unit) k) j (·ᶜ-times c.w (pos unit) k));
    }

identity_column : (k : Column) → identity ·ᶜ k ≡ k
unfolding ◌·ᶜ◌
identity_column k = column_ring (coordinates k) (sym_identity ·ˢᶜ column_at 0) (column_at 0) tt

pub there_and_back : (w : Matrix) → IsUnimodular w → (k : Column) → w ·ᶜ (inverse_matrix w ·ᶜ k) ≡ k
there_and_back w u k = sym (·ᶜ_assoc w (inverse_matrix w) k) ∙ ap (λ m. m ·ᶜ k) (·-inverse_matrix w u) ∙ identity_column k

unimodular_changed : (c : CoordinateChange) → IsBasisChange c → (g : Map) → IsUnimodular g.w → IsUnimodular (changed_map c g).w
unfolding changed_map
unimodular_changed c b g u = IsUnimodular-· (c.w · g.w) (inverse_matrix c.w) (IsUnimodular-· c.w g.w b.unimodular u) (IsUnimodular-inverse c.w b.unimodular)

module _ (L : SpaceGroup) (c : CoordinateChange) (b : IsBasisChange c) where
  open L use {unit, some, members, closed}

  abbrev i : IsChange c
  i = IsChange-basis c b

  -- the changed operators modulo the cell
  abbrev pub changed_list : List Operator
  changed_list = map (changed_operator unit c) members

  valid : (f : Operator) → Contains members f → IsOperator unit f
  valid f m = All-contains (IsOperator unit) members f closed.valid m

  -- their space group is the changed one
  in_list : (h : Map) → IsElement unit changed_list h → IsInChanged unit members c h
  in_list h m =
      let r = lists.Contains-from_map (changed_operator unit c) (operator_of unit h) members m in
      let f : Operator = r.0 in
      let k = shift_between unit some h (changed_map c (map_of f)) (sym r.2) in
      let j = inverse_matrix c.w ·ᶜ k.0 in
      let shift : IsChanged c (shift_by unit j) (shift_by unit k.0) = subst (λ v. IsChanged c (shift_by unit j) (shift_by unit v)) (there_and_back c.w b.unimodular k.0) (shift_changed unit c b j) in
      record {
        from = shift_by unit j ∘ map_of f;
        element = (space L).mul_in (shift_by unit j) (map_of f) (shift_in L j) (member_map L f r.1);
        changed = subst (IsChanged c (shift_by unit j ∘ map_of f)) (sym k.1) (changed-∘ c (shift_by unit j) (map_of f) (shift_by unit k.0) (changed_map c (map_of f)) shift (changed_map-is c b (map_of f)));
      }

  has_changed : (h : Map) → IsInChanged unit members c h → IsElement unit changed_list h
  has_changed h r =
      let g : Map = r.from in
      let f : Operator = operator_of unit g in
      let k = shift_between unit some g (map_of f) (sym (operator_of-map unit some f (valid f r.element))) in
      let there = changed-∘ c (shift_by unit k.0) (map_of f) (shift_by unit (c.w ·ᶜ k.0)) (changed_map c (map_of f)) (shift_changed unit c b k.0) (changed_map-is c b (map_of f)) in
      let e : h ≡ shift_by unit (c.w ·ᶜ k.0) ∘ changed_map c (map_of f) = one_changed c i g h _ r.changed (subst (λ v. IsChanged c v (shift_by unit (c.w ·ᶜ k.0) ∘ changed_map c (map_of f))) (sym k.1) there) in
      subst (Contains changed_list) (sym (ap (operator_of unit) e ∙ operator_of-shift unit some (c.w ·ᶜ k.0) (changed_map c (map_of f)))) (lists.Contains-map (changed_operator unit c) f members r.element)

  pub changed_list_is : IsChangedGroup unit members c changed_list
  changed_list_is = changed_group unit members c changed_list b (λ h. ((λ m. in_list h m), (λ r. has_changed h r)))

  -- different members become different ones
  changed_apart : (f g : Operator) → Contains members f → Contains members g → changed_operator unit c f ≡ changed_operator unit c g → f ≡ g
  changed_apart f g p q e =
      let k = shift_between unit some (changed_map c (map_of f)) (changed_map c (map_of g)) e in
      let j = inverse_matrix c.w ·ᶜ k.0 in
      let shift : IsChanged c (shift_by unit j) (shift_by unit k.0) = subst (λ v. IsChanged c (shift_by unit j) (shift_by unit v)) (there_and_back c.w b.unimodular k.0) (shift_changed unit c b j) in
      let there = changed-∘ c (shift_by unit j) (map_of g) (shift_by unit k.0) (changed_map c (map_of g)) shift (changed_map-is c b (map_of g)) in
      let same : map_of f ≡ shift_by unit j ∘ map_of g = one_origin c i (map_of f) (shift_by unit j ∘ map_of g) (changed_map c (map_of f)) (changed_map-is c b (map_of f)) (subst (IsChanged c (shift_by unit j ∘ map_of g)) (sym k.1) there) in
      sym (operator_of-map unit some f (valid f p)) ∙ ap (operator_of unit) same ∙ operator_of-shift unit some j (map_of g) ∙ operator_of-map unit some g (valid g q)

  -- they are a group modulo the cell
  pub changed_closed : IsClosedList (operators unit some) changed_list
  changed_closed = record {
    distinct = lists.distinct-map (operators unit some).eq (operators unit some).same (changed_operator unit c) members closed.distinct (λ f g p q e. changed_apart f g p q e);
    valid = λ k d l.
        let r = lists.Contains-from_map (changed_operator unit c) (get_or changed_list k d) members (Contains-get_or changed_list k d l) in
        subst (IsOperator unit) r.2 (IsOperator-of unit some (changed_map c (map_of r.0)) (unimodular_changed c b (map_of r.0) (valid r.0 r.1).unimodular));
    has_one = subst (Contains changed_list) (one_is unit some) (has_changed identity_map (record { from = identity_map; element = (space L).one_in; changed = changed-identity c }));
    closed = λ f g p q.
        let x = lists.Contains-from_map (changed_operator unit c) f members p in
        let y = lists.Contains-from_map (changed_operator unit c) g members q in
        let F : Map = map_of x.0 in
        let G : Map = map_of y.0 in
        subst (Contains changed_list) (sym (operator_of-∘ unit some (changed_map c F) (changed_map c G)) ∙ ap₂ (λ a d. product unit a d) x.2 y.2)
        (has_changed (changed_map c F ∘ changed_map c G) (record {
          from = F ∘ G;
          element = (space L).mul_in F G (member_map L x.0 x.1) (member_map L y.0 y.1);
          changed = changed-∘ c F G (changed_map c F) (changed_map c G) (changed_map-is c b F) (changed_map-is c b G);
        }));
  }

  pub as_many : length changed_list ≡ length members
  as_many = length-map members (changed_operator unit c)

-- ---- any list of members of the changed group

module _ (L : SpaceGroup) (c : CoordinateChange) (i : IsChange c) (changed : List Operator) (e : IsChangedGroup L.unit L.members c changed) where
  open L use {unit, some, members, closed}

  pairs_apart : (x : Point) (site : List Map) → IsSiteList unit members x site → AllPairs (λ (f g : Map). (h : Map) → IsChanged c f h → IsChanged c g h → ⊥) site
  pairs_apart x site s j k d l m h p q = s.once j k d l m (one_origin c i (get_or site j d) (get_or site k d) h p q)

  pairs_apart_there : (x : Point) (site : List Map) → IsSiteList unit changed x site → AllPairs (λ (h k : Map). (g : Map) → IsChanged c g h → IsChanged c g k → ⊥) site
  pairs_apart_there x site s j k d l m g p q = s.once j k d l m (one_changed c i g (get_or site j d) (get_or site k d) p q)

  -- the site-symmetry groups of x and c x are of one order
  pub site_as_long : (x : Point) (site : List Map) (there : List Map) → IsSiteList unit members x site → IsSiteList unit changed (changed_point unit c x) there → length site ≡ length there
  site_as_long x site there s t =
      let le = lists.no_longer map_eq map_eq-is (λ (g h : Map). IsChanged c g h) there site (pairs_apart x site s) (λ g m.
      let a = (s.exactly g).0 m in
      let r = e.each g a.element in
      (r.0, (t.exactly r.0).1 ((site_changed L c i changed e x g r.0 r.2).0 a), r.2)) in
      let ge = lists.no_longer map_eq map_eq-is (λ (h g : Map). IsChanged c g h) site there (pairs_apart_there (changed_point unit c x) there t) (λ h m.
      let a = (t.exactly h).0 m in
      let r = e.only h a.element in
      (r.from, (s.exactly r.from).1 ((site_changed L c i changed e x r.from h r.changed).1 a), r.changed)) in
      omega (arith, le, ge)

-- two lists with one space group have the same operators, and are as long
module _ (unit : ℕ) (some : 0 < unit) where
  pub same_elements : (xs ys : List Operator) → All (IsOperator unit) xs → ((h : Map) → IsElement unit xs h → IsElement unit ys h) → (f : Operator) → Contains xs f → Contains ys f
  same_elements xs ys v same f m =
      let e = operator_of-map unit some f (All-contains (IsOperator unit) xs f v m) in
      subst (Contains ys) e (same (map_of f) (subst (Contains xs) (sym e) m))

  pub one_count : (xs ys : List Operator) → IsClosedList (operators unit some) xs → IsClosedList (operators unit some) ys → ((h : Map) → IsElement unit xs h ↔ IsElement unit ys h) → length xs ≡ length ys
  one_count xs ys p q same =
      let F : Group = operators unit some in
      let le = lists.pigeonhole F.eq F.same xs ys p.distinct (same_elements xs ys p.valid (λ h. (same h).0)) in
      let ge = lists.pigeonhole F.eq F.same ys xs q.distinct (same_elements ys xs q.valid (λ h. (same h).1)) in
      omega (arith, le, ge)

image_identity_column : (n : Column) (u d : ℤ) → times d (times u (identity ·ᶜ n) +ᶜ times d origin) ≡ times (u *ℤ d) n
unfolding ◌·ᶜ◌ ◌+ᶜ◌ times
image_identity_column n u d = column_ring (u ∷ d ∷ coordinates n) (sym_times (var 1) (sym_times (var 0) (sym_identity ·ˢᶜ column_at 2) +ˢᶜ sym_times (var 1) sym_origin)) (sym_times (var 0 ⊗ var 1) (column_at 2)) tt

image-identity : (unit : ℕ) (x : Point) → image unit identity_map x ≈ x
unfolding image
image-identity unit x = image_identity_column x.n (pos unit) x.d

-- where both lists have as many members, the orbits of x and c x have as many points
same_orbit_size : (s o n p q : ℕ) → 0 < s → s * o ≡ n → s * p ≡ q → n ≡ q → o ≡ p
same_orbit_size s o n p q h a b e = grind arith

module _ (L : SpaceGroup) (c : CoordinateChange) (b : IsBasisChange c) (changed : List Operator) (group : IsClosedList (operators L.unit L.some) changed) (e : IsChangedGroup L.unit L.members c changed) where
  open L use {unit, some, members, closed}

  -- each list of the changed group has the changed operators modulo the cell
  pub changed_list_exactly : (f : Operator) → Contains changed f ↔ Contains (changed_list L c b) f
  changed_list_exactly f =
      let x : (h : Map) → IsElement unit (changed_list L c b) h ↔ IsInChanged unit members c h = changed_exactly unit members c (changed_list L c b) (IsChange-basis c b) (changed_list_is L c b) in
      let y : (h : Map) → IsElement unit changed h ↔ IsInChanged unit members c h = changed_exactly unit members c changed (IsChange-basis c b) e in (
        same_elements unit some changed (changed_list L c b) group.valid (λ h m. (x h).1 ((y h).0 m)) f,
        same_elements unit some (changed_list L c b) changed (changed_closed L c b).valid (λ h m. (y h).1 ((x h).0 m)) f,
      )

  -- so it has as many members as the old one
  pub members_as_long : length members ≡ length changed
  members_as_long = sym (as_many L c b) ∙ one_count unit some (changed_list L c b) changed (changed_closed L c b) group (λ h. let r = changed_list_exactly (operator_of unit h) in (r.1, r.0))

  -- and the orbits of x and c x have as many points in the cell
  pub orbit_as_long : (x : Point) → IsPoint x → (orbit there : List Point) → IsOrbitList unit members x orbit → IsOrbitList unit changed (changed_point unit c x) there → length orbit ≡ length there
  orbit_as_long x d orbit there o t =
      let C : SpaceGroup = record { unit = unit; some = some; members = changed; closed = group } in
      let y = changed_point unit c x in
      let dy = IsPoint-changed unit some c (IsChange-basis c b) x d in
      let s = some_site L x d in
      let r = some_site C y dy in
      let f : length s.0 ≡ length r.0 = site_as_long L c (IsChange-basis c b) changed e x s.0 r.0 s.1 r.1 in
      same_orbit_size (length s.0) (length orbit) (length members) (length there) (length changed)
      (omega (arith, ((s.1.exactly identity_map).1 (record { element = (space L).one_in; fixes = image-identity unit x })).1))
      (order_times_multiplicity L x d s.0 orbit s.1 o)
      (ap (λ k. k * length there) f ∙ order_times_multiplicity C y dy r.0 there r.1 t)
      members_as_long
