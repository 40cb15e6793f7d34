-- An example: the smallest space group, of whole shifts alone. What the theorem asks of a search can be met; other examples cite this.
use Rattle.std.proofs.Common.{◌≡◌, ◌∷◌, [], ℕ, zero, suc, ◌*◌, ◌<◌, ◌≤◌, List, length, ℤ, pos, All, Contains, ap, ap₂, sym, ◌∙◌, refl, subst, arith, ⊎_elim, unsigned_abs, slice_index_or}
use Rattle.std.proofs.lemmas.List.Elements.{Contains-get_or}
use Rattle.std.proofs.lemmas.Map.Keys.{IsDistinct-from_apart}
use Rattle.std.proofs.lemmas.Map.Made.{IsDistinct-from_AllPairs}
use Rattle.lattice_algebra.specs.Matrix.{◌+ᶜ◌, ◌+ᵐ◌, times, scaled, identity, origin}
use Rattle.lattice_algebra.specs.Operator.{Operator, IsOperator, product, identity_operator, HasEntriesWithin, AreWithin}
use Rattle.lattice_algebra.specs.Map.{Map, ◌∘◌, identity_map, undo, operator_of}
use Rattle.lattice_algebra.proofs.Maps.{map_eq, map_eq-is, identity-∘}
use Rattle.lattice_algebra.proofs.Operators.{operators}
use Rattle.finite_groups.specs.Groups.{Group}
use Rattle.finite_groups.specs.Words.{IsClosedList}
use Rattle.finite_groups.proofs.Members as lists
use Rattle.space_groups.specs.Space.{IsMembers, IsElement, ScaledPoint, moved}
use Rattle.space_groups.specs.Averages.{Block, block_of, block_plus, block_scaled, block_times, IsMean, IsInImage}
use Rattle.space_groups.specs.Keys.{carried, Key, key_of, ComesBefore, IsKey}
use Rattle.space_groups.specs.Rows.{IsRowList}
use Rattle.space_groups.specs.Search.{IsSub, IsFull, Kept, IsKept, IsDone, IsSearch, row_of}
use Rattle.space_groups.proofs.ScaledPoints.{moved-identity}
use Rattle.space_groups.proofs.Blocks.{times_identity, block_of-∘}
use Rattle.space_groups.proofs.Elements.{SpaceGroup, space}
use Rattle.space_groups.proofs.Divided.{one_rotation}
use Rattle.space_groups.proofs.Ordered.{not_before_itself}
use Rattle.space_groups.proofs.Means as means
use Rattle.space_groups.proofs.Theorem.{row_list_of_search}

abbrev pub only : List Operator
only = identity_operator ∷ []

only_one : (f : Operator) → Contains only f → identity_operator ≡ f
only_one f c = ⊎_elim (λ e. e) (λ d. lists.not_in_nil f d) (lists.Contains-cases f identity_operator [] c)

abbrev pub alone : List Map
alone = identity_map ∷ []

pub in_alone : (f : Map) → Contains alone f → identity_map ≡ f
in_alone f c = ⊎_elim (λ e. e) (λ d. lists.not_in_nil f d) (lists.Contains-cases f identity_map [] c)

abbrev pub whole_space : Block
whole_space = record { m = identity; t = origin; n = pos 1 }

is_block : block_of identity_map ≡ whole_space
unfolding block_of
is_block = refl

pub alone_mean : IsMean 1 alone whole_space
unfolding block_scaled block_plus block_of scaled times ◌+ᵐ◌ ◌+ᶜ◌
alone_mean = refl

narrow_identity : HasEntriesWithin 2 identity
narrow_identity =
    let row : (a b c : ℤ) → unsigned_abs a ≤ 1 → unsigned_abs b ≤ 1 → unsigned_abs c ≤ 1 → AreWithin 2 a b c = λ a b c p q r. record { first = omega arith; second = omega arith; third = omega arith } in
    record { x = row (pos 1) (pos 0) (pos 0) (omega arith) (omega arith) (omega arith); y = row (pos 0) (pos 1) (pos 0) (omega arith) (omega arith) (omega arith); z = row (pos 0) (pos 0) (pos 1) (omega arith) (omega arith) (omega arith) }

all_one : {X : Type 0} (P : X → Type 0) (x : X) → P x → All P (x ∷ [])
all_one P x p k d l = subst P (at k l) p
  where
    at : (k : ℕ) → k < 1 → x ≡ slice_index_or (x ∷ []) k d
    at zero l = refl
    at (suc k) l = absurd (omega arith)

some_point : ScaledPoint
some_point = record { n = origin; d = 1; some = omega arith }

module _ (unit : ℕ) (some : 0 < unit) where
  abbrev F : Group
  F = operators unit some

  only_closed : IsClosedList F only
  only_closed = record {
    distinct = IsDistinct-from_apart F.eq only (λ i j d l m. absurd (omega arith));
    valid = λ k d l. subst (IsOperator unit) (only_one _ (Contains-get_or only k d l)) F.one_in;
    has_one = lists.Contains-here identity_operator [];
    closed = λ a b p q. subst (Contains only) (sym (ap₂ (λ x y. product unit x y) (sym (only_one a p)) (sym (only_one b q)) ∙ F.left identity_operator F.one_in)) (lists.Contains-here identity_operator []);
  }

  abbrev shifts : SpaceGroup
  shifts = record { unit = unit; some = some; members = only; closed = only_closed }

  same_matrix : (e : Map) → identity_operator ≡ operator_of unit e → identity ≡ e.w
  unfolding operator_of
  same_matrix e p = ap (λ (v : Operator). v.w) p

  -- an element that fixes a point is the identity
  pub is_identity : (e : Map) (y : ScaledPoint) → IsElement unit only e → moved e y ≡ y → identity_map ≡ e
  is_identity e y m f = one_rotation identity_map e y (moved-identity y) f (same_matrix e (only_one (operator_of unit e) m))

  alone_closed : IsClosedList (space shifts) alone
  alone_closed = record {
    distinct = IsDistinct-from_apart map_eq alone (λ i j d l m. absurd (omega arith));
    valid = λ k d l. subst (IsElement unit only) (in_alone _ (Contains-get_or alone k d l)) (space shifts).one_in;
    has_one = lists.Contains-here identity_map [];
    closed = λ a b p q. subst (Contains alone) (sym (ap₂ (λ x y. x ∘ y) (sym (in_alone a p)) (sym (in_alone b q)) ∙ identity-∘ identity_map)) (lists.Contains-here identity_map []);
  }

  abbrev pub the_key : Key
  the_key = key_of unit 1 whole_space

  stays_whole : (g : Map) → IsElement unit only g → carried g whole_space ≡ whole_space
  unfolding carried
  stays_whole g m = ap (λ b. block_times (block_times (block_of g) b) (block_of (undo g))) (sym is_block) ∙ ap (λ b. block_times b (block_of (undo g))) (times_identity (block_of g)) ∙ sym (block_of-∘ g (undo g)) ∙ ap block_of ((space shifts).inv_right g m) ∙ is_block

  pub alone_key : IsKey unit only 1 whole_space the_key
  alone_key = record {
    by = identity_map;
    element = (space shifts).one_in;
    gives = ap (key_of unit 1) (stays_whole identity_map (space shifts).one_in);
    first = λ g m l. not_before_itself the_key (subst (λ b. ComesBefore (key_of unit 1 b) the_key) (stays_whole g m) l);
  }

  pub only_members : IsMembers unit only
  only_members = record {
    operators = only_closed.valid;
    once = λ i j d l m. absurd (omega arith);
    identity = only_closed.has_one;
    products = only_closed.closed;
    narrow = λ f c. subst (λ v. HasEntriesWithin 2 v.w) (only_one f c) narrow_identity;
  }

  pub alone_sub : IsSub unit only alone
  alone_sub = record { elements = alone_closed.valid; once = λ i j d l m. absurd (omega arith); identity = alone_closed.has_one; products = alone_closed.closed }

  pub in_whole : (y : ScaledPoint) → IsInImage whole_space y
  in_whole y = means.fixed_image {L = shifts} (record { some = omega arith; list = alone; closed = alone_closed; average = whole_space; is_mean = alone_mean }) y (λ e c. subst (λ v. moved v y ≡ y) (in_alone e c) (moved-identity y))

  -- the elements that fix all points are the identity alone
  pub full_length : (list : List Map) → IsFull unit only whole_space list → length list * 1 ≡ 1
  full_length list f =
      let le : length list ≤ length alone = lists.pigeonhole map_eq map_eq-is list alone (IsDistinct-from_AllPairs map_eq-is list f.once) (λ e c.
      let r = (f.exactly e).0 c in subst (Contains alone) (is_identity e some_point r.0 (r.1 some_point (in_whole some_point))) (lists.Contains-here identity_map [])) in
      let has_one : 0 < length list = omega (arith, ((f.exactly identity_map).1 ((space shifts).one_in, λ y _. moved-identity y)).1) in
      omega (arith, le, has_one)

  pub alone_full : IsFull unit only whole_space alone
  alone_full = record {
    exactly = λ e. (
      (λ c. (subst (IsElement unit only) (in_alone e c) (space shifts).one_in, λ y i. subst (λ v. moved v y ≡ y) (in_alone e c) (moved-identity y))),
      (λ r. subst (Contains alone) (is_identity e some_point r.0 (r.1 some_point (in_whole some_point))) (lists.Contains-here identity_map [])),
    );
    once = λ i j d l m. absurd (omega arith);
  }

  abbrev pub the_set : Kept
  the_set = record { set = alone; average = whole_space; key = the_key; mult = 1 }

  pub set_kept : IsKept unit only the_set
  set_kept = record {
    sub = alone_sub;
    mean = alone_mean;
    key = alone_key;
    mult = full_length;
  }

  set_done : IsDone unit only (the_set ∷ []) the_set
  set_done e m y h f =
      let i = is_identity e y m f in (
        the_set,
        lists.Contains-here the_set [],
        record {
          list = alone;
          sub = alone_sub;
          fixes = λ z. ((λ g. (g, subst (λ v. moved v z ≡ z) i (moved-identity z))), (λ g. g.0));
          average = whole_space;
          mean = alone_mean;
          key = alone_key;
        },
      )

  the_search : IsSearch unit only (the_set ∷ []) (row_of the_set ∷ [])
  the_search = record {
    all = all_one (IsKept unit only) the_set set_kept;
    trivial = (the_set, lists.Contains-here the_set [], refl);
    done = all_one (IsDone unit only (the_set ∷ [])) the_set set_done;
    rows_are = λ row. (
      (λ c. (the_set, lists.Contains-here the_set [], ⊎_elim (λ e. e) (λ d. lists.not_in_nil row d) (lists.Contains-cases row (row_of the_set) [] c))),
      (λ r. subst (Contains (row_of the_set ∷ [])) (ap row_of (⊎_elim (λ e. e) (λ d. lists.not_in_nil r.0 d) (lists.Contains-cases r.0 the_set [] r.1)) ∙ r.2) (lists.Contains-here (row_of the_set) [])),
    );
    ordered = λ i j d l m. absurd (omega arith);
  }

  -- the row list of the smallest space group is one row
  pub row_list_of_shifts : IsRowList unit only (row_of the_set ∷ [])
  row_list_of_shifts = row_list_of_search unit some only only_members (the_set ∷ []) (row_of the_set ∷ []) the_search
