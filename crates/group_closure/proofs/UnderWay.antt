-- What stays true of a group in the making.
use Rattle.std.proofs.Common.{◌≡◌, ◌<◌, ◌≤◌, ℕ, ◌+◌, ◌-◌, Some, List, [], ◌∷◌, ◌++◌, length, get_or, sym, ap, ◌∙◌, subst, arith, All, Contains, length-append, slice_get, refl, ⊎_elim}
use Rattle.std.proofs.lemmas.List.Elements.{All-nil, All-push, All-contains, All-weaker}
use Rattle.std.proofs.lemmas.Option.{slice_get-get_or, slice_get_within}
use Rattle.std.proofs.lemmas.Bool.{cases_lt}
use Rattle.lattice_algebra.specs.Matrix.{◌·◌}
use Rattle.lattice_algebra.specs.Operator.{Operator, HasEntriesWithin, product, identity_operator}
use Rattle.exact_ops.specs.Narrow.{IsNarrow}
use Rattle.exact_ops.specs.declared.TheConstants.{UNIT}
use Rattle.group_closure.specs.declared.TheConstants.{MAX_OPERATORS}
use Rattle.group_closure.specs.declared.buckets.Buckets.{Buckets}
use Rattle.group_closure.specs.declared.closing.Making.{Making}
use Rattle.group_closure.specs.declared.closing.Origin.{Origin}
use Rattle.group_closure.specs.Words.{IsUnclosed}
use Rattle.group_closure.specs.Buckets.{IsFiled}
use Rattle.group_closure.specs.Making.{HasRoom, IsUnderWay, IsMade, IsReady, IsMadeUpTo}
use Rattle.group_closure.specs.Steps.{Extends, IsRefused, IsGenerated}
use Rattle.group_closure.specs.Origins.{AddsMade, AreOrigins, AreProducts}
use Rattle.group_closure.proofs.Growing.{narrow_identity, all_kept, extends_refl, contains_extended, partial_one, partial_added, partial_more, partial_of_generated, refused, generated}
use Rattle.group_closure.proofs.Origins.{one_there, adds_made, origins_added, origins_more, has_products}
use Rattle.group_closure.proofs.Lists.{generated_by_list, narrow_list}
use Rattle.group_closure.proofs.Places.{contains_at}

pub under_way : (making : Making) (buckets : Buckets) → IsMade making → IsFiled making.members.items buckets → IsUnderWay making.generators.items making.members.items making.origins.items buckets
under_way making buckets m f = record {
  narrow = m.narrow;
  few = omega (arith, m.few, m.generated.within);
  partial = partial_of_generated making.generators.items making.members.items m.generated;
  within = m.generated.within;
  origins_known = m.origins;
  filed = f;
}

module _ (generators members : List Operator) (origins : List Origin) (buckets : Buckets) (state : IsUnderWay generators members origins buckets) where
  -- one more generator
  pub under_way_more : (op : Operator) → IsNarrow op → length generators < MAX_OPERATORS → IsUnderWay (generators ++ op ∷ []) members origins buckets
  under_way_more op n l = record {
    narrow = All-push IsNarrow generators op state.narrow n;
    few = omega (arith, l, length-append generators (op ∷ []));
    partial = partial_more generators (op ∷ []) members state.partial;
    within = state.within;
    origins_known = origins_more generators (op ∷ []) members origins state.origins_known;
    filed = state.filed;
  }

  -- all members have their products
  pub all_generated : (products : List (List ℕ)) → AreProducts generators members products → length members ≤ length products → IsGenerated generators members
  all_generated products p l =
      generated generators members state.narrow state.partial state.within
      (λ k d b.
      let f = get_or members k d in
      let row = get_or products k [] in
      has_products generators f members row (p.each k f row (slice_get-get_or members k d b) (slice_get-get_or products k [] (omega (arith, b, l)))))

  pub under_way_refused : (f g : Operator) (i j : ℕ) → slice_get members i ≡ Some f → slice_get generators j ≡ Some g → IsRefused members f g → IsUnclosed generators
  under_way_refused f g i j at by = refused generators members f g state.partial (contains_at members f i at) (contains_at generators g j by)

  -- one more product
  pub under_way_added : (f g : Operator) (origin : Origin) (new : List Operator) (more : List Origin) (after : Buckets) → slice_get members origin.earlier ≡ Some f → slice_get generators origin.generator ≡ Some g
      → AddsMade members origins (product UNIT f g) origin new more → HasEntriesWithin 2 (f.w · g.w) → length new ≤ MAX_OPERATORS → IsFiled new after → IsUnderWay generators new more after
  under_way_added f g origin new more after at by a s l filed = record {
    narrow = state.narrow;
    few = state.few;
    partial = partial_added generators members new f g state.partial state.narrow (contains_at members f origin.earlier at) (contains_at generators g origin.generator by) s (adds_made members origins (product UNIT f g) origin new more a);
    within = l;
    origins_known = origins_added generators members origins f g (product UNIT f g) origin state.origins_known at by (λ _. product UNIT f g) new more a;
    filed = filed;
  }

pub ready_again : (making : Making) (buckets : Buckets) (generators : List Operator) → generators ≡ making.generators.items → IsUnderWay generators making.members.items making.origins.items buckets → IsGenerated generators making.members.items
    → AreProducts generators making.members.items making.products.items → length making.products.items ≡ length making.members.items → length generators < length making.members.items → HasRoom making → IsReady making buckets
ready_again making buckets generators e s g p a l room = record {
  made = record {
    narrow = subst (All IsNarrow) e s.narrow;
    few = omega (arith, l, ap length e);
    generated = subst (λ v. IsGenerated v making.members.items) e g;
    origins = subst (λ v. AreOrigins v making.members.items making.origins.items) e s.origins_known;
    products = subst (λ v. AreProducts v making.members.items making.products.items) e p;
    all = a;
  };
  filed = s.filed;
  room = room;
}

-- ---- the identity alone

generated_one : IsGenerated [] (identity_operator ∷ [])
generated_one = generated [] (identity_operator ∷ []) (All-nil IsNarrow) (partial_one [] narrow_identity) (omega arith) (λ k d l. All-nil (λ g. Contains (identity_operator ∷ []) (product UNIT (get_or (identity_operator ∷ []) k d) g)))

origins_one : (origin : Origin) → AreOrigins [] (identity_operator ∷ []) (origin ∷ [])
origins_one origin = record { count = refl; each = λ c o l e. absurd (omega (arith, l, slice_get_within (origin ∷ []) c o e)) }

products_one : (row : List ℕ) → AreProducts [] (identity_operator ∷ []) (row ∷ [])
products_one row = record { within = omega arith; each = λ k f r p q j g e. absurd (omega (arith, slice_get_within [] j g e)) }

pub identity_made : (making : Making) (origin : Origin) (row : List ℕ) → making.generators.items ≡ [] → making.members.items ≡ identity_operator ∷ [] → making.origins.items ≡ origin ∷ [] → making.products.items ≡ row ∷ [] → IsMade making
identity_made making origin row g m o p = record {
  narrow = subst (All IsNarrow) (sym g) (All-nil IsNarrow);
  few = omega (arith, ap length g, ap length m);
  generated = subst (λ v. IsGenerated v making.members.items) (sym g) (subst (IsGenerated []) (sym m) generated_one);
  origins = subst (λ v. AreOrigins v making.members.items making.origins.items) (sym g) (subst (λ v. AreOrigins [] v making.origins.items) (sym m) (subst (λ v. AreOrigins [] (identity_operator ∷ []) v) (sym o) (origins_one origin)));
  products = subst (λ v. AreProducts v making.members.items making.products.items) (sym g) (subst (λ v. AreProducts [] v making.products.items) (sym m) (subst (λ v. AreProducts [] (identity_operator ∷ []) v) (sym p) (products_one row)));
  all = ap length p ∙ sym (ap length m);
}

-- ---- one more listed operator

module _ (list : List Operator) (k : ℕ) (old : Making) (before : Buckets) (was : IsMadeUpTo list k old before) (f : Operator) (at : slice_get list k ≡ Some f) where
  pub all_listed : (h : Operator) → Contains (old.generators.items ++ f ∷ []) h → Contains list h
  all_listed h = All-contains (Contains list) (old.generators.items ++ f ∷ []) h (All-push (Contains list) old.generators.items f was.generators (contains_at list f k at))

  pub made_more : (new : Making) (after : Buckets) → IsReady new after → Extends old.members.items new.members.items → Contains new.members.items f → All (Contains (old.generators.items ++ f ∷ [])) new.generators.items → IsMadeUpTo list (k + 1) new after
  made_more new after r x c g = record {
    ready = r;
    members = λ j h l e.
        ⊎_elim
        (λ b. contains_extended old.members.items new.members.items x h (was.members j h b e))
        (λ b.
        let n : k ≡ j = omega arith in
        subst (Contains new.members.items) (one_there list k f h at (ap (λ i. slice_get list i) n ∙ e)) c)
        (cases_lt j k);
    generators = All-weaker (Contains (old.generators.items ++ f ∷ [])) (Contains list) all_listed new.generators.items g;
  }

  pub made_same : 0 < k → slice_get list (k - 1) ≡ Some f → IsMadeUpTo list (k + 1) old before
  made_same p e =
      made_more old before was.ready (extends_refl old.members.items) (was.members (k - 1) f (omega arith) e) (all_kept old.generators.items (f ∷ []))

-- ---- all listed operators

module _ (list : List Operator) (k : ℕ) (making : Making) (buckets : Buckets) (was : IsMadeUpTo list k making buckets) (l : length list ≤ k) where
  all_members : All (Contains making.members.items) list
  all_members j d b = was.members j (get_or list j d) (omega arith) (slice_get-get_or list j d b)

  pub made_of_list : IsGenerated list making.members.items
  made_of_list = generated_by_list list making.generators.items making.members.items was.generators all_members was.ready.made.narrow was.ready.made.generated

  pub list_is_narrow : All IsNarrow list
  list_is_narrow = narrow_list {generators = making.generators.items} list making.members.items all_members was.ready.made.generated
