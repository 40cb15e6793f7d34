-- How the table of a group is filled from the products that making its members took.
use Rattle.std.proofs.Common.{◌≡◌, ◌≢◌, ℕ, ◌+◌, ◌<◌, ◌≤◌, Some, List, [], ◌∷◌, ◌++◌, length, get_or, set, sym, ap, ◌∙◌, subst, arith, ⊎_elim, All, Contains, IsPermutation, slice_get, length-append, get_or-set_same, get_or-set_other}
use Rattle.std.proofs.lemmas.Bool.{cases_lt}
use Rattle.std.proofs.lemmas.List.{get_or_append_left, get_or_default}
use Rattle.std.proofs.lemmas.Option.{slice_get_within, slice_get_read, slice_get-get_or, get_or_from_slice_get}
use Rattle.std.proofs.lemmas.List.Elements.{All-contains, Contains-get_or}
use Rattle.std.proofs.lemmas.List.Sorted.{Contains-permutation, IsPermutation-sym}
use Rattle.lattice_algebra.specs.Operator.{Operator, IsOperator, product, inverse, IsInverse, identity_operator}
use Rattle.exact_ops.specs.Narrow.{IsNarrow}
use Rattle.exact_ops.specs.declared.TheConstants.{UNIT}
use Rattle.group_closure.specs.declared.closing.Origin.{Origin}
use Rattle.group_closure.specs.declared.closing.Making.{Making}
use Rattle.group_closure.specs.GroupList.{IsGroup}
use Rattle.group_closure.specs.Words.{AreDistinct}
use Rattle.group_closure.specs.Making.{IsMade}
use Rattle.group_closure.specs.Table.{AreRanks, IsTableRow, IsProductTable}
use Rattle.group_closure.proofs.CellOperators.{cell_operators}
use Rattle.group_closure.proofs.Origins.{one_there, get_before, get_last}
use Rattle.group_closure.proofs.Places.{contains_at, one_place, apart, inverse_member, inverse_by_product, some_at}

-- an operator that a list has stands at a place
pub place_of : (ops : List Operator) (f : Operator) → Contains ops f → (k : ℕ) × (slice_get ops k ≡ Some f)
place_of ops f c = (c.0, slice_get-get_or ops c.0 f c.1 ∙ ap Some c.2)

-- of the first c that were made, found has the places of the products of f by them, and row has the ranks of these at their ranks
pub record IsRowBegun (made : List Operator) (ranks found row : List ℕ) (c : ℕ) (f : Operator) : Type 0 where
  pub products : (k : ℕ) (g : Operator) → k < c → slice_get made k ≡ Some g → slice_get made (get_or found k 0) ≡ Some (product UNIT f g)
  pub at_ranks : (k : ℕ) → k < c → get_or row (get_or ranks k 0) 0 ≡ get_or ranks (get_or found k 0) 0

-- ---- the product of f by the next that was made

module _ (m : Making) (made : IsMade m) (f : Operator) (place : ℕ) (at : slice_get m.members.items place ≡ Some f) where
  valid : (g : Operator) (k : ℕ) → slice_get m.members.items k ≡ Some g → IsOperator UNIT g
  valid g k e = (All-contains IsNarrow m.members.items g made.generated.narrow (contains_at m.members.items g k e)).is_operator

  pub first_found : (g : Operator) → slice_get m.members.items 0 ≡ Some g → slice_get m.members.items place ≡ Some (product UNIT f g)
  first_found g e =
      let one : identity_operator ≡ g = one_there m.members.items 0 identity_operator g made.generated.first e in
      at ∙ ap Some (sym (cell_operators.right f (valid f place at)) ∙ ap (product UNIT f) one)

  pub earlier_found : (ranks found row : List ℕ) (c : ℕ) (o : Origin) → IsRowBegun m.members.items ranks found row c f → 0 < c → c < length m.members.items → slice_get m.origins.items c ≡ Some o → get_or found o.earlier 0 < length m.members.items
  earlier_found ranks found row c o w p l e =
      let b = (made.origins.each c o p e).before in
      let h = some_at m.members.items o.earlier (omega (arith, b)) in
      slice_get_within m.members.items (get_or found o.earlier 0) (product UNIT f h.0) (w.products o.earlier h.0 b h.1)

  pub next_found : (ranks found row : List ℕ) (c : ℕ) (o : Origin) (products : List ℕ) → IsRowBegun m.members.items ranks found row c f → 0 < c → c < length m.members.items → slice_get m.origins.items c ≡ Some o
      → slice_get m.products.items (get_or found o.earlier 0) ≡ Some products → (g : Operator) → slice_get m.members.items c ≡ Some g → slice_get m.members.items (get_or products o.generator 0) ≡ Some (product UNIT f g)
  next_found ranks found row c o products w p l e q g r =
      let i = made.origins.each c o p e in
      let h = some_at m.members.items o.earlier (omega (arith, i.before)) in
      let s = some_at m.generators.items o.generator i.known in
      let there = w.products o.earlier h.0 i.before h.1 in
      let is : product UNIT h.0 s.0 ≡ g = one_there m.members.items c (product UNIT h.0 s.0) g (i.value h.0 s.0 h.1 s.1) r in
      let vs = (All-contains IsNarrow m.generators.items s.0 made.narrow (contains_at m.generators.items s.0 o.generator s.1)).is_operator in
      made.products.each (get_or found o.earlier 0) (product UNIT f h.0) products there q o.generator s.0 s.1
      ∙ ap Some (cell_operators.assoc f h.0 s.0 (valid f place at) (valid h.0 o.earlier h.1) vs ∙ ap (product UNIT f) is)

  -- the row that the code reads is that of the earlier product
  pub read_row : (ranks found row : List ℕ) (c : ℕ) (o : Origin) → IsRowBegun m.members.items ranks found row c f → 0 < c → c < length m.members.items → slice_get m.origins.items c ≡ Some o → (a b : ℕ) (x : List ℕ) → a ≡ o.earlier → b ≡ get_or found a 0 → x ≡ get_or m.products.items b x → slice_get m.products.items (get_or found o.earlier 0) ≡ Some x
  read_row ranks found row c o w p l e a b x r s q =
      let i : b ≡ get_or found o.earlier 0 = s ∙ ap (λ j. get_or found j 0) r in
      let within : b < length m.products.items = omega (arith, i, earlier_found ranks found row c o w p l e, made.all) in
      subst (λ j. slice_get m.products.items j ≡ Some x) i (slice_get_read m.products.items (length m.products.items) b x (λ _. length m.products.items) within q)

-- ---- the ranks

pub all_in : (made members lent : List Operator) → IsPermutation made members → lent ≡ made → All (Contains members) lent
all_in made members lent moved e = subst (All (Contains members)) (sym e) (λ k d l. Contains-permutation made members (get_or made k d) moved (Contains-get_or made k d l))

pub ranks_more : (made members : List Operator) (ranks : List ℕ) (c place : ℕ) (g : Operator) → ((k : ℕ) (f : Operator) → k < c → slice_get made k ≡ Some f → slice_get members (get_or ranks k 0) ≡ Some f) → c < length ranks → slice_get made c ≡ Some g → slice_get members place ≡ Some g
    → (k : ℕ) (f : Operator) → k < c + 1 → slice_get made k ≡ Some f → slice_get members (get_or (set ranks c place) k 0) ≡ Some f
ranks_more made members ranks c place g was l at there k f b e =
    ⊎_elim
    (λ a. subst (λ j. slice_get members j ≡ Some f) (sym (get_or-set_other ranks c k place 0 (omega arith))) (was k f a e))
    (λ a.
    let i : c ≡ k = omega arith in
    subst (λ j. slice_get members j ≡ Some f) (sym (get_or-set_same ranks c place 0 l) ∙ ap (λ j. get_or (set ranks c place) j 0) i) (there ∙ ap Some (one_there made c g f at (ap (λ j. slice_get made j) i ∙ e))))
    (cases_lt k c)

-- ---- one more place of a row

module _ (made members : List Operator) (ranks : List ℕ) (ranked : AreRanks made members ranks) (distinct : AreDistinct made) where
  ranks_apart : (k c : ℕ) → k < c → c < length made → get_or ranks k 0 ≢ get_or ranks c 0
  ranks_apart k c l m e =
      let a = some_at made k (omega (arith, l, m)) in
      let b = some_at made c m in
      let same : a.0 ≡ b.0 = one_there members (get_or ranks c 0) a.0 b.0 (subst (λ j. slice_get members j ≡ Some a.0) e (ranked k a.0 a.1)) (ranked c b.0 b.1) in
      apart made b.0 k c distinct (a.1 ∙ ap Some same) b.1 l

  -- the identity is the first that was made and the first in order
  pub begun_first : (found row : List ℕ) (place : ℕ) (f : Operator) → IsGroup members → slice_get made 0 ≡ Some identity_operator → slice_get made place ≡ Some (product UNIT f identity_operator) → get_or found 0 0 ≡ place → get_or row 0 0 ≡ get_or ranks place 0 → IsRowBegun made ranks found row 1 f
  begun_first found row place f group one at a b =
      let rank : get_or ranks 0 0 ≡ 0 = one_place members identity_operator (get_or ranks 0 0) 0 group.distinct (ranked 0 identity_operator one) group.first in
      record {
        products = λ k g l e.
            let i : 0 ≡ k = omega arith in
            let same : identity_operator ≡ g = one_there made 0 identity_operator g one (ap (λ j. slice_get made j) i ∙ e) in
            subst (λ j. slice_get made j ≡ Some (product UNIT f g)) (sym a ∙ ap (λ j. get_or found j 0) i) (at ∙ ap (λ h. Some (product UNIT f h)) same);
        at_ranks = λ k l.
            let i : 0 ≡ k = omega arith in
            subst (λ j. get_or row (get_or ranks j 0) 0 ≡ get_or ranks (get_or found j 0) 0) i (ap (λ j. get_or row j 0) rank ∙ b ∙ ap (λ j. get_or ranks j 0) (sym a));
      }

  pub begun_more : (found row : List ℕ) (c place : ℕ) (f : Operator) → IsRowBegun made ranks found row c f → c < length made → c < length found → get_or ranks c 0 < length row → ((g : Operator) → slice_get made c ≡ Some g → slice_get made place ≡ Some (product UNIT f g)) → IsRowBegun made ranks (set found c place) (set row (get_or ranks c 0) (get_or ranks place 0)) (c + 1) f
  begun_more found row c place f w l m n h = record {
    products = λ k g b e.
        ⊎_elim
        (λ a. subst (λ j. slice_get made j ≡ Some (product UNIT f g)) (sym (get_or-set_other found c k place 0 (omega arith))) (w.products k g a e))
        (λ a.
        let i : c ≡ k = omega arith in
        subst (λ j. slice_get made j ≡ Some (product UNIT f g)) (sym (get_or-set_same found c place 0 m) ∙ ap (λ j. get_or (set found c place) j 0) i) (h g (ap (λ j. slice_get made j) i ∙ e)))
        (cases_lt k c);
    at_ranks = λ k b.
        ⊎_elim
        (λ a.
        get_or-set_other row (get_or ranks c 0) (get_or ranks k 0) (get_or ranks place 0) 0 (ranks_apart k c a l)
        ∙ w.at_ranks k a
        ∙ ap (λ j. get_or ranks j 0) (sym (get_or-set_other found c k place 0 (omega arith))))
        (λ a.
        let i : c ≡ k = omega arith in
        ap (λ j. get_or (set row (get_or ranks c 0) (get_or ranks place 0)) (get_or ranks j 0) 0) (sym i)
        ∙ get_or-set_same row (get_or ranks c 0) (get_or ranks place 0) 0 n
        ∙ ap (λ j. get_or ranks j 0) (sym (get_or-set_same found c place 0 m) ∙ ap (λ j. get_or (set found c place) j 0) i))
        (cases_lt k c);
  }

  -- the same, where q is the place and r the rank of c
  pub begun_next : (found row : List ℕ) (c place q r : ℕ) (f : Operator) → IsRowBegun made ranks found row c f → c < length made → c < length found → r < length row → q ≡ place → r ≡ get_or ranks c 0 → ((g : Operator) → slice_get made c ≡ Some g → slice_get made place ≡ Some (product UNIT f g)) → IsRowBegun made ranks (set found c place) (set row r (get_or ranks q 0)) (c + 1) f
  begun_next found row c place q r f w l m n a b h =
      subst (λ j. IsRowBegun made ranks (set found c place) (set row j (get_or ranks q 0)) (c + 1) f) (sym b)
      (subst (λ j. IsRowBegun made ranks (set found c place) (set row (get_or ranks c 0) (get_or ranks j 0)) (c + 1) f) (sym a) (begun_more found row c place f w l m (omega arith) h))

  pub begun_all : (found row : List ℕ) (c : ℕ) (f : Operator) → IsGroup members → IsPermutation made members → length made ≤ c → IsRowBegun made ranks found row c f → IsTableRow f members row
  begun_all found row c f group moved l w j g e =
      let p = place_of made g (Contains-permutation members made g (IsPermutation-sym made members moved) (contains_at members g j e)) in
      let b : p.0 < c = omega (arith, l, slice_get_within made p.0 g p.1) in
      let here : get_or ranks p.0 0 ≡ j = one_place members g (get_or ranks p.0 0) j group.distinct (ranked p.0 g p.1) e in
      let there : slice_get members (get_or ranks (get_or found p.0 0) 0) ≡ Some (product UNIT f g) = ranked (get_or found p.0 0) (product UNIT f g) (w.products p.0 g b p.1) in
      subst (λ i. slice_get members i ≡ Some (product UNIT f g)) (sym (w.at_ranks p.0 b) ∙ ap (λ i. get_or row i 0) here) there

-- ---- one more row

module _ (members : List Operator) (group : IsGroup members) (f : Operator) (row : List ℕ) (is_row : IsTableRow f members row) where
  -- the identity stands in the row
  pub identity_in_row : Contains members f → (k : ℕ) × (k < length members) × (get_or row k 0 ≡ 0)
  identity_in_row c =
      let p = place_of members (inverse UNIT f) (inverse_member members f group c) in
      let one : product UNIT f (inverse UNIT f) ≡ identity_operator = cell_operators.inv_right f (All-contains IsNarrow members f group.narrow c).is_operator in (
        p.0,
        slice_get_within members p.0 (inverse UNIT f) p.1,
        one_place members identity_operator (get_or row p.0 0) 0 group.distinct (is_row p.0 (inverse UNIT f) p.1 ∙ ap Some one) group.first,
      )

  pub inverse_in_row : (k : ℕ) → Contains members f → k < length members → get_or row k 0 ≡ 0 → (g : Operator) × (slice_get members k ≡ Some g) × IsInverse UNIT f g
  inverse_in_row k c l e =
      let g = some_at members k l in
      let one : product UNIT f g.0 ≡ identity_operator = one_there members 0 (product UNIT f g.0) identity_operator (subst (λ j. slice_get members j ≡ Some (product UNIT f g.0)) e (is_row k g.0 g.1)) group.first in (
        g.0,
        g.1,
        inverse_by_product members f g.0 group c (contains_at members g.0 k g.1) one,
      )

  pub table_more : (table : List (List ℕ)) (inverses : List ℕ) (i k : ℕ) → IsProductTable members table inverses i → slice_get members i ≡ Some f → k < length members → get_or row k 0 ≡ 0 → IsProductTable members (table ++ row ∷ []) (inverses ++ k ∷ []) (i + 1)
  table_more table inverses i k was at l e = record {
    count = length-append table (row ∷ []) ∙ ap (λ n. n + 1) was.count;
    rows = λ j g r p q.
        ⊎_elim
        (λ b. was.rows j g r p (get_before table (row ∷ []) j r (omega (arith, b, was.count)) q))
        (λ b.
        let n : length table ≡ j = omega (arith, b, was.count, slice_get_within (table ++ row ∷ []) j r q, length-append table (row ∷ [])) in
        let same : row ≡ r = one_there (table ++ row ∷ []) j row r (subst (λ h. slice_get (table ++ row ∷ []) h ≡ Some row) n (get_last table row)) q in
        let one : f ≡ g = one_there members j f g (subst (λ h. slice_get members h ≡ Some f) (sym was.count ∙ n) at) p in
        subst (λ v. IsTableRow g members v) same (subst (λ (v : Operator). IsTableRow v members row) one is_row))
        (cases_lt j i);
    count_inverses = length-append inverses (k ∷ []) ∙ ap (λ n. n + 1) was.count_inverses;
    inverse = λ j g b p.
        ⊎_elim
        (λ a.
        let old = get_or_append_left inverses (k ∷ []) 0 j (omega (arith, a, was.count_inverses)) in
        subst (λ n. (h : Operator) × (slice_get members n ≡ Some h) × IsInverse UNIT g h) (sym old) (was.inverse j g a p))
        (λ a.
        let n : length inverses ≡ j = omega (arith, a, b, was.count_inverses) in
        let new : get_or (inverses ++ k ∷ []) j 0 ≡ k = get_or_from_slice_get (inverses ++ k ∷ []) j k 0 (subst (λ h. slice_get (inverses ++ k ∷ []) h ≡ Some k) n (get_last inverses k)) in
        let one : f ≡ g = one_there members j f g (subst (λ h. slice_get members h ≡ Some f) (sym was.count_inverses ∙ n) at) p in
        subst (λ n. (h : Operator) × (slice_get members n ≡ Some h) × IsInverse UNIT g h) (sym new)
        (subst (λ (v : Operator). (h : Operator) × (slice_get members k ≡ Some h) × IsInverse UNIT v h) one (inverse_in_row k (contains_at members f i at) l e)))
        (cases_lt j i);
  }

-- ---- what the table says

-- the code reads row n, which is i, at q, which is j
pub product_read : (members : List Operator) (table : List (List ℕ)) (inverses : List ℕ) (i j n q : ℕ) (row : List ℕ) → IsProductTable members table inverses (length members) → i < length members → n ≡ i → q ≡ j → row ≡ get_or table n row → (f g : Operator) → slice_get members i ≡ Some f → slice_get members j ≡ Some g → slice_get members (get_or row q 0) ≡ Some (product UNIT f g)
product_read members table inverses i j n q row t l a b e f g p r =
    let there : slice_get table i ≡ Some row = slice_get_read table (length table) i row (λ _. length table) (omega (arith, t.count)) (e ∙ ap (λ k. get_or table k row) a) in
    subst (λ k. slice_get members (get_or row k 0) ≡ Some (product UNIT f g)) (sym b) (t.rows i f row p there j g r)

pub inverse_read : (members : List Operator) (table : List (List ℕ)) (inverses : List ℕ) (i n v : ℕ) → IsProductTable members table inverses (length members) → i < length members → n ≡ i → v ≡ get_or inverses n v → v < length members
inverse_read members table inverses i n v t l a e =
    let f = some_at members i l in
    let r = t.inverse i f.0 l f.1 in
    omega (arith, e ∙ get_or_default inverses n v 0 (omega (arith, a, t.count_inverses)) ∙ ap (λ k. get_or inverses k 0) a, slice_get_within members (get_or inverses i 0) r.0 r.1)
