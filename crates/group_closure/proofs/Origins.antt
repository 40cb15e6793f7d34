-- Where the operators of a list that grows stand, and how each was made.
use Rattle.std.proofs.Common.{◌≡◌, ◌≢◌, ◌≤◌, ℕ, zero, suc, ◌+◌, ◌<◌, Some, List, [], ◌∷◌, ◌++◌, length, get_or, set, refl, sym, ap, ap₂, ◌∙◌, subst, arith, inl, inr, ⊎_elim, length-append, slice_get, get_or-set_same, get_or-set_other}
use Rattle.std.proofs.lemmas.Bool.{cases_lt, cases_eq}
use Rattle.std.proofs.Math.ListN.{length-set}
use Rattle.std.proofs.lemmas.Option.{slice_get_within, slice_get-get_or, get_or_from_slice_get}
use Rattle.lattice_algebra.specs.Operator.{Operator, product}
use Rattle.exact_ops.specs.declared.TheConstants.{UNIT}
use Rattle.group_closure.specs.declared.closing.Origin.{Origin}
use Rattle.group_closure.specs.Steps.{Adds, Extends, HasProducts}
use Rattle.group_closure.proofs.Growing.{extends_length}
use Rattle.group_closure.proofs.Places.{contains_at}
use Rattle.group_closure.specs.Origins.{AddsMade, IsOrigin, AreOrigins, IsRow, AreProducts}

-- ---- places

pub get_appended : {X : Type 0} (xs more : List X) (k : ℕ) (x : X) → slice_get xs k ≡ Some x → slice_get (xs ++ more) k ≡ Some x
get_appended [] more k x e = cc
get_appended (y ∷ xs) more zero x e = e
get_appended (y ∷ xs) more (suc k) x e = get_appended xs more k x e

pub get_before : {X : Type 0} (xs more : List X) (k : ℕ) (x : X) → k < length xs → slice_get (xs ++ more) k ≡ Some x → slice_get xs k ≡ Some x
get_before [] more k x l e = absurd (omega arith)
get_before (y ∷ xs) more zero x l e = e
get_before (y ∷ xs) more (suc k) x l e = get_before xs more k x (omega arith) e

pub get_last : {X : Type 0} (xs : List X) (x : X) → slice_get (xs ++ x ∷ []) (length xs) ≡ Some x
get_last [] x = refl
get_last (y ∷ xs) x = get_last xs x

pub one_there : {X : Type 0} (xs : List X) (k : ℕ) (x y : X) → slice_get xs k ≡ Some x → slice_get xs k ≡ Some y → x ≡ y
one_there xs k x y p q = let e : Some x ≡ Some y = sym p ∙ q in cc

pub get_extended : (old new : List Operator) → Extends old new → (k : ℕ) (f : Operator) → slice_get old k ≡ Some f → slice_get new k ≡ Some f
get_extended old new e k f h = ap (λ v. slice_get v k) e.1 ∙ get_appended old e.0 k f h

get_shortened : (old new : List Operator) → Extends old new → (k : ℕ) (f : Operator) → k < length old → slice_get new k ≡ Some f → slice_get old k ≡ Some f
get_shortened old new e k f l h = get_before old e.0 k f l (sym (ap (λ v. slice_get v k) e.1) ∙ h)

get_set_other : {X : Type 0} (xs : List X) (i k : ℕ) (v x : X) → i ≢ k → slice_get (set xs i v) k ≡ Some x → slice_get xs k ≡ Some x
get_set_other xs i k v x n e =
    let l : k < length xs = omega (arith, slice_get_within (set xs i v) k x e, length-set xs i v) in
    slice_get-get_or xs k x l ∙ ap Some (sym (get_or-set_other xs i k v x (λ q. n (sym q))) ∙ get_or_from_slice_get (set xs i v) k x x e)

get_set_same : {X : Type 0} (xs : List X) (i : ℕ) (v x : X) → slice_get (set xs i v) i ≡ Some x → x ≡ v
get_set_same xs i v x e =
    let l : i < length xs = omega (arith, slice_get_within (set xs i v) i x e, length-set xs i v) in
    sym (get_or_from_slice_get (set xs i v) i x x e) ∙ get_or-set_same xs i v x l

-- ---- more generators

pub origins_more : (generators more members : List Operator) (origins : List Origin) → AreOrigins generators members origins → AreOrigins (generators ++ more) members origins
origins_more generators more members origins was = record {
  count = was.count;
  each = λ c o p e.
      let w = was.each c o p e in
      record { before = w.before; known = omega (arith, w.known, length-append generators more); value = λ f g q r. w.value f g q (get_before generators more o.generator g w.known r) };
}

fewer_generators : (generators : List Operator) (f : Operator) (members more : List Operator) (row : List ℕ) → IsRow (generators ++ more) f members row → IsRow generators f members row
fewer_generators generators f members more row was k g e = was k g (get_appended generators more k g e)

-- ---- one more member

pub adds_made : (old : List Operator) (origins : List Origin) (op : Operator) (origin : Origin) (new : List Operator) (more : List Origin) → AddsMade old origins op origin new more → Adds old op new
adds_made old origins op origin new more (inl h) = inl (h.0, h.1)
adds_made old origins op origin new more (inr h) = inr (h.0, h.1)

module _ (generators old : List Operator) (origins : List Origin) (f g op : Operator) (origin : Origin) (was : AreOrigins generators old origins) (at : slice_get old origin.earlier ≡ Some f) (by : slice_get generators origin.generator ≡ Some g) (e : op ≡ product UNIT f g) where
  earlier_origin : (c : ℕ) (o : Origin) → 0 < c → c < length old → slice_get (origins ++ origin ∷ []) c ≡ Some o → IsOrigin generators (old ++ op ∷ []) c o
  earlier_origin c o p l h =
      let w = was.each c o p (get_before origins (origin ∷ []) c o (omega (arith, was.count)) h) in
      record {
        before = w.before;
        known = w.known;
        value = λ a b q r. get_appended old (op ∷ []) c (product UNIT a b) (w.value a b (get_before old (op ∷ []) o.earlier a (omega (arith, w.before)) q) r);
      }

  last_origin : IsOrigin generators (old ++ op ∷ []) (length old) origin
  last_origin =
      let l : origin.earlier < length old = slice_get_within old origin.earlier f at in
      record {
        before = l;
        known = slice_get_within generators origin.generator g by;
        value = λ a b q r.
            get_last old op
            ∙ ap Some (e ∙ ap₂ (λ x y. product UNIT x y) (one_there old origin.earlier f a at (get_before old (op ∷ []) origin.earlier a l q)) (one_there generators origin.generator g b by r));
      }

  each_origin : (c : ℕ) (o : Origin) → 0 < c → slice_get (origins ++ origin ∷ []) c ≡ Some o → IsOrigin generators (old ++ op ∷ []) c o
  each_origin c o p h =
      ⊎_elim
      (λ l. earlier_origin c o p l h)
      (λ m.
      let within = slice_get_within (origins ++ origin ∷ []) c o h in
      let n : length origins ≡ c = omega (arith, within, length-append origins (origin ∷ []), was.count, m) in
      let same : origin ≡ o = one_there (origins ++ origin ∷ []) c origin o (subst (λ k. slice_get (origins ++ origin ∷ []) k ≡ Some origin) n (get_last origins origin)) h in
      subst (λ (v : Origin). IsOrigin generators (old ++ op ∷ []) c v) same (subst (λ k. IsOrigin generators (old ++ op ∷ []) k origin) (sym was.count ∙ n) last_origin))
      (cases_lt c (length old))

  one_more : AreOrigins generators (old ++ op ∷ []) (origins ++ origin ∷ [])
  one_more = record {
    count = length-append origins (origin ∷ []) ∙ ap (λ n. n + 1) was.count ∙ sym (length-append old (op ∷ []));
    each = each_origin;
  }

  pub origins_added : (new : List Operator) (more : List Origin) → AddsMade old origins op origin new more → AreOrigins generators new more
  origins_added new more (inl h) = subst (λ v. AreOrigins generators v more) (sym h.1) (subst (λ v. AreOrigins generators old v) (sym h.2) was)
  origins_added new more (inr h) = subst (λ v. AreOrigins generators v more) (sym h.1) (subst (λ v. AreOrigins generators (old ++ op ∷ []) v) (sym h.2) one_more)

-- ---- the row of one member

-- row has the places of the products of f by the first i generators
abbrev pub IsRowUpTo : List Operator → Operator → List Operator → List ℕ → ℕ → Type 0
IsRowUpTo generators f members row i = (k : ℕ) (g : Operator) → k < i → slice_get generators k ≡ Some g → slice_get members (get_or row k 0) ≡ Some (product UNIT f g)

pub row_more : (generators : List Operator) (f g op : Operator) (old new : List Operator) (row : List ℕ) (i place : ℕ) → Extends old new → IsRowUpTo generators f old row i → i < length row → slice_get generators i ≡ Some g → op ≡ product UNIT f g → slice_get new place ≡ Some op → IsRowUpTo generators f new (set row i place) (i + 1)
row_more generators f g op old new row i place x was l at e p k h m q =
    ⊎_elim
    (λ b.
    let there : get_or (set row i place) k 0 ≡ get_or row k 0 = get_or-set_other row i k place 0 (omega arith) in
    subst (λ n. slice_get new n ≡ Some (product UNIT f h)) (sym there) (get_extended old new x (get_or row k 0) (product UNIT f h) (was k h b q)))
    (λ b.
    let n : i ≡ k = omega arith in
    let here : place ≡ get_or (set row i place) k 0 = sym (get_or-set_same row i place 0 l) ∙ ap (λ j. get_or (set row i place) j 0) n in
    let same : g ≡ h = one_there generators i g h at (subst (λ j. slice_get generators j ≡ Some h) (sym n) q) in
    subst (λ n. slice_get new n ≡ Some (product UNIT f h)) here (p ∙ ap Some (e ∙ ap (product UNIT f) same)))
    (cases_lt k i)

-- the row of a member by one more generator
row_upto : (generators : List Operator) (f : Operator) (members more : List Operator) (row : List ℕ) → IsRow generators f members row → IsRowUpTo (generators ++ more) f members row (length generators)
row_upto generators f members more row was k g l e = was k g (get_before generators more k g l e)

pub row_all : (generators : List Operator) (f : Operator) (members : List Operator) (row : List ℕ) (i : ℕ) → IsRowUpTo generators f members row i → length generators ≤ i → IsRow generators f members row
row_all generators f members row i was l k g e = was k g (omega (arith, l, slice_get_within generators k g e)) e

row_widened : (generators : List Operator) (f op : Operator) (old new : List Operator) (row : List ℕ) (place : ℕ) → Extends old new → IsRow generators f old row → length generators < length row → slice_get new place ≡ Some (product UNIT f op) → IsRow (generators ++ op ∷ []) f new (set row (length generators) place)
row_widened generators f op old new row place x was l e =
    let all = generators ++ op ∷ [] in
    row_all all f new (set row (length generators) place) (length generators + 1)
    (row_more all f op (product UNIT f op) old new row (length generators) place x (row_upto generators f old (op ∷ []) row was) l (get_last generators op) (λ _. product UNIT f op) e)
    (omega (arith, length-append generators (op ∷ [])))

row_extended : (generators : List Operator) (f : Operator) (old new : List Operator) (row : List ℕ) → Extends old new → IsRow generators f old row → IsRow generators f new row
row_extended generators f old new row x was k g e = get_extended old new x (get_or row k 0) (product UNIT f g) (was k g e)

-- ---- the rows of all members

-- the rows that there were are rows still
products_extended : (generators old new : List Operator) (products : List (List ℕ)) → Extends old new → AreProducts generators old products → (k : ℕ) (f : Operator) (row : List ℕ) → slice_get new k ≡ Some f → slice_get products k ≡ Some row → IsRow generators f new row
products_extended generators old new products x was k f row p q =
    let l : k < length old = omega (arith, was.within, slice_get_within products k row q) in
    row_extended generators f old new row x (was.each k f row (get_shortened old new x k f l p) q)

pub products_more : (generators old new : List Operator) (f : Operator) (products : List (List ℕ)) (row : List ℕ) (i : ℕ) → Extends old new → AreProducts generators old products → length products ≡ i → slice_get old i ≡ Some f → IsRow generators f new row → AreProducts generators new (products ++ row ∷ [])
products_more generators old new f products row i x was count at h = record {
  within = omega (arith, length-append products (row ∷ []), count, slice_get_within old i f at, extends_length old new x);
  each = λ k a r p q.
      ⊎_elim
      (λ l. products_extended generators old new products x was k a r p (get_before products (row ∷ []) k r (omega (arith, l, count)) q))
      (λ l.
      let n : length products ≡ k = omega (arith, l, count, slice_get_within (products ++ row ∷ []) k r q, length-append products (row ∷ [])) in
      let same : row ≡ r = one_there (products ++ row ∷ []) k row r (subst (λ j. slice_get (products ++ row ∷ []) j ≡ Some row) n (get_last products row)) q in
      let one : f ≡ a = one_there new k f a (subst (λ j. slice_get new j ≡ Some f) (sym count ∙ n) (get_extended old new x i f at)) p in
      subst (λ v. IsRow generators a new v) same (subst (λ (v : Operator). IsRow generators v new row) one h))
      (cases_lt k i);
}

-- the rows, the first i of them by op too
pub record AreWidened (generators members : List Operator) (op : Operator) (products : List (List ℕ)) (i : ℕ) : Type 0 where
  pub known : AreProducts generators members products
  pub first : (k : ℕ) (f : Operator) (row : List ℕ) → k < i → slice_get members k ≡ Some f → slice_get products k ≡ Some row → IsRow (generators ++ op ∷ []) f members row

pub widened_none : (generators members : List Operator) (op : Operator) (products : List (List ℕ)) → AreProducts generators members products → AreWidened generators members op products 0
widened_none generators members op products p = record { known = p; first = λ k f row l. absurd (omega arith) }

pub widened_more : (generators old new : List Operator) (op f : Operator) (products : List (List ℕ)) (row : List ℕ) (i place : ℕ) → Extends old new → AreWidened generators old op products i → slice_get old i ≡ Some f → slice_get products i ≡ Some row → length generators < length row → slice_get new place ≡ Some (product UNIT f op)
    → AreWidened generators new op (set products i (set row (length generators) place)) (i + 1)
widened_more generators old new op f products row i place x was at there l e =
    let wide = set row (length generators) place in
    let all = generators ++ op ∷ [] in
    let here : (k : ℕ) (a : Operator) (r : List ℕ) → i ≡ k → slice_get new k ≡ Some a → slice_get (set products i wide) k ≡ Some r → IsRow all a new r = λ k a r n p q.
    let one : f ≡ a = one_there new k f a (subst (λ j. slice_get new j ≡ Some f) n (get_extended old new x i f at)) p in
    let same : wide ≡ r = sym (get_set_same products i wide r (subst (λ j. slice_get (set products i wide) j ≡ Some r) (sym n) q)) in
    subst (λ v. IsRow all a new v) same (subst (λ (v : Operator). IsRow all v new wide) one (row_widened generators f op old new row place x (was.known.each i f row at there) l e)) in
    record {
      known = record {
        within = omega (arith, length-set products i wide, was.known.within, extends_length old new x);
        each = λ k a r p q.
            ⊎_elim (λ n. fewer_generators generators a new (op ∷ []) r (here k a r n p q)) (λ n. products_extended generators old new products x was.known k a r p (get_set_other products i k wide r n q)) (cases_eq i k);
      };
      first = λ k a r b p q.
          ⊎_elim
          (λ n. here k a r n p q)
          (λ n.
          let m : k < length old = omega (arith, was.known.within, slice_get_within products k r (get_set_other products i k wide r n q)) in
          let s : k < i = omega (arith, b, n) in
          row_extended all a old new r x (was.first k a r s (get_shortened old new x k a m p) (get_set_other products i k wide r n q)))
          (cases_eq i k);
    }

pub widened_all : (generators members : List Operator) (op : Operator) (products : List (List ℕ)) (i : ℕ) → AreWidened generators members op products i → length products ≤ i → AreProducts (generators ++ op ∷ []) members products
widened_all generators members op products i w l = record { within = w.known.within; each = λ k f row p q. w.first k f row (omega (arith, l, slice_get_within products k row q)) p q }

-- so the products are listed
pub has_products : (generators : List Operator) (f : Operator) (members : List Operator) (row : List ℕ) → IsRow generators f members row → HasProducts generators f members
has_products generators f members row h = λ k d l. contains_at members (product UNIT f (get_or generators k d)) (get_or row k 0) (h k (get_or generators k d) (slice_get-get_or generators k d l))
