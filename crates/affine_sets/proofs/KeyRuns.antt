-- The runs of members that turn the matrix of an average to the greatest one, as they are listed.
use Rattle.std.proofs.Common.{◌≡◌, ◌≤◌, ◌<◌, ◌+◌, ◌↔◌, ℕ, ℤ, Bool, false, IsTrue, List, Some, length, slice_get, set, inl, inr, ⊎_elim, ap, sym, refl, subst, ◌∙◌, arith, get_or-set_same, get_or-set_other}
use Rattle.std.proofs.lemmas.Bool.{cases_lt, false≢true}
use Rattle.std.specs.List.{slice_index}
use Rattle.lattice_algebra.specs.Matrix.{Matrix, Column, entries, inverse_matrix, IsUnimodular}
use Rattle.lattice_algebra.specs.Operator.{Operator, inverse, IsInverse, HasEntriesWithin}
use Rattle.lattice_algebra.proofs.Operators.{inverse_once, inverse-IsInverse}
use Rattle.exact_ops.specs.declared.TheConstants.{UNIT}
use Rattle.exact_ops.specs.declared.matrix.Rotation.{Rotation}
use Rattle.exact_ops.specs.Fields.{matrix_in}
use Rattle.group_closure.proofs.Places.{some_at, same_at, EndsRun, same_matrix}
use Rattle.space_groups.specs.Keys.{IsBelow, ComesBefore}
use Rattle.space_groups.proofs.Ordered.{not_below_itself}
use Rattle.affine_sets.specs.declared.keys.Greatest.{Greatest}
use Rattle.affine_sets.specs.Averages.{KeyOver}
use Rattle.affine_sets.proofs.KeyWalk.{by_matrix}
use Rattle.affine_sets.proofs.KeySteps.{by_rotation, greatest_replaced, greatest_kept}
use Rattle.affine_sets.specs.Conjugates.{turned_matrix, key_by, IsNoLater, AreNotBefore, IsGreatestBefore, Heads, AreListed, IsAdded, IsWithRun}

-- the test is false
pub not_below : (a b : Matrix) (xs ys : List ℤ) (r : Bool) → r ≡ false → xs ≡ entries a → ys ≡ entries b → IsTrue r ↔ IsBelow xs ys → IsBelow (entries a) (entries b) → ⊥
not_below a b xs ys r f p q h l = false≢true (sym f ∙ h.1 (subst (IsBelow xs) (sym q) (subst (λ v. IsBelow v (entries b)) (sym p) l)))

pub starts_added : (best : Greatest) (m : Rotation) (starts : List ℕ) (at n : ℕ) → n ≡ best.count → n < length starts → matrix_in best.m ≡ matrix_in m → IsAdded best starts at (record { m = m; count = best.count + 1 }) (set starts n at)
starts_added best m starts at n e l same = record {
  matrix = sym same;
  more = refl;
  last = ap (slice_index (set starts n at)) (sym e) ∙ get_or-set_same starts n at 0 l;
  kept = λ j h. get_or-set_other starts n j at 0 (omega (arith, e, h));
}

-- ---- the greatest matrix, and the places of those that give it, up to the end of one run more

pub record IsGreatest (members : List Operator) (m best : Matrix) (starts : List ℕ) (count end : ℕ) : Type 0 where
  pub listed : AreListed members m best starts count end
  pub greatest : IsGreatestBefore members m best end

-- the members of a run turn a matrix to one
turned_in : (members : List Operator) (m next : Matrix) (at end k : ℕ) (f g : Operator) → EndsRun members at end → slice_get members at ≡ Some f → turned_matrix f m ≡ next → slice_get members k ≡ Some g → at ≤ k → k < end → turned_matrix g m ≡ next
turned_in members m next at end k f g ends p is q l h = by_rotation g f m (same_matrix members at end k f g ends p q l h) ∙ is

heads_run : (members : List Operator) (at end k : ℕ) (f : Operator) → EndsRun members at end → slice_get members at ≡ Some f → at ≤ k → k < end → Heads members at k
heads_run members at end k f ends p l h =
    ⊎_elim
    (λ more. inr (more, l, λ f' g q r. same_matrix members at end k f' g ends q r l h))
    (λ none. inl (let z : at ≡ 0 = omega (arith, none) in let one = ends.first z in omega (arith, z, one, l, h)))
    (cases_lt 0 at)

greater : (members : List Operator) (m best next : Matrix) (starts new : List ℕ) (count more at end : ℕ) (f : Operator) → at < length members → at < end → EndsRun members at end → slice_get members at ≡ Some f → turned_matrix f m ≡ next → IsGreatestBefore members m best at
    → IsBelow (entries best) (entries next) → more ≡ 1 → slice_index new 0 ≡ at → AreListed members m next new more end
greater members m best next starts new count more at end f within beyond ends p is greatest below one first =
    let only : (j : ℕ) → j < more → slice_index new j ≡ at = λ j l. let z : j ≡ 0 = omega (arith, l, one) in ap (slice_index new) z ∙ first in
    record {
      some = omega (arith, one);
      few = omega (arith, one, beyond);
      within = λ j l. subst (λ v. v < length members) (sym (only j l)) within;
      turned = λ j g l q. ap (λ v. turned_matrix v m) (same_at members g f at (subst (λ v. slice_get members v ≡ Some g) (only j l) q) p) ∙ is;
      all = λ k g l q e.
          ⊎_elim
          (λ less. absurd (greatest k g less q (subst (λ v. IsBelow (entries best) (entries v)) (sym e) below)))
          (λ here. (0, omega (arith, one), subst (λ v. Heads members v k) (sym first) (heads_run members at end k f ends p here l)))
          (cases_lt k at);
    }

one_added : (members : List Operator) (m best : Matrix) (starts new : List ℕ) (count more at end : ℕ) (f : Operator) → at < length members → at < end → EndsRun members at end → slice_get members at ≡ Some f → turned_matrix f m ≡ best → AreListed members m best starts count at
    → more ≡ count + 1 → slice_index new count ≡ at → ((j : ℕ) → j < count → slice_index new j ≡ slice_index starts j) → AreListed members m best new more end
one_added members m best starts new count more at end f within beyond ends p is h n last kept =
    let is_last : (j : ℕ) → j < more → count ≤ j → slice_index new j ≡ at = λ j l u. let z : j ≡ count = omega (arith, l, u, n) in ap (slice_index new) z ∙ last in
    record {
      some = omega (arith, n);
      few = let few = h.few in omega (arith, n, few, beyond);
      within = λ j l. ⊎_elim (λ old. subst (λ v. v < length members) (sym (kept j old)) (h.within j old)) (λ u. subst (λ v. v < length members) (sym (is_last j l u)) within) (cases_lt j count);
      turned = λ j g l q.
          ⊎_elim
          (λ old. h.turned j g old (subst (λ v. slice_get members v ≡ Some g) (kept j old) q))
          (λ u. ap (λ v. turned_matrix v m) (same_at members g f at (subst (λ v. slice_get members v ≡ Some g) (is_last j l u) q) p) ∙ is)
          (cases_lt j count);
      all = λ k g l q e.
          ⊎_elim
          (λ less. let r = h.all k g less q e in (r.0, (let b = r.1 in omega (arith, b, n)), subst (λ v. Heads members v k) (sym (kept r.0 r.1)) r.2))
          (λ here. (count, omega (arith, n), subst (λ v. Heads members v k) (sym last) (heads_run members at end k f ends p here l)))
          (cases_lt k at);
    }

passed : (members : List Operator) (m best next : Matrix) (starts : List ℕ) (count at end : ℕ) (f : Operator) → at < end → EndsRun members at end → slice_get members at ≡ Some f → turned_matrix f m ≡ next → AreListed members m best starts count at → (best ≡ next → ⊥) → AreListed members m best starts count end
passed members m best next starts count at end f beyond ends p is h other = record {
  some = h.some;
  few = let few = h.few in omega (arith, few, beyond);
  within = h.within;
  turned = h.turned;
  all = λ k g l q e.
      ⊎_elim (λ less. h.all k g less q e) (λ here. absurd (other (sym e ∙ turned_in members m next at end k f g ends p is q here l))) (cases_lt k at);
}

pub run_listed : (members : List Operator) (m next : Matrix) (before after : Greatest) (starts new : List ℕ) (at end : ℕ) (f : Operator) → at < length members → at < end → EndsRun members at end → slice_get members at ≡ Some f → next ≡ turned_matrix f m
    → IsGreatest members m (matrix_in before.m) starts before.count at → IsWithRun before starts at next after new → IsGreatest members m (matrix_in after.m) new after.count end
run_listed members m next before after starts new at end f within beyond ends p is h step =
    let best = matrix_in before.m in
    let one : IsGreatest members m next new after.count end → matrix_in after.m ≡ next → IsGreatest members m (matrix_in after.m) new after.count end = λ g e. subst (λ v. IsGreatest members m v new after.count end) (sym e) g in
    ⊎_elim
    (λ r. one (record {
      listed = greater members m best next starts new before.count after.count at end f within beyond ends p (sym is) h.greatest r.0 r.1.one r.1.first;
      greatest = greatest_replaced members m best next at end f ends p is r.0 h.greatest;
    }) r.1.matrix)
    (λ r.
    let up_to = greatest_kept members m best next at end f ends p is r.0 h.greatest in
    ⊎_elim
    (λ a. subst (λ v. IsGreatest members m v new after.count end) (sym a.1.matrix) (record {
      listed = one_added members m best starts new before.count after.count at end f within beyond ends p (sym is ∙ sym a.0) h.listed a.1.more a.1.last a.1.kept;
      greatest = up_to;
    }))
    (λ k. subst (λ (v : Greatest). IsGreatest members m (matrix_in v.m) new v.count end) (sym k.1) (subst (λ v. IsGreatest members m best v before.count end) (sym k.2) (record {
      listed = passed members m best next starts before.count at end f beyond ends p (sym is) h.listed k.0;
      greatest = up_to;
    })))
    r.1)
    step

pub first_listed : (members : List Operator) (m best : Matrix) (starts : List ℕ) (end : ℕ) (f : Operator) → 0 < length members → end ≡ 1 → slice_get members 0 ≡ Some f → best ≡ turned_matrix f m → slice_index starts 0 ≡ 0 → IsGreatest members m best starts 1 end
first_listed members m best starts end f some e p is first =
    let at : (j : ℕ) → j < 1 → slice_index starts j ≡ 0 = λ j l. let z : j ≡ 0 = omega (arith, l) in ap (slice_index starts) z ∙ first in
    let same : (k : ℕ) (g : Operator) → k < end → slice_get members k ≡ Some g → turned_matrix g m ≡ best = λ k g l q. let z : k ≡ 0 = omega (arith, l, e) in ap (λ v. turned_matrix v m) (same_at members g f 0 (subst (λ v. slice_get members v ≡ Some g) z q) p) ∙ sym is in
    record {
      listed = record {
        some = omega arith;
        few = omega (arith, e);
        within = λ j l. subst (λ v. v < length members) (sym (at j l)) some;
        turned = λ j g l q. same 0 g (omega (arith, e)) (subst (λ v. slice_get members v ≡ Some g) (at j l) q);
        all = λ k g l q t. (0, omega arith, inl (let z : k ≡ 0 = omega (arith, l, e) in first ∙ sym z));
      };
      greatest = λ k g l q b. not_below_itself (entries best) (subst (λ v. IsBelow (entries best) (entries v)) (same k g l q) b);
    }

-- the inverse matrix, by the inverse member
pub inverse_matrix_of : (f h : Operator) → IsUnimodular f.w → IsInverse UNIT f h → h.w ≡ inverse_matrix f.w
unfolding inverse
inverse_matrix_of f h u i = ap (λ (v : Operator). v.w) (inverse_once UNIT f h (inverse UNIT f) i (inverse-IsInverse UNIT f u))

pub either_within : (n : ℕ) (next : Matrix) (before after : Greatest) (starts new : List ℕ) (at : ℕ) → HasEntriesWithin n (matrix_in before.m) → HasEntriesWithin n next → IsWithRun before starts at next after new → HasEntriesWithin n (matrix_in after.m)
either_within n next before after starts new at h k step =
    ⊎_elim
    (λ r. subst (HasEntriesWithin n) (sym r.1.matrix) k)
    (λ r. ⊎_elim (λ a. subst (HasEntriesWithin n) (sym a.1.matrix) h) (λ s. subst (λ (v : Greatest). HasEntriesWithin n (matrix_in v.m)) (sym s.1) h) r.1)
    step

-- ---- the conjugates by the members of the listed runs

-- no conjugate by an element of a member that one of the first i places heads comes before p
abbrev pub AreBehind : List Operator → KeyOver → KeyOver → List ℕ → ℕ → Type 0
AreBehind members s p starts i = (j k : ℕ) (f : Operator) (shift : Column) → j < i → Heads members (slice_index starts j) k → slice_get members k ≡ Some f → ComesBefore (key_by f shift s) p.key → ⊥

-- a run has each member that its first one heads
headed_within : (members : List Operator) (at end k : ℕ) (f g : Operator) → at < end → EndsRun members at end → slice_get members at ≡ Some f → slice_get members k ≡ Some g → Heads members at k → (at ≤ k) × (k < end)
headed_within members at end k f g beyond ends p q h =
    ⊎_elim
    (λ same. (omega (arith, same), omega (arith, same, beyond)))
    (λ r. (r.1, (ends.run r.0 k f g r.1 p q).0 (r.2 f g p q)))
    h

pub run_behind : (members : List Operator) (s best next : KeyOver) (starts : List ℕ) (i at end : ℕ) → slice_index starts i ≡ at → at < length members → at < end → EndsRun members at end → AreBehind members s best starts i → IsNoLater next best → AreNotBefore members s next at end → AreBehind members s next starts (i + 1)
run_behind members s best next starts i at end e within beyond ends h earlier n j k f shift l heads p b =
    ⊎_elim
    (λ less. h j k f shift less heads p (earlier _ b))
    (λ more.
    let z : j ≡ i = omega (arith, l, more) in
    let first = some_at members at within in
    let r = headed_within members at end k first.0 f beyond ends first.1 p (subst (λ v. Heads members v k) (ap (slice_index starts) z ∙ e) heads) in
    n k f shift r.0 r.1 p b)
    (cases_lt j i)

-- a member that turns the matrix to another one than the greatest has nothing before the best
pub all_behind : (members : List Operator) (s best : KeyOver) (m : Matrix) (starts : List ℕ) (count : ℕ) → AreListed members s.key.m m starts count (length members) → IsGreatestBefore members s.key.m m (length members) → best.key.m ≡ m → AreBehind members s best starts count → AreNotBefore members s best 0 (length members)
all_behind members s best m starts count listed greatest bm h k f shift _ l p b =
    ⊎_elim
    (λ less. greatest k f l p (subst (λ v. IsBelow (entries v) (entries (turned_matrix f s.key.m))) bm (subst (λ v. IsBelow (entries best.key.m) (entries v)) (by_matrix f shift s) less)))
    (λ equal. let r = listed.all k f l p (sym (by_matrix f shift s) ∙ equal.0 ∙ bm) in h r.0 k f shift r.1 r.2 p b)
    b
