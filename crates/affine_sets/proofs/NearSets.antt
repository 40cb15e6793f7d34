-- A finite group of elements moved near the origin.
use Rattle.std.proofs.Common.{◌≡◌, ◌++◌, [], ◌∷◌, ◌≤◌, ◌<◌, ◌+◌, ◌*◌, ◌^◌, ℕ, zero, suc, ℤ, pos, ◌+ℤ◌, ◌*ℤ◌, unsigned_abs, List, length, map, take, get_or, Contains, ap, ap₂, sym, ◌∙◌, subst, arith, mul-le-mul, le_refl}
use Rattle.std.specs.Int.{int_div_euclid, int_rem_euclid}
use Rattle.std.proofs.lemmas.Int.{ints, unsigned_abs-mul}
use Rattle.std.proofs.lemmas.List.{map-append, take_more, take_all}
use Rattle.std.proofs.lemmas.List.Elements.{All-contains, Contains-get_or}
use Rattle.finite_groups.proofs.Members as lists
use Rattle.lattice_algebra.specs.Matrix.{Column, neg_column}
use Rattle.lattice_algebra.specs.Operator.{Operator, AreWithin, HasEntriesWithin, IsPart, modulo}
use Rattle.lattice_algebra.specs.Map.{Map}
use Rattle.lattice_algebra.proofs.Maps.{shifted}
use Rattle.lattice_algebra.proofs.Numbers.{above}
use Rattle.lattice_algebra.proofs.Remainders.{quotient_is, rem_is, modulo_parts}
use Rattle.exact_ops.specs.declared.TheConstants.{UNIT}
use Rattle.exact_ops.specs.declared.moves.Move.{Move}
use Rattle.exact_ops.specs.Elements.{map_in}
use Rattle.exact_ops.specs.Narrow.{IsNarrow}
use Rattle.exact_ops.proofs.Narrow.{some_parts}
use Rattle.group_closure.specs.GroupList.{IsGroup}
use Rattle.space_groups.specs.Space.{IsElement}
use Rattle.space_groups.specs.Averages.{Block, IsMean}
use Rattle.space_groups.specs.Regions.{shift_by}
use Rattle.space_groups.proofs.Blocks.{cancel_block}
use Rattle.affine_sets.specs.declared.TheConstants.{MAX_NEAR_SHIFT, MAX_TRANSLATION}
use Rattle.affine_sets.specs.Averages.{IsSpecialBlock, whole_part}
use Rattle.affine_sets.specs.Subs.{IsSubList, AreElements, AreShiftsWithin, IsNearShift, conjugate_by}
use Rattle.affine_sets.proofs.Sums.{same_count}
use Rattle.affine_sets.proofs.Groups.{sub_of_list, narrow_element}
use Rattle.affine_sets.proofs.LeftAlone.{part_size}
use Rattle.affine_sets.proofs.ShiftedSets.{conjugate_is, moved_near, shift_near}
use Rattle.affine_sets.proofs.MovedLists.{rotation_kept}

-- ---- the loop

pub made_next : (c : Map → Map) (items made made' : List Move) (i : ℕ) (e d m : Move) → i < length items → e ≡ get_or items i d → made' ≡ made ++ m ∷ [] → map_in m ≡ c (map_in e) → map map_in made ≡ map c (map map_in (take i items))
    → map map_in made' ≡ map c (map map_in (take (i + 1) items))
made_next c items made made' i e d m l q p h was =
    let next : map map_in (take (i + 1) items) ≡ map map_in (take i items) ++ map_in e ∷ [] =
    ap (map map_in) (take_more items i d l) ∙ map-append map_in (take i items) (get_or items i d ∷ []) ∙ ap (λ x. map map_in (take i items) ++ map_in x ∷ []) (sym q) in
    ap (map map_in) p ∙ map-append map_in made (m ∷ []) ∙ ap₂ (λ x y. x ++ y ∷ []) was h ∙ sym (ap (map c) next ∙ map-append c (map map_in (take i items)) (map_in e ∷ []))

pub made_all : (c : Map → Map) (items inside made : List Move) (list : List Map) (i : ℕ) → items ≡ inside → map map_in inside ≡ list → length items ≤ i → map map_in made ≡ map c (map map_in (take i items)) → map map_in made ≡ map c list
made_all c items inside made list i e f l h = h ∙ ap (λ v. map c (map map_in v)) (take_all i items l ∙ e) ∙ ap (map c) f

pub one_mean : (n : ℕ) (list : List Map) (a b : Block) → 0 < length list → IsMean n list a → IsMean n list b → a ≡ b
one_mean n list a b h p q = cancel_block (pos (length list)) a b (above (length list) h) (p ∙ sym q)

-- ---- how far it is moved

quotient_small : (n k a : ℕ) → UNIT ≤ n → n * k ≤ a + n → a ≤ MAX_TRANSLATION → k ≤ 4 * 10 ^ 12
quotient_small n zero a l h s = omega arith
quotient_small n (suc p) a l h s =
    let e : n * suc p ≡ n * p + n = omega arith in
    let m : UNIT * p ≤ n * p = mul-le-mul l (le_refl p) in
    omega (arith, e, m, h, s)

times_quotient : (n : ℕ) (z r x : ℤ) → z ≡ r +ℤ x → IsPart n r → unsigned_abs x ≤ unsigned_abs z + n
times_quotient n z r x e p = omega (arith, ints, e)

cells_small : (n : ℕ) (z : ℤ) → UNIT ≤ n → unsigned_abs z ≤ MAX_TRANSLATION → unsigned_abs (int_div_euclid z (pos n)) ≤ 4 * 10 ^ 12
cells_small n z l s =
    let some : 0 < n = omega (arith, l) in
    let q = int_div_euclid z (pos n) in
    let h = times_quotient n z (int_rem_euclid z (pos n)) (pos n *ℤ q) (quotient_is n some z) (rem_is n some z).2 in
    let e : unsigned_abs (pos n *ℤ q) ≡ n * unsigned_abs q = unsigned_abs-mul (pos n) q in
    quotient_small n (unsigned_abs q) (unsigned_abs z) l (subst (λ v. v ≤ unsigned_abs z + n) e h) s

pub whole_small : (a : Block) → IsSpecialBlock a → (let c = whole_part a in AreWithin (4 * 10 ^ 12) c.x c.y c.z)
whole_small a s =
    let l : UNIT ≤ UNIT * s.over = omega (arith, s.some) in
    let at : (z : ℤ) → unsigned_abs z ≤ MAX_TRANSLATION → unsigned_abs (int_div_euclid z (pos UNIT *ℤ a.n)) ≤ 4 * 10 ^ 12 = λ z h.
    subst (λ k. unsigned_abs (int_div_euclid z (pos UNIT *ℤ k)) ≤ 4 * 10 ^ 12) (sym s.number) (cells_small (UNIT * s.over) z l h) in
    record { first = at a.t.x s.translation.first; second = at a.t.y s.translation.second; third = at a.t.z s.translation.third }

-- ---- how small the shifts are

module _ (members : List Operator) (g : IsGroup members) (list : List Map) (s : IsSubList list) (v : AreElements members list) (a : Block) (mean : IsMean (length members) list a) (special : IsSpecialBlock a) (number : a.n ≡ pos (length members)) where
  near_moved : (e : Map) → Contains list e → (let c = (conjugate_by (shift_by UNIT (neg_column (whole_part a))) e).s in AreWithin (49 * UNIT) c.x c.y c.z)
  near_moved e m =
      let at = All-contains (IsElement UNIT members) list e v m in
      let wide = subst (λ n. HasEntriesWithin (2 * n) a.m) (same_count a.n special.over (length members) special.number number) special.matrix in
      moved_near members g list (sub_of_list members list s v) a mean wide e m (subst (HasEntriesWithin 2) (sym (rotation_kept members g (whole_part a) e at)) (narrow_element members g e at))

  pub near_shift : (op : Operator) (k : Column) → Contains list (shifted UNIT op k) → IsNarrow op → IsNearShift op.w k (whole_part a)
  near_shift op k m n = record {
    within = shift_near op.t _ (part_size op.t n.is_operator.in_cell) (subst (λ (x : Map). AreWithin (49 * UNIT) x.s.x x.s.y x.s.z) (conjugate_is op k (whole_part a)) (near_moved (shifted UNIT op k) m));
  }

  pub near_all : AreShiftsWithin MAX_NEAR_SHIFT (map (conjugate_by (shift_by UNIT (neg_column (whole_part a)))) list)
  near_all j d l =
      let c = conjugate_by (shift_by UNIT (neg_column (whole_part a))) in
      λ k h.
      let r = lists.Contains-from_map c _ list (Contains-get_or (map c list) j d l) in
      let e = get_or (map c list) j d in
      let w : AreWithin (49 * UNIT) e.s.x e.s.y e.s.z = subst (λ (x : Map). AreWithin (49 * UNIT) x.s.x x.s.y x.s.z) r.2 (near_moved r.0 r.1) in
      shift_near (modulo UNIT e.s) k (part_size (modulo UNIT e.s) (modulo_parts UNIT some_parts e.s)) (subst (λ (x : Column). AreWithin (49 * UNIT) x.x x.y x.z) h w)

pub item_in : (items inside : List Move) (list : List Map) (i : ℕ) (e : Move) → items ≡ inside → map map_in inside ≡ list → i < length items → e ≡ get_or items i e → Contains list (map_in e)
item_in items inside list i e p q l h = subst (λ v. Contains v (map_in e)) (ap (map map_in) p ∙ q) (lists.Contains-map map_in e items (i, l, sym h))
