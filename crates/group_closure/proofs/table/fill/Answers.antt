use Rattle.std.proofs.Common.{◌≡◌, Contains, Some, length, slice_get, sym, refl, arith, ap, subst, ◌∙◌}
use Rattle.std.proofs.lemmas.List.Sorted.{Contains-permutation, IsPermutation-sym, length_permutation}
use Rattle.std.proofs.lemmas.Option.{slice_get_within}
use Rattle.group_closure.proofs.Places.{read_at}
use Rattle.group_closure.proofs.Tables.{all_in, identity_in_row, table_more}
use Rattle.group_closure.proofs.table.fill.Goals as goal

pub ranks_of-ranks-requires-clause-all : goal.ranks_of-ranks-requires-clause-all
ranks_of-ranks-requires-clause-all c = all_in c.args.making.now.members.items c.args.members.now c.deref.result.now c.requires.same c.deref.ensures.value

pub unwrap-place-requires : goal.unwrap-place-requires
unwrap-place-requires c =
    let m : Contains c.args.members.now c.member-item.result = (c.loop-member.member-index, c.loop-member-test.true, sym c.member-item.is) in
    c.place_among.ensures.some.1
    (subst (λ v. Contains v c.member-item.result) (sym c.deref-in-loop-member.ensures.value) (Contains-permutation c.args.members.now c.args.making.now.members.items c.member-item.result (IsPermutation-sym _ _ c.requires.same) m))

pub row_of-row-requires-clause-within : goal.row_of-row-requires-clause-within
row_of-row-requires-clause-within c =
    let there : slice_get c.deref-in-loop-member.result.now c.unwrap-place.result ≡ Some c.member-item.result = rw c.unwrap-place.ensures at c.place_among.ensures.place in
    omega (arith, slice_get_within c.deref-in-loop-member.result.now c.unwrap-place.result c.member-item.result there, ap length c.deref-in-loop-member.ensures.value, length_permutation c.args.making.now.members.items c.args.members.now c.requires.same)

pub place_of_identity-requires-clause-some : goal.place_of_identity-requires-clause-some
place_of_identity-requires-clause-some c =
    let there : slice_get c.deref-in-loop-member.result.now c.unwrap-place.result ≡ Some c.member-item.result = rw c.unwrap-place.ensures at c.place_among.ensures.place in
    let is_row = c.row_of-row.ensures c.member-item.result (sym (ap (λ v. slice_get v c.unwrap-place.result) c.deref-in-loop-member.ensures.value) ∙ there) in
    identity_in_row c.args.members.now c.requires.group c.member-item.result c.row_of-row.result is_row (c.loop-member.member-index, c.loop-member-test.true, sym c.member-item.is)

pub loop-member-preserved : goal.loop-member-preserved
loop-member-preserved c =
    let there : slice_get c.deref-in-loop-member.result.now c.unwrap-place.result ≡ Some c.member-item.result = rw c.unwrap-place.ensures at c.place_among.ensures.place in
    let is_row = c.row_of-row.ensures c.member-item.result (sym (ap (λ v. slice_get v c.unwrap-place.result) c.deref-in-loop-member.ensures.value) ∙ there) in
    let at : slice_get c.args.members.now c.loop-member.member-index ≡ Some c.member-item.result = read_at c.args.members.now c.args.members.now _ _ _ refl refl c.loop-member-test.true c.member-item.is in
    record {
      room = omega (arith, c.push_reserved-in-loop-member.ensures.capacity);
      room_inverses = omega (arith, c.push_reserved.ensures.capacity);
      table = rw (c.push_reserved-in-loop-member.ensures.items, c.push_reserved.ensures.items)
          (table_more c.args.members.now c.requires.group c.member-item.result c.row_of-row.result is_row c.loop-member.table.items c.loop-member.inverses.items c.loop-member.member-index c.place_of_identity.result c.loop-member.invariant.table at c.place_of_identity.ensures.within c.place_of_identity.ensures.value);
    }
