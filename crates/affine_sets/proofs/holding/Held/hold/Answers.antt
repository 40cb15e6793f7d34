use Rattle.std.proofs.Common.{◌≡◌, ◌+◌, ◌<◌, length, set, get_or, None, ap, subst, ◌∙◌, arith}
use Rattle.affine_sets.specs.Growth.{Puts}
use Rattle.affine_sets.specs.Filing.{filed_shifts}
use Rattle.affine_sets.proofs.Filing.{room_for, filed_more, puts_more}
use Rattle.affine_sets.proofs.holding.Held.hold.Goals.{After-self}
use Rattle.affine_sets.proofs.holding.Held.hold.Goals as goal

fresh : (c : After-self) → get_or (filed_shifts c.self.inside.list.items c.self.inside.places) c.args.x.now.place None ≡ None
fresh c = ap (λ v. get_or v c.args.x.now.place None) c.self.view_is ∙ c.requires.fresh

inside : (c : After-self) → c.args.x.now.place < length c.self.inside.places
inside c = omega (arith, c.requires.room, c.self.told)

room : (c : After-self) → length c.self.inside.list.items < length c.self.inside.places
room c = room_for c.self.inside.list.items c.self.inside.places c.self.invariant.0 c.args.x.now (inside c) (fresh c)

pub push_reserved-requires : goal.push_reserved-requires
push_reserved-requires c = omega (arith, room (goal.at.push_reserved-requires c).After-self, c.self.inside.list.ok.0, c.self.invariant.1, c.self.told)

pub overflow_cast-self : goal.overflow_cast-self
overflow_cast-self c = omega (arith, room (goal.at.overflow_cast-self c).After-self, c.self.inside.list.ok.0, c.self.told, c.len.ensures, c.push_reserved.ensures.len)

pub invariant_of-self : goal.invariant_of-self
invariant_of-self c =
    let before = c.self.inside in
    let at = (goal.at.invariant_of-self c).After-self in
    let count : c.len.result ≡ length before.list.items + 1 = omega (arith, c.len.ensures, c.push_reserved.ensures.len, before.list.ok.0) in (
      filed_more before.list.items before.places c.self.invariant.0 c.args.x.now (inside at) (fresh at) c.push_reserved.new.self.items c.from.result c.len.result c.push_reserved.ensures.items c.from.ensures count,
      omega (arith, c.push_reserved.ensures.capacity, c.self.invariant.1),
    )

pub returns : goal.returns
returns c =
    let before = c.self.inside in
    let at = (goal.at.returns c).After-self in
    let more = c.push_reserved.new.self.items in
    let count : c.len.result ≡ length before.list.items + 1 = omega (arith, c.len.ensures, c.push_reserved.ensures.len, before.list.ok.0) in
    subst (λ v. Puts v (filed_shifts more (set before.places c.from.result c.len.result)) c.args.x.now) c.self.view_is
    (puts_more before.list.items before.places c.self.invariant.0 c.args.x.now (inside at) (fresh at) more c.from.result c.len.result c.push_reserved.ensures.items c.from.ensures count)
