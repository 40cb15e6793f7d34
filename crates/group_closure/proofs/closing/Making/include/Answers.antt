use Rattle.std.proofs.Common.{◌≡◌, ◌<◌, [], ◌∷◌, ◌++◌, length, arith, sym, subst, ap, ◌∙◌, All, Contains, length-append}
use Rattle.std.proofs.lemmas.Bool.{true≢false}
use Rattle.std.proofs.lemmas.List.Elements.{Contains-get_or}
use Rattle.std.proofs.lemmas.Result.{err_from_is_err_and}
use Rattle.group_closure.specs.Words.{IsUnclosed}
use Rattle.group_closure.specs.Making.{IsUnderWay}
use Rattle.group_closure.specs.Origins.{AreProducts}
use Rattle.group_closure.proofs.Growing.{extends_refl, extends_trans, longer, all_kept, generated_has}
use Rattle.group_closure.proofs.UnderWay.{under_way, ready_again}
use Rattle.group_closure.proofs.closing.Making.include.Goals as goal

pub returns-then-is_some-clause-member : goal.returns-then-is_some-clause-member
returns-then-is_some-clause-member c = subst (λ v. Contains v c.args.op) c.deref.ensures.value (c.find.ensures.some.0 (sym c.is_some.ensures ∙ c.if-is_some.true))

pub returns-then-is_some-clause-extends : goal.returns-then-is_some-clause-extends
returns-then-is_some-clause-extends c = extends_refl c.args.self.now.members.items

pub returns-then-is_some-clause-generators : goal.returns-then-is_some-clause-generators
returns-then-is_some-clause-generators c = all_kept c.args.self.now.generators.items (c.args.op ∷ [])

pub widen-requires-clause-state : goal.widen-requires-clause-state
widen-requires-clause-state c =
    subst (λ v. IsUnderWay v c.args.self.now.members.items c.args.self.now.origins.items c.args.buckets.now) (sym c.deref-2.ensures.value) (under_way c.args.self.now c.args.buckets.now c.requires.ready.made c.requires.ready.filed)

pub widen-requires-clause-products : goal.widen-requires-clause-products
widen-requires-clause-products c = subst (λ v. AreProducts v c.args.self.now.members.items c.args.self.now.products.items) (sym c.deref-2.ensures.value) c.requires.ready.made.products

pub widen-requires-clause-few : goal.widen-requires-clause-few
widen-requires-clause-few c =
    let m = c.requires.ready.made in
    omega (arith, ap length c.deref-2.ensures.value, m.few, m.generated.within)

pub returns-in_err-widen-clause-unclosed : goal.returns-in_err-widen-clause-unclosed
returns-in_err-widen-clause-unclosed c =
    let p = err_from_is_err_and c.from_residual.result c.from_residual.ensures.1 in
    rw p.1 (subst (λ v. IsUnclosed (v ++ c.args.op ∷ [])) c.deref-2.ensures.value c.in_err-widen.ensures.unclosed)

pub push_reserved-requires : goal.push_reserved-requires
push_reserved-requires c =
    let m = c.requires.ready.made in
    omega (arith, m.few, m.generated.within, c.requires.ready.room.generators)

pub returns-in_err-generate-clause-unclosed : goal.returns-in_err-generate-clause-unclosed
returns-in_err-generate-clause-unclosed c =
    let p = err_from_is_err_and c.from_residual-in_err-generate.result c.from_residual-in_err-generate.ensures.1 in
    rw p.1 (subst IsUnclosed (c.deref-3.ensures.value ∙ c.push_reserved.ensures.items) c.in_err-generate.ensures.unclosed)

pub generate-requires-clause-state : goal.generate-requires-clause-state
generate-requires-clause-state c =
    let e : c.deref-2.result.now ++ c.args.op ∷ [] ≡ c.deref-3.result.now = ap (λ v. v ++ c.args.op ∷ []) c.deref-2.ensures.value ∙ sym c.push_reserved.ensures.items ∙ sym c.deref-3.ensures.value in
    subst (λ v. IsUnderWay v c.widen.new.members.items c.widen.new.origins.items c.widen.new.buckets) e c.in_ok-widen.ensures.state

pub generate-requires-clause-products : goal.generate-requires-clause-products
generate-requires-clause-products c =
    let e : c.deref-2.result.now ++ c.args.op ∷ [] ≡ c.deref-3.result.now = ap (λ v. v ++ c.args.op ∷ []) c.deref-2.ensures.value ∙ sym c.push_reserved.ensures.items ∙ sym c.deref-3.ensures.value in
    subst (λ v. AreProducts v c.widen.new.members.items c.widen.new.products.items) e c.in_ok-widen.ensures.products

pub returns-clause-ready : goal.returns-clause-ready
returns-clause-ready c =
    let m = c.requires.ready.made in
    let r = c.in_ok-generate.ensures in
    let e = c.deref-3.ensures.value ∙ c.push_reserved.ensures.items in
    let x = extends_trans c.args.self.now.members.items c.widen.new.members.items c.generate.new.members.items c.in_ok-widen.ensures.extends r.extends in
    let has = generated_has c.deref-3.result.now c.args.self.now.generators.items c.generate.new.members.items c.args.op r.ok e c.requires.narrow in
    let l = longer c.args.self.now.members.items c.generate.new.members.items c.args.op x has (λ h. let s = c.find.ensures.some.1 (subst (λ v. Contains v c.args.op) (sym c.deref.ensures.value) h) in true≢false (sym s ∙ sym c.is_some.ensures ∙ c.if-is_some.false)) in
    let few : length c.deref-3.result.now < length c.generate.new.members.items = omega (arith, ap length e, length-append c.args.self.now.generators.items (c.args.op ∷ []), m.few, l) in
    let all : length c.generate.new.products.items ≡ length c.generate.new.members.items = omega (arith, r.all) in
    ready_again _ c.generate.new.buckets c.deref-3.result.now c.deref-3.ensures.value r.state r.ok r.products all few (record {
      generators = omega (arith, c.push_reserved.ensures.capacity, c.requires.ready.room.generators);
      members = omega (arith, c.widen.ensures.capacity, c.generate.ensures.capacity, c.requires.ready.room.members);
      origins = omega (arith, c.widen.ensures.capacity_origins, c.generate.ensures.capacity_origins, c.requires.ready.room.origins);
      products = omega (arith, c.widen.ensures.capacity_products, c.generate.ensures.capacity_products, c.requires.ready.room.products);
    })

pub returns-clause-member : goal.returns-clause-member
returns-clause-member c = generated_has c.deref-3.result.now c.args.self.now.generators.items c.generate.new.members.items c.args.op c.in_ok-generate.ensures.ok (c.deref-3.ensures.value ∙ c.push_reserved.ensures.items) c.requires.narrow

pub returns-clause-extends : goal.returns-clause-extends
returns-clause-extends c = extends_trans c.args.self.now.members.items c.widen.new.members.items c.generate.new.members.items c.in_ok-widen.ensures.extends c.in_ok-generate.ensures.extends

pub returns-clause-generators : goal.returns-clause-generators
returns-clause-generators c =
    let all = c.args.self.now.generators.items ++ c.args.op ∷ [] in
    subst (All (Contains all)) (sym c.push_reserved.ensures.items) (λ k d l. Contains-get_or all k d l)
