use Rattle.std.proofs.Common.{◌≡◌, [], ◌∷◌, ◌++◌, List, arith, refl, sym, subst, ap, ◌∙◌}
use Rattle.lattice_algebra.specs.Operator.{Operator, identity_operator}
use Rattle.group_closure.specs.Buckets.{IsFiled}
use Rattle.group_closure.proofs.UnderWay.{identity_made}
use Rattle.group_closure.proofs.closing.Making.begin.Goals as goal

one_pushed : {X : Type 0} (old new : List X) (x : X) → new ≡ old ++ x ∷ [] → old ≡ [] → new ≡ x ∷ []
one_pushed old new x e n = e ∙ ap (λ v. v ++ x ∷ []) n

pub add-requires-clause-filed : goal.add-requires-clause-filed
add-requires-clause-filed c =
    subst (λ v. IsFiled v c.new-buckets.result) (sym (c.deref.ensures.value ∙ c.requires.members)) c.new-buckets.ensures

pub returns-clause-ready : goal.returns-clause-ready
returns-clause-ready c =
    let m : c.push_reserved.new.self.items ≡ identity_operator ∷ [] = one_pushed _ _ _ c.push_reserved.ensures.items c.requires.members ∙ ap (λ (f : Operator). f ∷ []) c.identity-2.ensures in
    let e : c.deref.result.now ++ c.identity.result ∷ [] ≡ c.push_reserved.new.self.items = one_pushed _ _ _ refl (c.deref.ensures.value ∙ c.requires.members) ∙ ap (λ (f : Operator). f ∷ []) c.identity.ensures ∙ sym m in
    record {
      made = identity_made _ _ _ c.requires.generators m (one_pushed _ _ _ c.push_reserved-2.ensures.items c.requires.origins) (one_pushed _ _ _ c.push_reserved-3.ensures.items c.requires.products);
      filed = subst (λ v. IsFiled v c.add.new.self) e c.add.ensures;
      room = record {
        generators = c.requires.room.generators;
        members = omega (arith, c.requires.room.members, c.push_reserved.ensures.capacity);
        origins = omega (arith, c.requires.room.origins, c.push_reserved-2.ensures.capacity);
        products = omega (arith, c.requires.room.products, c.push_reserved-3.ensures.capacity);
      };
    }
