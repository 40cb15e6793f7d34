-- Being conjugate is an equivalence relation, and points of one orbit are conjugate.
use Rattle.std.proofs.Common.{◌≡◌, List, ap, sym, ◌∙◌, subst}
use Rattle.lattice_algebra.specs.Operator.{Operator}
use Rattle.lattice_algebra.specs.Map.{Map, ◌∘◌, AreInverse, identity_map}
use Rattle.lattice_algebra.specs.Point.{Point, IsPoint, image}
use Rattle.lattice_algebra.proofs.Maps.{∘_assoc, ∘-identity, identity-∘}
use Rattle.lattice_algebra.proofs.Points.{IsPoint-image}
use Rattle.exact_ops.specs.declared.TheConstants.{UNIT}
use Rattle.exact_ops.proofs.Narrow.{some_parts}
use Rattle.group_closure.specs.GroupList.{IsGroup}
use Rattle.space_groups.specs.Space.{IsElement, IsInSite, IsInOrbit, AreConjugate}
use Rattle.space_groups.proofs.Elements.{SpaceGroup, space, undo_in}
use Rattle.space_groups.proofs.Points.{one_inverse}
use Rattle.space_groups.proofs.Laws.{conjugate_by_members, same_site}
use Rattle.site_symmetry.proofs.SpaceOfGroup.{space_of}

-- g (h s g) h is s, where g undoes h
there_and_back : (g h s : Map) → AreInverse g h → g ∘ (h ∘ s ∘ g) ∘ h ≡ s
there_and_back g h s i =
    ap (λ v. v ∘ h) (sym (∘_assoc g (h ∘ s) g) ∙ ap (λ v. v ∘ g) (sym (∘_assoc g h s) ∙ ap (λ v. v ∘ s) i.right ∙ identity-∘ s))
    ∙ ∘_assoc s g h ∙ ap (λ v. s ∘ v) i.right ∙ ∘-identity s

-- (g f) s (k h) is g (f s k) h
in_two_steps : (g f s k h : Map) → g ∘ (f ∘ s ∘ k) ∘ h ≡ (g ∘ f) ∘ s ∘ (k ∘ h)
in_two_steps g f s k h = ap (λ v. v ∘ h) (sym (∘_assoc g (f ∘ s) k) ∙ ap (λ v. v ∘ k) (sym (∘_assoc g f s))) ∙ ∘_assoc ((g ∘ f) ∘ s) k h

-- (g f) (h k) is the identity, where f undoes h, and g undoes k
undone : (g f h k : Map) → f ∘ h ≡ identity_map → g ∘ k ≡ identity_map → (g ∘ f) ∘ (h ∘ k) ≡ identity_map
undone g f h k p q = sym (∘_assoc (g ∘ f) h k) ∙ ap (λ v. v ∘ k) (∘_assoc g f h ∙ ap (λ v. g ∘ v) p ∙ ∘-identity g) ∙ q

module _ (members : List Operator) (group : IsGroup members) where
  abbrev L : SpaceGroup
  L = space_of members group

  pub conjugate_itself : (x : Point) → AreConjugate UNIT members x x
  conjugate_itself x = record {
    by = identity_map;
    back = identity_map;
    element = (space L).one_in;
    inverse = record { left = identity-∘ identity_map; right = identity-∘ identity_map };
    exactly = λ s m.
        let e : s ≡ identity_map ∘ s ∘ identity_map = sym (∘-identity (identity_map ∘ s) ∙ identity-∘ s) in
        ((λ h. subst (IsInSite UNIT members x) e h), (λ h. subst (IsInSite UNIT members x) (sym e) h));
  }

  back_in : (x y : Point) (c : AreConjugate UNIT members x y) → IsElement UNIT members c.back
  back_in x y c = subst (IsElement UNIT members) (sym (one_inverse L c.by c.back c.element c.inverse)) (undo_in L c.by c.element)

  pub conjugate_back : (x y : Point) → AreConjugate UNIT members x y → AreConjugate UNIT members y x
  conjugate_back x y c = record {
    by = c.back;
    back = c.by;
    element = back_in x y c;
    inverse = record { left = c.inverse.right; right = c.inverse.left };
    exactly = λ s m.
        let t : Map = c.back ∘ s ∘ c.by in
        let k = c.exactly t ((space L).mul_in (c.back ∘ s) c.by ((space L).mul_in c.back s (back_in x y c) m) c.element) in
        let e = there_and_back c.by c.back s c.inverse in
        ((λ h. k.1 (subst (IsInSite UNIT members y) (sym e) h)), (λ h. subst (IsInSite UNIT members y) e (k.0 h)));
  }

  pub conjugate_on : (x y z : Point) → AreConjugate UNIT members x y → AreConjugate UNIT members y z → AreConjugate UNIT members x z
  conjugate_on x y z c d = record {
    by = d.by ∘ c.by;
    back = c.back ∘ d.back;
    element = (space L).mul_in d.by c.by d.element c.element;
    inverse = record { left = undone c.back d.back d.by c.by d.inverse.left c.inverse.left; right = undone d.by c.by c.back d.back c.inverse.right d.inverse.right };
    exactly = λ s m.
        let t : Map = c.by ∘ s ∘ c.back in
        let k = c.exactly s m in
        let j = d.exactly t ((space L).mul_in (c.by ∘ s) c.back ((space L).mul_in c.by s c.element m) (back_in x y c)) in
        let e = in_two_steps d.by c.by s c.back d.back in
        ((λ h. subst (IsInSite UNIT members z) e (j.0 (k.0 h))), (λ h. k.1 (j.1 (subst (IsInSite UNIT members z) (sym e) h))));
  }

  pub conjugate_of_orbit : (x p : Point) → IsPoint x → IsPoint p → IsInOrbit UNIT members x p → AreConjugate UNIT members x p
  conjugate_of_orbit x p px pp o = (conjugate_by_members L x p px pp).1 (o.by, o.element, λ f m s e. same_site L (image UNIT o.by x) p (IsPoint-image UNIT some_parts o.by x px) pp o.is_image s)
