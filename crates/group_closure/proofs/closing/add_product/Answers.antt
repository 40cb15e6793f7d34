use Rattle.std.proofs.Common.{◌≡◌, ◌<◌, ◌≤◌, List, [], ◌∷◌, Some, Contains, length, length-append, arith, refl, ap, subst, inl, inr, slice_get, OnOk, IfOk, Result, Ok, Err}
use Rattle.std.proofs.lemmas.Result.{on_err_weaker}
use Rattle.lattice_algebra.specs.Operator.{Operator, product}
use Rattle.exact_ops.specs.declared.TheConstants.{UNIT}
use Rattle.group_closure.specs.declared.TheConstants.{MAX_OPERATORS}
use Rattle.group_closure.specs.declared.closing.Origin.{Origin}
use Rattle.group_closure.specs.Origins.{AddsMade}
use Rattle.group_closure.proofs.closing.add_product.Goals as goal

always_ok : {A B : Type 0} (r : Result A B) (P : Type 0) → P → OnOk r P
always_ok (Ok a) P p = p
always_ok (Err b) P p = tt

pub returns-in_default-clause-refused : goal.returns-in_default-clause-refused
returns-in_default-clause-refused c = inl (λ h. let e = c.in_default.ensures.some.1 h in cc)

pub returns-clause-adds : goal.returns-clause-adds
returns-clause-adds c = always_ok c.add_made.result _ (subst (λ (v : Operator). AddsMade c.args.members.now.items c.args.origins.now.items v c.args.origin c.add_made.new.members.items c.add_made.new.origins.items) c.in-Some.ensures.value c.add_made.ensures.adds)

pub returns-clause-narrow : goal.returns-clause-narrow
returns-clause-narrow c = always_ok c.add_made.result _ (c.in-Some.ensures.some.0 refl)

pub returns-clause-place : goal.returns-clause-place
returns-clause-place c = subst (λ (v : Operator). IfOk c.add_made.result (λ k. slice_get c.add_made.new.members.items k ≡ Some v)) c.in-Some.ensures.value c.add_made.ensures.place

-- what makes the list too long was not in it
full : (old : List Operator) (origins : List Origin) (op : Operator) (origin : Origin) (new : List Operator) (more : List Origin) → AddsMade old origins op origin new more → length old ≤ MAX_OPERATORS → MAX_OPERATORS < length new → (Contains old op → ⊥) × (MAX_OPERATORS ≤ length old)
full old origins op origin new more (inl h) l m = absurd (omega (arith, l, m, ap length h.1))
full old origins op origin new more (inr h) l m = (h.0, omega (arith, m, ap length h.1, length-append old (op ∷ [])))

pub returns-clause-refused : goal.returns-clause-refused
returns-clause-refused c =
    on_err_weaker c.add_made.result
    (λ m. inr (full c.args.members.now.items c.args.origins.now.items (product UNIT c.args.member.now c.args.generator.now) c.args.origin c.add_made.new.members.items c.add_made.new.origins.items
    (subst (λ (v : Operator). AddsMade c.args.members.now.items c.args.origins.now.items v c.args.origin c.add_made.new.members.items c.add_made.new.origins.items) c.in-Some.ensures.value c.add_made.ensures.adds) (omega (arith, c.requires.within)) (omega (arith, m))))
    c.add_made.ensures.beyond
