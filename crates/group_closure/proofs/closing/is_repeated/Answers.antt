use Rattle.std.proofs.Common.{◌≡◌, ℤ, List, Some, sym, ap₂, ◌∙◌}
use Rattle.std.proofs.Math.Bool.{and-eq-true_iff}
use Rattle.std.specs.Cmp.Rules.{signed_items}
use Rattle.exact_ops.specs.Raw.{numbers_of}
use Rattle.group_closure.proofs.closing.is_repeated.Goals as goal

same_numbers : (w v t u : List ℤ) → w ≡ v → t ≡ u → Some (numbers_of w t) ≡ Some (numbers_of v u)
same_numbers w v t u p q = ap₂ (λ a b. Some (numbers_of a b)) p q

pub returns-then-k-gt0 : goal.returns-then-k-gt0
returns-then-k-gt0 c = λ t.
    let a = c.get.result in
    let b = c.get-then-k-gt0.result in
    let s = (and-eq-true_iff _ _).0 (sym c.eq.ensures ∙ t) in
    (c.if-k-gt0.true, c.get.ensures ∙ same_numbers a.w b.w a.t b.t ((signed_items a.w b.w).0 s.0) ((signed_items a.t b.t).0 s.1) ∙ sym c.get-then-k-gt0.ensures)
