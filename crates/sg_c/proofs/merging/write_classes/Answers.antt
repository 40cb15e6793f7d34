use Rattle.std.proofs.Common.{◌≡◌, ◌≢◌, ℕ, ◌<◌, ◌+◌, ◌∙◌, Some, List, length, get_or, slice_get, inl, inr, sym, subst, arith}
use Rattle.std.proofs.Math.ListN.{set}
use Rattle.std.proofs.lemmas.Bool.{cases_lt}
use Rattle.std.proofs.lemmas.List.{get_or-set_same, get_or-set_other, length-set}
use Rattle.std.proofs.lemmas.Option.{slice_get-get_or}
use Rattle.refl_merge.specs.declared.merged.MergedLine.{MergedLine}
use Rattle.sg_c.specs.declared.merging.MergedClass.{MergedClass}
use Rattle.sg_c.specs.Merging.{IsClassAs}
use Rattle.sg_c.proofs.merging.write_classes.Goals as goal

one_more : (lines : List MergedLine) (classes : List MergedClass) (i : ℕ) (x : MergedClass) → length classes ≡ length lines → i < length lines
    → ((k : ℕ) (m : MergedLine) (c : MergedClass) → k < i → IsClassAs (get_or lines k m) (get_or classes k c)) → ((line : MergedLine) → slice_get lines i ≡ Some line → IsClassAs line x)
    → (k : ℕ) (m : MergedLine) (c : MergedClass) → k < i + 1 → IsClassAs (get_or lines k m) (get_or (set classes i x) k c)
one_more lines classes i x e within each here k m c less = elim (cases_lt k i) [
  | inl before ↦
      let other : k ≢ i = λ same. absurd (omega arith) in
      subst (λ (class : MergedClass). IsClassAs (get_or lines k m) class) (sym (get_or-set_other classes i k x c other)) (each k m c before)
  | inr behind ↦
      let same : i ≡ k = omega arith in
      let now : IsClassAs (get_or lines i m) (get_or (set classes i x) i c) =
      subst (λ (class : MergedClass). IsClassAs (get_or lines i m) class) (sym (get_or-set_same classes i x c (omega arith))) (here (get_or lines i m) (slice_get-get_or lines i m within)) in
      subst (λ (j : ℕ). IsClassAs (get_or lines j m) (get_or (set classes i x) j c)) same now
]

pub loop-i-preserved : goal.loop-i-preserved
loop-i-preserved c =
    let was = c.loop-i.invariant in
    record {
      counted = length-set c.loop-i.classes c.loop-i.i c.class_at.result ∙ was.counted;
      each = one_more c.args.merged.now c.loop-i.classes c.loop-i.i c.class_at.result was.counted (omega arith) was.each c.class_at.ensures;
    }
