-- Runs of members with one rotation part.
use Rattle.std.proofs.Common.{◌≡◌, ℕ, zero, suc, ◌+◌, ◌-◌, ◌≤◌, Some, List, length, take, slice_get, sym, ◌∙◌, subst, arith, false}
use Rattle.std.proofs.lemmas.Bool.{false≢true}
use Rattle.lattice_algebra.specs.Operator.{Operator}
use Rattle.group_closure.proofs.Places.{some_at, EndsRun, same_matrix}
use Rattle.phase_rules.specs.declared.tallies.Turn.{Turn}
use Rattle.phase_rules.specs.declared.tallies.Tally.{Tally}
use Rattle.phase_rules.specs.Rows.{Row, ◌·ʳ◌}
use Rattle.phase_rules.specs.Tallies.{IsTurn, AreTurned, IsTally}
use Rattle.phase_rules.proofs.Phases.{half_other, whole_other, tally_more}

-- what the first of a run does, all of it do
pub turned : (members : List Operator) (h : Row) (i end : ℕ) (f : Operator) (found : Turn) → EndsRun members i end → slice_get members i ≡ Some f → IsTurn h (h ·ʳ f.w) found → AreTurned members h i end found
turned members h i end f found e p t k g l m q = subst (λ w. IsTurn h (h ·ʳ w) found) (sym (same_matrix members i end k f g e p q l m)) t

-- members that neither fix nor reverse h change nothing
passed_by : (members : List Operator) (h : Row) (i n : ℕ) (found : Turn) (t : Tally) → i + n ≤ length members → AreTurned members h i (i + n) found → found.fixes ≡ false → found.reverses ≡ false
    → IsTally (take i members) h t → IsTally (take (i + n) members) h t
passed_by members h i zero found t l a p q w = subst (λ k. IsTally (take k members) h t) (omega arith) w
passed_by members h i (suc n) found t l a p q w =
    let s = some_at members (i + n) (omega arith) in
    let f = s.0 in
    let turn = a (i + n) f (omega arith) (omega arith) s.1 in
    let before : IsTally (take (i + n) members) h t = passed_by members h i n found t (omega arith) (λ k g b c d. a k g b (omega arith) d) p q w in
    subst (λ k. IsTally (take k members) h t) (omega arith)
    (tally_more members h (i + n) f t s.1
    (whole_other (take (i + n) members) h f t
    (half_other (take (i + n) members) h f t before (λ e. false≢true (sym p ∙ turn.fixes.1 e)))
    (λ e. false≢true (sym q ∙ turn.reverses.1 e))))

pub passed : (members : List Operator) (h : Row) (i end : ℕ) (found : Turn) (t : Tally) → i ≤ end → end ≤ length members → AreTurned members h i end found → found.fixes ≡ false → found.reverses ≡ false
    → IsTally (take i members) h t → IsTally (take end members) h t
passed members h i end found t l m a p q w =
    let e : i + (end - i) ≡ end = omega arith in
    subst (λ k. IsTally (take k members) h t) e (passed_by members h i (end - i) found t (omega arith) (λ k f b c d. a k f b (omega arith) d) p q w)
