-- The lines decide the answer: what is read is one list, and the first bad line is one line, of one kind.
use Rattle.std.proofs.Common.{◌≡◌, ℕ, List, [], ◌∷◌, inl, inr, sym, subst, arith}
use Rattle.std.specs.List.{All}
use Rattle.std.proofs.lemmas.List.Elements.{All-nil, All-cons}
use Rattle.lattice_algebra.specs.Matrix.{IsUnimodular}
use Rattle.lattice_algebra.specs.Operator.{Operator, IsOperator, AreParts}
use Rattle.exact_ops.specs.declared.TheConstants.{UNIT}
use Rattle.triplet_text.specs.Lines.{IsRead, AreRead, end, skipped, read, IsFirstBad, IsUnreadable, IsNotUnimodular}
use Rattle.lattice_algebra.proofs.Remainders.{modulo_parts}
use Rattle.triplet_text.proofs.GrammarLaw.{one_operator}
use Rattle.triplet_text.proofs.SaidLines as said
use Rattle.triplet_text.proofs.SaidLines.{AreBadLines, SayOneThing}

-- ---- a line is of one kind

-- no good line is one of these
abbrev pub AreBad : (List ℕ → Type 0) → Type 0
AreBad = AreBadLines IsRead

pub unreadable_are_bad : AreBad IsUnreadable
unreadable_are_bad line (inl s) u = absurd (u.kept s)
unreadable_are_bad line (inr r) u = u.no_triplet r.0 r.1.triplet

pub not_unimodular_are_bad : AreBad IsNotUnimodular
not_unimodular_are_bad line (inl s) n = absurd (n.kept s)
not_unimodular_are_bad line (inr r) n = n.not_unimodular (subst (λ (f : Operator). IsUnimodular f.w) (one_operator line r.0 n.operator r.1.triplet n.triplet) r.1.unimodular)

-- ---- so the answer is one

triplets_say_one_thing : SayOneThing IsRead
triplets_say_one_thing = record { kept = λ line f r. r.kept; one = λ line f g r s. one_operator line f g r.triplet s.triplet }

-- where every line is good, none is the first bad one
pub none_bad : (Bad : List ℕ → Type 0) (lines : List (List ℕ)) (list : List Operator) (k : ℕ) → AreBad Bad → AreRead lines list → IsFirstBad Bad lines k → ⊥
none_bad Bad = said.none_bad IsRead Bad 1

-- two first bad lines have one number, and are one line
pub same_place : (Bad Other : List ℕ → Type 0) (lines : List (List ℕ)) (j k : ℕ) → AreBad Bad → AreBad Other → (f : IsFirstBad Bad lines j) → (g : IsFirstBad Other lines k) → (j ≡ k) × (f.line ≡ g.line)
same_place Bad Other = said.same_place IsRead Bad Other 1

pub same_list : (lines : List (List ℕ)) (a b : List Operator) → AreRead lines a → AreRead lines b → a ≡ b
same_list = said.same_list IsRead triplets_say_one_thing

pub unreadable_or_not_unimodular : (line : List ℕ) → IsUnreadable line → IsNotUnimodular line → ⊥
unreadable_or_not_unimodular line u n = u.no_triplet n.operator n.triplet

pub both_kinds : (lines : List (List ℕ)) (j k : ℕ) → IsFirstBad IsUnreadable lines j → IsFirstBad IsNotUnimodular lines k → ⊥
both_kinds lines j k f g =
    let e = (same_place IsUnreadable IsNotUnimodular lines j k unreadable_are_bad not_unimodular_are_bad f g).1 in
    unreadable_or_not_unimodular g.line (subst IsUnreadable e f.bad) g.bad

-- ---- what is read is an operator

operator_of_line : (line : List ℕ) (f : Operator) → IsRead line f → IsOperator UNIT f
operator_of_line line f r = record { unimodular = r.unimodular; in_cell = subst (AreParts UNIT) (sym r.triplet.sums.translation) (modulo_parts UNIT (omega arith) _) }

pub read_are_operators : (lines : List (List ℕ)) (list : List Operator) → AreRead lines list → All (IsOperator UNIT) list
read_are_operators [] [] end = All-nil (IsOperator UNIT)
read_are_operators [] (f ∷ list) x = elim x [ ]
read_are_operators (line ∷ lines) list (skipped s more) = read_are_operators lines list more
read_are_operators (line ∷ lines) (f ∷ list) (read r more) = All-cons (IsOperator UNIT) f list (operator_of_line line f r) (read_are_operators lines list more)
