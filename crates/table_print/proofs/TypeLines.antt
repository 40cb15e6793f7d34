-- Each member of a group has one line of its type.
use Rattle.std.proofs.Common.{◌≡◌, ◌↔◌, ◌∷◌, ◌++◌, [], ℕ, ℤ, pos, ◌*ℤ◌, ◌<ℤ◌, Bool, IsTrue, List, Option, Some, None, IsSome, IfSome, slice_get, Contains, refl, sym, ap, ap₂, ◌∙◌, append_assoc}
use Rattle.std.proofs.lemmas.Bool.{false≢true}
use Rattle.std.specs.Option.{option_map}
use Rattle.lattice_algebra.specs.Operator.{Operator}
use lib.IntN.{*ℤ_comm}
use Rattle.lattice_algebra.specs.Matrix.{Matrix, Column, column_of, times}
use Rattle.lattice_algebra.specs.Powers.{IsOrder}
use Rattle.group_closure.specs.GroupList.{IsGroup}
use Rattle.op_types.specs.ProperPart.{IsProper, IsProperPart}
use Rattle.op_types.specs.IntrinsicPart.{IsIntrinsicPart}
use Rattle.op_types.specs.Axis.{IsLine, IsAxis}
use Rattle.op_types.specs.Types.{OperationType, IsTypeOf, HasAxis}
use Rattle.op_types.proofs.OneType.{one_type}
use Rattle.op_types.proofs.SomeType.{some_type}
use Rattle.triplet_text.specs.Bytes.{comma, space, line_feed}
use Rattle.triplet_text.specs.Fractions.{frac_text}
use Rattle.triplet_text.specs.Printing.{operator_text}
use Rattle.triplet_text.proofs.LowestTerms.{one_text}
use Rattle.table_print.specs.Operators.{IsOperatorLine}
use Rattle.table_print.specs.Types.{IsTypeLine, type_line, kind_text, part_text}

pub one_operator_line : (f : Operator) (l m : List ℕ) → IsOperatorLine f l → IsOperatorLine f m → l ≡ m
one_operator_line f l m p q = p ∙ sym q

pub some_operator_line : (members : List Operator) (f : Operator) → Contains members f → (line : List ℕ) × IsOperatorLine f line
some_operator_line members f c = (operator_text f ++ line_feed ∷ [], refl)

-- three texts that were added with commas between them
three_added : (l a b c : List ℕ) → ((((l ++ a) ++ comma ∷ []) ++ b) ++ comma ∷ []) ++ c ≡ l ++ (a ++ comma ∷ b ++ comma ∷ c)
three_added l a b c = simp append_assoc

pub three_pushed : (l l1 l2 l3 l4 l5 a b c u v w : List ℕ) → l1 ≡ l ++ a → l2 ≡ l1 ++ comma ∷ [] → l3 ≡ l2 ++ b → l4 ≡ l3 ++ comma ∷ [] → l5 ≡ l4 ++ c → a ≡ u → b ≡ v → c ≡ w → l5 ≡ l ++ (u ++ comma ∷ v ++ comma ∷ w)
three_pushed l l1 l2 l3 l4 l5 a b c u v w e1 e2 e3 e4 e5 f g h = let all = three_added l a b c in cc

-- four texts that were added with spaces between them, and the end of the line
line_added : (l o k p a : List ℕ) → (((((((l ++ o) ++ space ∷ []) ++ k) ++ space ∷ []) ++ p) ++ space ∷ []) ++ a) ++ line_feed ∷ [] ≡ l ++ (o ++ space ∷ k ++ space ∷ p ++ space ∷ a ++ line_feed ∷ [])
line_added l o k p a = simp append_assoc

pub line_pushed : (l l1 l2 l3 l4 l5 l6 l7 l8 o k p a u : List ℕ) → l1 ≡ l ++ o → l2 ≡ l1 ++ space ∷ [] → l3 ≡ l2 ++ k → l4 ≡ l3 ++ space ∷ [] → l5 ≡ l4 ++ p → l6 ≡ l5 ++ space ∷ [] → l7 ≡ l6 ++ a → l8 ≡ l7 ++ line_feed ∷ [] → o ≡ u
    → l8 ≡ l ++ (u ++ space ∷ k ++ space ∷ p ++ space ∷ a ++ line_feed ∷ [])
line_pushed l l1 l2 l3 l4 l5 l6 l7 l8 o k p a u e1 e2 e3 e4 e5 e6 e7 e8 f = let all = line_added l o k p a in cc

pub same_member : (f g : Operator) → Some f ≡ Some g → f ≡ g
same_member f g e = cc

-- ---- the three answers together

has_axis : (p : Matrix) (axis : Option (List ℤ)) → (IsSome axis ↔ IsLine p) → IfSome axis (λ a. IsAxis p (column_of a)) → HasAxis p (option_map column_of axis)
has_axis p None some value = λ l. false≢true (some.1 l)
has_axis p (Some a) some value = value

abbrev pub type_of : ℕ → Bool → List ℤ → ℤ → Option (List ℤ) → OperationType
type_of order proper n d axis = record { order = order; proper = proper; part = column_of n; denominator = d; axis = option_map column_of axis }

-- what is said of the operator at place i
module _ (members : List Operator) (i : ℕ) where
  abbrev Each : (Operator → Type 0) → Type 0
  Each P = (f : Operator) → slice_get members i ≡ Some f → P f

  pub is_type_of : (order : ℕ) (proper : Bool) (n : List ℤ) (d : ℤ) (axis : Option (List ℤ)) → Each (λ f. IsTrue proper ↔ IsProper f.w) → Each (λ f. (p : Matrix) → IsProperPart f.w p → IsOrder p order) → Each (λ f. IsIntrinsicPart f (column_of n) d)
      → Each (λ f. (p : Matrix) → IsProperPart f.w p → (IsSome axis ↔ IsLine p)) → Each (λ f. (p : Matrix) → IsProperPart f.w p → IfSome axis (λ a. IsAxis p (column_of a))) → Each (λ f. IsTypeOf f (type_of order proper n d axis))
  is_type_of order proper n d axis handed turns part some value f is = record {
    handedness = handed f is;
    order = turns f is;
    part = part f is;
    axis = λ p h. has_axis p axis (some f is p h) (value f is p h);
  }

-- ---- one line

one_fraction : (n m d e : ℤ) → pos 0 <ℤ d → pos 0 <ℤ e → d *ℤ m ≡ e *ℤ n → frac_text n d ≡ frac_text m e
one_fraction n m d e p q h = one_text n m d e p q (*ℤ_comm n e ∙ sym h ∙ *ℤ_comm d m)

same_part : (n m : Column) (d e : ℤ) → pos 0 <ℤ d → pos 0 <ℤ e → times d m ≡ times e n → part_text n d ≡ part_text m e
unfolding times
same_part n m d e p q h =
    let x = one_fraction n.x m.x d e p q (ap (λ (c : Column). c.x) h) in
    let y = one_fraction n.y m.y d e p q (ap (λ (c : Column). c.y) h) in
    let z = one_fraction n.z m.z d e p q (ap (λ (c : Column). c.z) h) in
    cc

same_line : (f : Operator) (s t : OperationType) → kind_text s.order s.proper ≡ kind_text t.order t.proper → part_text s.part s.denominator ≡ part_text t.part t.denominator → s.axis ≡ t.axis → type_line f s ≡ type_line f t
same_line f s t kind part axis = cc

pub one_type_line : (f : Operator) (l m : List ℕ) → IsTypeLine f l → IsTypeLine f m → l ≡ m
one_type_line f l m p q =
    let s = p.0 in
    let t = q.0 in
    let a = one_type f s t p.1 q.1 in
    p.2 ∙ same_line f s t (ap₂ kind_text a.order a.proper) (same_part s.part t.part s.denominator t.denominator p.1.part.positive q.1.part.positive a.part) a.axis ∙ sym q.2

pub some_type_line : (members : List Operator) (f : Operator) → IsGroup members → Contains members f → (line : List ℕ) × IsTypeLine f line
some_type_line members f g c =
    let t = some_type members f g c in
    (type_line f t.0, (t.0, t.1, refl))
