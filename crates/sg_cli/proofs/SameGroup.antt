-- Lists of operators that generate one group close to the same members, or do not close: so they have one answer, and one text.
use Rattle.std.proofs.Common.{◌≡◌, ◌≤◌, ℕ, List, length, inl, inr, sym, subst, ◌∙◌, arith}
use Rattle.std.proofs.lemmas.List.Elements.{All-weaker}
use Rattle.lattice_algebra.specs.Operator.{Operator}
use Rattle.lattice_algebra.specs.Point.{Point, IsPoint}
use Rattle.triplet_text.specs.Lines.{lines_of}
use Rattle.group_closure.specs.Words.{Span, Closes, IsUnclosed}
use Rattle.group_closure.specs.GroupList.{IsGroupList, IsGroup}
use Rattle.group_closure.proofs.Lists.{one_list, group_of_closing}
use Rattle.phase_rules.specs.declared.pairs.Pairs.{Pairs}
use Rattle.reflections.specs.Boxes.{Box}
use Rattle.table_print.specs.Rows.{IsRowsText}
use Rattle.table_print.specs.Table.{IsTableText}
use Rattle.table_print.proofs.TablePages.{one_table_text}
use Rattle.sg_cli.specs.declared.TheConstants.{MAX_INPUT}
use Rattle.sg_cli.specs.declared.words.Input.{Input}
use Rattle.sg_cli.specs.declared.words.Input.TheVariants.{Made}
use Rattle.sg_cli.specs.Words.{Asked, IsAsked}
use Rattle.sg_cli.specs.Inputs.{DataLines, Parts, input_for}
use Rattle.sg_cli.specs.Stages.{Outcome, Gives, Refuses, Stage, ◌>>=◌, behind, refused}
use Rattle.sg_cli.specs.Answer.{Answer, command, short, long, Listing, listed, Closing, closed, unclosed, Over, OverLines, OverInput, AnswerOver, IsAnswer}
use Rattle.sg_cli.specs.Laws.{GenerateOneGroup, HaveOneGroup, HaveOneText}
use Rattle.sg_cli.specs.Wyckoff.{IsTextOfRows, IsFitText}
use Rattle.sg_cli.proofs.Soundness.{one_listing, one_parts, one_answer}
use Rattle.sg_cli.proofs.WyckoffTexts.{one_text_of_rows, one_fit_text}

-- ---- what one group closes to

module _ (list other : List Operator) (same : GenerateOneGroup list other) where
  closes_too : Closes list → Closes other
  closes_too c = (c.0, c.1, (λ f s. c.2 f ((same f).1 s)), (λ f s. c.3 f ((same f).1 s)))

  same_group_list : (members : List Operator) → IsGroupList list members → IsGroupList other members
  same_group_list members p = record { first = p.first; span = λ f. ((λ c. (same f).0 ((p.span f).0 c)), (λ s. (p.span f).1 ((same f).1 s))); distinct = p.distinct; sorted = p.sorted }

  unclosed_too : IsUnclosed list → IsUnclosed other
  unclosed_too (inl (many, m)) = inl (many, record { spanned = All-weaker (Span list) (Span other) (λ f s. (same f).0 s) many m.spanned; distinct = m.distinct; beyond = m.beyond })
  unclosed_too (inr (f, w)) = inr (f, record { spanned = (same f).0 w.spanned; wide = w.wide })

  closing_too : (outcome : Outcome (List Operator)) → Closing list outcome → Closing other outcome
  closing_too outcome (closed {members = members} c p) = closed (closes_too c) (same_group_list members p)
  closing_too outcome (unclosed u) = unclosed (unclosed_too u)

-- ---- one answer

module _ (input : Input) (bytes others : List ℕ) (h : HaveOneGroup input bytes others) (Then : Over) where
  over_closing : (rest : DataLines) (answer : Answer) → (Closing h.list >>= λ members. Then members rest) answer → (Closing h.other >>= λ members. Then members rest) answer
  over_closing rest answer (behind {value = members} c a) = behind (closing_too h.list h.other h.same (Gives members) c) a
  over_closing rest answer (refused {fault = fault} c) = refused (closing_too h.list h.other h.same (Refuses fault) c)

  abbrev Behind : Parts → Stage (List ℕ)
  Behind parts = Listing parts.head >>= λ list. (Closing list >>= λ members. Then members parts.tail)

  -- what is listed is the list
  over_listing : (answer : Answer) → Behind h.parts answer → Behind h.other_parts answer
  over_listing answer (behind {value = value} l k) =
      let e : Gives value ≡ Gives h.list = one_listing h.parts.head (Gives value) (Gives h.list) l (listed h.read) in
      let is : value ≡ h.list = cc in
      behind (listed h.read_too) (subst (λ rest. (Closing h.other >>= λ members. Then members rest) answer) h.same_data (over_closing h.parts.tail answer (subst (λ v. (Closing v >>= λ members. Then members h.parts.tail) answer) is k)))
  over_listing answer (refused {fault = fault} l) = let e : Refuses fault ≡ Gives h.list = one_listing h.parts.head (Refuses fault) (Gives h.list) l (listed h.read) in absurd cc

  lines_too : (answer : Answer) → OverLines input (lines_of bytes) Then answer → OverLines input (lines_of others) Then answer
  lines_too answer (behind {value = parts} p k) = behind h.divided_too (over_listing answer (subst (λ q. Behind q answer) (one_parts input (lines_of bytes) parts h.parts p h.divided) k))
  lines_too answer (refused r) = absurd r

module _ (bytes others : List ℕ) (few : length bytes ≤ MAX_INPUT) (few_too : length others ≤ MAX_INPUT) (Then : Over) where
  -- what is asked of a made group is asked of no input
  input_too : (input : Input) → HaveOneGroup input bytes others → (answer : Answer) → OverInput input bytes Then answer → OverInput input others Then answer
  input_too (Made seed) h answer a = a
  input_too input h answer (behind (short s) k) = behind (short few_too) (lines_too input bytes others h Then answer k)
  input_too input h answer (refused (long l)) = absurd (omega (arith, l, few))

pub answer_of_one_group : (words : List (List ℕ)) (bytes others : List ℕ) → length bytes ≤ MAX_INPUT → length others ≤ MAX_INPUT → ((asked : Asked) → IsAsked words asked → HaveOneGroup (input_for asked) bytes others) → (a b : Answer) → IsAnswer words bytes a → IsAnswer words others b → a ≡ b
answer_of_one_group words bytes others few few_too same a b p q = one_answer words others a b (too a p) q
  where
    too : (answer : Answer) → IsAnswer words bytes answer → IsAnswer words others answer
    too answer (behind {value = asked} (command is) h) = behind (command is) (input_too bytes others few few_too (AnswerOver asked) (input_for asked) (same asked is) answer h)
    too answer (refused r) = refused r

-- ---- one text

have_one_text : (IsTextOf : List Operator → List ℕ → Type 0) → ((members : List Operator) → IsGroup members → (s t : List ℕ) → IsTextOf members s → IsTextOf members t → s ≡ t) → HaveOneText IsTextOf
have_one_text IsTextOf one list other members more same m n s t p q =
    let e = one_list other members more (same_group_list list other same members m.is_list) n.is_list in
    one more (group_of_closing other more n.operators n.closes n.is_list) s t (subst (λ ops. IsTextOf ops s) e p) q

pub one_wyckoff : HaveOneText (λ members. IsTextOfRows members (IsRowsText members))
one_wyckoff = have_one_text (λ members. IsTextOfRows members (IsRowsText members)) (λ members g. one_text_of_rows members g (IsRowsText members) (λ rows table s t p q. p ∙ sym q))

pub one_fit : (x : Point) → IsPoint x → HaveOneText (λ members. IsTextOfRows members (IsFitText members x))
one_fit x point = have_one_text (λ members. IsTextOfRows members (IsFitText members x)) (λ members g. one_text_of_rows members g (IsFitText members x) (one_fit_text members g x point))

pub one_table : (pairs : Pairs) (box : Box) → HaveOneText (λ members. IsTextOfRows members (λ rows. IsTableText pairs members rows box))
one_table pairs box = have_one_text (λ members. IsTextOfRows members (λ rows. IsTableText pairs members rows box)) (λ members g. one_text_of_rows members g (λ rows. IsTableText pairs members rows box) (λ rows table. one_table_text pairs members g rows box))
