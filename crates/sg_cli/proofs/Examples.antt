-- Worked examples: the definitions on literals, most for the word `ops` over an input of no bytes, which is P1; nothing cites these.
use Rattle.std.proofs.Common.{◌≡◌, ◌≤◌, ◌<◌, ◌+◌, ℕ, zero, suc, ℤ, pos, negsuc, unsigned_abs, None, Some, List, [], ◌∷◌, length, get_or, ◌++◌, codes, inl, inr, ⊎_elim, All, Contains, ap, sym, ◌∙◌, subst, refl, arith}
use Rattle.std.specs.List.Sorted.{IsStrictlySortedBy}
use Rattle.std.proofs.lemmas.Int.{ints}
use Rattle.std.proofs.lemmas.Option.{slice_get_within}
use Rattle.std.proofs.lemmas.List.Elements.{All-nil, All-cons, All-push, All-head, All-weaker}
use Rattle.lattice_algebra.specs.Matrix.{identity, ◌·◌, ◌·ᶜ◌, ◌+ᶜ◌}
use Rattle.lattice_algebra.specs.Operator.{Operator, identity_operator, product, modulo, AreWithin, HasEntriesWithin}
use Rattle.lattice_algebra.proofs.Examples.{inverting}
use Rattle.group_closure.specs.Words.{IsLetter, value, Span, Closes}
use Rattle.group_closure.specs.GroupList.{IsGroupList}
use Rattle.triplet_text.specs.Lines.{skipped, blank, end as no_lines}
use Rattle.sg_io.specs.Streams.{SeenSink}
use Rattle.page_print.specs.Lines.{end as no_text, line}
use Rattle.sg_cli.specs.declared.fault.Fault.TheVariants.{Words}
use Rattle.sg_cli.specs.declared.words.Name.TheVariants.{Ops}
use Rattle.sg_cli.specs.declared.words.Input.TheVariants.{Made, Operators}
use Rattle.sg_cli.specs.Stages.{Outcome, Gives, Refuses, Stage, ◌>>=◌, behind, HasOneAtMost, HasSome}
use Rattle.sg_cli.specs.Words.{IsAsked}
use Rattle.sg_cli.specs.Inputs.{ReadsNothing}
use Rattle.sg_cli.specs.Answer.{Answer, IsAnswer, status_of_answer, command, short, listed, closed}
use Rattle.sg_cli.specs.Laws.{GenerateOneGroup, AreMembersOf, HaveOneText}
use Rattle.sg_cli.specs.Run.{IsDecided, IsRefusal, IsReadToEnd, before_writing, IfTold, HasStatus, IfRefused, IfPrinted, IsGiven, Completes, IsGroupOf, IsGroupAsked, IsTold}
use Rattle.sg_cli.specs.Listed.{HoldsOnce, EndsUnder}
use Rattle.sg_cli.proofs.Soundness.{one_answer}
use Rattle.sg_cli.proofs.Serving.{reads_something}

-- ---- stages

abbrev Same : ℕ → ℕ → Type 0
Same m n = m ≡ n

-- a stage that gives 1 alone, one that gives all, and one that gives nothing
abbrev gives_one : Stage ℕ
gives_one a = a ≡ Gives 1

abbrev gives_all : Stage ℕ
gives_all a = Unit {0}

abbrev gives_none : Stage ℕ
gives_none a = ⊥

given : Outcome ℕ → ℕ
given (Gives n) = n
given (Refuses fault) = 0

one_at_most : HasOneAtMost gives_one
one_at_most a b p q = p ∙ sym q

more_than_one : HasOneAtMost gives_all → ⊥
unfolding given
more_than_one h = let e : Same 1 2 = ap given (h (Gives 1) (Gives 2) tt tt) in omega (arith, e)

has_some : HasSome gives_one
has_some = (Gives 1, refl)

has_none : HasSome gives_none → ⊥
has_none h = h.1

-- behind the stage that gives 1 the next goes on with 1; a stage that has no outcome has none behind it
goes_on : (gives_one >>= (λ n a. a ≡ Gives (n + 1))) (Gives 2)
goes_on = behind refl refl

not_behind : (gives_none >>= (λ n a. a ≡ Gives (n + 1))) (Gives 2) → ⊥
not_behind (behind p q) = p

-- ---- statuses

decided : IsDecided 5
decided = ((λ e. omega (arith, e)), (λ e. omega (arith, e)), (λ e. omega (arith, e)))

not_decided : IsDecided 3 → ⊥
not_decided d = d.0 refl

refusal : IsRefusal 5
refusal = ((λ e. omega (arith, e)), (λ e. omega (arith, e)), (λ e. omega (arith, e)))

no_refusal : IsRefusal 0 → ⊥
no_refusal r = r.0 refl

read_to_end : IsReadToEnd 5
read_to_end = ((λ e. omega (arith, e)), (λ e. omega (arith, e)), (λ e. omega (arith, e)), (λ e. omega (arith, e)))

not_read : IsReadToEnd 2 → ⊥
not_read r = r.0 refl

writing_failed : before_writing 4 ≡ 0
writing_failed = refl

nothing_failed : before_writing 5 ≡ 5
nothing_failed = refl

-- ---- an input of no bytes is P1

abbrev one : List Operator
one = identity_operator ∷ []

in_one : (f : Operator) → Contains one f → identity_operator ≡ f
in_one f c = by c.0 c.1 c.2
  where
    by : (k : ℕ) → k < 1 → get_or one k f ≡ f → identity_operator ≡ f
    by zero l e = e
    by (suc k) l e = absurd (omega (arith, l))

in_none : {A : Type 0} (x : Operator) → Contains [] x → A
in_none x c = absurd (omega (arith, c.1))

spans : (f : Operator) → Span [] f → identity_operator ≡ f
spans f s = by s.0 s.1 s.2
  where
    by : (word : List Operator) → All (IsLetter []) word → value word ≡ f → identity_operator ≡ f
    by [] a e = e
    by (x ∷ word) a e = ⊎_elim (λ c. in_none x c) (λ r. in_none r.0 r.1) (All-head (IsLetter []) x word a)

narrow : HasEntriesWithin 2 identity
narrow = record { x = row (pos 1) (pos 0) (pos 0) (omega arith) (omega arith) (omega arith); y = row (pos 0) (pos 1) (pos 0) (omega arith) (omega arith) (omega arith); z = row (pos 0) (pos 0) (pos 1) (omega arith) (omega arith) (omega arith) }
  where
    row : (a b c : ℤ) → unsigned_abs a ≤ 1 → unsigned_abs b ≤ 1 → unsigned_abs c ≤ 1 → AreWithin 2 a b c
    row a b c p q r = record { first = omega arith; second = omega arith; third = omega arith }

closes : Closes []
closes = (one, omega arith, (λ f s. subst (Contains one) (spans f s) (0, omega arith, refl)), (λ f s. subst (λ (g : Operator). HasEntriesWithin 2 g.w) (spans f s) narrow))

generated : IsGroupList [] one
unfolding IsStrictlySortedBy
generated = record {
  first = refl;
  span = λ f. ((λ c. ([], All-nil _, in_one f c)), (λ s. subst (Contains one) (spans f s) (0, omega arith, refl)));
  distinct = λ i j d l m. absurd (omega arith);
  sorted = tt;
}

group_of : IsGroupOf Operators [] one
group_of = record { parts = _; divided = refl; list = []; read = skipped (blank tt) no_lines; closes = closes; group = generated }

no_group_of : IsGroupOf Operators [] [] → ⊥
no_group_of g = let l = slice_get_within [] 0 identity_operator g.group.first in omega (arith, l)

group_asked : IsGroupAsked Operators [] one
group_asked = group_of

no_group_asked : IsGroupAsked (Made 0) [] [] → ⊥
no_group_asked g = let l = slice_get_within [] 0 identity_operator g.group.first in omega (arith, l)

-- ---- the answer to `ops`: one line

abbrev words : List (List ℕ)
words = codes "ops" ∷ []

abbrev its_text : List ℕ
its_text = codes "x,y,z\n"

asked : IsAsked words (record { name = Ops; given = tt })
asked = record { arguments = []; words_are = refl; given = refl }

answer : IsAnswer words [] (Gives its_text)
answer = behind (command asked) (behind (short (omega arith)) (behind refl (behind (listed (skipped (blank tt) no_lines)) (behind (closed closes generated) (line refl no_text)))))

status_of : Answer → ℕ
status_of (Gives text) = 0
status_of (Refuses fault) = 1

not_refused : IsAnswer words [] (Refuses Words) → ⊥
unfolding status_of
not_refused a = let e : Same 0 1 = ap status_of (one_answer words [] (Gives its_text) (Refuses Words) answer a) in omega (arith, e)

has_status : HasStatus words [] 0
has_status = (Gives its_text, answer, refl)

other_status : HasStatus words [] 5 → ⊥
other_status h = let e : Same 0 5 = ap status_of_answer (one_answer words [] (Gives its_text) h.0 answer h.1) ∙ h.2 in omega (arith, e)

-- it reads its input
reads : ReadsNothing words → ⊥
reads = reads_something words (record { name = Ops; given = tt }) asked (λ made. made)

told : IfTold words (Some []) (Gives its_text)
told = (answer, (λ r bytes. absurd (reads r)))

not_told : IfTold words (Some []) (Refuses Words) → ⊥
not_told t = not_refused t.0

-- where no bytes are told, nothing is said
refused_if_told : IfRefused words None Words
refused_if_told = (tt, (λ r bytes. absurd (reads r)))

not_refused_if_told : IfRefused words (Some []) Words → ⊥
not_refused_if_told t = not_refused t.0

printed : IfPrinted words (Some []) (λ text. text ≡ its_text)
printed = (its_text, told, refl)

not_printed : IfPrinted words (Some []) (λ text. ⊥) → ⊥
not_printed p = p.2

given_there : IsGiven (Some []) (Some its_text) 0 (Gives its_text)
given_there = (refl, refl)

not_given : IsGiven (Some []) (Some its_text) 5 (Gives its_text) → ⊥
not_given g = omega (arith, g.0)

completes : Completes words (Some []) (Some []) (Some its_text) 0
completes = (inl (Gives its_text, answer, given_there), (λ r bytes. absurd (reads r)))

completes_not : Completes words (Some []) (Some []) (Some its_text) 5 → ⊥
completes_not c = ⊎_elim (λ r. by r.0 r.1 r.2) (λ e. omega (arith, e)) c.0
  where
    by : (a : Answer) → IsAnswer words [] a → IsGiven (Some []) (Some its_text) 5 a → ⊥
    by a is g = not_given (subst (IsGiven (Some []) (Some its_text) 5) (sym (one_answer words [] (Gives its_text) a answer is)) g)

-- ---- a sink that tells its bytes and fails never

abbrev sink : SeenSink (List ℕ)
sink = record { held = λ bytes. Some bytes; faults = λ bytes. 0; wants = λ bytes. 0 }

all_taken : IsTold sink [] its_text its_text
all_taken = record { front = (its_text, ([], refl), refl); whole = λ f w. refl }

not_taken : IsTold sink [] [] its_text → ⊥
not_taken t = let e : Same 0 6 = ap length (t.whole (λ r. omega (arith, r)) (λ r. omega (arith, r))) in omega (arith, e)

-- ---- lists that generate one group

abbrev once : List Operator
once = inverting ∷ []

abbrev twice : List Operator
twice = inverting ∷ inverting ∷ []

more : (x : Operator) → Contains once x → Contains twice x
more x c = (suc c.0, omega (arith, c.1), c.2)

fewer : (x : Operator) → Contains twice x → Contains once x
fewer x c = by c.0 c.1 c.2
  where
    by : (k : ℕ) → k < 2 → get_or twice k x ≡ x → Contains once x
    by zero l e = (0, omega arith, e)
    by (suc k) l e = (k, omega (arith, l), e)

more_letters : (x : Operator) → IsLetter once x → IsLetter twice x
more_letters x (inl c) = inl (more x c)
more_letters x (inr r) = inr (r.0, more r.0 r.1, r.2, r.3)

fewer_letters : (x : Operator) → IsLetter twice x → IsLetter once x
fewer_letters x (inl c) = inl (fewer x c)
fewer_letters x (inr r) = inr (r.0, fewer r.0 r.1, r.2, r.3)

same_group : GenerateOneGroup once twice
same_group f = ((λ s. (s.0, All-weaker (IsLetter once) (IsLetter twice) more_letters s.0 s.1, s.2)), (λ s. (s.0, All-weaker (IsLetter twice) (IsLetter once) fewer_letters s.0 s.1, s.2)))

other_group : GenerateOneGroup [] once → ⊥
unfolding product modulo ◌·◌ ◌·ᶜ◌ ◌+ᶜ◌
other_group g = by (spans inverting ((g inverting).1 (inverting ∷ [], All-push (IsLetter once) [] inverting (All-nil _) (inl (0, omega arith, refl)), refl)))
  where
    by : identity_operator ≡ inverting → ⊥
    by e = let x : pos 1 ≡ negsuc 0 = ap (λ (f : Operator). f.w.xx) e in omega (arith, ints, x)

members_of : AreMembersOf [] one
members_of = record { operators = All-nil _; closes = closes; is_list = generated }

no_members_of : AreMembersOf [] [] → ⊥
no_members_of m = let l = slice_get_within [] 0 identity_operator m.is_list.first in omega (arith, l)

-- a text that the members do not matter for is one; any text is not
one_text : HaveOneText (λ members text. text ≡ its_text)
one_text list other members more g m n s t p q = p ∙ sym q

more_texts : HaveOneText (λ members text. Unit {0}) → ⊥
more_texts h = let e : Same 0 1 = ap length (h [] [] one one (λ f. ((λ s. s), (λ s. s))) members_of members_of [] (0 ∷ []) tt tt) in omega (arith, e)

-- ---- what stands once in a list, and what stands last in a text

abbrev IsTwo : ℕ → Type 0
IsTwo n = Same n 2

one_two : HoldsOnce IsTwo (1 ∷ 2 ∷ [])
one_two = record {
  before = 1 ∷ [];
  it = 2;
  after = [];
  whole = refl;
  holds = refl;
  none_before = All-cons (λ n. ¬ IsTwo n) 1 [] (λ e. omega (arith, e)) (All-nil (λ n. ¬ IsTwo n));
  none_after = All-nil (λ n. ¬ IsTwo n);
}

two_twos : HoldsOnce IsTwo (2 ∷ 2 ∷ []) → ⊥
two_twos h = by h.before h.it h.after h.whole h.none_before h.none_after
  where
    by : (before : List ℕ) (it : ℕ) (after : List ℕ) → 2 ∷ 2 ∷ [] ≡ before ++ it ∷ after → All (λ n. ¬ IsTwo n) before → All (λ n. ¬ IsTwo n) after → ⊥
    by [] it after e first_none last_none =
        let rest : 2 ∷ [] ≡ after = cc in
        All-head (λ n. ¬ IsTwo n) 2 [] (subst (All (λ n. ¬ IsTwo n)) (sym rest) last_none) refl
    by (x ∷ xs) it after e first_none last_none =
        let first : Same x 2 = cc in
        All-head (λ n. ¬ IsTwo n) x xs first_none first

ends_in_two : EndsUnder (1 ∷ []) (λ text. text ≡ 2 ∷ []) (0 ∷ 1 ∷ 2 ∷ [])
ends_in_two = record { front = 0 ∷ []; end = 2 ∷ []; whole = refl; is_such = refl }

no_heading : EndsUnder (1 ∷ []) (λ text. text ≡ 2 ∷ []) [] → ⊥
no_heading h = by h.front h.whole
  where
    by : (front : List ℕ) → [] ≡ front ++ 1 ∷ [] ++ h.end → ⊥
    by [] e = absurd cc
    by (x ∷ xs) e = absurd cc
