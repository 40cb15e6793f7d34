-- A text says what a sum says exactly where its tokens are that sum.
use Rattle.std.proofs.Common.{◌≡◌, ℕ, Bool, true, false, eqb, List, [], ◌∷◌, ◌++◌, Some, refl, sym, ap, subst, ◌∙◌, arith, append_assoc}
use Rattle.std.specs.List.{flat_map, AllByRecursion, list_all}
use Rattle.std.proofs.lemmas.Int.{ints}
use Rattle.std.proofs.lemmas.List.{append-nil}
use borrow.Author.Tests.{eqb-true}
use Rattle.triplet_text.specs.declared.component.Component.{Component}
use Rattle.triplet_text.specs.Bytes.{is_blank, is_sign, plus_sign, minus_sign}
use Rattle.triplet_text.specs.Pieces.{trim}
use Rattle.triplet_text.specs.Components.{no_terms, plus, behind}
use Rattle.triplet_text.specs.Terms.{term_of}
use Rattle.triplet_text.specs.Sums.{before_sign, behind_signs, total, sum_by, sum_of}
use Rattle.triplet_text.specs.Tokens.{Token, Sign, Each, HasTokens}
use Rattle.triplet_text.specs.Grammar.{IsTerm, letter, digit_letter, digit_star_letter, cells, fraction, decimal_cells, IsSignedTerm, plus as positive, minus, AreSignedTerms, none, more, IsSum, term_first, sign_first, added, nothing}
use Rattle.triplet_text.proofs.Options.{both, then_some}
use Rattle.triplet_text.proofs.ByteKinds.{is_quiet, is_no_comma, blank_quiet, quiet_no_sign, quiet_no_comma}
use Rattle.triplet_text.proofs.Texts.{Lacks, all_mapped, trim_blanks}
use Rattle.triplet_text.proofs.Written.{join, split, sign_before, blanks_before, blanks_behind, IsFree, AreOfKind, kind_mapped, kind_joined, quiet_text}
use Rattle.triplet_text.proofs.TermTexts.{term_to, term_from}

-- ---- the one way to cut at the signs

abbrev signed_text : ℕ × List ℕ → List ℕ
signed_text p = p.0 ∷ p.1

abbrev IsSigned : ℕ × List ℕ → Type 0
IsSigned p = (is_sign p.0 ≡ true) × Lacks is_sign p.1

pub cut_in_two : (first rest : List ℕ) → Lacks is_sign first → (before_sign (first ++ rest) ≡ first ++ before_sign rest) × (behind_signs (first ++ rest) ≡ behind_signs rest)
cut_in_two [] rest h = (refl, refl)
cut_in_two (byte ∷ first) rest h = let i = cut_in_two first rest h.1 in (rw (h.0, i.0) refl, rw (h.0, i.1) refl)

cut_signs : (signed : List (ℕ × List ℕ)) → AllByRecursion IsSigned signed → (before_sign (flat_map signed_text signed) ≡ []) × (behind_signs (flat_map signed_text signed) ≡ signed)
cut_signs [] h = (refl, refl)
cut_signs (p ∷ ps) h =
    let i = cut_signs ps h.1 in
    let two = cut_in_two p.1 (flat_map signed_text ps) h.0.1 in
    let front : before_sign (p.1 ++ flat_map signed_text ps) ≡ p.1 = two.0 ∙ ap (λ (t : List ℕ). p.1 ++ t) i.0 ∙ append-nil p.1 in
    (rw h.0.0 refl, rw (h.0.0, front, two.1, i.1) refl)

cut_spelled : (first : List ℕ) (ps : List (ℕ × List ℕ)) → Lacks is_sign first → AllByRecursion IsSigned ps → (before_sign (first ++ flat_map signed_text ps) ≡ first) × (behind_signs (first ++ flat_map signed_text ps) ≡ ps)
cut_spelled first ps h each =
    let two = cut_in_two first (flat_map signed_text ps) h in
    let s = cut_signs ps each in
    (two.0 ∙ ap (λ (t : List ℕ). first ++ t) s.0 ∙ append-nil first, two.1 ∙ s.1)

sum_spelled : (text first : List ℕ) (ps : List (ℕ × List ℕ)) → text ≡ first ++ flat_map signed_text ps → Lacks is_sign first → AllByRecursion IsSigned ps → sum_of text ≡ sum_by first ps
sum_spelled text first ps e h each = let cut = cut_spelled first ps h each in ap sum_of e ∙ (λ i. sum_by (cut.0 i) (cut.1 i))

-- what the cut gives
record IsCut (text : List ℕ) : Type 0 where
  spelled : text ≡ before_sign text ++ flat_map signed_text (behind_signs text)
  each : AllByRecursion IsSigned (behind_signs text)
  lacks : Lacks is_sign (before_sign text)

cut_by : (b : Bool) (byte : ℕ) (text : List ℕ) → is_sign byte ≡ b → IsCut text → IsCut (byte ∷ text)
cut_by true byte text e i =
    let front : before_sign (byte ∷ text) ≡ [] = rw e refl in
    let back : behind_signs (byte ∷ text) ≡ (byte, before_sign text) ∷ behind_signs text = rw e refl in
    record { spelled = rw (front, back) (ap (λ (t : List ℕ). byte ∷ t) i.spelled); each = rw back ((e, i.lacks), i.each); lacks = rw front tt }
cut_by false byte text e i =
    let front : before_sign (byte ∷ text) ≡ byte ∷ before_sign text = rw e refl in
    let back : behind_signs (byte ∷ text) ≡ behind_signs text = rw e refl in
    record { spelled = rw (front, back) (ap (λ (t : List ℕ). byte ∷ t) i.spelled); each = rw back i.each; lacks = rw front (e, i.lacks) }

each_cut : (text : List ℕ) → IsCut text
each_cut [] = record { spelled = refl; each = tt; lacks = tt }
each_cut (byte ∷ text) = cut_by (is_sign byte) byte text refl (each_cut text)

-- ---- adding

pub same_component : (a b : Component) → a.x ≡ b.x → a.y ≡ b.y → a.z ≡ b.z → a.parts ≡ b.parts → a ≡ b
same_component a b p q r s = λ i. record { x = p i; y = q i; z = r i; parts = s i }

pub added_nothing : (a : Component) → added a nothing ≡ a
added_nothing a = same_component (added a nothing) a (omega (arith, ints)) (omega (arith, ints)) (omega (arith, ints)) (omega (arith, ints))

pub nothing_added : (a : Component) → added nothing a ≡ a
nothing_added a = same_component (added nothing a) a (omega (arith, ints)) (omega (arith, ints)) (omega (arith, ints)) (omega (arith, ints))

pub added_assoc : (a b c : Component) → added (added a b) c ≡ added a (added b c)
added_assoc a b c = same_component (added (added a b) c) (added a (added b c)) (omega (arith, ints)) (omega (arith, ints)) (omega (arith, ints)) (omega (arith, ints))

-- ---- a term behind its sign

signed_term : (sign : ℕ) (term : List Token) (a : Component) → is_sign sign ≡ true → IsTerm term a → IsSignedTerm (Sign sign ∷ term) (behind sign a)
signed_term sign term a h t = by (eqb sign plus_sign) (eqb sign minus_sign) refl refl h
  where
    by : (p m : Bool) → eqb sign plus_sign ≡ p → eqb sign minus_sign ≡ m → is_sign sign ≡ true → IsSignedTerm (Sign sign ∷ term) (behind sign a)
    by p true e d h = let is = eqb-true sign minus_sign d in subst (λ (s : ℕ). IsSignedTerm (Sign s ∷ term) (behind s a)) (sym is) (minus t)
    by true false e d h = let is = eqb-true sign plus_sign e in subst (λ (s : ℕ). IsSignedTerm (Sign s ∷ term) (behind s a)) (sym is) (positive t)
    by false false e d h = absurd (let k = rw (e, d) at h in cc)

record IsSignAndTerm (tokens : List Token) (c : Component) : Type 0 where
  sign : ℕ
  term : List Token
  a : Component
  tokens_are : tokens ≡ Sign sign ∷ term
  is_sign : is_sign sign ≡ true
  is_term : IsTerm term a
  value : behind sign a ≡ c

sign_and_term : {tokens : List Token} {c : Component} → IsSignedTerm tokens c → IsSignAndTerm tokens c
sign_and_term (positive {term = term} {a = a} t) = record { sign = plus_sign; term = term; a = a; tokens_are = refl; is_sign = refl; is_term = t; value = refl }
sign_and_term (minus {term = term} {a = a} t) = record { sign = minus_sign; term = term; a = a; tokens_are = refl; is_sign = refl; is_term = t; value = refl }

-- ---- no signs in a term, and no commas in a sum

term_quiet : {tokens : List Token} {c : Component} → IsTerm tokens c → AreOfKind is_quiet tokens
term_quiet letter = tt
term_quiet (digit_letter w) = tt
term_quiet (digit_star_letter w) = (refl, tt)
term_quiet (cells w) = tt
term_quiet (fraction w) = (refl, tt)
term_quiet (decimal_cells w) = tt

term_lacks_signs : {tokens : List Token} {c : Component} → IsTerm tokens c → (text : List ℕ) → HasTokens text tokens → Lacks is_sign text
term_lacks_signs {tokens = tokens} t text h = all_mapped _ _ quiet_no_sign text (quiet_text tokens text (term_quiet t) h)

term_kind : {tokens : List Token} {c : Component} → IsTerm tokens c → AreOfKind is_no_comma tokens
term_kind {tokens = tokens} t = kind_mapped is_quiet is_no_comma quiet_no_comma tokens (term_quiet t)

signed_term_kind : {tokens : List Token} {c : Component} → IsSignedTerm tokens c → AreOfKind is_no_comma tokens
signed_term_kind (positive t) = (refl, term_kind t)
signed_term_kind (minus t) = (refl, term_kind t)

signed_kind : {tokens : List Token} {c : Component} → AreSignedTerms tokens c → AreOfKind is_no_comma tokens
signed_kind none = tt
signed_kind (more {first = first} {rest = rest} s r) = kind_joined is_no_comma first rest (signed_term_kind s) (signed_kind r)

pub sum_kind : {tokens : List Token} {c : Component} → IsSum tokens c → AreOfKind is_no_comma tokens
sum_kind (term_first {first = first} {rest = rest} t r) = kind_joined is_no_comma first rest (term_kind t) (signed_kind r)
sum_kind (sign_first {first = first} {rest = rest} s r) = kind_joined is_no_comma first rest (signed_term_kind s) (signed_kind r)

-- ---- from the tokens to what the text says

-- blanks, and texts behind their signs, which add c
record IsSignedText (text : List ℕ) (signed : List (ℕ × List ℕ)) (c : Component) : Type 0 where
  blanks : List ℕ
  spelled : text ≡ blanks ++ flat_map signed_text signed
  blank : Each is_blank blanks
  each : AllByRecursion IsSigned signed
  adds : (u : Component) → total u signed ≡ Some (added u c)

-- one text behind its sign, before further ones
one_signed : {first : List Token} {a b : Component} (rest : List Token) → IsSignedTerm first a → (text : List ℕ) → HasTokens text (first ++ rest) → ((back : List ℕ) → HasTokens back rest → (ps : List (ℕ × List ℕ)) × IsSignedText back ps b)
    → (p : ℕ × List ℕ) × (ps : List (ℕ × List ℕ)) × IsSignedText text (p ∷ ps) (added a b)
one_signed {first = first} {a = a} {b = b} rest s text h further =
    let st = sign_and_term s in
    let sp = split first rest text h in
    let f : HasTokens sp.front (Sign st.sign ∷ st.term) = subst (HasTokens sp.front) st.tokens_are sp.first in
    let more = further sp.back sp.second in
    let blanks = more.1.blanks in
    let flat = flat_map signed_text more.0 in
    let x = f.0.rest ++ blanks in
    let has : HasTokens x st.term = blanks_behind f.0.rest blanks st.term more.1.blank f.1 in (
      (st.sign, x),
      more.0,
      record {
        blanks = f.0.blanks;
        spelled = sp.cut ∙ (λ i. f.0.cut i ++ more.1.spelled i) ∙ append_assoc f.0.blanks (st.sign ∷ f.0.rest) (blanks ++ flat) ∙ ap (λ (t : List ℕ). f.0.blanks ++ st.sign ∷ t) (sym (append_assoc f.0.rest blanks flat));
        blank = f.0.blank;
        each = ((st.is_sign, term_lacks_signs st.is_term x has), more.1.each);
        adds = λ u. rw (term_to st.is_term x has) (more.1.adds (plus u (behind st.sign st.a)) ∙ ap (λ (v : Component). Some (added (added u v) b)) st.value ∙ ap (λ (v : Component). Some v) (added_assoc u a b));
      },
    )

signed_to : {tokens : List Token} {c : Component} → AreSignedTerms tokens c → (text : List ℕ) → HasTokens text tokens → (signed : List (ℕ × List ℕ)) × IsSignedText text signed c
signed_to none text h = ([], record { blanks = text; spelled = sym (append-nil text); blank = h; each = tt; adds = λ u. ap (λ (v : Component). Some v) (sym (added_nothing u)) })
signed_to (more {rest = rest} s r) text h = let o = one_signed rest s text h (λ back k. signed_to r back k) in (o.0 ∷ o.1, o.2)

all_blank : (text : List ℕ) → Each is_blank text → list_all is_blank text ≡ true
all_blank [] h = refl
all_blank (byte ∷ text) h = rw (h.0, all_blank text h.1) refl

each_blank : (text : List ℕ) → list_all is_blank text ≡ true → Each is_blank text
each_blank [] e = tt
each_blank (byte ∷ text) e = let k = both (is_blank byte) (list_all is_blank text) e in (k.0, each_blank text k.1)

not_all_blank : (b : Bool) (text : List ℕ) (a : Component) → list_all is_blank text ≡ b → term_of (trim text) ≡ Some a → b ≡ false
not_all_blank true text a h e = absurd (let k = rw (trim_blanks text (each_blank text h)) at e in cc)
not_all_blank false text a h e = refl

sum_by_term : (first : List ℕ) (ps : List (ℕ × List ℕ)) (a : Component) → term_of (trim first) ≡ Some a → sum_by first ps ≡ total a ps
sum_by_term first [] a e = rw e refl
sum_by_term first (p ∷ ps) a e = rw (not_all_blank (list_all is_blank first) first a refl e, e) refl

sum_by_signs : (blanks : List ℕ) (p : ℕ × List ℕ) (ps : List (ℕ × List ℕ)) → Each is_blank blanks → sum_by blanks (p ∷ ps) ≡ total no_terms (p ∷ ps)
sum_by_signs blanks p ps h = rw (all_blank blanks h) refl

blank_no_sign : (byte : ℕ) → is_blank byte ≡ true → is_sign byte ≡ false
blank_no_sign byte h = quiet_no_sign byte (blank_quiet byte h)

pub sum_to : {tokens : List Token} {c : Component} → IsSum tokens c → (text : List ℕ) → HasTokens text tokens → sum_of text ≡ Some c
sum_to (term_first {first = first} {rest = rest} {a = a} t r) text h =
    let sp = split first rest text h in
    let further = signed_to r sp.back sp.second in
    let blanks = further.1.blanks in
    let x = sp.front ++ blanks in
    let has : HasTokens x first = blanks_behind sp.front blanks first further.1.blank sp.first in
    let spelled : text ≡ x ++ flat_map signed_text further.0 = sp.cut ∙ ap (λ (s : List ℕ). sp.front ++ s) further.1.spelled ∙ sym (append_assoc sp.front blanks (flat_map signed_text further.0)) in
    sum_spelled text x further.0 spelled (term_lacks_signs t x has) further.1.each ∙ sum_by_term x further.0 a (term_to t x has) ∙ further.1.adds a
sum_to (sign_first {rest = rest} {a = a} {b = b} s r) text h =
    let o = one_signed rest s text h (λ back k. signed_to r back k) in
    let blanks = o.2.blanks in
    sum_spelled text blanks (o.0 ∷ o.1) o.2.spelled (all_mapped _ _ blank_no_sign blanks o.2.blank) o.2.each ∙ sum_by_signs blanks o.0 o.1 o.2.blank ∙ o.2.adds no_terms ∙ ap (λ (v : Component). Some v) (nothing_added (added a b))

-- ---- from what the text says to its tokens

-- the tokens of texts behind their signs, which were added to u
record IsSignedTokens (signed : List (ℕ × List ℕ)) (u v : Component) : Type 0 where
  tokens : List Token
  c : Component
  has_tokens : HasTokens (flat_map signed_text signed) tokens
  are : AreSignedTerms tokens c
  free : IsFree tokens
  value : added u c ≡ v

signed_from : (signed : List (ℕ × List ℕ)) (u v : Component) → AllByRecursion IsSigned signed → total u signed ≡ Some v → IsSignedTokens signed u v
signed_from [] u v each e = record { tokens = []; c = nothing; has_tokens = tt; are = none; free = tt; value = added_nothing u ∙ cc }
signed_from (p ∷ ps) u v each e =
    let t = then_some (term_of (trim p.1)) (λ t. total (plus u (behind p.0 t)) ps) v e in
    let term = term_from p.1 t.0 t.1 in
    let i = signed_from ps (plus u (behind p.0 t.0)) v each.1 t.2 in
    let a = behind p.0 t.0 in
    record {
      tokens = (Sign p.0 ∷ term.tokens) ++ i.tokens;
      c = added a i.c;
      has_tokens = sign_before p.0 (p.1 ++ flat_map signed_text ps) (term.tokens ++ i.tokens) each.0.0 (join term.tokens i.tokens p.1 (flat_map signed_text ps) i.free term.has_tokens i.has_tokens);
      are = more (signed_term p.0 term.tokens t.0 each.0.0 term.is_term) i.are;
      free = tt;
      value = sym (added_assoc u a i.c) ∙ i.value;
    }

pub record IsSumText (text : List ℕ) (c : Component) : Type 0 where
  pub tokens : List Token
  pub has_tokens : HasTokens text tokens
  pub is_sum : IsSum tokens c

from_term : (first : List ℕ) (ps : List (ℕ × List ℕ)) (a c : Component) → AllByRecursion IsSigned ps → term_of (trim first) ≡ Some a → total a ps ≡ Some c → IsSumText (first ++ flat_map signed_text ps) c
from_term first ps a c each t e =
    let term = term_from first a t in
    let i = signed_from ps a c each e in
    let tokens = term.tokens ++ i.tokens in
    record {
      tokens = tokens;
      has_tokens = join term.tokens i.tokens first (flat_map signed_text ps) i.free term.has_tokens i.has_tokens;
      is_sum = subst (IsSum tokens) i.value (term_first term.is_term i.are);
    }

from_signs : (first : List ℕ) (p : ℕ × List ℕ) (ps : List (ℕ × List ℕ)) (c : Component) → Each is_blank first → AllByRecursion IsSigned (p ∷ ps) → total no_terms (p ∷ ps) ≡ Some c → IsSumText (first ++ flat_map signed_text (p ∷ ps)) c
from_signs first p ps c blank each e =
    let t = then_some (term_of (trim p.1)) (λ t. total (plus no_terms (behind p.0 t)) ps) c e in
    let term = term_from p.1 t.0 t.1 in
    let a = behind p.0 t.0 in
    let i = signed_from ps (plus no_terms a) c each.1 t.2 in
    let tokens = (Sign p.0 ∷ term.tokens) ++ i.tokens in
    let has : HasTokens (flat_map signed_text (p ∷ ps)) tokens = sign_before p.0 (p.1 ++ flat_map signed_text ps) (term.tokens ++ i.tokens) each.0.0 (join term.tokens i.tokens p.1 (flat_map signed_text ps) i.free term.has_tokens i.has_tokens) in
    let value : added a i.c ≡ c = sym (nothing_added (added a i.c)) ∙ sym (added_assoc nothing a i.c) ∙ i.value in
    record {
      tokens = tokens;
      has_tokens = blanks_before first (flat_map signed_text (p ∷ ps)) tokens blank has;
      is_sum = subst (IsSum tokens) value (sign_first (signed_term p.0 term.tokens t.0 each.0.0 term.is_term) i.are);
    }

from_parts : (first : List ℕ) (ps : List (ℕ × List ℕ)) (c : Component) → AllByRecursion IsSigned ps → sum_by first ps ≡ Some c → IsSumText (first ++ flat_map signed_text ps) c
from_parts first [] c each e = let t = then_some (term_of (trim first)) (λ t. total t []) c e in from_term first [] t.0 c each t.1 t.2
from_parts first (p ∷ ps) c each e = by (list_all is_blank first) refl
  where
    by : (b : Bool) → list_all is_blank first ≡ b → IsSumText (first ++ flat_map signed_text (p ∷ ps)) c
    by true h = from_signs first p ps c (each_blank first h) each (rw h at e)
    by false h = let t = then_some (term_of (trim first)) (λ t. total t (p ∷ ps)) c (rw h at e) in from_term first (p ∷ ps) t.0 c each t.1 t.2

pub sum_from : (text : List ℕ) (c : Component) → sum_of text ≡ Some c → IsSumText text c
sum_from text c e = let cut = each_cut text in subst (λ (t : List ℕ). IsSumText t c) (sym cut.spelled) (from_parts (before_sign text) (behind_signs text) c cut.each e)
