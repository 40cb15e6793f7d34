-- What is read of a line is what the grammar says of it.
use Rattle.std.proofs.Common.{◌≡◌, inl, inr, ◌⊎◌, ℕ, ◌+◌, ◌-◌, ◌<◌, ◌≤◌, Bool, true, false, eqb, ltb, leb, ◌&&◌, List, [], ◌∷◌, ◌++◌, length, take, get_or, Option, Some, None, refl, sym, ap, subst, ◌∙◌, arith, append_assoc, length-append}
use Rattle.std.specs.Prelude.{option_and_then, slice_index, IfSome, IfNone}
use Rattle.std.specs.Option.{option_map}
use Rattle.std.proofs.lemmas.Bool.{lt-ltb, le-leb, eq-eqb}
use Rattle.std.proofs.lemmas.List.{take_at}
use borrow.Author.Tests.{eqb-true, ltb-true, leb-true}
use Rattle.lattice_algebra.specs.Operator.{Operator, modulo}
use Rattle.exact_ops.specs.Numbers.{numbers}
use Rattle.exact_ops.specs.declared.raw.Raw.{Raw}
use Rattle.triplet_text.specs.declared.component.Component.{Component}
use Rattle.triplet_text.specs.declared.triplet.TheConstants.{LINE_LENGTH}
use Rattle.triplet_text.specs.Bytes.{is_quote, comma}
use Rattle.triplet_text.specs.Pieces.{trim, cut, unquoted}
use Rattle.triplet_text.specs.Sums.{sum_of}
use Rattle.triplet_text.specs.Triplets.{operator_by, three_sums, components_of, triplet_of}
use Rattle.triplet_text.specs.Tokens.{Token, Mark, HasTokens}
use Rattle.triplet_text.specs.Grammar.{IsSum, AreThreeSums, IsQuoted, IsWithin, IsTriplet}
use Rattle.triplet_text.proofs.Options.{both, then_some, if_some}
use Rattle.triplet_text.proofs.ByteKinds.{is_no_comma, quote_solid}
use Rattle.triplet_text.proofs.Texts.{cut_first, cut_nowhere, first_or_none, end_behind, solid_kept, trim_is, is_trimmed}
use Rattle.triplet_text.proofs.Trims.{with_last}
use Rattle.triplet_text.proofs.Written.{AreOfKind, join, split, blanks_behind, text_without_commas, trimmed_has, has_trimmed}
use Rattle.triplet_text.proofs.SumTexts.{sum_kind, sum_to, sum_from}

-- ---- three sums

at_comma : (text : List ℕ) (p : List ℕ × List ℕ) → cut (λ b. eqb b comma) text ≡ Some p → text ≡ p.0 ++ comma ∷ p.1
at_comma text p e =
    elim (first_or_none (λ b. eqb b comma) text) [
      | inl f ↦
          let same : (f.front, f.back) ≡ p = cc (sym (cut_first (λ b. eqb b comma) f.front f.byte f.back f.lacks f.passed) ∙ ap (cut (λ b. eqb b comma)) (sym f.cut) ∙ e) in
          f.cut ∙ (λ i. (same i).0 ++ eqb-true f.byte comma f.passed i ∷ (same i).1)
      | inr l ↦ let k = cut_nowhere (λ b. eqb b comma) text l in absurd cc
    ]

comma_before : (text : List ℕ) (tokens : List Token) → HasTokens text tokens → HasTokens (comma ∷ text) (Mark comma ∷ tokens)
comma_before text tokens h = (record { blanks = []; rest = text; cut = refl; blank = tt; is_token = refl; follow = tt }, h)

of_three : (one two three : List Token) (a b c : Component) (f : Operator) → IsSum one a → IsSum two b → IsSum three c → operator_by a b c ≡ f → AreThreeSums (one ++ Mark comma ∷ (two ++ Mark comma ∷ three)) f
unfolding modulo
of_three one two three a b c f p q r same = record {
  first = one;
  second = two;
  third = three;
  a = a;
  b = b;
  c = c;
  cut = refl;
  first_is = p;
  second_is = q;
  third_is = r;
  rows = ap (λ (g : Operator). g.w) (sym same);
  translation = ap (λ (g : Operator). g.t) (sym same);
}

record IsThreeText (text : List ℕ) (f : Operator) : Type 0 where
  tokens : List Token
  has_tokens : HasTokens text tokens
  sums : AreThreeSums tokens f

sums_from : (text : List ℕ) (f : Operator) → components_of text ≡ Some f → IsThreeText text f
sums_from text f e =
    let p = then_some (cut (λ b. eqb b comma) text) (λ p. option_and_then (λ q. three_sums p.0 q.0 q.1) (cut (λ b. eqb b comma) p.1)) f e in
    let q = then_some (cut (λ b. eqb b comma) p.0.1) (λ q. three_sums p.0.0 q.0 q.1) f p.2 in
    let a = then_some (sum_of p.0.0) (λ a. option_and_then (λ b. option_and_then (λ c. Some (operator_by a b c)) (sum_of q.0.1)) (sum_of q.0.0)) f q.2 in
    let b = then_some (sum_of q.0.0) (λ b. option_and_then (λ c. Some (operator_by a.0 b c)) (sum_of q.0.1)) f a.2 in
    let c = then_some (sum_of q.0.1) (λ c. Some (operator_by a.0 b.0 c)) f b.2 in
    let one = sum_from p.0.0 a.0 a.1 in
    let two = sum_from q.0.0 b.0 b.1 in
    let three = sum_from q.0.1 c.0 c.1 in
    let back = join two.tokens (Mark comma ∷ three.tokens) q.0.0 (comma ∷ q.0.1) tt two.has_tokens (comma_before q.0.1 three.tokens three.has_tokens) in
    let all = join one.tokens (Mark comma ∷ (two.tokens ++ Mark comma ∷ three.tokens)) p.0.0 (comma ∷ (q.0.0 ++ comma ∷ q.0.1)) tt one.has_tokens (comma_before _ (two.tokens ++ Mark comma ∷ three.tokens) back) in
    let cut : text ≡ p.0.0 ++ comma ∷ (q.0.0 ++ comma ∷ q.0.1) = at_comma text p.0 p.1 ∙ ap (λ (t : List ℕ). p.0.0 ++ comma ∷ t) (at_comma p.0.1 q.0 q.1) in
    let tokens = one.tokens ++ Mark comma ∷ (two.tokens ++ Mark comma ∷ three.tokens) in
    record {
      tokens = tokens;
      has_tokens = subst (λ (t : List ℕ). HasTokens t tokens) (sym cut) all;
      sums = of_three one.tokens two.tokens three.tokens a.0 b.0 c.0 f one.is_sum two.is_sum three.is_sum cc;
    }

-- the first comma of a text that begins with these tokens
record IsBeforeComma (text : List ℕ) (first rest : List Token) : Type 0 where
  front : List ℕ
  back : List ℕ
  first_has : HasTokens front first
  rest_has : HasTokens back rest
  is_cut : cut (λ b. eqb b comma) text ≡ Some (front, back)

before_comma : (first rest : List Token) (c : Component) (text : List ℕ) → AreOfKind is_no_comma first → HasTokens text (first ++ Mark comma ∷ rest) → IsBeforeComma text first rest
before_comma first rest c text k h =
    let s = split first (Mark comma ∷ rest) text h in
    let blanks = s.second.0.blanks in
    let front = s.front ++ blanks in
    let back = s.second.0.rest in
    let has = blanks_behind s.front blanks first s.second.0.blank s.first in
    let spelled : text ≡ front ++ comma ∷ back = s.cut ∙ ap (λ (t : List ℕ). s.front ++ t) s.second.0.cut ∙ sym (append_assoc s.front blanks (comma ∷ back)) in
    record {
      front = front;
      back = back;
      first_has = has;
      rest_has = s.second.1;
      is_cut = ap (cut (λ b. eqb b comma)) spelled ∙ cut_first (λ b. eqb b comma) front comma back (text_without_commas first front k has) refl;
    }

sums_to : (text : List ℕ) (tokens : List Token) (f : Operator) → AreThreeSums tokens f → HasTokens text tokens → components_of text ≡ Some f
unfolding modulo
sums_to text tokens f s h =
    let one = before_comma s.first (s.second ++ Mark comma ∷ s.third) s.a text (sum_kind s.first_is) (subst (HasTokens text) s.cut h) in
    let two = before_comma s.second s.third s.b one.back (sum_kind s.second_is) one.rest_has in
    let same : operator_by s.a s.b s.c ≡ f = λ i. record { w = sym s.rows i; t = sym s.translation i } in
    rw (one.is_cut, two.is_cut) (rw (sum_to s.first_is one.front one.first_has, sum_to s.second_is two.front two.first_has, sum_to s.third_is two.back two.rest_has) (ap (λ (g : Operator). Some g) same))

-- ---- quotes

quoted_trim : (line text : List ℕ) → (q : IsQuoted line text) → trim line ≡ q.quote ∷ (text ++ q.quote ∷ [])
quoted_trim line text q =
    let solid = quote_solid q.quote q.is_quote in
    ap trim (q.cut ∙ ap (λ (t : List ℕ). q.before ++ q.quote ∷ t) (sym (append_assoc text (q.quote ∷ []) q.after)))
    ∙ trim_is q.before q.quote (text ++ q.quote ∷ []) q.after q.blank_before q.blank_after solid (end_behind (q.quote ∷ text) q.quote [] (solid_kept (q.quote ∷ []) (solid, tt)))

last_is : (text : List ℕ) (byte : ℕ) → get_or (text ++ byte ∷ []) (length text) 0 ≡ byte
last_is [] byte = refl
last_is (first ∷ text) byte = last_is text byte

-- whether a text begins with a quote and ends with the same quote
abbrev has_quotes : ℕ → List ℕ → Bool
has_quotes byte text = is_quote byte && ltb 0 (length text) && eqb (slice_index text (length text - 1)) byte

quotes_seen : (quote : ℕ) (text : List ℕ) → is_quote quote ≡ true → has_quotes quote (text ++ quote ∷ []) ≡ true
quotes_seen quote text is =
    let n : length (text ++ quote ∷ []) ≡ length text + 1 = length-append text (quote ∷ []) in
    let at : length (text ++ quote ∷ []) - 1 ≡ length text = omega arith in
    let last : slice_index (text ++ quote ∷ []) (length (text ++ quote ∷ []) - 1) ≡ quote = ap (λ (k : ℕ). slice_index (text ++ quote ∷ []) k) at ∙ last_is text quote in
    rw (is, lt-ltb 0 (length (text ++ quote ∷ [])) (omega arith), eq-eqb _ _ last) refl

with_quotes : (byte : ℕ) (text : List ℕ) → has_quotes byte text ≡ true → unquoted (byte ∷ text) ≡ take (length text - 1) text
with_quotes byte text h = rw h refl

without_quotes : (byte : ℕ) (text : List ℕ) → has_quotes byte text ≡ false → unquoted (byte ∷ text) ≡ byte ∷ text
without_quotes byte text h = rw h refl

quoted_is : (line text : List ℕ) → IsQuoted line text → unquoted (trim line) ≡ text
quoted_is line text q =
    let n : length (text ++ q.quote ∷ []) ≡ length text + 1 = length-append text (q.quote ∷ []) in
    ap unquoted (quoted_trim line text q) ∙ with_quotes q.quote (text ++ q.quote ∷ []) (quotes_seen q.quote text q.is_quote) ∙ take_at text (q.quote ∷ []) (length (text ++ q.quote ∷ []) - 1) (omega arith)

abbrev Unquotes : List ℕ → Type 0
Unquotes line = IsQuoted line (unquoted (trim line)) ⊎ ((unquoted (trim line) ≡ trim line) × ((other : List ℕ) → IsQuoted line other → ⊥))

unquotes_by : (line : List ℕ) (b : Bool) (byte : ℕ) (text : List ℕ) → trim line ≡ byte ∷ text → has_quotes byte text ≡ b → Unquotes line
unquotes_by line true byte text e h =
    let k = both (is_quote byte && ltb 0 (length text)) (eqb (slice_index text (length text - 1)) byte) h in
    let l = both (is_quote byte) (ltb 0 (length text)) k.0 in
    let some : 0 < length text = ltb-true _ _ l.1 in
    let n = length text - 1 in
    let t = is_trimmed line in
    let whole : text ≡ take n text ++ byte ∷ [] = with_last text n (omega arith) ∙ ap (λ (last : ℕ). take n text ++ last ∷ []) (eqb-true _ _ k.1) in
    let cut : line ≡ t.before ++ byte ∷ (take n text ++ byte ∷ t.after) =
    t.cut ∙ ap (λ (s : List ℕ). t.before ++ (s ++ t.after)) (e ∙ ap (λ (s : List ℕ). byte ∷ s) whole) ∙ ap (λ (s : List ℕ). t.before ++ byte ∷ s) (append_assoc (take n text) (byte ∷ []) t.after) in
    let quoted : IsQuoted line (take n text) = record { before = t.before; after = t.after; quote = byte; cut = cut; blank_before = t.blank_before; blank_after = t.blank_after; is_quote = l.0 } in
    inl (subst (IsQuoted line) (sym (ap unquoted e ∙ with_quotes byte text h)) quoted)
unquotes_by line false byte text e h =
    inr (
      ap unquoted e ∙ without_quotes byte text h ∙ sym e,
      λ other q.
          let same : byte ∷ text ≡ q.quote ∷ (other ++ q.quote ∷ []) = sym e ∙ quoted_trim line other q in
          let head : byte ≡ q.quote = cc in
          let tail : text ≡ other ++ q.quote ∷ [] = cc in
          let seen : has_quotes byte text ≡ true = (λ i. has_quotes (head i) (tail i)) ∙ quotes_seen q.quote other q.is_quote in
          absurd cc,
    )

unquotes_from : (line trimmed : List ℕ) → trim line ≡ trimmed → Unquotes line
unquotes_from line [] e = inr (ap unquoted e ∙ sym e, λ other q. let same : [] ≡ q.quote ∷ (other ++ q.quote ∷ []) = sym e ∙ quoted_trim line other q in absurd cc)
unquotes_from line (byte ∷ text) e = unquotes_by line (has_quotes byte text) byte text e refl

unquotes : (line : List ℕ) → Unquotes line
unquotes line = unquotes_from line (trim line) refl

-- ---- lines

pub triplet_to : (line : List ℕ) (f : Operator) → IsTriplet line f → triplet_of line ≡ Some f
triplet_to line f t = rw (le-leb _ LINE_LENGTH t.short) (by t.within)
  where
    by : IsWithin line t.text → components_of (trim (unquoted (trim line))) ≡ Some f
    by (inl q) = ap (λ (s : List ℕ). components_of (trim s)) (quoted_is line t.text q) ∙ sums_to (trim t.text) t.tokens f t.sums (trimmed_has t.text t.tokens t.has_tokens)
    by (inr bare) = elim (unquotes line) [
      | inl q ↦ absurd (bare.1 (unquoted (trim line)) q)
      | inr same ↦
          ap (λ (s : List ℕ). components_of (trim s)) (same.0 ∙ ap trim (sym bare.0))
          ∙ sums_to (trim (trim t.text)) t.tokens f t.sums (trimmed_has (trim t.text) t.tokens (trimmed_has t.text t.tokens t.has_tokens))
    ]

pub triplet_from : (line : List ℕ) (f : Operator) → triplet_of line ≡ Some f → IsTriplet line f
triplet_from line f e =
    let h = if_some (leb (length line) LINE_LENGTH) (components_of (trim (unquoted (trim line)))) f e in
    let s = sums_from (trim (unquoted (trim line))) f h.1 in
    let short = leb-true _ _ h.0 in
    elim (unquotes line) [
      | inl q ↦ record { short = short; text = unquoted (trim line); tokens = s.tokens; within = inl q; has_tokens = has_trimmed (unquoted (trim line)) s.tokens s.has_tokens; sums = s.sums }
      | inr bare ↦ record {
        short = short;
        text = line;
        tokens = s.tokens;
        within = inr (refl, bare.1);
        has_tokens = has_trimmed line s.tokens (has_trimmed (trim line) s.tokens (subst (λ (t : List ℕ). HasTokens (trim t) s.tokens) bare.0 s.has_tokens));
        sums = s.sums;
      }
    ]

pub one_operator : (line : List ℕ) (f g : Operator) → IsTriplet line f → IsTriplet line g → f ≡ g
one_operator line f g s t = let a = triplet_to line f s in let b = triplet_to line g t in cc

-- ---- what is read of a line

pub read_some : (line : List ℕ) (o : Option Raw) → option_map numbers o ≡ triplet_of line → IfSome o (λ raw. IsTriplet line (numbers raw))
read_some line None e = tt
read_some line (Some raw) e = triplet_from line (numbers raw) (sym e)

pub read_none : (line : List ℕ) (o : Option Raw) → option_map numbers o ≡ triplet_of line → IfNone o ((f : Operator) → ¬ IsTriplet line f)
read_none line None e = λ f t. let k = triplet_to line f t in absurd cc
read_none line (Some raw) e = tt

pub too_long : (line : List ℕ) → LINE_LENGTH < length line → (f : Operator) → ¬ IsTriplet line f
too_long line long f t = omega (arith, t.short)

pub short_enough : (line : List ℕ) → length line ≤ LINE_LENGTH → components_of (trim (unquoted (trim line))) ≡ triplet_of line
short_enough line short = rw (le-leb _ LINE_LENGTH short) refl
