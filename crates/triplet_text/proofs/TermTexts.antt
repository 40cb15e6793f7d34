-- A text says what one term says exactly where its tokens are that term.
use Rattle.std.proofs.Common.{◌≡◌, inl, inr, ℕ, ◌-◌, ◌*◌, ◌<◌, Bool, true, false, eqb, List, [], ◌∷◌, ◌++◌, length, Some, refl, sym, ap, subst, ◌∙◌, arith, length-append, append_assoc}
use Rattle.std.specs.Option.{option_map}
use borrow.Author.Tests.{eqb-true}
use Rattle.exact_ops.specs.declared.TheConstants.{UNIT}
use Rattle.triplet_text.specs.declared.component.Component.{Component}
use Rattle.triplet_text.specs.Bytes.{is_digit, is_blank, is_x, is_y, is_z, star, slash, point, zero_digit}
use Rattle.triplet_text.specs.Pieces.{trim, trim_start, trim_end, cut}
use Rattle.triplet_text.specs.Components.{times_letter, of_parts}
use Rattle.triplet_text.specs.Terms.{product_of, cells_of, fraction_of, plain_of, term_of}
use Rattle.triplet_text.specs.Digits.{whole_of, decimal_of}
use Rattle.triplet_text.specs.Tokens.{Token, Sign, Mark, Letter, Number, Each, bytes_of, is_letter, IsToken, MayFollow, begins_with_blank, HasTokens}
use Rattle.triplet_text.specs.Grammar.{IsWhole, IsFraction, IsTerm, letter, digit_letter, digit_star_letter, cells, fraction, decimal_cells, times, translation}
use Rattle.triplet_text.proofs.Options.{map_some, if_some}
use Rattle.triplet_text.proofs.ByteKinds.{letter_solid, number_solid, digit_solid, digit_in_number, digit_no_star, digit_no_stroke, digit_no_point, number_no_star, number_no_stroke, letter_no_star, letter_no_stroke, letter_no_point, letter_no_digit, blank_no_star, blank_no_stroke, x_alone, y_alone}
use Rattle.triplet_text.proofs.Texts.{Lacks, all_joined, all_front, all_back, all_mapped, solid_kept, end_behind, trim_is, trim_start_is, trim_end_is, start_cut, end_cut, is_trimmed, cut_first, cut_nowhere, HasFirst, first_or_none}
use Rattle.triplet_text.proofs.Values.{whole_to, whole_from, fraction_to, fraction_from, under_is, decimal_to, decimal_from, decimal_digits}

-- ---- letters

times_to : (n byte : ℕ) → is_letter byte ≡ true → times_letter n byte ≡ Some (times n byte)
times_to n byte h = by (is_x byte) (is_y byte) (is_z byte) refl refl refl
  where
    by : (a b c : Bool) → is_x byte ≡ a → is_y byte ≡ b → is_z byte ≡ c → times_letter n byte ≡ Some (times n byte)
    by true b c p q r = rw (p, (x_alone byte p).0, (x_alone byte p).1) refl
    by false true c p q r = rw (p, q, (y_alone byte q).1) refl
    by false false true p q r = rw (p, q, r) refl
    by false false false p q r = absurd (let k = rw (p, q, r) at h in cc)

times_from : (n byte : ℕ) (c : Component) → times_letter n byte ≡ Some c → (is_letter byte ≡ true) × (times n byte ≡ c)
times_from n byte v h = by (is_x byte) (is_y byte) (is_z byte) refl refl refl
  where
    by : (a b c : Bool) → is_x byte ≡ a → is_y byte ≡ b → is_z byte ≡ c → (is_letter byte ≡ true) × (times n byte ≡ v)
    by true b c p q r = let k = rw p at h in (rw p refl, rw (p, (x_alone byte p).0, (x_alone byte p).1) cc)
    by false true c p q r = let k = rw (p, q) at h in (rw (p, q) refl, rw (p, q, (y_alone byte q).1) cc)
    by false false true p q r = let k = rw (p, q, r) at h in (rw (p, q, r) refl, rw (p, q, r) cc)
    by false false false p q r = absurd (let k = rw (p, q, r) at h in cc)

-- ---- a term by what it has

with_star : (text front back : List ℕ) → cut (λ b. eqb b star) text ≡ Some (front, back) → term_of text ≡ product_of (trim_end front) (trim_start back)
with_star text front back e = rw e refl

with_stroke : (text front back : List ℕ) → Lacks (λ b. eqb b star) text → cut (λ b. eqb b slash) text ≡ Some (front, back) → term_of text ≡ option_map of_parts (fraction_of (trim_end front) (trim_start back))
with_stroke text front back h e = rw (cut_nowhere (λ b. eqb b star) text h, e) refl

with_point : (text front back : List ℕ) → Lacks (λ b. eqb b star) text → Lacks (λ b. eqb b slash) text → cut (λ b. eqb b point) text ≡ Some (front, back) → term_of text ≡ option_map of_parts (decimal_of front back)
with_point text front back h g e = rw (cut_nowhere (λ b. eqb b star) text h, cut_nowhere (λ b. eqb b slash) text g, e) refl

with_none : (text : List ℕ) → Lacks (λ b. eqb b star) text → Lacks (λ b. eqb b slash) text → Lacks (λ b. eqb b point) text → term_of text ≡ plain_of text
with_none text h g f = rw (cut_nowhere (λ b. eqb b star) text h, cut_nowhere (λ b. eqb b slash) text g, cut_nowhere (λ b. eqb b point) text f) refl

-- ---- from the term to what its text says

digit_value : (digit n : ℕ) → IsWhole (digit ∷ []) n → n ≡ digit - zero_digit
digit_value digit n h = omega (arith, h.value)

-- a text of one token
one_trimmed : (text before : List ℕ) (byte : ℕ) (more after : List ℕ) → text ≡ before ++ byte ∷ (more ++ after) → Each is_blank before → Each is_blank after → Lacks is_blank (byte ∷ more) → trim text ≡ byte ∷ more
one_trimmed text before byte more after e h g solid = ap trim e ∙ trim_is before byte more after h g solid.0 (solid_kept (byte ∷ more) solid)

-- a text of two tokens with a mark between them
abbrev with_mark : ℕ → List ℕ → List ℕ → ℕ → List ℕ → ℕ → List ℕ → List ℕ
with_mark f one b2 mark b3 s two = (f ∷ one ++ b2) ++ mark ∷ (b3 ++ s ∷ two)

regrouped : (one b2 : List ℕ) (mark : ℕ) (b3 two b4 : List ℕ) → ((one ++ b2) ++ mark ∷ (b3 ++ two)) ++ b4 ≡ one ++ (b2 ++ mark ∷ (b3 ++ (two ++ b4)))
regrouped one b2 mark b3 two b4 = append_assoc (one ++ b2) (mark ∷ (b3 ++ two)) b4 ∙ append_assoc one b2 (mark ∷ ((b3 ++ two) ++ b4)) ∙ ap (λ (t : List ℕ). one ++ (b2 ++ mark ∷ t)) (append_assoc b3 two b4)

two_trimmed : (text b1 : List ℕ) (f : ℕ) (one b2 : List ℕ) (mark : ℕ) (b3 : List ℕ) (s : ℕ) (two b4 : List ℕ) → text ≡ b1 ++ f ∷ (one ++ (b2 ++ mark ∷ (b3 ++ s ∷ (two ++ b4))))
    → Each is_blank b1 → Each is_blank b4 → is_blank f ≡ false → Lacks is_blank (s ∷ two) → trim text ≡ with_mark f one b2 mark b3 s two
two_trimmed text b1 f one b2 mark b3 s two b4 e h1 h4 solid last =
    let kept : trim_end (with_mark f one b2 mark b3 s two) ≡ with_mark f one b2 mark b3 s two = end_behind (f ∷ one ++ b2) mark (b3 ++ s ∷ two) (end_behind (mark ∷ b3) s two (solid_kept (s ∷ two) last)) in
    ap trim (e ∙ ap (λ (t : List ℕ). b1 ++ t) (sym (regrouped (f ∷ one) b2 mark b3 (s ∷ two) b4))) ∙ trim_is b1 f ((one ++ b2) ++ mark ∷ (b3 ++ s ∷ two)) b4 h1 h4 solid kept

-- a letter stands right behind its number
no_gap : (rest blanks more : List ℕ) → rest ≡ blanks ++ more → begins_with_blank rest ≡ false → Each is_blank blanks → rest ≡ more
no_gap rest [] more e b h = e
no_gap rest (byte ∷ blanks) more e b h = let d : begins_with_blank rest ≡ is_blank byte = ap begins_with_blank e in let k = h.0 in absurd cc

one_digit_is : (byte : ℕ) → is_digit byte ≡ true → plain_of (byte ∷ []) ≡ cells_of (byte ∷ [])
one_digit_is byte d = rw d refl

two_digits_are : (byte next : ℕ) → is_digit next ≡ true → plain_of (byte ∷ next ∷ []) ≡ cells_of (byte ∷ next ∷ [])
two_digits_are byte next d = rw d refl

plain_digits : (text : List ℕ) → Each is_digit text → 0 < length text → plain_of text ≡ cells_of text
plain_digits [] h some = absurd (omega arith)
plain_digits (a ∷ []) h some = one_digit_is a h.0
plain_digits (a ∷ b ∷ []) h some = two_digits_are a b h.1.0
plain_digits (a ∷ b ∷ c ∷ text) h some = refl

number_trimmed : (text run : List ℕ) → HasTokens text (Number run ∷ []) → trim text ≡ run
number_trimmed text [] h = absurd (omega (arith, h.0.is_token.0))
number_trimmed text (byte ∷ run) h = one_trimmed text h.0.blanks byte run h.0.rest h.0.cut h.0.blank h.1 (all_mapped _ _ number_solid (byte ∷ run) h.0.is_token.1)

fraction_term : (over under : List ℕ) (parts : ℕ) (text : List ℕ) → IsFraction over under parts → HasTokens text (Number over ∷ Mark slash ∷ Number under ∷ []) → term_of (trim text) ≡ Some (translation parts)
fraction_term [] under parts text w h = absurd (omega (arith, h.0.is_token.0))
fraction_term (f ∷ one) [] parts text w h = absurd (omega (arith, h.1.1.0.is_token.0))
fraction_term (f ∷ one) (s ∷ two) parts text w h =
    let over = f ∷ one in
    let under = s ∷ two in
    let b2 = h.1.0.blanks in
    let b3 = h.1.1.0.blanks in
    let in_over = h.0.is_token.1 in
    let in_under = h.1.1.0.is_token.1 in
    let cut = h.0.cut ∙ ap (λ (r : List ℕ). h.0.blanks ++ f ∷ (one ++ r)) (h.1.0.cut ∙ ap (λ (r : List ℕ). b2 ++ slash ∷ r) h.1.1.0.cut) in
    let solid = all_mapped _ _ number_solid over in_over in
    let solid_under = all_mapped _ _ number_solid under in_under in
    let t = two_trimmed text h.0.blanks f one b2 slash b3 s two h.1.1.0.rest cut h.0.blank h.1.1.1 solid.0 solid_under in
    let front : Lacks (λ b. eqb b star) (over ++ b2) = all_joined _ over b2 (all_mapped _ _ number_no_star over in_over) (all_mapped _ _ blank_no_star b2 h.1.0.blank) in
    let back : Lacks (λ b. eqb b star) (b3 ++ under) = all_joined _ b3 under (all_mapped _ _ blank_no_star b3 h.1.1.0.blank) (all_mapped _ _ number_no_star under in_under) in
    let no_star : Lacks (λ b. eqb b star) (with_mark f one b2 slash b3 s two) = all_joined _ (over ++ b2) (slash ∷ (b3 ++ under)) front (refl, back) in
    let no_stroke : Lacks (λ b. eqb b slash) (over ++ b2) = all_joined _ over b2 (all_mapped _ _ number_no_stroke over in_over) (all_mapped _ _ blank_no_stroke b2 h.1.0.blank) in
    let a = trim_end_is over b2 h.1.0.blank (solid_kept over solid) in
    let b = trim_start_is b3 s two h.1.1.0.blank solid_under.0 in
    ap term_of t ∙ with_stroke (with_mark f one b2 slash b3 s two) (over ++ b2) (b3 ++ under) no_star (cut_first (λ b. eqb b slash) (over ++ b2) slash (b3 ++ under) no_stroke refl)
    ∙ (λ i. option_map of_parts (fraction_of (a i) (b i))) ∙ ap (option_map of_parts) (fraction_to over under parts w)

pub term_to : {tokens : List Token} {c : Component} → IsTerm tokens c → (text : List ℕ) → HasTokens text tokens → term_of (trim text) ≡ Some c
term_to (letter {byte = byte}) text h =
    let is = h.0.is_token in
    let t = one_trimmed text h.0.blanks byte [] h.0.rest h.0.cut h.0.blank h.1 (letter_solid byte is, tt) in
    ap term_of t ∙ with_none (byte ∷ []) (letter_no_star byte is, tt) (letter_no_stroke byte is, tt) (letter_no_point byte is, tt) ∙ rw (letter_no_digit byte is) (times_to 1 byte is)
term_to (digit_letter {digit = digit} {byte = byte} {n = n} w) text h =
    let is = h.1.0.is_token in
    let d = w.digits.0 in
    let gap = no_gap h.0.rest h.1.0.blanks (byte ∷ h.1.0.rest) h.1.0.cut h.0.follow h.1.0.blank in
    let cut = h.0.cut ∙ ap (λ (r : List ℕ). h.0.blanks ++ digit ∷ r) gap in
    let t = one_trimmed text h.0.blanks digit (byte ∷ []) h.1.0.rest cut h.0.blank h.1.1 (digit_solid digit d, (letter_solid byte is, tt)) in
    ap term_of t
    ∙ with_none (digit ∷ byte ∷ []) (digit_no_star digit d, (letter_no_star byte is, tt)) (digit_no_stroke digit d, (letter_no_stroke byte is, tt)) (digit_no_point digit d, (letter_no_point byte is, tt))
    ∙ rw (letter_no_digit byte is, d) (times_to (digit - zero_digit) byte is) ∙ ap (λ (m : ℕ). Some (times m byte)) (sym (digit_value digit n w))
term_to (digit_star_letter {digit = digit} {byte = byte} {n = n} w) text h =
    let is = h.1.1.0.is_token in
    let d = w.digits.0 in
    let b2 = h.1.0.blanks in
    let b3 = h.1.1.0.blanks in
    let cut = h.0.cut ∙ ap (λ (r : List ℕ). h.0.blanks ++ digit ∷ r) (h.1.0.cut ∙ ap (λ (r : List ℕ). b2 ++ star ∷ r) h.1.1.0.cut) in
    let t = two_trimmed text h.0.blanks digit [] b2 star b3 byte [] h.1.1.0.rest cut h.0.blank h.1.1.1 (digit_solid digit d) (letter_solid byte is, tt) in
    let no_star : Lacks (λ b. eqb b star) (digit ∷ b2) = (digit_no_star digit d, all_mapped _ _ blank_no_star b2 h.1.0.blank) in
    let a = trim_end_is (digit ∷ []) b2 h.1.0.blank (solid_kept (digit ∷ []) (digit_solid digit d, tt)) in
    let b = trim_start_is b3 byte [] h.1.1.0.blank (letter_solid byte is) in
    ap term_of t ∙ with_star (with_mark digit [] b2 star b3 byte []) (digit ∷ b2) (b3 ++ byte ∷ []) (cut_first (λ b. eqb b star) (digit ∷ b2) star (b3 ++ byte ∷ []) no_star refl)
    ∙ (λ i. product_of (a i) (b i)) ∙ rw d (times_to (digit - zero_digit) byte is) ∙ ap (λ (m : ℕ). Some (times m byte)) (sym (digit_value digit n w))
term_to (cells {run = run} {n = n} w) text h =
    let ds = w.digits in
    ap term_of (number_trimmed text run h)
    ∙ with_none run (all_mapped _ _ digit_no_star run ds) (all_mapped _ _ digit_no_stroke run ds) (all_mapped _ _ digit_no_point run ds) ∙ plain_digits run ds w.some ∙ rw (whole_to run n w) refl
term_to (fraction {over = over} {under = under} {parts = parts} w) text h = fraction_term over under parts text w h
term_to (decimal_cells {run = run} {parts = parts} w) text h =
    let in_run = h.0.is_token.1 in
    let no_point : Lacks (λ b. eqb b point) w.front = all_mapped _ _ digit_no_point w.front (all_front _ w.front w.back w.digits) in
    ap term_of (number_trimmed text run h)
    ∙ with_point run w.front w.back (all_mapped _ _ number_no_star run in_run) (all_mapped _ _ number_no_stroke run in_run) (ap (cut (λ b. eqb b point)) w.cut ∙ cut_first (λ b. eqb b point) w.front point w.back no_point refl)
    ∙ ap (option_map of_parts) (decimal_to w.front w.back parts w.digits w.some w.few_before w.few_after w.value)

-- ---- from what a text says to its term

-- a text with the tokens of a term
pub record IsTermText (text : List ℕ) (c : Component) : Type 0 where
  pub tokens : List Token
  pub has_tokens : HasTokens text tokens
  pub is_term : IsTerm tokens c

may_end : (token : Token) (rest : List ℕ) → MayFollow token [] rest
may_end (Number run) rest = tt
may_end (Sign byte) rest = tt
may_end (Mark byte) rest = tt
may_end (Letter byte) rest = tt

one_token : (text before : List ℕ) (token : Token) (after : List ℕ) → text ≡ before ++ (bytes_of token ++ after) → Each is_blank before → Each is_blank after → IsToken token → HasTokens text (token ∷ [])
one_token text before token after e h g is = (record { blanks = before; rest = after; cut = e; blank = h; is_token = is; follow = may_end token after }, g)

-- a number, a mark and another token
marked_tokens : (text b1 run b2 : List ℕ) (mark : ℕ) (b3 : List ℕ) (token : Token) (b4 : List ℕ) → text ≡ b1 ++ (((run ++ b2) ++ mark ∷ (b3 ++ bytes_of token)) ++ b4) → Each is_blank b1 → Each is_blank b2 → Each is_blank b3 → Each is_blank b4
    → IsToken (Number run) → IsToken (Mark mark) → IsToken token → HasTokens text (Number run ∷ Mark mark ∷ token ∷ [])
marked_tokens text b1 run b2 mark b3 token b4 e h1 h2 h3 h4 is_run is_mark is_last = (
  record {
    blanks = b1;
    rest = b2 ++ mark ∷ (b3 ++ (bytes_of token ++ b4));
    cut = e ∙ ap (λ (t : List ℕ). b1 ++ t) (regrouped run b2 mark b3 (bytes_of token) b4);
    blank = h1;
    is_token = is_run;
    follow = tt;
  },
  (record { blanks = b2; rest = b3 ++ (bytes_of token ++ b4); cut = refl; blank = h2; is_token = is_mark; follow = tt }, one_token _ b3 token b4 refl h3 h4 is_last),
)

one_digit : (digit : ℕ) → is_digit digit ≡ true → IsWhole (digit ∷ []) (digit - zero_digit)
one_digit digit h = record { some = omega arith; few = omega arith; digits = (h, tt); value = omega arith }

record IsProduct (front back : List ℕ) (c : Component) : Type 0 where
  digit : ℕ
  byte : ℕ
  front_is : front ≡ digit ∷ []
  back_is : back ≡ byte ∷ []
  is_digit : is_digit digit ≡ true
  is_letter : is_letter byte ≡ true
  value : times (digit - zero_digit) byte ≡ c

product_from : (front back : List ℕ) (c : Component) → product_of front back ≡ Some c → IsProduct front back c
product_from [] back c e = absurd cc
product_from (digit ∷ more) [] c e = absurd cc
product_from (digit ∷ []) (byte ∷ []) c e =
    let h = if_some (is_digit digit) (times_letter (digit - zero_digit) byte) c e in
    let l = times_from (digit - zero_digit) byte c h.1 in
    record { digit = digit; byte = byte; front_is = refl; back_is = refl; is_digit = h.0; is_letter = l.0; value = l.1 }
product_from (digit ∷ []) (byte ∷ other ∷ back) c e = absurd cc
product_from (digit ∷ other ∷ more) (byte ∷ back) c e = absurd cc

-- a text between blanks
module _ (text before trimmed after : List ℕ) (whole : text ≡ before ++ (trimmed ++ after)) (blank_before : Each is_blank before) (blank_after : Each is_blank after) (c : Component) where
  star_from : HasFirst (λ b. eqb b star) trimmed → term_of trimmed ≡ Some c → IsTermText text c
  star_from f e =
      let is = eqb-true f.byte star f.passed in
      let p = product_from (trim_end f.front) (trim_start f.back) c (sym (with_star trimmed f.front f.back (ap (cut (λ b. eqb b star)) f.cut ∙ cut_first (λ b. eqb b star) f.front f.byte f.back f.lacks f.passed)) ∙ e) in
      let one = end_cut f.front in
      let two = start_cut f.back in
      let front : f.front ≡ (p.digit ∷ []) ++ one.0 = one.1 ∙ ap (λ (t : List ℕ). t ++ one.0) p.front_is in
      let back : f.back ≡ two.0 ++ p.byte ∷ [] = two.1 ∙ ap (λ (t : List ℕ). two.0 ++ t) p.back_is in
      let cut : text ≡ before ++ ((((p.digit ∷ []) ++ one.0) ++ star ∷ (two.0 ++ p.byte ∷ [])) ++ after) = whole ∙ ap (λ (t : List ℕ). before ++ (t ++ after)) (f.cut ∙ (λ i. front i ++ is i ∷ back i)) in
      record {
        tokens = Number (p.digit ∷ []) ∷ Mark star ∷ Letter p.byte ∷ [];
        has_tokens = marked_tokens text before (p.digit ∷ []) one.0 star two.0 (Letter p.byte) after cut blank_before one.2 two.2 blank_after (omega arith, (digit_in_number p.digit p.is_digit, tt)) refl p.is_letter;
        is_term = subst (IsTerm (Number (p.digit ∷ []) ∷ Mark star ∷ Letter p.byte ∷ [])) p.value (digit_star_letter (one_digit p.digit p.is_digit));
      }

  stroke_from : Lacks (λ b. eqb b star) trimmed → HasFirst (λ b. eqb b slash) trimmed → term_of trimmed ≡ Some c → IsTermText text c
  stroke_from no_star f e =
      let is = eqb-true f.byte slash f.passed in
      let over = trim_end f.front in
      let under = trim_start f.back in
      let m = map_some (fraction_of over under) of_parts c (sym (with_stroke trimmed f.front f.back no_star (ap (cut (λ b. eqb b slash)) f.cut ∙ cut_first (λ b. eqb b slash) f.front f.byte f.back f.lacks f.passed)) ∙ e) in
      let p = fraction_from over under m.0 m.1 in
      let one = end_cut f.front in
      let two = start_cut f.back in
      let cut : text ≡ before ++ (((over ++ one.0) ++ slash ∷ (two.0 ++ under)) ++ after) = whole ∙ ap (λ (t : List ℕ). before ++ (t ++ after)) (f.cut ∙ (λ i. one.1 i ++ is i ∷ two.1 i)) in
      let u = under_is over under m.0 p in
      record {
        tokens = Number over ∷ Mark slash ∷ Number under ∷ [];
        has_tokens = marked_tokens text before over one.0 slash two.0 (Number under) after cut blank_before one.2 two.2 blank_after (p.whole.some, all_mapped _ _ digit_in_number over p.whole.digits) refl (u.0, all_mapped _ _ digit_in_number under u.1);
        is_term = subst (IsTerm (Number over ∷ Mark slash ∷ Number under ∷ [])) m.2 (fraction p);
      }

  point_from : Lacks (λ b. eqb b star) trimmed → Lacks (λ b. eqb b slash) trimmed → HasFirst (λ b. eqb b point) trimmed → term_of trimmed ≡ Some c → IsTermText text c
  point_from no_star no_stroke f e =
      let is = eqb-true f.byte point f.passed in
      let m = map_some (decimal_of f.front f.back) of_parts c (sym (with_point trimmed f.front f.back no_star no_stroke (ap (cut (λ b. eqb b point)) f.cut ∙ cut_first (λ b. eqb b point) f.front f.byte f.back f.lacks f.passed)) ∙ e) in
      let p = decimal_from f.front f.back m.0 m.1 in
      let digits : Each is_digit (f.front ++ f.back) = decimal_digits f.front f.back m.0 m.1 in
      let run = f.front ++ point ∷ f.back in
      let cut : text ≡ before ++ (run ++ after) = whole ∙ ap (λ (t : List ℕ). before ++ (t ++ after)) (f.cut ∙ ap (λ (b : ℕ). f.front ++ b ∷ f.back) is) in
      let some : 0 < length run = omega (arith, length-append f.front (point ∷ f.back)) in
      let front = all_mapped _ _ digit_in_number f.front (all_front _ f.front f.back digits) in
      let back = all_mapped _ _ digit_in_number f.back (all_back _ f.front f.back digits) in
      record {
        tokens = Number run ∷ [];
        has_tokens = one_token text before (Number run) after cut blank_before blank_after (some, all_joined _ f.front (point ∷ f.back) front (refl, back));
        is_term = subst (IsTerm (Number run ∷ [])) m.2 (decimal_cells p);
      }

  cells_from : cells_of trimmed ≡ Some c → IsTermText text c
  cells_from e =
      let m = map_some (whole_of trimmed) (λ n. of_parts (n * UNIT)) c e in
      let w = whole_from trimmed m.0 m.1 in
      record {
        tokens = Number trimmed ∷ [];
        has_tokens = one_token text before (Number trimmed) after whole blank_before blank_after (w.some, all_mapped _ _ digit_in_number trimmed w.digits);
        is_term = subst (IsTerm (Number trimmed ∷ [])) m.2 (cells w);
      }

  letter_from : (byte : ℕ) → trimmed ≡ byte ∷ [] → times_letter 1 byte ≡ Some c → IsTermText text c
  letter_from byte is e =
      let l = times_from 1 byte c e in
      record {
        tokens = Letter byte ∷ [];
        has_tokens = one_token text before (Letter byte) after (whole ∙ ap (λ (t : List ℕ). before ++ (t ++ after)) is) blank_before blank_after l.0;
        is_term = subst (IsTerm (Letter byte ∷ [])) l.1 letter;
      }

  digit_letter_from : (digit byte : ℕ) → trimmed ≡ digit ∷ byte ∷ [] → is_digit digit ≡ true → times_letter (digit - zero_digit) byte ≡ Some c → IsTermText text c
  digit_letter_from digit byte is d e =
      let l = times_from (digit - zero_digit) byte c e in
      record {
        tokens = Number (digit ∷ []) ∷ Letter byte ∷ [];
        has_tokens = (
          record { blanks = before; rest = byte ∷ after; cut = whole ∙ ap (λ (t : List ℕ). before ++ (t ++ after)) is; blank = blank_before; is_token = (omega arith, (digit_in_number digit d, tt)); follow = letter_solid byte l.0 },
          one_token (byte ∷ after) [] (Letter byte) after refl tt blank_after l.0,
        );
        is_term = subst (IsTerm (Number (digit ∷ []) ∷ Letter byte ∷ [])) l.1 (digit_letter (one_digit digit d));
      }

  one_byte_from : (b : Bool) (byte : ℕ) → is_digit byte ≡ b → trimmed ≡ byte ∷ [] → plain_of (byte ∷ []) ≡ Some c → IsTermText text c
  one_byte_from true byte d is e = cells_from (ap cells_of is ∙ sym (one_digit_is byte d) ∙ e)
  one_byte_from false byte d is e = letter_from byte is (rw d at e)

  two_bytes_from : (a b : Bool) (byte next : ℕ) → is_digit byte ≡ a → is_digit next ≡ b → trimmed ≡ byte ∷ next ∷ [] → plain_of (byte ∷ next ∷ []) ≡ Some c → IsTermText text c
  two_bytes_from a true byte next d k is e = cells_from (ap cells_of is ∙ sym (two_digits_are byte next k) ∙ e)
  two_bytes_from true false byte next d k is e = digit_letter_from byte next is d (rw (k, d) at e)
  two_bytes_from false false byte next d k is e = absurd (let f = rw (k, d) at e in cc)

  plain_from : (copy : List ℕ) → trimmed ≡ copy → plain_of copy ≡ Some c → IsTermText text c
  plain_from [] is e = absurd cc
  plain_from (byte ∷ []) is e = one_byte_from (is_digit byte) byte refl is e
  plain_from (byte ∷ next ∷ []) is e = two_bytes_from (is_digit byte) (is_digit next) byte next refl refl is e
  plain_from (byte ∷ next ∷ other ∷ copy) is e = cells_from (ap cells_of is ∙ e)

  trimmed_from : term_of trimmed ≡ Some c → IsTermText text c
  trimmed_from e =
      elim (first_or_none (λ b. eqb b star) trimmed) [
        | inl f ↦ star_from f e
        | inr no_star ↦ elim (first_or_none (λ b. eqb b slash) trimmed) [
          | inl f ↦ stroke_from no_star f e
          | inr no_stroke ↦ elim (first_or_none (λ b. eqb b point) trimmed) [
            | inl f ↦ point_from no_star no_stroke f e
            | inr no_point ↦ plain_from trimmed refl (sym (with_none trimmed no_star no_stroke no_point) ∙ e)
          ]
        ]
      ]

pub term_from : (text : List ℕ) (c : Component) → term_of (trim text) ≡ Some c → IsTermText text c
term_from text c e = let t = is_trimmed text in trimmed_from text t.before (trim text) t.after t.cut t.blank_before t.blank_after c e
