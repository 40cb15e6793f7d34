-- Texts by their tokens: joined, split, trimmed, and all of one kind of bytes.
use Rattle.std.proofs.Common.{◌≡◌, ℕ, ◌<◌, Bool, true, false, eqb, List, [], ◌∷◌, ◌++◌, length, refl, sym, ap, subst, ◌∙◌, arith, length-append, append_assoc}
use Rattle.std.proofs.lemmas.List.{append-nil}
use Rattle.triplet_text.specs.Bytes.{is_blank, is_sign, comma}
use Rattle.triplet_text.specs.Pieces.{onto, trim_start, trim_end, trim}
use Rattle.triplet_text.specs.Tokens.{Token, Sign, Mark, Letter, Number, Each, bytes_of, IsToken, begins_with_blank, MayFollow, HasTokens, is_letter, is_in_number}
use Rattle.triplet_text.proofs.Texts.{Lacks, all_joined, all_mapped, blanks_dropped, end_cut, is_trimmed}
use Rattle.triplet_text.proofs.ByteKinds.{is_quiet, sign_solid, mark_solid, letter_solid, number_solid, is_no_comma, blank_quiet, letter_quiet, number_quiet, blank_no_comma, letter_no_comma, number_no_comma, comma_fails}

-- the first byte of a token is no blank
pub record HasFirstByte (token : Token) : Type 0 where
  pub byte : ℕ
  pub more : List ℕ
  pub cut : bytes_of token ≡ byte ∷ more
  pub solid : is_blank byte ≡ false

pub first_byte : (token : Token) → IsToken token → HasFirstByte token
first_byte (Sign byte) h = record { byte = byte; more = []; cut = refl; solid = sign_solid byte h }
first_byte (Mark byte) h = record { byte = byte; more = []; cut = refl; solid = mark_solid byte h }
first_byte (Letter byte) h = record { byte = byte; more = []; cut = refl; solid = letter_solid byte h }
first_byte (Number []) h = absurd (omega (arith, h.0))
first_byte (Number (byte ∷ run)) h = record { byte = byte; more = run; cut = refl; solid = number_solid byte h.1.0 }

some_bytes : (text : List ℕ) (token : Token) (tokens : List Token) → HasTokens text (token ∷ tokens) → 0 < length text
some_bytes text token tokens h =
    let f = first_byte token h.0.is_token in
    let e : length text ≡ length (h.0.blanks ++ (bytes_of token ++ h.0.rest)) = ap length h.0.cut in
    let d : length (bytes_of token) ≡ length (f.byte ∷ f.more) = ap length f.cut in
    omega (arith, e, d, length-append h.0.blanks (bytes_of token ++ h.0.rest), length-append (bytes_of token) h.0.rest)

begins_same : (front back : List ℕ) → 0 < length front → begins_with_blank (front ++ back) ≡ begins_with_blank front
begins_same [] back some = absurd (omega arith)
begins_same (byte ∷ front) back some = refl

-- ---- joined

pub blanks_before : (blanks text : List ℕ) (tokens : List Token) → Each is_blank blanks → HasTokens text tokens → HasTokens (blanks ++ text) tokens
blanks_before blanks text [] h t = all_joined _ blanks text h t
blanks_before blanks text (token ∷ tokens) h t = (
  record {
    blanks = blanks ++ t.0.blanks;
    rest = t.0.rest;
    cut = ap (λ (s : List ℕ). blanks ++ s) t.0.cut ∙ sym (append_assoc blanks t.0.blanks (bytes_of token ++ t.0.rest));
    blank = all_joined _ blanks t.0.blanks h t.0.blank;
    is_token = t.0.is_token;
    follow = t.0.follow;
  },
  t.1,
)

-- no letter and no number stands first
abbrev pub IsFree : List Token → Type 0
IsFree [] = Unit {0}
IsFree (Sign byte ∷ tokens) = Unit {0}
IsFree (Mark byte ∷ tokens) = Unit {0}
IsFree (Letter byte ∷ tokens) = ⊥
IsFree (Number run ∷ tokens) = ⊥

follow_joined : (token : Token) (xs ys : List Token) (rest back : List ℕ) → IsFree ys → MayFollow token xs rest → HasTokens rest xs → MayFollow token (xs ++ ys) (rest ++ back)
follow_joined (Number run) [] [] rest back free f h = tt
follow_joined (Number run) [] (Sign byte ∷ ys) rest back free f h = tt
follow_joined (Number run) [] (Mark byte ∷ ys) rest back free f h = tt
follow_joined (Number run) [] (Letter byte ∷ ys) rest back free f h = absurd free
follow_joined (Number run) [] (Number other ∷ ys) rest back free f h = absurd free
follow_joined (Number run) (Sign byte ∷ xs) ys rest back free f h = tt
follow_joined (Number run) (Mark byte ∷ xs) ys rest back free f h = tt
follow_joined (Number run) (Letter byte ∷ xs) ys rest back free f h = begins_same rest back (some_bytes rest (Letter byte) xs h) ∙ f
follow_joined (Number run) (Number other ∷ xs) ys rest back free f h = begins_same rest back (some_bytes rest (Number other) xs h) ∙ f
follow_joined (Sign byte) xs ys rest back free f h = tt
follow_joined (Mark byte) xs ys rest back free f h = tt
follow_joined (Letter byte) xs ys rest back free f h = tt

-- two texts one behind the other, where the second begins with no letter and no number
pub join : (xs ys : List Token) (front back : List ℕ) → IsFree ys → HasTokens front xs → HasTokens back ys → HasTokens (front ++ back) (xs ++ ys)
join [] ys front back free p q = blanks_before front back ys p q
join (x ∷ xs) ys front back free p q = (
  record {
    blanks = p.0.blanks;
    rest = p.0.rest ++ back;
    cut = ap (λ (s : List ℕ). s ++ back) p.0.cut ∙ append_assoc p.0.blanks (bytes_of x ++ p.0.rest) back ∙ ap (λ (s : List ℕ). p.0.blanks ++ s) (append_assoc (bytes_of x) p.0.rest back);
    blank = p.0.blank;
    is_token = p.0.is_token;
    follow = follow_joined x xs ys p.0.rest back free p.0.follow p.1;
  },
  join xs ys p.0.rest back free p.1 q,
)

pub sign_before : (byte : ℕ) (text : List ℕ) (tokens : List Token) → is_sign byte ≡ true → HasTokens text tokens → HasTokens (byte ∷ text) (Sign byte ∷ tokens)
sign_before byte text tokens s h = (record { blanks = []; rest = text; cut = refl; blank = tt; is_token = s; follow = tt }, h)

-- ---- split

follow_split : (token : Token) (xs ys : List Token) (front back : List ℕ) → MayFollow token (xs ++ ys) (front ++ back) → HasTokens front xs → MayFollow token xs front
follow_split (Number run) [] ys front back f h = tt
follow_split (Number run) (Sign byte ∷ xs) ys front back f h = tt
follow_split (Number run) (Mark byte ∷ xs) ys front back f h = tt
follow_split (Number run) (Letter byte ∷ xs) ys front back f h = sym (begins_same front back (some_bytes front (Letter byte) xs h)) ∙ f
follow_split (Number run) (Number other ∷ xs) ys front back f h = sym (begins_same front back (some_bytes front (Number other) xs h)) ∙ f
follow_split (Sign byte) xs ys front back f h = tt
follow_split (Mark byte) xs ys front back f h = tt
follow_split (Letter byte) xs ys front back f h = tt

pub record IsSplit (text : List ℕ) (xs ys : List Token) : Type 0 where
  pub front : List ℕ
  pub back : List ℕ
  pub cut : text ≡ front ++ back
  pub first : HasTokens front xs
  pub second : HasTokens back ys

pub split : (xs ys : List Token) (text : List ℕ) → HasTokens text (xs ++ ys) → IsSplit text xs ys
split [] ys text h = record { front = []; back = text; cut = refl; first = tt; second = h }
split (x ∷ xs) ys text h =
    let i = split xs ys h.0.rest h.1 in
    record {
      front = h.0.blanks ++ (bytes_of x ++ i.front);
      back = i.back;
      cut = h.0.cut ∙ ap (λ (s : List ℕ). h.0.blanks ++ (bytes_of x ++ s)) i.cut ∙ ap (λ (s : List ℕ). h.0.blanks ++ s) (sym (append_assoc (bytes_of x) i.front i.back)) ∙ sym (append_assoc h.0.blanks (bytes_of x ++ i.front) i.back);
      first = (
        record {
          blanks = h.0.blanks;
          rest = i.front;
          cut = refl;
          blank = h.0.blank;
          is_token = h.0.is_token;
          follow = follow_split x xs ys i.front i.back (subst (λ (s : List ℕ). MayFollow x (xs ++ ys) s) i.cut h.0.follow) i.first;
        },
        i.first,
      );
      second = i.second;
    }

-- ---- all bytes of one kind

-- the signs and marks are of this kind
abbrev pub AreOfKind : (ℕ → Bool) → List Token → Type 0
AreOfKind kind [] = Unit {0}
AreOfKind kind (Sign byte ∷ tokens) = (kind byte ≡ true) × AreOfKind kind tokens
AreOfKind kind (Mark byte ∷ tokens) = (kind byte ≡ true) × AreOfKind kind tokens
AreOfKind kind (Letter byte ∷ tokens) = AreOfKind kind tokens
AreOfKind kind (Number run ∷ tokens) = AreOfKind kind tokens

pub kind_mapped : (kind other : ℕ → Bool) → ((byte : ℕ) → kind byte ≡ true → other byte ≡ true) → (tokens : List Token) → AreOfKind kind tokens → AreOfKind other tokens
kind_mapped kind other f [] h = tt
kind_mapped kind other f (Sign byte ∷ tokens) h = (f byte h.0, kind_mapped kind other f tokens h.1)
kind_mapped kind other f (Mark byte ∷ tokens) h = (f byte h.0, kind_mapped kind other f tokens h.1)
kind_mapped kind other f (Letter byte ∷ tokens) h = kind_mapped kind other f tokens h
kind_mapped kind other f (Number run ∷ tokens) h = kind_mapped kind other f tokens h

pub kind_joined : (kind : ℕ → Bool) (xs ys : List Token) → AreOfKind kind xs → AreOfKind kind ys → AreOfKind kind (xs ++ ys)
kind_joined kind [] ys p q = q
kind_joined kind (Sign byte ∷ xs) ys p q = (p.0, kind_joined kind xs ys p.1 q)
kind_joined kind (Mark byte ∷ xs) ys p q = (p.0, kind_joined kind xs ys p.1 q)
kind_joined kind (Letter byte ∷ xs) ys p q = kind_joined kind xs ys p q
kind_joined kind (Number run ∷ xs) ys p q = kind_joined kind xs ys p q

module _ (kind : ℕ → Bool) (blanks_are : (byte : ℕ) → is_blank byte ≡ true → kind byte ≡ true) (letters_are : (byte : ℕ) → is_letter byte ≡ true → kind byte ≡ true) (numbers_are : (byte : ℕ) → is_in_number byte ≡ true → kind byte ≡ true) where
  piece_is : (text blanks bytes rest : List ℕ) → text ≡ blanks ++ (bytes ++ rest) → Each is_blank blanks → Each kind bytes → Each kind rest → Each kind text
  piece_is text blanks bytes rest cut blank b r = subst (Each kind) (sym cut) (all_joined _ blanks (bytes ++ rest) (all_mapped _ _ blanks_are blanks blank) (all_joined _ bytes rest b r))

  text_is : (tokens : List Token) (text : List ℕ) → AreOfKind kind tokens → HasTokens text tokens → Each kind text
  text_is [] text k h = all_mapped _ _ blanks_are text h
  text_is (Sign byte ∷ tokens) text k h = piece_is text h.0.blanks (byte ∷ []) h.0.rest h.0.cut h.0.blank (k.0, tt) (text_is tokens h.0.rest k.1 h.1)
  text_is (Mark byte ∷ tokens) text k h = piece_is text h.0.blanks (byte ∷ []) h.0.rest h.0.cut h.0.blank (k.0, tt) (text_is tokens h.0.rest k.1 h.1)
  text_is (Letter byte ∷ tokens) text k h = piece_is text h.0.blanks (byte ∷ []) h.0.rest h.0.cut h.0.blank (letters_are byte h.0.is_token, tt) (text_is tokens h.0.rest k h.1)
  text_is (Number run ∷ tokens) text k h = piece_is text h.0.blanks run h.0.rest h.0.cut h.0.blank (all_mapped _ _ numbers_are run h.0.is_token.1) (text_is tokens h.0.rest k h.1)

pub quiet_text : (tokens : List Token) (text : List ℕ) → AreOfKind is_quiet tokens → HasTokens text tokens → Each is_quiet text
quiet_text tokens text k h = text_is is_quiet blank_quiet letter_quiet number_quiet tokens text k h

pub text_without_commas : (tokens : List Token) (text : List ℕ) → AreOfKind is_no_comma tokens → HasTokens text tokens → Lacks (λ b. eqb b comma) text
text_without_commas tokens text k h = all_mapped _ _ comma_fails text (text_is is_no_comma blank_no_comma letter_no_comma number_no_comma tokens text k h)

-- ---- blanks behind and before

pub blanks_behind : (text blanks : List ℕ) (tokens : List Token) → Each is_blank blanks → HasTokens text tokens → HasTokens (text ++ blanks) tokens
blanks_behind text blanks tokens h t = subst (HasTokens (text ++ blanks)) (append-nil tokens) (join tokens [] text blanks tt t h)

-- ---- trimmed

blank_first_gone : (byte : ℕ) (text : List ℕ) (tokens : List Token) → is_blank byte ≡ true → HasTokens (byte ∷ text) tokens → HasTokens text tokens
blank_first_gone byte text [] b h = h.1
blank_first_gone byte text (token ∷ tokens) b h = by h.0.blanks h.0.cut h.0.blank
  where
    by : (blanks : List ℕ) → byte ∷ text ≡ blanks ++ (bytes_of token ++ h.0.rest) → Each is_blank blanks → HasTokens text (token ∷ tokens)
    by [] cut blank =
        let f = first_byte token h.0.is_token in
        let heads : byte ∷ text ≡ f.byte ∷ (f.more ++ h.0.rest) = cut ∙ ap (λ (s : List ℕ). s ++ h.0.rest) f.cut in
        let same : byte ≡ f.byte = cc in
        let solid = f.solid in
        absurd cc
    by (first ∷ blanks) cut blank = (record { blanks = blanks; rest = h.0.rest; cut = cc; blank = blank.1; is_token = h.0.is_token; follow = h.0.follow }, h.1)

start_trimmed : (text : List ℕ) (tokens : List Token) → HasTokens text tokens → HasTokens (trim_start text) tokens
start_trimmed [] tokens h = h
start_trimmed (byte ∷ text) tokens h = by (is_blank byte) refl (λ b. start_trimmed text tokens (blank_first_gone byte text tokens b h))
  where
    by : (b : Bool) → is_blank byte ≡ b → (is_blank byte ≡ true → HasTokens (trim_start text) tokens) → HasTokens (trim_start (byte ∷ text)) tokens
    by true e i = rw e (i e)
    by false e i = rw e h

solid_bytes : (token : Token) → IsToken token → Lacks is_blank (bytes_of token)
solid_bytes (Sign byte) h = (sign_solid byte h, tt)
solid_bytes (Mark byte) h = (mark_solid byte h, tt)
solid_bytes (Letter byte) h = (letter_solid byte h, tt)
solid_bytes (Number run) h = all_mapped _ _ number_solid run h.1

onto_solid : (byte : ℕ) (text : List ℕ) → is_blank byte ≡ false → onto byte text ≡ byte ∷ text
onto_solid byte [] h = rw h refl
onto_solid byte (next ∷ text) h = refl

solid_stays : (solid text : List ℕ) → Lacks is_blank solid → trim_end (solid ++ text) ≡ solid ++ trim_end text
solid_stays [] text h = refl
solid_stays (byte ∷ solid) text h = onto_solid byte (trim_end (solid ++ text)) h.0 ∙ ap (λ (t : List ℕ). byte ∷ t) (solid_stays solid text h.1)

front_stays : (front : List ℕ) (text : List ℕ) (byte : ℕ) (more : List ℕ) → trim_end text ≡ byte ∷ more → trim_end (front ++ text) ≡ front ++ trim_end text
front_stays [] text byte more e = refl
front_stays (first ∷ front) text byte more e = ap (onto first) (front_stays front text byte more e) ∙ by front
  where
    by : (front : List ℕ) → onto first (front ++ trim_end text) ≡ first ∷ (front ++ trim_end text)
    by [] = rw e refl
    by (next ∷ front) = refl

follow_front : (token : Token) (tokens : List Token) (rest front back : List ℕ) → rest ≡ front ++ back → MayFollow token tokens rest → HasTokens front tokens → MayFollow token tokens front
follow_front (Number run) [] rest front back e f h = tt
follow_front (Number run) (Sign byte ∷ tokens) rest front back e f h = tt
follow_front (Number run) (Mark byte ∷ tokens) rest front back e f h = tt
follow_front (Number run) (Letter byte ∷ tokens) rest front back e f h = sym (ap begins_with_blank e ∙ begins_same front back (some_bytes front (Letter byte) tokens h)) ∙ f
follow_front (Number run) (Number other ∷ tokens) rest front back e f h = sym (ap begins_with_blank e ∙ begins_same front back (some_bytes front (Number other) tokens h)) ∙ f
follow_front (Sign byte) tokens rest front back e f h = tt
follow_front (Mark byte) tokens rest front back e f h = tt
follow_front (Letter byte) tokens rest front back e f h = tt

end_trimmed : (tokens : List Token) (text : List ℕ) → HasTokens text tokens → HasTokens (trim_end text) tokens
end_trimmed [] text h = rw (blanks_dropped text h) tt
end_trimmed (token ∷ tokens) text h =
    let rest = h.0.rest in
    let i = end_trimmed tokens rest h.1 in
    let f = first_byte token h.0.is_token in
    let stays = solid_stays (bytes_of token) rest (solid_bytes token h.0.is_token) in
    let cut : trim_end text ≡ h.0.blanks ++ (bytes_of token ++ trim_end rest) =
    ap trim_end h.0.cut ∙ front_stays h.0.blanks (bytes_of token ++ rest) f.byte (f.more ++ trim_end rest) (stays ∙ ap (λ (t : List ℕ). t ++ trim_end rest) f.cut) ∙ ap (λ (t : List ℕ). h.0.blanks ++ t) stays in
    let e = end_cut rest in
    (record { blanks = h.0.blanks; rest = trim_end rest; cut = cut; blank = h.0.blank; is_token = h.0.is_token; follow = follow_front token tokens rest (trim_end rest) e.0 e.1 h.0.follow i }, i)

-- a text and what it is trimmed to have the same tokens
pub trimmed_has : (text : List ℕ) (tokens : List Token) → HasTokens text tokens → HasTokens (trim text) tokens
trimmed_has text tokens h = end_trimmed tokens (trim_start text) (start_trimmed text tokens h)

pub has_trimmed : (text : List ℕ) (tokens : List Token) → HasTokens (trim text) tokens → HasTokens text tokens
has_trimmed text tokens h =
    let t = is_trimmed text in
    subst (λ (s : List ℕ). HasTokens s tokens) (sym t.cut) (blanks_before t.before (trim text ++ t.after) tokens t.blank_before (blanks_behind (trim text) t.after tokens t.blank_after h))
