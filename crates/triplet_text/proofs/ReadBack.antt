-- A printed operator is read back.
use Rattle.std.proofs.Common.{◌≡◌, ℕ, ◌≤◌, Bool, true, false, eqb, leb, List, [], ◌∷◌, ◌++◌, length, Some, refl, ap, ◌∙◌, arith, length-append, append_assoc}
use Rattle.std.specs.Prelude.{ℤ, pos, negsuc, ◌<◌}
use Rattle.std.proofs.Math.Nat.{mod-eq_of_lt}
use Rattle.std.proofs.lemmas.Int.{ints}
use Rattle.std.proofs.lemmas.Bool.{le-leb}
use Rattle.std.proofs.lemmas.Bool.Decides.{nat_tests}
use Rattle.lattice_algebra.specs.Operator.{Operator, IsPart}
use Rattle.exact_ops.specs.Narrow.{IsNarrow}
use Rattle.exact_ops.specs.declared.TheConstants.{UNIT}
use Rattle.triplet_text.specs.declared.component.Component.{Component}
use Rattle.triplet_text.specs.declared.triplet.TheConstants.{LINE_LENGTH}
use Rattle.triplet_text.specs.Bytes.{is_blank, is_quote, comma}
use Rattle.triplet_text.specs.Pieces.{trim, trim_end, unquoted}
use Rattle.triplet_text.specs.Sums.{sum_of}
use Rattle.triplet_text.specs.Triplets.{modulo_cell, operator_by, triplet_of}
use Rattle.triplet_text.specs.Printing.{component_text, operator_text}
use Rattle.triplet_text.specs.Tokens.{Each}
use Rattle.triplet_text.specs.Grammar.{IsTriplet}
use Rattle.triplet_text.proofs.Texts.{Lacks, all_joined, all_mapped, start_kept, solid_kept, cut_first}
use Rattle.triplet_text.proofs.Components.{is_plain, component_back}
use Rattle.triplet_text.proofs.GrammarLaw.{triplet_from}

plain_no_blank : (byte : ℕ) → is_plain byte ≡ true → is_blank byte ≡ false
plain_no_blank byte h = grind (arith, nat_tests)

plain_no_quote : (byte : ℕ) → is_plain byte ≡ true → is_quote byte ≡ false
plain_no_quote byte h = grind (arith, nat_tests)

plain_no_comma : (byte : ℕ) → is_plain byte ≡ true → eqb byte comma ≡ false
plain_no_comma byte h = grind (arith, nat_tests)

trim_kept : (text : List ℕ) → Lacks is_blank text → trim text ≡ text
trim_kept [] h = refl
trim_kept (byte ∷ text) h = ap trim_end (start_kept byte text h.0) ∙ solid_kept (byte ∷ text) h

quotes_kept : (text : List ℕ) → Lacks is_quote text → unquoted text ≡ text
quotes_kept [] h = refl
quotes_kept (byte ∷ text) h = rw h.0 refl

-- three texts with commas between them, where no byte passes
commas_between : (passes : ℕ → Bool) (r s t : List ℕ) → passes comma ≡ false → Lacks passes r → Lacks passes s → Lacks passes t → Lacks passes (r ++ comma ∷ (s ++ comma ∷ t))
commas_between passes r s t c p q u = all_joined _ r (comma ∷ (s ++ comma ∷ t)) p (c, all_joined _ s (comma ∷ t) q (c, u))

three_back : (r s t : List ℕ) (a b c : Component) → Each is_plain r → Each is_plain s → Each is_plain t → length r ≤ 50 → length s ≤ 50 → length t ≤ 50
    → sum_of r ≡ Some a → sum_of s ≡ Some b → sum_of t ≡ Some c → triplet_of (r ++ comma ∷ (s ++ comma ∷ t)) ≡ Some (operator_by a b c)
three_back r s t a b c pr ps pt lr ls lt ea eb ec =
    let text = r ++ comma ∷ (s ++ comma ∷ t) in
    let solid = commas_between is_blank r s t refl (all_mapped _ _ plain_no_blank r pr) (all_mapped _ _ plain_no_blank s ps) (all_mapped _ _ plain_no_blank t pt) in
    let bare = commas_between is_quote r s t refl (all_mapped _ _ plain_no_quote r pr) (all_mapped _ _ plain_no_quote s ps) (all_mapped _ _ plain_no_quote t pt) in
    let whole : trim (unquoted (trim text)) ≡ text = ap (λ (x : List ℕ). trim (unquoted x)) (trim_kept text solid) ∙ ap trim (quotes_kept text bare) ∙ trim_kept text solid in
    let short : leb (length text) LINE_LENGTH ≡ true = le-leb _ _ (omega (arith, length-append r (comma ∷ (s ++ comma ∷ t)), length-append s (comma ∷ t))) in
    let one = cut_first (λ b. eqb b comma) r comma (s ++ comma ∷ t) (all_mapped _ _ plain_no_comma r pr) refl in
    let two = cut_first (λ b. eqb b comma) s comma t (all_mapped _ _ plain_no_comma s ps) refl in
    rw (short, whole) (rw (one, two) (rw (ea, eb, ec) refl))

part_stays : (n : ℤ) → IsPart UNIT n → modulo_cell n ≡ n
part_stays (pos n) h = let small : n < UNIT = omega (arith, ints, h) in ap pos (mod-eq_of_lt small)
part_stays (negsuc n) h = absurd (omega (arith, ints, h))

read_back : (f : Operator) → IsNarrow f → triplet_of (operator_text f) ≡ Some f
read_back f narrow =
    let rows = narrow.within_two in
    let parts = narrow.is_operator.in_cell in
    let r = component_back f.w.xx f.w.xy f.w.xz f.t.x rows.x parts.x in
    let s = component_back f.w.yx f.w.yy f.w.yz f.t.y rows.y parts.y in
    let t = component_back f.w.zx f.w.zy f.w.zz f.t.z rows.z parts.z in
    let x = part_stays f.t.x parts.x in
    let y = part_stays f.t.y parts.y in
    let z = part_stays f.t.z parts.z in
    let one = component_text 1 f.w.xx f.w.xy f.w.xz f.t.x in
    let two = component_text 1 f.w.yx f.w.yy f.w.yz f.t.y in
    let three = component_text 1 f.w.zx f.w.zy f.w.zz f.t.z in
    ap triplet_of (append_assoc one (comma ∷ two) (comma ∷ three))
    ∙ three_back one two three _ _ _ r.plain s.plain t.plain r.short s.short t.short r.reads s.reads t.reads
    ∙ (λ i. Some (record { w = f.w; t = record { x = x i; y = y i; z = z i } }))

-- the text of an operator is a triplet of it
pub text_is_triplet : (f : Operator) → IsNarrow f → IsTriplet (operator_text f) f
text_is_triplet f narrow = triplet_from (operator_text f) f (read_back f narrow)
