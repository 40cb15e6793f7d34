use Rattle.std.proofs.Common.{◌≡◌, ◌∷◌, [], List, ℕ, codes, sym, ap, ◌∙◌}
use Rattle.std.proofs.lemmas.Slice.Eq.{bytes_eq-Decides}
use Rattle.std.specs.String.{string_bytes}
use Rattle.sg_cli.proofs.WordsLists.{four_texts}
use Rattle.sg_cli.proofs.words.numbers.three_and_pairs.Goals as goal

pub returns-in-len4-clause-some : goal.returns-in-len4-clause-some
returns-in-len4-clause-some c =
    let x = c.x-item-then-arguments-lt5.result in
    let y = c.y-item-then-arguments-lt5.result in
    let z = c.z-item-then-arguments-lt5.result in
    let four = four_texts c.args.arguments.now x y z c.last-item.result c.in-len4.len_at_least c.in-len4.len_below c.x-item-then-arguments-lt5.is c.y-item-then-arguments-lt5.is c.z-item-then-arguments-lt5.is c.last-item.is in
    let last : string_bytes c.last-item.result ≡ codes "anomalous" = sym c.as_str.ensures.value ∙ (bytes_eq-Decides c.as_str.result.now (codes "anomalous")).0 (sym c.if-eq.ensures) in
    four ∙ ap (λ (w : List ℕ). string_bytes x ∷ string_bytes y ∷ string_bytes z ∷ w ∷ []) last
