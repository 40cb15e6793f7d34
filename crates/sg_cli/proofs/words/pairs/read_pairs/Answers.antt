use Rattle.std.proofs.Common.{◌≡◌, ◌∷◌, [], List, ℕ, codes, sym, ap, ◌∙◌}
use Rattle.std.proofs.lemmas.Slice.Eq.{bytes_eq-Decides}
use Rattle.std.specs.String.{string_bytes}
use Rattle.sg_cli.proofs.WordsLists.{one_text}
use Rattle.sg_cli.proofs.words.pairs.read_pairs.Goals as goal

pub returns-in-len1-clause-some : goal.returns-in-len1-clause-some
returns-in-len1-clause-some c =
    let one = one_text c.args.arguments.now c.last-item.result c.in-len1.len_at_least c.in-len1.len_below c.last-item.is in
    let last : string_bytes c.last-item.result ≡ codes "anomalous" = sym c.as_str.ensures.value ∙ (bytes_eq-Decides c.as_str.result.now (codes "anomalous")).0 (sym c.if-eq.ensures) in
    one ∙ ap (λ (w : List ℕ). w ∷ []) last
