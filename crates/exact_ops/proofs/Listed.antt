-- What is listed is in range and has a whole inverse.
use Rattle.std.proofs.Common.{◌≡◌, List, [], ◌∷◌, ◌++◌, All, get_or, map, ap, sym, subst, ◌∙◌}
use Rattle.std.proofs.lemmas.List.{map_push}
use Rattle.std.proofs.lemmas.List.Elements.{All-map, All-push}
use Rattle.lattice_algebra.specs.Matrix.{IsUnimodular}
use Rattle.lattice_algebra.specs.Operator.{Operator}
use Rattle.exact_ops.specs.declared.raw.Raw.{Raw}
use Rattle.exact_ops.specs.Raw.{IsListed}
use Rattle.exact_ops.specs.Numbers.{numbers}
use Rattle.exact_ops.specs.OpList.{AreUnimodular}

pub AreListed : (raws : List Raw) → AreUnimodular raws → All IsListed (map numbers raws)
AreListed raws u = All-map IsListed numbers raws (λ k d l. record { in_range = (get_or raws k d).in_range; unimodular = u k d l })

-- one more
pub AreUnimodular-push : (raws more : List Raw) (raw : Raw) → AreUnimodular raws → IsUnimodular (numbers raw).w → more ≡ raws ++ raw ∷ [] → AreUnimodular more
AreUnimodular-push raws more raw u p e = subst AreUnimodular (sym e) (All-push (λ (r : Raw). IsUnimodular (numbers r).w) raws raw u p)

pub numbers-push : (raws more : List Raw) (raw : Raw) (was : List Operator) → map numbers raws ≡ was → more ≡ raws ++ raw ∷ [] → map numbers more ≡ was ++ numbers raw ∷ []
numbers-push raws more raw was v e = ap (map numbers) e ∙ map_push numbers raws raw ∙ ap (λ (l : List Operator). l ++ numbers raw ∷ []) v
