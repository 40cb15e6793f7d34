-- Measured lines have one text of their classes; values at the points of a grid have one text of their sums.
use Rattle.std.proofs.Common.{◌≡◌, ℕ, ℤ, List, refl, ap, sym, subst, ◌∙◌}
use Rattle.lattice_algebra.specs.Operator.{Operator}
use Rattle.group_closure.specs.GroupList.{IsGroup}
use Rattle.phase_rules.specs.declared.pairs.Pairs.{Pairs}
use Rattle.grid_tags.specs.Grids as grids
use Rattle.grid_tags.specs.Grids.{IsKept, IsGridInRange}
use Rattle.refl_merge.specs.declared.measured.Measured.{Measured}
use Rattle.refl_merge.specs.Texts.{merged_text, IsMergedText}
use Rattle.refl_merge.proofs.MergedLists.{some_list, one_list}
use Rattle.map_sym.specs.SummedMaps.{GridValues, SummedMap}
use Rattle.map_sym.specs.MapTexts.{IsMapText}
use Rattle.map_sym.proofs.OneMap.{one_map, some_map}
use Rattle.map_sym.proofs.MapPages as pages
use Rattle.sg_cli.specs.Answering.{IsSummedText}

module _ (pairs : Pairs) (members : List Operator) (g : IsGroup members) (lines : List Measured) where
  pub one_merged_text : (t u : List ℕ) → IsMergedText pairs members lines t → IsMergedText pairs members lines u → t ≡ u
  one_merged_text t u p q = p.whole ∙ ap merged_text (one_list pairs members g lines p.merged q.merged p.is_list q.is_list) ∙ sym q.whole

  pub some_merged_text : (text : List ℕ) × IsMergedText pairs members lines text
  some_merged_text = let r = some_list pairs members g lines in (merged_text r.0, record { merged = r.0; is_list = r.1; whole = refl })

module _ (members : List Operator) (g : IsGroup members) (s : grids.Grid) (r : IsGridInRange s) (k : IsKept members s) (values : List ℤ) where
  abbrev given : GridValues
  given = record { size = s; values = values }

  in_range : (map : SummedMap) → map.sums.size ≡ s → IsGridInRange map.sums.size
  in_range map e = subst IsGridInRange (sym e) r

  is_kept : (map : SummedMap) → map.sums.size ≡ s → IsKept members map.sums.size
  is_kept map e = subst (IsKept members) (sym e) k

  pub one_summed_text : (t u : List ℕ) → IsSummedText members s values t → IsSummedText members s values u → t ≡ u
  one_summed_text t u p q =
      let same = one_map members given g r k p.map q.map p.summed q.summed in
      pages.one_map_text members q.map g (in_range q.map q.summed.size) (is_kept q.map q.summed.size) t u (subst (λ map. IsMapText members map t) same p.is_text) q.is_text

  pub some_summed_text : (text : List ℕ) × IsSummedText members s values text
  some_summed_text =
      let m = some_map members given g r k in
      let t = pages.some_map_text members m.0 g (in_range m.0 m.1.size) (is_kept m.0 m.1.size) in
      (t.0, record { map = m.0; summed = m.1; is_text = t.1 })
