-- What each command answers over a group and data lines is sound: it has one outcome, and each refusal comes before the first byte.
use Rattle.std.proofs.Common.{◌≡◌, ℕ, List, length, refl, sym, subst, ◌∙◌}
use Rattle.std.proofs.lemmas.Bool.{cases_eq}
use Rattle.lattice_algebra.specs.Operator.{Operator}
use Rattle.lattice_algebra.specs.Point as rational
use Rattle.exact_ops.specs.declared.TheConstants.{UNIT}
use Rattle.group_closure.specs.GroupList.{IsGroup}
use Rattle.grid_tags.specs.Grids.{points}
use Rattle.grid_tags.proofs.KeptOrNot.{kept_or_not}
use Rattle.space_groups.specs.Bases.{CoordinateChange, IsChange, IsChangedGroup}
use Rattle.space_groups.proofs.Changes.{IsChange-basis}
use Rattle.basis_change.specs.Changes.{MayClose}
use Rattle.basis_change.proofs.ChangedGroup.{one_group}
use Rattle.basis_change.proofs.Decided.{at_most, cell_or_not, whole_or_not, narrow_or_not, parts_or_not}
use Rattle.basis_change.proofs.Existence.{changed_in_basis, few_or_many, changed_of_few}
use Rattle.site_symmetry.proofs.FixingLists.{one_ordered_site, some_ordered_site}
use Rattle.orbit_map.specs.OrderedOrbit.{IsScaled}
use Rattle.orbit_map.proofs.OrbitLists.{one_orbit, some_ordered_orbit}
use Rattle.page_print.proofs.LineTexts.{one_text, some_lines}
use Rattle.table_print.specs.Sites.{IsSiteText}
use Rattle.table_print.specs.Rows.{IsRowsText}
use Rattle.table_print.specs.Table.{IsTableText}
use Rattle.table_print.specs.Operators.{IsOperatorLine, AreOperatorLines}
use Rattle.table_print.specs.Types.{IsTypeLine}
use Rattle.table_print.proofs.SiteTexts as texts
use Rattle.table_print.proofs.ClassTexts as classes
use Rattle.table_print.proofs.GridTexts as orbits
use Rattle.table_print.specs.Params.{IsParamsText}
use Rattle.table_print.proofs.FormTexts.{one_params_text, some_params_text}
use Rattle.table_print.proofs.TablePages.{one_table_text, some_table_text}
use Rattle.json_report.specs.Report.{IsReportText}
use Rattle.json_report.proofs.ReportTexts.{one_report_text, some_report_text}
use Rattle.table_print.proofs.TypeLines.{one_operator_line, some_operator_line, one_type_line, some_type_line}
use Rattle.atom_expand.specs.declared.TheConstants.{MAX_ATOMS}
use Rattle.sg_cli.specs.declared.words.Name.{Name}
use Rattle.sg_cli.specs.declared.words.Name.TheVariants as named
use Rattle.sg_cli.specs.Words.{Given, HasArguments, family}
use Rattle.sg_cli.specs.Inputs.{DataLines}
use Rattle.sg_cli.specs.Wyckoff.{IsFitText, IsCountedText}
use Rattle.sg_cli.specs.Answering.{IsSiteTextFor, IsChangedText, Answering}
use Rattle.sg_cli.proofs.Stages.{IsSound, sound_behind, sound_giving, sound_needing, needed}
use Rattle.sg_cli.proofs.PointWords.{scaled_point, is_point}
use Rattle.sg_cli.proofs.ChangeWords.{basis_change, cell_change}
use Rattle.sg_cli.proofs.WyckoffTexts.{one_text_of_rows, some_text_of_rows, one_fit_text, some_fit_text}
use Rattle.sg_cli.proofs.SampleTexts.{one_counted_text, some_counted_text}
use Rattle.refl_merge.specs.MeasuredLines.{IsMeasuredLine}
use Rattle.refl_merge.proofs.LineTexts.{one_measured, measured_or_not}
use Rattle.map_sym.specs.ValueLines.{IsValueLine}
use Rattle.map_sym.proofs.ValueLaws.{one_value, value_or_none}
use Rattle.sg_cli.proofs.SiteStages.{sound_sites, one_expanded_text, some_expanded_text}
use Rattle.sg_cli.proofs.DataStages.{sound_gathering}
use Rattle.sg_cli.proofs.DataTexts.{one_merged_text, some_merged_text, one_summed_text, some_summed_text}

-- ---- texts

module _ (members : List Operator) (x : rational.Point) (g : IsGroup members) (s : IsScaled x) where
  one_site_text : (t u : List ℕ) → IsSiteTextFor members x t → IsSiteTextFor members x u → t ≡ u
  one_site_text t u h k =
      let same_site = one_ordered_site members x g (is_point x s) h.site k.site h.is_site k.is_site in
      let same_orbit = one_orbit members x h.orbit k.orbit (is_point x s) h.is_orbit k.is_orbit in
      texts.one_site_text k.site k.orbit t u (subst (λ o. IsSiteText k.site o t) same_orbit (subst (λ l. IsSiteText l h.orbit t) same_site h.is_text)) k.is_text

  some_site_text : (text : List ℕ) × IsSiteTextFor members x text
  some_site_text =
      let site = some_ordered_site members x g (is_point x s) in
      let orbit = some_ordered_orbit members x g s in
      let text = texts.some_site_text site.0 orbit.0 in
      (text.0, record { site = site.0; is_site = site.1; orbit = orbit.0; is_orbit = orbit.1; is_text = text.1 })

module _ (members : List Operator) (c : CoordinateChange) where
  one_changed_text : IsChange c → (t u : List ℕ) → IsChangedText members c t → IsChangedText members c u → t ≡ u
  one_changed_text i t u h k =
      let same = one_group members h.changed k.changed c i h.group k.group h.is_changed k.is_changed in
      one_text IsOperatorLine one_operator_line k.changed t u (subst (λ l. AreOperatorLines l t) same h.is_text) k.is_text

  some_changed_text : (changed : List Operator) × IsGroup changed × IsChangedGroup UNIT members c changed → (text : List ℕ) × IsChangedText members c text
  some_changed_text r =
      let text = some_lines IsOperatorLine r.0 (some_operator_line r.0) in
      (text.0, record { changed = r.0; group = r.1; is_changed = r.2; is_text = text.1 })

-- ---- each command

pub sound_answering : (name : Name) (given : Given (family name)) (words : List (List ℕ)) (members : List Operator) (rest : DataLines) → HasArguments (family name) given words → IsGroup members → IsSound (Answering name given members rest)
sound_answering named.Ops given words members rest h g = sound_giving (one_text IsOperatorLine one_operator_line members) (some_lines IsOperatorLine members (some_operator_line members))
sound_answering named.Types given words members rest h g = sound_giving (one_text IsTypeLine one_type_line members) (some_lines IsTypeLine members (λ f c. some_type_line members f g c))
sound_answering named.Site x words members rest h g = let s = scaled_point words x h in sound_giving (one_site_text members x g s) (some_site_text members x g s)
sound_answering named.Index i words members rest h g = sound_giving (classes.one_index_text i.1 members g i.0) (classes.some_index_text i.1 members i.0)
sound_answering named.Refl b words members rest h g = sound_giving (classes.one_box_text b.1 members g b.0) (classes.some_box_text b.1 members g b.0)
sound_answering named.Grid s words members rest h g =
    let r = h.say.in_range in
    sound_behind (sound_needing tt (kept_or_not members s r)) λ _ k. sound_giving (orbits.one_grid_text members g s r (needed k)) (orbits.some_grid_text members g s r (needed k))
sound_answering named.Basis c words members rest h g =
    let b = basis_change words c h in
    let i = IsChange-basis c b in
    sound_behind (sound_needing tt (narrow_or_not c i members g)) λ _ k. sound_giving (one_changed_text members c i) (some_changed_text members c (changed_in_basis members g c b (needed k)))
sound_answering named.Recell c words members rest h g =
    let i = cell_change words c h in
    sound_behind (sound_needing tt (cell_or_not c i members g)) λ _ cell.
    sound_behind (sound_needing tt (whole_or_not c i members g)) λ _ whole.
    sound_behind (sound_needing tt (narrow_or_not c i members g)) λ _ narrow.
    sound_behind (sound_needing tt (parts_or_not c i members g)) λ _ parts.
    let may : MayClose members c = record { cell = needed cell; whole = needed whole; narrow = needed narrow; parts = needed parts } in
    sound_behind (sound_needing tt (few_or_many members g c i may)) λ _ few.
    sound_giving (one_changed_text members c i) (some_changed_text members c (changed_of_few members g c i may (needed few)))
sound_answering named.Wyckoff given words members rest h g =
    sound_giving (one_text_of_rows members g (IsRowsText members) (λ rows table s t p q. p ∙ sym q)) (some_text_of_rows members g (IsRowsText members) (λ rows table. (_, refl)))
sound_answering named.Params given words members rest h g =
    sound_giving (one_text_of_rows members g (IsParamsText members) (λ rows table. one_params_text members rows g)) (some_text_of_rows members g (IsParamsText members) (λ rows table. some_params_text members rows g))
sound_answering named.Report given words members rest h g =
    sound_giving (one_text_of_rows members g (IsReportText members) (λ rows table. one_report_text members rows g)) (some_text_of_rows members g (IsReportText members) (λ rows table. some_report_text members rows g))
sound_answering named.Fit x words members rest h g =
    let p = is_point x (scaled_point words x h) in
    sound_giving (one_text_of_rows members g (IsFitText members x) (one_fit_text members g x p)) (some_text_of_rows members g (IsFitText members x) (some_fit_text members g x p))
sound_answering named.Table b words members rest h g =
    sound_giving (one_text_of_rows members g (λ rows. IsTableText b.1 members rows b.0) (λ rows table. one_table_text b.1 members g rows b.0)) (some_text_of_rows members g (λ rows. IsTableText b.1 members rows b.0) (λ rows table. some_table_text b.1 members g rows b.0))
sound_answering named.Sample seed words members rest h g =
    sound_giving (one_text_of_rows members g (IsCountedText members seed) (one_counted_text members seed)) (some_text_of_rows members g (IsCountedText members seed) (some_counted_text members seed))
sound_answering named.Atoms given words members rest h g =
    sound_behind (sound_sites rest) λ sites s.
    sound_behind (sound_needing tt (at_most (length sites) MAX_ATOMS)) λ _ few.
    sound_giving (one_expanded_text members g rest sites s) (some_expanded_text members g rest sites s)
sound_answering named.Merge pairs words members rest h g =
    sound_behind (sound_gathering IsMeasuredLine one_measured measured_or_not rest) λ lines _.
    sound_giving (one_merged_text pairs members g lines) (some_merged_text pairs members g lines)
sound_answering named.Map s words members rest h g =
    let r = h.say.in_range in
    sound_behind (sound_gathering IsValueLine one_value value_or_none rest) λ values _.
    sound_behind (sound_needing tt (cases_eq (length values) (points s))) λ _ _.
    sound_behind (sound_needing tt (kept_or_not members s r)) λ _ k.
    sound_giving (one_summed_text members g s r (needed k) values) (some_summed_text members g s r (needed k) values)
