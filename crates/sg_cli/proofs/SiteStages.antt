-- The sites of data lines are one list, and their expansion is one text.
use Rattle.std.proofs.Common.{◌≡◌, ℕ, List, subst}
use Rattle.std.proofs.lemmas.List.Elements.{All-weaker, All-from_recursion}
use Rattle.lattice_algebra.specs.Operator.{Operator}
use Rattle.lattice_algebra.specs.Point.{IsPoint}
use Rattle.group_closure.specs.GroupList.{IsGroup}
use Rattle.orbit_map.specs.OrderedOrbit.{IsScaled}
use Rattle.atom_expand.specs.Sites.{AtomSite, IsAtomLine}
use Rattle.atom_expand.specs.Expansions.{AreAtPoints, AreAtScaledPoints}
use Rattle.atom_expand.specs.Printing.{IsAtomsText}
use Rattle.atom_expand.proofs.SiteLines.{one_site, site_or_not, written_scaled}
use Rattle.atom_expand.proofs.Placing.{some_expansion}
use Rattle.atom_expand.proofs.Standing.{same_expansion}
use Rattle.atom_expand.proofs.SiteTexts.{some_atoms_text, one_atoms_text}
use Rattle.sg_cli.specs.Inputs.{DataLines}
use Rattle.sg_cli.specs.Stages.{Gives}
use Rattle.sg_cli.specs.Answering.{Gathering, gathered, IsExpandedText}
use Rattle.sg_cli.proofs.Stages.{IsSound}
use Rattle.sg_cli.proofs.DataStages.{sound_gathering}
use Rattle.sg_cli.proofs.PointWords.{is_point}

pub sound_sites : (rest : DataLines) → IsSound (Gathering IsAtomLine rest)
sound_sites rest = sound_gathering IsAtomLine one_site site_or_not rest

module _ (members : List Operator) (g : IsGroup members) (rest : DataLines) (sites : List AtomSite) (s : Gathering IsAtomLine rest (Gives sites)) where
  at_scaled : AreAtScaledPoints sites
  at_scaled = by s
    where
      by : Gathering IsAtomLine rest (Gives sites) → AreAtScaledPoints sites
      by (gathered w) = All-from_recursion (λ (site : AtomSite). IsScaled site.at) sites (written_scaled w)

  at_points : AreAtPoints sites
  at_points = All-weaker (λ (site : AtomSite). IsScaled site.at) (λ (site : AtomSite). IsPoint site.at) (λ site k. is_point site.at k) sites at_scaled

  pub one_expanded_text : (t u : List ℕ) → IsExpandedText members sites t → IsExpandedText members sites u → t ≡ u
  one_expanded_text t u p q =
      let same = same_expansion members sites at_points p.entries q.entries p.expansion q.expansion in
      one_atoms_text sites q.entries t u (subst (λ e. IsAtomsText sites e t) same p.is_text) q.is_text

  pub some_expanded_text : (text : List ℕ) × IsExpandedText members sites text
  some_expanded_text =
      let e = some_expansion members g sites at_scaled in
      let t = some_atoms_text sites e.0 in
      (t.0, record { entries = e.0; expansion = e.1; is_text = t.1 })
