use Rattle.std.proofs.Common.{◌∙◌, sym}
use Rattle.exact_ops.specs.declared.TheConstants.{UNIT}
use Rattle.exact_ops.proofs.Narrow.{some_parts}
use Rattle.site_symmetry.proofs.SpaceOfGroup.{space_of}
use Rattle.space_groups.proofs.Points.{scaled_of}
use Rattle.space_groups.proofs.OrbitLists.{orbit_count}
use Rattle.wyckoff_rows.proofs.laws.multiplicity_counts_the_orbit.Goals as goal

pub returns : goal.returns
returns c = λ members row x orbit g p f o. let y = scaled_of UNIT some_parts x p in let L = space_of members g in orbit_count L x y.0 orbit p y.1 o ∙ sym (orbit_count L x y.0 f.orbit p y.1 f.is_orbit) ∙ f.as_many
