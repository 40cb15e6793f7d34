use Rattle.std.proofs.Common.{rules, ◌<◌, map, length, arith}
use Rattle.std.proofs.lemmas.List.{length-map}
use Rattle.std.proofs.lemmas.Result.{err_from_is_err_and}
use Rattle.triplet_text.specs.Lines.{lines_of}
use Rattle.data_lines.proofs.DataLaws.{seen_values}
use Rattle.atom_expand.specs.declared.TheConstants.{MAX_ATOMS}
use Rattle.atom_expand.specs.Sites.{IsAtomLine, site_in}
use Rattle.atom_expand.proofs.SiteLines.{fault_seen}
use Rattle.atom_expand.proofs.atoms.read_atoms.Goals as goal

pub returns-clause-ok : goal.returns-clause-ok
returns-clause-ok c = seen_values IsAtomLine site_in c.in_ok-atoms.ensures.ok

pub returns-then-len-gt-MAX_ATOMS-clause-fault : goal.returns-then-len-gt-MAX_ATOMS-clause-fault
returns-then-len-gt-MAX_ATOMS-clause-fault c =
    let many : MAX_ATOMS < length c.in_ok-atoms.atoms.items = search rules in
    record { sites = map site_in c.in_ok-atoms.atoms.items; written = seen_values IsAtomLine site_in c.in_ok-atoms.ensures.ok; many = omega (arith, length-map c.in_ok-atoms.atoms.items site_in, many) }

pub returns-in_err-atoms-clause-fault : goal.returns-in_err-atoms-clause-fault
returns-in_err-atoms-clause-fault c =
    let p = err_from_is_err_and c.from_residual.result c.from_residual.ensures.1 in
    rw (p.1, p.2) (fault_seen c.args.line (lines_of c.args.bytes.now) _ c.in_err-atoms.ensures.fault)
