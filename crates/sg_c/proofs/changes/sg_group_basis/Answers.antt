use Rattle.std.proofs.Common.{Err, ap}
use Rattle.sg_c.proofs.changes.sg_group_basis.Goals as goal

pub returns-in-Err-clause-not_kept : goal.returns-in-Err-clause-not_kept
returns-in-Err-clause-not_kept c kept =
    let wide = c.in-Err.ensures.wide.0 (ap Err (c.status_of_change.ensures.not_kept kept)) in
    rw c.in-Some-take.ensures.taken (rw (c.group.ensures, c.deref.ensures, c.in-Some.ensures.value) at wide)
