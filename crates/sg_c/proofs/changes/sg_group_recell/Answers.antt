use Rattle.sg_c.proofs.changes.sg_group_recell.Goals as goal

pub returns-in-Err-clause-not_kept : goal.returns-in-Err-clause-not_kept
returns-in-Err-clause-not_kept c kept =
    let refused = rw (c.group.ensures, c.deref.ensures, c.in-Some.ensures.value) at c.in-Err.ensures.refused in
    rw c.in-Some-take.ensures.taken (record { fault = c.in-Err.fault; refused = refused; reason = c.status_of_recell.ensures.not_kept kept })
