use Rattle.sg_c.proofs.maps.sg_symmetrize.Goals as goal

pub returns-in-Err-clause-not_kept : goal.returns-in-Err-clause-not_kept
returns-in-Err-clause-not_kept c kept =
    rw c.in-Some-take.ensures.taken (rw (c.group.ensures, c.deref.ensures, c.in-Some.ensures.value) at (c.in-Err.ensures.not_kept kept))
