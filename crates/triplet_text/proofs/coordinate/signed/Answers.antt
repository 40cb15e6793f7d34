use Rattle.std.proofs.Common.{rules, w64, FitsSigned, arith}
use Rattle.triplet_text.proofs.CoordinateLaw.{minus_first}
use Rattle.triplet_text.proofs.coordinate.signed.Goals as goal

pub returns-in_ok-n-in-len1-up : goal.returns-in_ok-n-in-len1-up
returns-in_ok-n-in-len1-up c =
    let d = c.in_ok-n-in-len1-up.d in
    let fits : FitsSigned w64 d = search rules in
    minus_first c.args.text.now c.in_ok-n-in-len1-up.n d (omega (arith, c.in-len1-up.len_at_least)) c.if-sign-eq45.true c.in_ok-n-in-len1-up.ensures.value c.in_ok-n-in-len1-up.ensures.small fits
