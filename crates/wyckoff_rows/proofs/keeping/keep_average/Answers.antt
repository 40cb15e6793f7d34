use Rattle.std.proofs.Common.{◌∷◌, ◌++◌, [], length, Contains, sym, ◌∙◌, subst}
use Rattle.wyckoff_rows.specs.Steps.{AreKept, AreMet}
use Rattle.wyckoff_rows.proofs.Lists.{contains_last}
use Rattle.wyckoff_rows.proofs.Finishing.{near_average}
use Rattle.wyckoff_rows.proofs.Meeting.{place_is, met_more, met_on, has_key_of, kept_more}
use Rattle.wyckoff_rows.proofs.keeping.keep_average.Goals as goal

pub returns-then-holds-clause-key : goal.returns-then-holds-clause-key
returns-then-holds-clause-key c =
    let g = c.args.g.now in
    let place = c.in_cell-place.result in
    let e = place_is c.args.average place (length g) c.in_cell-place.ensures.key c.in_cell-place.ensures.over c.requires.over in
    c.requires.met place (subst (λ x. Contains x place) c.deref.ensures.value (c.holds.ensures.0 c.if-holds.true)) c.args.average (near_average g c.args.average c.requires.near) (sym e)

pub returns-then-has_key-clause-met : goal.returns-then-has_key-clause-met
returns-then-has_key-clause-met c =
    let g = c.args.g.now in
    let kept = c.args.kept.now.items in
    let place = c.in_cell-place.result in
    let e = place_is c.args.average place (length g) c.in_cell-place.ensures.key c.in_cell-place.ensures.over c.requires.over in
    let r = c.has_key.ensures.some c.if-has_key.true in
    let h = has_key_of g kept c.args.average c.key-key.result r.0 (subst (λ x. Contains x r.0) c.deref-2.ensures.value r.1) r.2 c.key-key.ensures.key in
    subst (AreMet g kept) (sym c.in-Ok.ensures.items) (met_more g c.requires.kept.group kept c.args.met.now.items place c.args.average c.requires.met (near_average g c.args.average c.requires.near) e h)

pub returns-clause-kept : goal.returns-clause-kept
returns-clause-kept c =
    let g = c.args.g.now in
    let kept = c.args.kept.now.items in
    let t = c.in_ok-entry.entry in
    let more = kept_more g kept t c.requires.kept c.in_ok-entry.ensures.entry (λ s q e. c.has_key.ensures.none c.if-has_key.false s (subst (λ x. Contains x s) (sym c.deref-2.ensures.value) q) (e ∙ c.in_ok-entry.ensures.key)) in
    subst (AreKept g) (sym c.in-Ok-push.ensures.items) more

pub returns-clause-met : goal.returns-clause-met
returns-clause-met c =
    let g = c.args.g.now in
    let kept = c.args.kept.now.items in
    let place = c.in_cell-place.result in
    let t = c.in_ok-entry.entry in
    let e = place_is c.args.average place (length g) c.in_cell-place.ensures.key c.in_cell-place.ensures.over c.requires.over in
    let h = has_key_of g (kept ++ t ∷ []) c.args.average c.key-key.result t (contains_last kept t) c.in_ok-entry.ensures.key c.key-key.ensures.key in
    let m = met_more g c.requires.kept.group (kept ++ t ∷ []) c.args.met.now.items place c.args.average (met_on g kept (t ∷ []) c.args.met.now.items c.requires.met) (near_average g c.args.average c.requires.near) e h in
    subst (λ x. AreMet g x c.push.new.self.items) (sym c.in-Ok-push.ensures.items) (subst (AreMet g (kept ++ t ∷ [])) (sym c.in-Ok.ensures.items) m)
