use Rattle.std.proofs.Common.{◌≡◌, ◌≢◌, ◌-◌, None, get_or, ap, refl, ◌∙◌, arith}
use Rattle.affine_sets.proofs.Filing.{read_at}
use Rattle.affine_sets.proofs.holding.Held.shift_at.Goals as goal

pub returns : goal.returns
returns c =
    let before = c.self.inside in
    let n = c.from-2.result in
    let is : n ≡ get_or before.places c.args.place 0 = c.from-2.ensures ∙ ap (λ p. get_or before.places p 0) c.from.ensures in
    let some : n ≢ 0 = λ e. omega (arith, e, c.from-2.ensures, c.if-after-eq0.false) in
    read_at before.list.items before.places c.self.invariant.0 c.args.place (n - 1) n c.index.result.now is some refl c.index.ensures ∙ ap (λ v. get_or v c.args.place None) c.self.view_is
