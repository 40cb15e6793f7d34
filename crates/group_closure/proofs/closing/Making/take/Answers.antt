use Rattle.std.proofs.Common.{◌∙◌, [], ◌∷◌, ◌++◌, sym}
use Rattle.std.proofs.lemmas.Result.{err_from_is_err_and}
use Rattle.group_closure.proofs.Lists.{unclosed_more}
use Rattle.group_closure.proofs.UnderWay.{all_listed, made_more, made_same}
use Rattle.group_closure.proofs.Places.{some_at}
use Rattle.group_closure.proofs.closing.Making.take.Goals as goal

pub returns-then-is_repeated-clause-ok : goal.returns-then-is_repeated-clause-ok
returns-then-is_repeated-clause-ok c =
    let f = some_at c.args.list.now c.args.k c.requires.listed in
    let r = c.is_repeated.ensures c.if-is_repeated.true in
    made_same c.args.list.now c.args.k c.args.self.now c.args.buckets.now c.requires.before f.0 f.1 r.0 (sym r.1 ∙ f.1)

pub returns-clause-ok : goal.returns-clause-ok
returns-clause-ok c =
    let r = c.in_ok-include.ensures in
    made_more c.args.list.now c.args.k c.args.self.now c.args.buckets.now c.requires.before c.in_ok-op.op c.in_ok-op.ensures.value c.include.new.self c.include.new.buckets r.ready r.extends r.member r.generators

pub returns-in_err-include-clause-unclosed : goal.returns-in_err-include-clause-unclosed
returns-in_err-include-clause-unclosed c =
    let p = err_from_is_err_and c.from_residual-in_err-include.result c.from_residual-in_err-include.ensures.1 in
    rw p.1 (unclosed_more (c.args.self.now.generators.items ++ c.in_ok-op.op ∷ []) c.args.list.now (all_listed c.args.list.now c.args.k c.args.self.now c.args.buckets.now c.requires.before c.in_ok-op.op c.in_ok-op.ensures.value) c.in_err-include.ensures.unclosed)
