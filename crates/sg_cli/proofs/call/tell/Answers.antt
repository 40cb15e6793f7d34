use Rattle.std.proofs.Common.{sym, ◌∙◌}
use Rattle.sg_cli.proofs.Outcomes.{told}
use Rattle.sg_cli.proofs.call.tell.Goals as goal

pub returns : goal.returns
returns g c =
    rw (sym (c.bytes.ensures.text ∙ c.text.ensures))
    (told g.E.Sink.seen c.args.err.now c.put_all.new.sink c.bytes.result.now c.put_all.result
    c.put_all.ensures.ok c.put_all.ensures.err c.put_all.ensures.failed c.put_all.ensures.no_memory)
