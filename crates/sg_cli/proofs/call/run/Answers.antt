use Rattle.std.proofs.Common.{refl}
use Rattle.sg_cli.specs.Words.{texts, IsNoCommand}
use Rattle.sg_cli.proofs.Serving.{words_status, refused_when_stopped, status_when_done, status_when_stopped, tabled_when_done, listed_when_done, complete_when_done, complete_when_stopped, unread_when_stopped, end_when_stopped, unless_status}
use Rattle.sg_cli.specs.declared.fault.Fault.TheVariants.{Reading}
use Rattle.sg_cli.proofs.call.run.Goals as goal

pub returns-in-Ok-clause-status : goal.returns-in-Ok-clause-status
returns-in-Ok-clause-status g c = λ read memory.
    status_when_done g.K.Sink.seen g.S.Source.seen
    (texts c.args.words.now) c.args.source.now c.serve.new.source c.args.out.now c.serve.new.out c.in-Ok.ensures.served

pub returns-in-Ok-clause-listed : goal.returns-in-Ok-clause-listed
returns-in-Ok-clause-listed g c = λ done.
    listed_when_done g.K.Sink.seen g.S.Source.seen
    (texts c.args.words.now) c.args.source.now c.serve.new.source c.args.out.now c.serve.new.out c.in-Ok.ensures.served

pub returns-in-Ok-clause-table : goal.returns-in-Ok-clause-table
returns-in-Ok-clause-table g c = λ done.
    tabled_when_done g.K.Sink.seen g.S.Source.seen
    (texts c.args.words.now) c.args.source.now c.serve.new.source c.args.out.now c.serve.new.out c.in-Ok.ensures.served

pub returns-in-Ok-clause-complete : goal.returns-in-Ok-clause-complete
returns-in-Ok-clause-complete g c = λ reads writes.
    complete_when_done g.K.Sink.seen g.S.Source.seen
    (texts c.args.words.now) c.args.source.now c.serve.new.source c.args.out.now c.serve.new.out c.in-Ok.ensures.served

pub returns-in-Err-clause-status : goal.returns-in-Err-clause-status
returns-in-Err-clause-status g c =
    rw c.status.ensures
    (status_when_stopped g.K.Sink.seen g.S.Source.seen
    (texts c.args.words.now) c.args.source.now c.serve.new.source c.args.out.now c.serve.new.out c.in-Err.fault c.in-Err.ensures.served)

pub returns-in-Err-clause-complete : goal.returns-in-Err-clause-complete
returns-in-Err-clause-complete g c =
    rw c.status.ensures
    (complete_when_stopped g.K.Sink.seen g.S.Source.seen
    (texts c.args.words.now) c.args.source.now c.serve.new.source c.args.out.now c.serve.new.out c.in-Err.fault c.in-Err.ensures.served c.in-Err.ensures.unread)

pub returns-in-Err-clause-words : goal.returns-in-Err-clause-words
returns-in-Err-clause-words g c = rw c.status.ensures (words_status c.in-Err.fault (IsNoCommand (texts c.args.words.now)) c.in-Err.ensures.words)

pub returns-in-Err-clause-fault_text : goal.returns-in-Err-clause-fault_text
returns-in-Err-clause-fault_text g c =
    rw c.status.ensures (λ _. (
      c.in-Err.fault,
      refl,
      refused_when_stopped g.K.Sink.seen g.S.Source.seen (texts c.args.words.now) c.args.source.now c.serve.new.source c.args.out.now c.serve.new.out c.in-Err.fault c.in-Err.ensures.served,
      c.tell.ensures,
    ))

pub returns-in-Ok-clause-sample_unread : goal.returns-in-Ok-clause-sample_unread
returns-in-Ok-clause-sample_unread g c = λ r. ((λ e. absurd cc), (c.in-Ok.ensures.unread r).1)

pub returns-in-Ok-clause-status_end_of_input : goal.returns-in-Ok-clause-status_end_of_input
returns-in-Ok-clause-status_end_of_input g c = λ some read. c.in-Ok.ensures.served.0 some

pub returns-in-Err-clause-sample_unread : goal.returns-in-Err-clause-sample_unread
returns-in-Err-clause-sample_unread g c =
    rw c.status.ensures
    (unread_when_stopped g.K.Sink.seen g.S.Source.seen
    (texts c.args.words.now) c.args.source.now c.serve.new.source c.args.out.now c.serve.new.out c.in-Err.fault c.in-Err.ensures.unread)

pub returns-in-Err-clause-status_end_of_input : goal.returns-in-Err-clause-status_end_of_input
returns-in-Err-clause-status_end_of_input g c =
    rw c.status.ensures
    (end_when_stopped g.K.Sink.seen g.S.Source.seen
    (texts c.args.words.now) c.args.source.now c.serve.new.source c.args.out.now c.serve.new.out c.in-Err.fault c.in-Err.ensures.served)

pub returns-in-Err-clause-read_fault_only : goal.returns-in-Err-clause-read_fault_only
returns-in-Err-clause-read_fault_only g c = rw c.status.ensures (unless_status c.in-Err.fault Reading c.in-Err.ensures.unfailed)
