use Rattle.std.proofs.Common.{sym, ap, ◌∙◌}
use Rattle.triplet_text.specs.Printing.{operator_text}
use Rattle.table_print.specs.Types.{type_line}
use Rattle.table_print.proofs.TypeLines.{type_of, is_type_of, line_pushed, same_member}
use Rattle.table_print.proofs.types.push_type.Goals as goal

pub returns : goal.returns
returns c = λ f is.
    let t = type_of c.kind.result.order c.kind.result.proper c.intrinsic.result.n c.intrinsic.result.d c.axis.result in (
      type_line f t,
      (
        t,
        is_type_of c.args.group.now c.args.i c.kind.result.order c.kind.result.proper c.intrinsic.result.n c.intrinsic.result.d c.axis.result c.kind.ensures.handedness c.kind.ensures.order c.intrinsic.ensures c.axis.ensures.some c.axis.ensures.value f is,
        λ _. type_line f t,
      ),
      line_pushed _ _ _ _ _ _ _ _ _ _ _ _ _ _ c.push.ensures c.push-2.ensures c.push_kind.ensures.text c.push-3.ensures c.push_part.ensures.text c.push-4.ensures c.push_axis.ensures.text c.push-5.ensures
          (c.bytes.ensures.text ∙ c.print_triplet.ensures.text ∙ ap operator_text (same_member _ _ (sym c.op.ensures.value ∙ is))),
    )
