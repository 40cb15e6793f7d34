use Rattle.std.proofs.Common.{rules, refl, ap, sym, ◌∙◌, subst, All}
use Rattle.std.proofs.lemmas.List.Elements.{All-push}
use Rattle.refl_merge.specs.Steps.{IsKeyed, measured_lines}
use Rattle.refl_merge.proofs.Runs.{lines_more}
use Rattle.refl_merge.proofs.entries.keyed_lines.Goals as goal

pub loop-k-preserved : goal.loop-k-preserved
loop-k-preserved c =
    let old = c.loop-k.entries.items in
    record {
      len = search rules;
      capacity = search rules;
      each = subst (All (IsKeyed c.args.pairs c.args.group.now)) (sym c.push_reserved.ensures.items)
          (All-push (IsKeyed c.args.pairs c.args.group.now) old _ c.loop-k.invariant.each (record { three = search rules; key = c.class_key-key.ensures }));
      lines = ap measured_lines c.push_reserved.ensures.items ∙ lines_more old c.args.list.now c.loop-k.k _ c.get-line.result c.loop-k.invariant.lines c.get-line.ensures refl;
    }
