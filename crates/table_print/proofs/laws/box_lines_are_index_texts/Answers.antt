use Rattle.std.proofs.Common.{refl}
use Rattle.std.proofs.lemmas.List.Elements.{All-contains}
use Rattle.reflections.specs.ClassLists.{IsLine}
use Rattle.table_print.proofs.laws.box_lines_are_index_texts.Goals as goal

pub returns : goal.returns
returns c = λ pairs members box lines line text is m t. record { line = line; index = refl; is_line = All-contains (IsLine pairs members) lines line is.lines m; whole = t }
