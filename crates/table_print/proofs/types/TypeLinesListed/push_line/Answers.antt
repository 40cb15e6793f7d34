use Rattle.std.proofs.Common.{get_or}
use Rattle.std.proofs.lemmas.Option.{slice_get-get_or}
use Rattle.lattice_algebra.specs.Operator.{identity_operator}
use Rattle.page_print.proofs.Places.{adds_line}
use Rattle.table_print.specs.Types.{IsTypeLine}
use Rattle.table_print.proofs.TypeLines.{some_type_line}
use Rattle.table_print.proofs.types.TypeLinesListed.push_line.Goals as goal

pub returns : goal.returns
returns c =
    let members = c.args.self.now.group.now in
    let f = get_or members c.args.at identity_operator in
    let is = slice_get-get_or members c.args.at identity_operator c.requires.within in
    adds_line IsTypeLine members c.args.at f c.args.page.now c.push_type.new.page is (c.push_type.ensures f is) (λ g m. some_type_line members g c.len.ensures.group m)
