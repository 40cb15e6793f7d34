use Rattle.std.proofs.Common.{◌≡◌, ◌∙◌, Some, length, sym, ap, subst}
use Rattle.space_groups.specs.Rows.{Row}
use Rattle.triplet_text.specs.Printing.{affine_text, IsPrintable}
use Rattle.wyckoff_rows.specs.Shown.{row_in}
use Rattle.table_print.specs.Rows.{numbers_of_key}
use Rattle.table_print.proofs.RowSizes.{printable_at}
use Rattle.table_print.proofs.rows.row_text.Goals as goal

same_row : (r s : Row) → Some r ≡ Some s → r ≡ s
same_row r s e = cc

pub key_text-requires : goal.key_text-requires
key_text-requires c =
    subst (λ n. IsPrintable n (numbers_of_key c.get.result.key.key)) (sym c.len.ensures.value)
    (printable_at c.args.group.now c.len.ensures.group c.args.rows.now c.requires.list c.args.k (row_in c.get.result) c.get.ensures)

pub returns : goal.returns
returns c = λ row is.
    c.key_text.ensures ∙ ap (λ n. affine_text n (numbers_of_key c.get.result.key.key)) c.len.ensures.value
    ∙ ap (λ (r : Row). affine_text (length c.args.group.now) (numbers_of_key r.key)) (same_row (row_in c.get.result) row (sym c.get.ensures ∙ is))
