use Rattle.std.proofs.Common.{ℕ, ◌<◌, List, length, inl, inr, refl, arith}
use Rattle.std.proofs.lemmas.Option.{slice_get_cases, get_or_from_slice_get}
use Rattle.exact_ops.specs.Numbers.{point_in}
use Rattle.space_groups.specs.Rows.{Row, IsAt}
use Rattle.sg_c.proofs.positions.AskFitAsking.answer.Goals as goal

row_at : (rows : List Row) (k : ℕ) → k < length rows → (row : Row) × IsAt rows k row
row_at rows k h = elim (slice_get_cases rows k).1 [
  | inl w ↦ (w.0, record { within = h; is = λ d. get_or_from_slice_get rows k w.0 d w.2 })
  | inr past ↦ absurd (omega arith)
]

pub returns : goal.returns
returns c =
    let rows = c.args.self.now.rows.now in
    let found = row_at rows c.fit.result c.fit.ensures.within in
    record {
      rows = rows;
      are_rows = c.requires.suits;
      point = point_in c.unwrap.result;
      has = rw c.unwrap.ensures at c.point_of.ensures.value;
      row = found.0;
      at = found.1;
      fits = (c.fit.ensures.fits c.fit.result found.0 found.1).0 refl;
      only = λ k other at fits. (c.fit.ensures.fits k other at).1 fits;
    }
