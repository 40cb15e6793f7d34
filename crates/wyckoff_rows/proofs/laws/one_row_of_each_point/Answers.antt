use Rattle.wyckoff_rows.proofs.laws.one_row_of_each_point.Goals as goal

pub returns : goal.returns
returns c = λ members rows x t p. let f = t.every x p in (f.0, record { row = f.1; at = f.2; fits = f.3; only = λ j other a g. t.one x j f.0 other f.1 p a f.2 g f.3 })
