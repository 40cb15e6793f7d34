use Rattle.wyckoff_rows.proofs.laws.one_row_of_conjugate_points.Goals as goal

pub returns : goal.returns
returns c = λ members rows x y t p q. let s = t.same x y p q in ((λ h. s.0 (h.0, h.1.row, h.1.at, h.1.fits, h.1.fits_too)), (λ h. let r = s.1 h in (r.0, record { row = r.1; at = r.2; fits = r.3; fits_too = r.4 })))
