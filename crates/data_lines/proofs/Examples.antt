-- Worked examples of fields and data lines, on literals.
use Rattle.std.proofs.Common.{◌≡◌, ◌∷◌, [], ℕ, List, codes, false, refl}
use Rattle.triplet_text.specs.Lines.{end, skipped, read, blank, comment}
use Rattle.triplet_text.proofs.LineSteps.{not_skipped}
use Rattle.data_lines.specs.Fields.{fields_of}
use Rattle.data_lines.specs.DataLines.{AreWritten}

-- blanks stand at the ends and between fields, as many as there are
fields : fields_of (codes "  Na 0  1/2 0 ") ≡ codes "Na" ∷ codes "0" ∷ codes "1/2" ∷ codes "0" ∷ []
fields = refl

one_field : fields_of (codes "7") ≡ codes "7" ∷ []
one_field = refl

no_field : fields_of (codes "   ") ≡ []
no_field = refl

-- a line of this byte alone
abbrev IsByte : List ℕ → ℕ → Type 0
IsByte line byte = line ≡ byte ∷ []

-- comments and blank lines write nothing
values : AreWritten IsByte (codes "5" ∷ codes "# 6" ∷ codes " " ∷ codes "7" ∷ []) (53 ∷ 55 ∷ [])
values =
    read {x = 53} (record { kept = not_skipped (codes "5") false refl refl; written = refl })
    (skipped (comment [] (codes " 6") tt) (skipped (blank (refl, tt)) (read {x = 55} (record { kept = not_skipped (codes "7") false refl refl; written = refl }) end)))
