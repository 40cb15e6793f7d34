use Rattle.std.proofs.Common.{◌≡◌, ℤ, pos, rules, w32, FitsSigned, to_z, of_z, get_or, ap, sym, ◌∙◌}
use Rattle.std.proofs.lemmas.Int.{to_z-of_z}
use Rattle.refl_merge.proofs.Order.{third_decides}
use Rattle.refl_merge.proofs.rows.compare_rows.Goals as goal

same_number : (x y : ℤ) → FitsSigned w32 x → FitsSigned w32 y → of_z w32 x ≡ of_z w32 y → x ≡ y
same_number x y f g e = sym (to_z-of_z w32 x f) ∙ ap (to_z w32) e ∙ to_z-of_z w32 y g

pub returns : goal.returns
returns c =
    let a = c.args.a.now in
    let b = c.args.b.now in
    let first : get_or a 0 (pos 0) ≡ get_or b 0 (pos 0) = same_number _ _ (search rules) (search rules) c.if-a-b.false in
    let second : get_or a 1 (pos 0) ≡ get_or b 1 (pos 0) = same_number _ _ (search rules) (search rules) c.if-a-b-2.false in
    c.cmp-2.ensures ∙ sym (third_decides a b c.told-a c.told-b first second)
