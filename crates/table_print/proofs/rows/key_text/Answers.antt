use Rattle.std.proofs.Common.{◌≡◌, ◌<◌, ◌≤◌, ◌*◌, ◌∙◌, ap, ap₂, ℕ, ℤ, pos, ◌≤ℤ◌, slice_index_or, unsigned_abs, List, [], ◌∷◌, to_z, of_z, w32, w64, arith}
use Rattle.std.proofs.lemmas.Int.{ints}
use Rattle.lattice_algebra.specs.Matrix.{entries, coordinates, matrix_of}
use Rattle.lattice_algebra.specs.Operator.{IsPart}
use Rattle.exact_ops.specs.declared.TheConstants.{UNIT}
use Rattle.exact_ops.specs.Raw.{numbers_of}
use Rattle.affine_sets.specs.Averages.{KeyOver, IsKeyInCell}
use Rattle.triplet_text.specs.Printing.{affine_text}
use Rattle.table_print.specs.Rows.{numbers_of_key}
use Rattle.table_print.proofs.rows.key_text.Goals as goal

-- the number of members, as it was passed on
same_over : (n : ℕ) (x : ℤ) → n < 65536 → x ≡ pos n → unsigned_abs (to_z w32 (of_z w32 x)) ≡ n
same_over n x few e = omega (arith, ints, few, e)

some_over : (n : ℕ) (x : ℤ) → n < 65536 → 0 < n → x ≡ pos n → pos 1 ≤ℤ to_z w32 (of_z w32 x)
some_over n x few some e = omega (arith, ints, few, some, e)

-- a number of 32 bits, read from a list
abbrev read : List ℤ → ℕ → ℤ
read l i = to_z w32 (of_z w32 (slice_index_or l i (pos 0)))

-- a number of 32 bits as one of 64
same_part : (n : ℕ) (x y : ℤ) → n ≤ 192 → IsPart (UNIT * n) x → y ≡ to_z w32 (of_z w32 x) → to_z w64 (of_z w64 y) ≡ x
same_part n x y few p e = omega (arith, ints, few, p, e)

-- the numbers that were passed on
passed : (k : KeyOver) (m t : List ℤ) (a b c : ℤ) → IsKeyInCell k → m ≡ entries k.key.m → t ≡ coordinates k.key.t → a ≡ read t 0 → b ≡ read t 1 → c ≡ read t 2
    → numbers_of m (to_z w64 (of_z w64 a) ∷ to_z w64 (of_z w64 b) ∷ to_z w64 (of_z w64 c) ∷ []) ≡ numbers_of_key k.key
passed k m t a b c h em et ea eb ec =
    let fx = same_part k.over k.key.t.x a h.within h.in_cell.x (ea ∙ ap (λ l. read l 0) et) in
    let fy = same_part k.over k.key.t.y b h.within h.in_cell.y (eb ∙ ap (λ l. read l 1) et) in
    let fz = same_part k.over k.key.t.z c h.within h.in_cell.z (ec ∙ ap (λ l. read l 2) et) in
    λ i. record { w = matrix_of (em i); t = record { x = fx i; y = fy i; z = fz i } }

pub print_affine-requires : goal.print_affine-requires
print_affine-requires c =
    let over = same_over c.args.over c.from-4.result (omega arith) c.from-4.ensures in
    let numbers = passed c.args.key.now c.m.result c.t.result c.from.result c.from-2.result c.from-3.result c.t.ensures.in_cell c.m.ensures.value c.t.ensures.value c.from.ensures c.from-2.ensures c.from-3.ensures in
    record { positive = some_over c.args.over c.from-4.result (omega arith) c.requires.positive c.from-4.ensures; printable = rw (over, numbers) c.requires }

pub returns : goal.returns
returns c =
    let over = same_over c.args.over c.from-4.result (omega arith) c.from-4.ensures in
    let numbers = passed c.args.key.now c.m.result c.t.result c.from.result c.from-2.result c.from-3.result c.t.ensures.in_cell c.m.ensures.value c.t.ensures.value c.from.ensures c.from-2.ensures c.from-3.ensures in
    c.print_affine.ensures ∙ ap₂ affine_text over numbers
