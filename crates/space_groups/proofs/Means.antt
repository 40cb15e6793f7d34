-- The average of a closed list of maps: it is idempotent, its image is the set of points that all maps fix, and the elements that fix the whole image are those that leave it as it is.
use Rattle.std.proofs.Common.{◌≡◌, ◌∷◌, [], ℕ, ◌*◌, ◌<◌, ◌↔◌, List, length, ℤ, pos, ◌+ℤ◌, ◌*ℤ◌, ◌<ℤ◌, Contains, ap, sym, ◌∙◌, refl, subst, arith}
use Rattle.std.proofs.lemmas.Int.{ints}
use lib.IntN.{*ℤ_comm}
use Rattle.lattice_algebra.specs.Matrix.{Column, ◌·ᶜ◌, ◌+ᶜ◌, times}
use Rattle.lattice_algebra.specs.Map.{Map}
use Rattle.lattice_algebra.proofs.Ring.{one_times}
use Rattle.lattice_algebra.proofs.Numbers.{above, positive_product, cancel_number, one_more}
use Rattle.finite_groups.specs.Groups.{Representation}
use Rattle.finite_groups.specs.Words.{IsClosedList}
use Rattle.finite_groups.proofs.Totals.{total}
use Rattle.finite_groups.proofs.Averages as averages
use Rattle.space_groups.specs.Space.{ScaledPoint, moved}
use Rattle.space_groups.specs.Averages.{Block, Vector, block_of, block_plus, block_times, block_scaled, block_on, vector_scaled, sum_of, IsMean, IsInImage}
use Rattle.space_groups.proofs.ScaledPoints.{scaled_path}
use Rattle.space_groups.proofs.Blocks.{blocks, block_sums, vectors, block_of-∘, vector_path, copies-block, copies-vector, cancel_block, cancel_vector, times_scaled, scaled_times, scaled_twice, on_scaled, to_scaled, vector_scaled_twice, on_times, same_block, at_origin, along_x, along_y, along_z, number_times}
use Rattle.space_groups.proofs.Elements.{SpaceGroup, space}

-- a point as a vector
abbrev pub vec : ScaledPoint → Vector
vec y = record { p = y.n; d = pos y.d }

pub vec-moved : (g : Map) (y : ScaledPoint) → block_on (block_of g) (vec y) ≡ vec (moved g y)
unfolding block_on block_of moved
vec-moved g y = vector_path _ _ refl (one_times (pos y.d))

pub vec-apart : (x y : ScaledPoint) → vec x ≡ vec y → x ≡ y
vec-apart x y e = scaled_path x y (ap (λ (v : Vector). v.p) e) (let q : pos x.d ≡ pos y.d = ap (λ (v : Vector). v.d) e in omega (arith, ints))

pub image_on : (a : Block) (y : ScaledPoint) → IsInImage a y → block_on a (vec y) ≡ vector_scaled a.n (vec y)
unfolding block_on vector_scaled
image_on a y h = vector_path _ _ h refl

pub on_image : (a : Block) (y : ScaledPoint) → block_on a (vec y) ≡ vector_scaled a.n (vec y) → IsInImage a y
unfolding block_on vector_scaled
on_image a y e = ap (λ (v : Vector). v.p) e

pub sum_is : (list : List Map) → sum_of list ≡ total block_sums block_of list
sum_is [] = refl
sum_is (g ∷ gs) = ap (block_plus (block_of g)) (sum_is gs)

-- what the block makes of a point
pub made : (n : ℕ) → 0 < n → Block → ScaledPoint → ScaledPoint
made n h a y = record { n = a.m ·ᶜ y.n +ᶜ times (pos y.d) a.t; d = n * y.d; some = positive_product n y.d h y.some }

pub vec-made : (n : ℕ) (h : 0 < n) (a : Block) (y : ScaledPoint) → a.n ≡ pos n → vec (made n h a y) ≡ block_on a (vec y)
unfolding made block_on
vec-made n h a y e = vector_path _ _ refl (ap (λ k. k *ℤ pos y.d) (sym e))

-- blocks with one number that agree on all points are one
pub same_on_points : (a b : Block) → a.n ≡ b.n → ((y : ScaledPoint) → block_on a (vec y) ≡ block_on b (vec y)) → a ≡ b
same_on_points a b e h =
    let at : (v : Column) → block_on a (record { p = v; d = pos 1 }) ≡ block_on b (record { p = v; d = pos 1 }) = λ v. h (record { n = v; d = 1; some = omega arith }) in
    same_block a b e (at at_origin.p) (at along_x.p) (at along_y.p) (at along_z.p)

-- e leaves a as it is
abbrev pub Keeps : Block → Map → Type 0
Keeps a e = block_times (block_of e) a ≡ a

-- the whole image is fixed by what leaves a as it is
pub kept_fixed : (a : Block) (e : Map) (y : ScaledPoint) → pos 0 <ℤ a.n → Keeps a e → IsInImage a y → moved e y ≡ y
kept_fixed a e y p k i =
    let on : block_on a (vec y) ≡ vector_scaled a.n (vec y) = image_on a y i in
    vec-apart _ _ (sym (vec-moved e y) ∙ cancel_vector a.n _ _ p (sym (to_scaled a.n (block_of e) (vec y)) ∙ ap (block_on (block_of e)) (sym on) ∙ sym (on_times (block_of e) a (vec y)) ∙ ap (λ b. block_on b (vec y)) k ∙ on))

-- what an idempotent block makes of a point lies in its image
pub made_in_image : (n : ℕ) (h : 0 < n) (a : Block) (y : ScaledPoint) → a.n ≡ pos n → block_times a a ≡ block_scaled a.n a → IsInImage a (made n h a y)
made_in_image n h a y q two =
    let z : ScaledPoint = made n h a y in
    let is : vec z ≡ block_on a (vec y) = vec-made n h a y q in
    on_image a z (ap (block_on a) is ∙ sym (on_times a a (vec y)) ∙ ap (λ b. block_on b (vec y)) two ∙ on_scaled a.n a (vec y) ∙ ap (vector_scaled a.n) (sym is))

-- and what fixes the whole image leaves a as it is
pub fixed_kept : (n : ℕ) (h : 0 < n) (a : Block) (e : Map) → a.n ≡ pos n → block_times a a ≡ block_scaled a.n a → ((y : ScaledPoint) → IsInImage a y → moved e y ≡ y) → Keeps a e
fixed_kept n h a e q two fix = same_on_points (block_times (block_of e) a) a (number_times e a) (λ y.
    let z : ScaledPoint = made n h a y in
    let is : vec z ≡ block_on a (vec y) = vec-made n h a y q in
    on_times (block_of e) a (vec y) ∙ ap (block_on (block_of e)) (sym is) ∙ vec-moved e z ∙ ap vec (fix z (made_in_image n h a y q two)) ∙ is)

plus-number : (g : Map) (b : Block) → (block_plus (block_of g) b).n ≡ pos 1 +ℤ b.n
unfolding block_plus block_of
plus-number g b = refl

sum-number : (list : List Map) → (sum_of list).n ≡ pos (length list)
sum-number [] = refl
sum-number (g ∷ gs) = plus-number g (sum_of gs) ∙ ap (λ k. pos 1 +ℤ k) (sum-number gs) ∙ one_more (length gs)

scaled-number : (j k : ℤ) (a b : Block) → block_scaled j a ≡ block_scaled k b → j *ℤ a.n ≡ k *ℤ b.n
unfolding block_scaled
scaled-number j k a b e = ap (λ (v : Block). v.n) e

pub maps_as_blocks : (L : SpaceGroup) → Representation (space L) blocks
maps_as_blocks L = record { rep = block_of; rep_mul = λ g f _ _. block_of-∘ g f }

-- a closed list of elements of the space group, and its average over n
pub record Averaged (L : SpaceGroup) (n : ℕ) : Type 0 where
  pub some : 0 < n
  pub list : List Map
  pub closed : IsClosedList (space L) list
  pub average : Block
  pub is_mean : IsMean n list average

module _ {L : SpaceGroup} {n : ℕ} (averaged : Averaged L n) where
  open averaged use {some, list, closed, average, is_mean}

  pub some_members : 0 < length list
  some_members = omega (arith, closed.has_one.1)

  mean_total : block_scaled (pos (length list)) average ≡ block_scaled (pos n) (total block_sums block_of list)
  mean_total = is_mean ∙ ap (block_scaled (pos n)) (sum_is list)

  -- each member leaves the average as it is, from both sides
  pub member_keeps : (e : Map) → Contains list e → Keeps average e
  unfolding maps_as_blocks
  member_keeps e m = cancel_block (pos (length list)) _ _ (above (length list) some_members)
      (sym (times_scaled (pos (length list)) (block_of e) average) ∙ ap (block_times (block_of e)) mean_total ∙ times_scaled (pos n) (block_of e) (total block_sums block_of list)
      ∙ ap (block_scaled (pos n)) (averages.absorbs_left (space L) blocks (maps_as_blocks L) list closed e m) ∙ sym mean_total)

  pub member_kept : (e : Map) → Contains list e → block_times average (block_of e) ≡ average
  unfolding maps_as_blocks
  member_kept e m = cancel_block (pos (length list)) _ _ (above (length list) some_members)
      (sym (scaled_times (pos (length list)) average (block_of e)) ∙ ap (λ b. block_times b (block_of e)) mean_total ∙ scaled_times (pos n) (total block_sums block_of list) (block_of e)
      ∙ ap (block_scaled (pos n)) (averages.absorbs_right (space L) blocks (maps_as_blocks L) list closed e m) ∙ sym mean_total)

  -- what all members leave as it is on the left
  pub average_times : (b : Block) → ((e : Map) → Contains list e → Keeps b e) → block_times average b ≡ block_scaled (pos n) b
  unfolding maps_as_blocks
  average_times b k = cancel_block (pos (length list)) _ _ (above (length list) some_members)
      (sym (scaled_times (pos (length list)) average b) ∙ ap (λ d. block_times d b) mean_total ∙ scaled_times (pos n) (total block_sums block_of list) b
      ∙ ap (block_scaled (pos n)) (averages.sum_times (space L) blocks (maps_as_blocks L) list b k ∙ copies-block (length list) b) ∙ scaled_twice (pos n) (pos (length list)) b)

  pub times_average : (b : Block) → ((e : Map) → Contains list e → block_times b (block_of e) ≡ b) → block_times b average ≡ block_scaled (pos n) b
  unfolding maps_as_blocks
  times_average b k = cancel_block (pos (length list)) _ _ (above (length list) some_members)
      (sym (times_scaled (pos (length list)) b average) ∙ ap (block_times b) mean_total ∙ times_scaled (pos n) b (total block_sums block_of list)
      ∙ ap (block_scaled (pos n)) (averages.times_sum (space L) blocks (maps_as_blocks L) list b k ∙ copies-block (length list) b) ∙ scaled_twice (pos n) (pos (length list)) b)

  pub idempotent : block_times average average ≡ block_scaled (pos n) average
  idempotent = average_times average member_keeps

  pub number : average.n ≡ pos n
  number = cancel_number (pos (length list)) average.n (pos n) (above (length list) some_members) (scaled-number _ _ _ _ is_mean ∙ ap (λ k. pos n *ℤ k) (sum-number list) ∙ *ℤ_comm (pos n) (pos (length list)))

  pub idempotent_itself : block_times average average ≡ block_scaled average.n average
  idempotent_itself = idempotent ∙ ap (λ m. block_scaled m average) (sym number)

  -- the image is the set of points that all members fix
  pub image_fixed : (y : ScaledPoint) → IsInImage average y → (e : Map) → Contains list e → moved e y ≡ y
  image_fixed y i e m = kept_fixed average e y (subst (λ k. pos 0 <ℤ k) (sym number) (above n some)) (member_keeps e m) i

  pub fixed_image : (y : ScaledPoint) → ((e : Map) → Contains list e → moved e y ≡ y) → IsInImage average y
  unfolding maps_as_blocks
  fixed_image y h = on_image average y (cancel_vector (pos (length list)) _ _ (above (length list) some_members)
      (sym (on_scaled (pos (length list)) average (vec y)) ∙ ap (λ b. block_on b (vec y)) mean_total ∙ on_scaled (pos n) (total block_sums block_of list) (vec y)
      ∙ ap (vector_scaled (pos n)) (averages.sum_on_fixed (space L) blocks (maps_as_blocks L) vectors list (vec y) (λ e m. vec-moved e y ∙ ap vec (h e m)) ∙ copies-vector (length list) (vec y))
      ∙ vector_scaled_twice (pos n) (pos (length list)) (vec y) ∙ ap (λ k. vector_scaled (pos (length list)) (vector_scaled k (vec y))) (sym number)))

  -- the elements that fix each point of the image are those that leave the average as it is
  pub full_exactly : (e : Map) → Keeps average e ↔ ((y : ScaledPoint) → IsInImage average y → moved e y ≡ y)
  full_exactly e = (
    (λ k y i. kept_fixed average e y (subst (λ m. pos 0 <ℤ m) (sym number) (above n some)) k i),
    (λ h. fixed_kept n some average e number idempotent_itself h),
  )

  -- a larger closed list that leaves the average as it is has the same average
  pub same_mean : (fs : List Map) → IsClosedList (space L) fs → ((e : Map) → Contains list e → Contains fs e) → ((e : Map) → Contains fs e → Keeps average e) → IsMean n fs average
  unfolding maps_as_blocks
  same_mean fs d sub k =
      let S = total block_sums block_of list in
      let T = total block_sums block_of fs in
      let keeps : (e : Map) → Contains fs e → block_times (block_of e) S ≡ S = λ e m. cancel_block (pos n) _ _ (above n some)
      (sym (times_scaled (pos n) (block_of e) S) ∙ ap (block_times (block_of e)) (sym mean_total) ∙ times_scaled (pos (length list)) (block_of e) average ∙ ap (block_scaled (pos (length list))) (k e m) ∙ mean_total) in
      let sums : block_scaled (pos (length list)) T ≡ block_scaled (pos (length fs)) S = sym (copies-block (length list) T) ∙ averages.same_average (space L) blocks (maps_as_blocks L) list fs d sub keeps ∙ copies-block (length fs) S in
      cancel_block (pos (length list)) _ _ (above (length list) some_members)
      (scaled_twice (pos (length list)) (pos (length fs)) average ∙ ap (block_scaled (pos (length fs))) mean_total ∙ scaled_twice (pos (length fs)) (pos n) S ∙ ap (block_scaled (pos n)) (sym sums)
      ∙ scaled_twice (pos n) (pos (length list)) T ∙ ap (λ b. block_scaled (pos (length list)) (block_scaled (pos n) b)) (sym (sum_is fs)))
