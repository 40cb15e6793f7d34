-- What an element of the space group makes of an average: g a g^-1. Images go along, and averages that are the means of all that fixes their images are one where their images are.
use Rattle.std.proofs.Common.{◌≡◌, ◌∷◌, [], ℕ, ◌↔◌, ℤ, pos, ◌*ℤ◌, Contains, ap, ap₂, sym, ◌∙◌, refl, subst}
use Rattle.lattice_algebra.specs.Matrix.{det, adjugate, scaled, neg_column, ◌·ᶜ◌}
use Rattle.lattice_algebra.specs.Map.{Map, ◌∘◌, identity_map, undo}
use Rattle.lattice_algebra.proofs.Ring.{var, con, ◌⊗◌, ring}
use Rattle.lattice_algebra.proofs.Maps.{∘_assoc, ∘-identity}
use Rattle.lattice_algebra.proofs.Numbers.{above}
use Rattle.finite_groups.specs.Groups.{Action}
use Rattle.finite_groups.proofs.Basics as basics
use Rattle.finite_groups.proofs.Conjugates as conjugates
use Rattle.space_groups.specs.Space.{IsElement, ScaledPoint, moved}
use Rattle.space_groups.specs.Averages.{Block, block_of, block_times, block_scaled, block_on, vector_scaled, IsInImage}
use Rattle.space_groups.specs.Keys.{carried}
use Rattle.space_groups.proofs.Blocks.{block_of-∘, cancel_block, times_scaled, scaled_times, on_scaled, to_scaled, on_times, block_times_assoc, identity_times, times_identity}
use Rattle.space_groups.proofs.Elements.{SpaceGroup, space, on_points}
use Rattle.space_groups.proofs.Means as means
use Rattle.space_groups.proofs.Means.{Averaged, vec, vec-moved, vec-made, image_on, on_image, made, Keeps, same_on_points}

undo_identity : undo identity_map ≡ identity_map
unfolding undo det adjugate scaled neg_column ◌·ᶜ◌
undo_identity = refl

pub carried-identity : (a : Block) → carried identity_map a ≡ a
unfolding carried
carried-identity a = ap (block_times (block_times (block_of identity_map) a)) (ap block_of undo_identity) ∙ times_identity _ ∙ identity_times a

pub carried-number : (g : Map) (a : Block) → (carried g a).n ≡ a.n
unfolding carried block_times block_of
carried-number g a = ring (a.n ∷ []) (con (pos 1) ⊗ var 0 ⊗ con (pos 1)) (var 0) tt

-- where a f = a and g^-1 e = f g^-1, g a g^-1 e = g a g^-1
kept_right : (g : Map) (a : Block) (e f : Map) → block_times a (block_of f) ≡ a → f ∘ undo g ≡ undo g ∘ e → block_times (carried g a) (block_of e) ≡ carried g a
unfolding carried
kept_right g a e f k swap =
    let G = block_of g in
    let U = block_of (undo g) in
    block_times_assoc (block_times G a) U (block_of e) ∙ ap (block_times (block_times G a)) (sym (block_of-∘ (undo g) e) ∙ ap block_of (sym swap) ∙ block_of-∘ f (undo g))
    ∙ sym (block_times_assoc (block_times G a) (block_of f) U) ∙ ap (λ x. block_times x U) (block_times_assoc G a (block_of f) ∙ ap (block_times G) k)

numbers : (a b : Block) (k : ℤ) → a.n ≡ k → (block_times a b).n ≡ (block_scaled k b).n
unfolding block_times block_scaled
numbers a b k e = ap (λ m. m *ℤ b.n) e

module _ (L : SpaceGroup) where
  open L use {unit, some, members, closed}

  undo-∘ : (g f : Map) → IsElement unit members g → IsElement unit members f → undo (g ∘ f) ≡ undo f ∘ undo g
  undo-∘ g f p q = basics.inverse_of_product (space L) g f p q

  pub carried-∘ : (g f : Map) (a : Block) → IsElement unit members g → IsElement unit members f → carried (g ∘ f) a ≡ carried g (carried f a)
  unfolding carried
  carried-∘ g f a p q =
      let G = block_of g in
      let H = block_of f in
      let U = block_of (undo f) in
      let V = block_of (undo g) in
      ap₂ (λ x y. block_times (block_times x a) y) (block_of-∘ g f) (ap block_of (undo-∘ g f p q) ∙ block_of-∘ (undo f) (undo g))
      ∙ ap (λ x. block_times x (block_times U V)) (block_times_assoc G H a)
      ∙ sym (block_times_assoc (block_times G (block_times H a)) U V)
      ∙ ap (λ x. block_times x V) (block_times_assoc G (block_times H a) U)

  abbrev pub on_blocks : Action (space L)
  on_blocks = record {
    Y = Block;
    act = carried;
    act_one = carried-identity;
    act_mul = λ g f a p q. carried-∘ g f a p q;
  }

  -- the image goes along
  pub image_carried : (g : Map) (a : Block) (y : ScaledPoint) → IsElement unit members g → IsInImage a y → IsInImage (carried g a) (moved g y)
  unfolding carried
  image_carried g a y p i =
      let A = on_points L in
      let back : moved (undo g) (moved g y) ≡ y = conjugates.act_back (space L) A g y p in
      on_image (carried g a) (moved g y)
      (on_times (block_times (block_of g) a) (block_of (undo g)) (vec (moved g y))
      ∙ ap (block_on (block_times (block_of g) a)) (vec-moved (undo g) (moved g y) ∙ ap vec back)
      ∙ on_times (block_of g) a (vec y) ∙ ap (block_on (block_of g)) (image_on a y i) ∙ to_scaled a.n (block_of g) (vec y)
      ∙ ap₂ vector_scaled (sym (carried-number g a)) (vec-moved g y))

  pub image_carried_back : (g : Map) (a : Block) (y : ScaledPoint) → IsElement unit members g → IsInImage (carried g a) (moved g y) → IsInImage a y
  image_carried_back g a y p i =
      let q : IsElement unit members (undo g) = (space L).inv_in g p in
      subst (λ b. IsInImage b y) (conjugates.act_back (space L) on_blocks g a p)
      (subst (IsInImage (carried (undo g) (carried g a))) (conjugates.act_back (space L) (on_points L) g y p) (image_carried (undo g) (carried g a) (moved g y) q i))

  pub image_along : (g : Map) (a b : Block) → IsElement unit members g → carried g a ≡ b → (y : ScaledPoint) → IsInImage a y ↔ IsInImage b (moved g y)
  image_along g a b p e y = (
    (λ i. subst (λ c. IsInImage c (moved g y)) e (image_carried g a y p i)),
    (λ i. image_carried_back g a y p (subst (λ c. IsInImage c (moved g y)) (sym e) i)),
  )

  pub carried_idempotent : (g : Map) (a : Block) → IsElement unit members g → block_times a a ≡ block_scaled a.n a → block_times (carried g a) (carried g a) ≡ block_scaled (carried g a).n (carried g a)
  unfolding carried
  carried_idempotent g a p two =
      let G = block_of g in
      let U = block_of (undo g) in
      let H = block_times G a in
      let none : block_times U H ≡ a = sym (block_times_assoc U G a) ∙ ap (λ x. block_times x a) (sym (block_of-∘ (undo g) g) ∙ ap block_of ((space L).inv_left g p)) ∙ identity_times a in
      block_times_assoc H U (block_times H U) ∙ ap (block_times H) (sym (block_times_assoc U H U) ∙ ap (λ x. block_times x U) none)
      ∙ sym (block_times_assoc H a U) ∙ ap (λ x. block_times x U) (block_times_assoc G a a ∙ ap (block_times G) two ∙ times_scaled a.n G a) ∙ scaled_times a.n H U
      ∙ ap (λ k. block_scaled k (block_times H U)) (sym (carried-number g a))

  -- the list has each element that leaves the average as it is: each that fixes its whole image
  abbrev pub IsOwn : {n : ℕ} → Averaged L n → Type 0
  IsOwn m = (e : Map) → Contains m.list e ↔ (IsElement unit members e × Keeps m.average e)

  -- where g carries the image of the one average onto that of the other, it carries the one to the other
  pub carried_same : {n : ℕ} (v w : Averaged L n) → IsOwn v → IsOwn w → (g : Map) → IsElement unit members g → ((y : ScaledPoint) → IsInImage v.average y ↔ IsInImage w.average (moved g y)) → carried g v.average ≡ w.average
  carried_same {n} v w own own' g m same = cancel_block (pos n) _ _ (above n v.some) (sym from_members ∙ from_points)
    where
      from_members : block_times (carried g v.average) w.average ≡ block_scaled (pos n) (carried g v.average)
      from_members = means.times_average w (carried g v.average) (λ e c.
          let f : Map = (undo g ∘ e) ∘ g in
          let ein : IsElement unit members e = ((own' e).0 c).0 in
          let fin : IsElement unit members f = (space L).mul_in (undo g ∘ e) g ((space L).mul_in (undo g) e ((space L).inv_in g m) ein) m in
          let is : conjugates.conj (space L) (on_points L) g f ≡ e = conjugates.conj_onto (space L) (on_points L) g e m ein in
          let fixes : (y : ScaledPoint) → IsInImage v.average y → moved f y ≡ y = λ y i.
          conjugates.act_apart (space L) (on_points L) g (moved f y) y m
          (sym (conjugates.act_conj (space L) (on_points L) g f y m fin) ∙ ap (λ h. moved h (moved g y)) is ∙ means.image_fixed w (moved g y) ((same y).0 i) e c) in
          let k : Keeps v.average f = (means.full_exactly v f).1 fixes in
          kept_right g v.average e f (means.member_kept v f ((own f).1 (fin, k)))
          (∘_assoc (undo g ∘ e) g (undo g) ∙ ap (λ h. (undo g ∘ e) ∘ h) ((space L).inv_right g m) ∙ ∘-identity (undo g ∘ e)))

      from_points : block_times (carried g v.average) w.average ≡ block_scaled (pos n) w.average
      from_points = same_on_points _ _ (numbers (carried g v.average) w.average (pos n) (carried-number g v.average ∙ means.number v)) (λ y.
          let z : ScaledPoint = made n v.some w.average y in
          let is : vec z ≡ block_on w.average (vec y) = vec-made n v.some w.average y (means.number w) in
          let i : IsInImage w.average z = means.made_in_image n v.some w.average y (means.number w) (means.idempotent_itself w) in
          let there : moved g (moved (undo g) z) ≡ z = conjugates.act_there (space L) (on_points L) g z m in
          let j : IsInImage (carried g v.average) z = subst (IsInImage (carried g v.average)) there (image_carried g v.average (moved (undo g) z) m ((same (moved (undo g) z)).1 (subst (IsInImage w.average) (sym there) i))) in
          on_times (carried g v.average) w.average (vec y) ∙ ap (block_on (carried g v.average)) (sym is) ∙ image_on (carried g v.average) z j
          ∙ ap₂ vector_scaled (carried-number g v.average ∙ means.number v) is ∙ sym (on_scaled (pos n) w.average (vec y)))
