-- Laws of stages, and of chains of them.
use Rattle.std.proofs.Common.{◌≡◌, ◌⊎◌, inl, inr, refl, ap, subst}
use Rattle.sg_cli.specs.declared.fault.Fault.{Fault}
use Rattle.sg_cli.specs.declared.fault.Fault.TheVariants as fault
use Rattle.sg_cli.specs.Stages.{Gives, Refuses, Stage, Giving, Needing, holds, fails, ◌>>=◌, behind, refused, HasOneAtMost, HasSome}

module _ {A B : Type 0} (first : Stage A) (next : A → Stage B) where
  -- where each stage has one outcome at most, the chain has one at most
  pub one_behind : HasOneAtMost first → ((value : A) → first (Gives value) → HasOneAtMost (next value)) → HasOneAtMost (first >>= next)
  one_behind one rest a b (behind {value = x} p q) (behind {value = y} r s) =
      let e : Gives x ≡ Gives y = one (Gives x) (Gives y) p r in
      let same : x ≡ y = cc in
      rest y r a b (subst (λ v. next v a) same q) s
  one_behind one rest a b (behind {value = x} p q) (refused {fault = f} r) = let e : Gives x ≡ Refuses f = one (Gives x) (Refuses f) p r in absurd cc
  one_behind one rest a b (refused {fault = f} p) (behind {value = y} r s) = let e : Refuses f ≡ Gives y = one (Refuses f) (Gives y) p r in absurd cc
  one_behind one rest a b (refused {fault = f} p) (refused {fault = g} r) =
      let e : Refuses f ≡ Refuses g = one (Refuses f) (Refuses g) p r in
      let same : f ≡ g = cc in
      ap (λ (k : Fault). Refuses k) same

  -- where each has one at least, the chain has one at least
  pub some_behind : HasSome first → ((value : A) → first (Gives value) → HasSome (next value)) → HasSome (first >>= next)
  some_behind (Gives value, p) rest = let r = rest value p in (r.0, behind p r.1)
  some_behind (Refuses fault, p) rest = (Refuses fault, refused p)

-- ---- sound stages

-- a fault that the lines, the operators or the command itself may have: it comes after the input was read
abbrev pub IsLate : Fault → Type 0
IsLate fault.Words = ⊥
IsLate fault.Reading = ⊥
IsLate fault.TooLong = ⊥
IsLate fault.Writing = ⊥
IsLate fault.NoMemory = ⊥
IsLate other = Unit {0}

-- a stage that has one outcome, and refuses late alone
pub record IsSound {A : Type 0} (stage : Stage A) : Type 0 where
  pub one : HasOneAtMost stage
  pub some : HasSome stage
  pub late : (stop : Fault) → stage (Refuses stop) → IsLate stop

-- a chain of sound stages is sound
pub sound_behind : {A B : Type 0} {first : Stage A} {next : A → Stage B} → IsSound first → ((value : A) → first (Gives value) → IsSound (next value)) → IsSound (first >>= next)
sound_behind {first = first} {next = next} f n = record { one = one_behind first next f.one (λ x p. (n x p).one); some = some_behind first next f.some (λ x p. (n x p).some); late = late }
  where
    late : (stop : Fault) → (first >>= next) (Refuses stop) → IsLate stop
    late stop (behind {value = x} p q) = (n x p).late stop q
    late stop (refused p) = f.late stop p

-- a stage that refuses nothing, where there is one such value
pub sound_giving : {A : Type 0} {IsSuch : A → Type 0} → ((x y : A) → IsSuch x → IsSuch y → x ≡ y) → (x : A) × IsSuch x → IsSound (Giving IsSuch)
sound_giving {A} {IsSuch} one some = record { one = same; some = (Gives some.0, some.1); late = λ stop none. absurd none }
  where
    same : HasOneAtMost (Giving IsSuch)
    same (Gives x) (Gives y) p q = ap Gives (one x y p q)
    same (Gives x) (Refuses fault) p q = absurd q
    same (Refuses fault) b p q = absurd p

-- a stage that asks for a fact, where it is decided
pub sound_needing : {Fact : Type 0} {fault : Fault} → IsLate fault → Fact ⊎ (Fact → ⊥) → IsSound (Needing Fact fault)
sound_needing {Fact} {fault} is_late decided = record { one = one; some = some decided; late = late }
  where
    one : HasOneAtMost (Needing Fact fault)
    one a b (holds p) (holds q) = refl
    one a b (holds p) (fails n) = absurd (n p)
    one a b (fails n) (holds q) = absurd (n q)
    one a b (fails n) (fails m) = refl

    some : Fact ⊎ (Fact → ⊥) → HasSome (Needing Fact fault)
    some (inl p) = (Gives tt, holds p)
    some (inr n) = (Refuses fault, fails n)

    late : (stop : Fault) → Needing Fact fault (Refuses stop) → IsLate stop
    late stop (fails n) = is_late

pub needed : {Fact : Type 0} {fault : Fault} → Needing Fact fault (Gives tt) → Fact
needed (holds p) = p
