-- The points of the command `sample`, made by a generator of numbers. This project's own.
use Rattle.std.specs.Prelude.{ℕ, zero, suc, ◌+◌, ◌*◌, ◌/◌, ◌%◌, ◌^◌, pos}
use Rattle.lattice_algebra.specs.Point.{Point}

-- the next state of the generator
unfoldable pub next : ℕ → ℕ
next s = (s * 1664525 + 1013904223) % 2 ^ 32

-- the number that a state gives, below 12
unfoldable pub drawn : ℕ → ℕ
drawn s = s / 65536 % 12

-- a point takes three numbers
abbrev pub after_point : ℕ → ℕ
after_point s = next (next (next s))

-- the point that is made from a state: these are its coordinates in twelfths
abbrev pub point_from : ℕ → Point
point_from s = record { n = record { x = pos (drawn (next s)); y = pos (drawn (next (next s))); z = pos (drawn (next (next (next s)))) }; d = pos 12 }

-- the state before point i, counted from 0
abbrev pub state_before : ℕ → ℕ → ℕ
state_before seed zero = seed
state_before seed (suc i) = after_point (state_before seed i)

abbrev pub made_point : ℕ → ℕ → Point
made_point seed i = point_from (state_before seed i)
