-- A count that never falls.
use Rattle.std.specs.Prelude.{◌≡◌, ◌≢◌, ℕ, ◌+◌, ◌-◌, ◌^◌, ◌≤◌, min, Result, Err, IsErrOf, MatchResult}

-- one more, or the last value of a u64, at which a count stands still
abbrev pub raised : ℕ → ℕ
raised count = min (count + 1) (2 ^ 64 - 1)

-- the count rose, or stands at its last value
abbrev pub Rose : ℕ → ℕ → Type 0
Rose before now = raised before ≤ now

-- an error raises the count, and nothing else does
abbrev pub CountsErrors : {T E : Type 0} → ℕ → ℕ → Result T E → Type 0
CountsErrors before now result = MatchResult result (λ _. now ≡ before) (λ _. now ≡ raised before)

-- this one error raises the count, and nothing else does
abbrev pub CountsError : {T E : Type 0} → ℕ → ℕ → Result T E → E → Type 0
CountsError before now result error = (IsErrOf result error → now ≡ raised before) × (result ≢ Err error → now ≡ before)
