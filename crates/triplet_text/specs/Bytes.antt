-- Bytes by their names, and the kinds of bytes that the grammar of triplets tells apart.
use Rattle.std.specs.Prelude.{◌==◌, ◌||◌, ◌&&◌, Bool, ℕ, nat_le}

abbrev pub line_feed : ℕ
line_feed = 10

abbrev pub space : ℕ
space = 32

abbrev pub hash : ℕ
hash = 35

abbrev pub star : ℕ
star = 42

abbrev pub plus_sign : ℕ
plus_sign = 43

abbrev pub comma : ℕ
comma = 44

abbrev pub minus_sign : ℕ
minus_sign = 45

abbrev pub point : ℕ
point = 46

abbrev pub slash : ℕ
slash = 47

abbrev pub zero_digit : ℕ
zero_digit = 48

abbrev pub letter_x : ℕ
letter_x = 120

abbrev pub letter_y : ℕ
letter_y = 121

abbrev pub letter_z : ℕ
letter_z = 122

abbrev pub is_sign : ℕ → Bool
is_sign byte = byte == plus_sign || byte == minus_sign

abbrev pub is_digit : ℕ → Bool
is_digit byte = nat_le zero_digit byte && nat_le byte 57

-- ' or "
abbrev pub is_quote : ℕ → Bool
is_quote byte = byte == 39 || byte == 34

-- a space, a tab or a carriage return
abbrev pub is_blank : ℕ → Bool
is_blank byte = byte == space || byte == 9 || byte == 13

-- x or X, y or Y, z or Z
abbrev pub is_x : ℕ → Bool
is_x byte = byte == letter_x || byte == 88

abbrev pub is_y : ℕ → Bool
is_y byte = byte == letter_y || byte == 89

abbrev pub is_z : ℕ → Bool
is_z byte = byte == letter_z || byte == 90
