-- Kinds of bytes.
use Rattle.std.specs.Prelude.{ℕ, Bool, ◌||◌, ◌&&◌, ◌==◌, nat_le, ◌+◌, ◌*◌, ◌-◌, List, [], ◌∷◌, false, nat_eq, fold, not, if◌then◌else◌}

abbrev pub is_digit : ℕ → Bool
is_digit b = nat_le 48 b && nat_le b 57

abbrev pub is_letter : ℕ → Bool
is_letter b = (nat_le 65 b && nat_le b 90) || (nat_le 97 b && nat_le b 122)

-- a letter, `_`, or a byte of a character from U+0080
abbrev pub begins_word : ℕ → Bool
begins_word b = is_letter b || (b == 95 || nat_le 128 b)

abbrev pub is_in_word : ℕ → Bool
is_in_word b = begins_word b || is_digit b

-- what may not follow the digits of a number: a byte of a word, or `.`
abbrev pub joins_number : ℕ → Bool
joins_number b = is_in_word b || b == 46

-- the number that decimal digits are
abbrev pub with_digit : ℕ → ℕ → ℕ
with_digit n b = 10 * n + (b - 48)

abbrev pub decimal : List ℕ → ℕ
decimal = fold with_digit 0

-- a digit, or a letter from A to F
abbrev pub is_hex_digit : ℕ → Bool
is_hex_digit b = is_digit b || ((nat_le 65 b && nat_le b 70) || (nat_le 97 b && nat_le b 102))

abbrev pub hex_value : ℕ → ℕ
hex_value b =
    if is_digit b then b - 48
    else (if nat_le 65 b && nat_le b 70 then b - 55
    else (if nat_le 97 b && nat_le b 102 then b - 87
    else 0))

-- `x` or `X`
abbrev pub is_x : ℕ → Bool
is_x b = b == 120 || b == 88

-- space, tab, line feed, form feed, carriage return
abbrev pub is_space : ℕ → Bool
is_space b = b == 32 || (b == 9 || (b == 10 || (b == 12 || b == 13)))

abbrev pub is_not : ℕ → ℕ → Bool
is_not c b = not (b == c)

-- this byte stands at the front
abbrev pub first_is : ℕ → List ℕ → Bool
first_is c [] = false
first_is c (b ∷ bs) = nat_eq b c
