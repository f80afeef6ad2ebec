-- Numbers as words: DEC is 1 to 10 decimal digits, HEX is `0x` and 1 to 16 hexadecimal ones.
use Rattle.std.specs.Prelude.{ℕ, Bool, ◌&&◌, if◌then◌else◌}
use Rattle.std.specs.Prelude.{List, length, take, drop, codes, Option, Some, None}
use Rattle.std.specs.Char.{is_digit}
use Rattle.std.specs.List.{list_all}
use Rattle.std.specs.Str.{bytes_eq}
use Rattle.std.specs.Str.Parse.{digits_value}
use Rattle.pg_event.specs.Reading.{is_between}

-- one digit to a base or more, but at most so many; a letter may have either case
abbrev pub are_digits : ℕ → ℕ → List ℕ → Bool
are_digits base most word =
    is_between 1 most (length word) && list_all (λ b. is_digit b base) word

-- the number that such digits spell
abbrev pub spelled : ℕ → ℕ → List ℕ → Option ℕ
spelled base most word =
    if are_digits base most word then Some (digits_value base word) else None

unfoldable pub dec_of : List ℕ → Option ℕ
dec_of word = spelled 10 10 word

unfoldable pub hex_of : List ℕ → Option ℕ
hex_of word =
    if bytes_eq (take 2 word) (codes "0x") then spelled 16 16 (drop 2 word) else None
