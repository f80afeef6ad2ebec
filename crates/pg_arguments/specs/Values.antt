-- What the values of options spell.
use Rattle.std.specs.Prelude.{◌≡◌, ◌↔◌, ℕ, ◌≤◌, ◌<◌, ◌^◌, Bool, true, false, ◌++◌, length}
use Rattle.std.specs.Prelude.{Option, Some, None, codes}
use Rattle.std.specs.Str.Parse.{IsNumeral, digits_value}
use Rattle.clap.specs.Walk.{Text}
use Rattle.pg_event.specs.Form.{is_canonical}
pub use Rattle.pg_arguments.specs.Counts.{AreFrom1To64}
use Rattle.pg_arguments.specs.declared.request.Telling.{Telling}
use Rattle.pg_arguments.specs.declared.request.Telling.TheVariants.{First, At, All, Picture}

-- what was read is some value just where that value is so
abbrev pub Reads : {A : Type 0} → Option A → (A → Type 0) → Type 0
Reads {A} read Is = (x : A) → (read ≡ Some x) ↔ Is x

-- a text spells a number of 32 bits by digits alone, without a sign
abbrev pub IsNumberIn : Text → ℕ → Type 0
IsNumberIn text n = IsNumeral 10 text × (digits_value 10 text ≡ n) × (n < 2 ^ 32)

-- so many checkers: one where no number is given, and else what its digits say
abbrev pub AreAsked : Option Text → ℕ → Type 0
AreAsked None n = n ≡ 1
AreAsked (Some text) n = IsNumberIn text n × AreFrom1To64 n

abbrev pub IsFrom1ToAMillion : ℕ → Type 0
IsFrom1ToAMillion n = (1 ≤ n) × (n ≤ 1000000)

-- so many explanations: 100 where no number is given, and else what its digits say
abbrev pub IsMost : Option Text → ℕ → Type 0
IsMost None n = n ≡ 100
IsMost (Some text) n = IsNumberIn text n × IsFrom1ToAMillion n

-- this event number: another one where none is given, and else what its digits say
abbrev pub IsAsked : ℕ → Option Text → ℕ → Type 0
IsAsked other None n = n ≡ other
IsAsked other (Some text) n = IsNumberIn text n

-- 1 to 16 hexadecimal digits, of either case, spell a number of 64 bits
abbrev pub AreHexDigits : Text → ℕ → Type 0
AreHexDigits digits n =
    (length digits ≤ 16) × IsNumeral 16 digits × (digits_value 16 digits ≡ n) × (n < 2 ^ 64)

-- a text spells an address by `0x` and such digits
abbrev pub IsAddressIn : Text → ℕ → Type 0
IsAddressIn text n = (digits : Text) × (text ≡ codes "0x" ++ digits) × AreHexDigits digits n

-- a text spells a processor
abbrev pub IsCpuIn : Text → ℕ → Type 0
IsCpuIn text p = IsNumberIn text p × (p < 2 ^ 16)

-- a text spells a linear address that is canonical
abbrev pub IsPageIn : Text → ℕ → Type 0
IsPageIn text la = IsAddressIn text la × (is_canonical la ≡ true)

-- what a text spells, where there is a text
abbrev pub IsOptional : (Text → ℕ → Type 0) → Option Text → Option ℕ → Type 0
IsOptional IsIn None None = Unit {0}
IsOptional IsIn None (Some n) = ⊥
IsOptional IsIn (Some text) None = ⊥
IsOptional IsIn (Some text) (Some n) = IsIn text n

-- the event number that a text spells, which has to be given
abbrev pub IsNumberGiven : Option Text → ℕ → Type 0
IsNumberGiven None n = ⊥
IsNumberGiven (Some text) n = IsNumberIn text n

-- What is told of bad events, where `--all` and `--svg` are given or not, and `--most` and
-- `--event` with these texts or not: so many at most have to do with all alone, all are not drawn,
-- and one event is neither all nor drawn.
abbrev pub IsTelling : Bool → Bool → Option Text → Option Text → Telling → Type 0
IsTelling all svg most event First =
    (all ≡ false) × (svg ≡ false) × (most ≡ None) × (event ≡ None)
IsTelling all svg most event (At n) =
    (all ≡ false) × (svg ≡ false) × (most ≡ None) × IsNumberGiven event n
IsTelling all svg most event (All n) =
    (all ≡ true) × (svg ≡ false) × IsMost most n × (event ≡ None)
IsTelling all svg most event Picture =
    (all ≡ false) × (svg ≡ true) × (most ≡ None) × (event ≡ None)
