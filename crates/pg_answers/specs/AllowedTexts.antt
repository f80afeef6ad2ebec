-- The allowed outcomes of an access, behind the cause of its rejection:
--
--     allowed: OUTCOME by MOMENT ..     a line for each outcome, sixteen at most
--     allowed: COUNT more               where there are more
--     allowed: none                     where there is none
--
-- and as a note in a picture, for six at most
--
--     allowed: OUTCOME; OUTCOME; .. COUNT more
use Rattle.std.specs.Prelude.{ℕ, ◌-◌, List, [], ◌∷◌, ◌++◌, take, length, codes, decimal}
use Rattle.std.specs.Prelude.{Option, Some, None, nat_lt, ◌==◌, if◌then◌else◌}
use Rattle.std.specs.declared.alloc.Global.{Global}
use Rattle.std.specs.declared.vec.Vec.{Vec}
use Rattle.pg_outcomes.specs.declared.allowed.Allowed.{Allowed}
use Rattle.pg_answers.specs.OutcomeTexts.{allowed_line, result_text}

abbrev pub most_allowed : ℕ
most_allowed = 16

abbrev pub most_noted : ℕ
most_noted = 6

abbrev pub some_lines : List Allowed → List ℕ
some_lines [] = []
some_lines (x ∷ xs) = (codes "allowed: " ++ allowed_line x) ++ some_lines xs

abbrev pub rest_line : ℕ → List ℕ
rest_line count =
    if count == 0 then codes "allowed: none\n" else
    if nat_lt most_allowed count
    then codes "allowed: " ++ (decimal (count - most_allowed) ++ codes " more\n") else []

-- of an event that is no access there is nothing
abbrev pub allowed_lines_of : Option (Vec Allowed Global) → List ℕ
allowed_lines_of None = []
allowed_lines_of (Some xs) = some_lines (take most_allowed xs.items) ++ rest_line (length xs.items)

-- ---- as a note

abbrev pub noted_text : List Allowed → List ℕ
noted_text [] = []
noted_text (x ∷ xs) = (codes " " ++ (result_text x.outcome ++ codes ";")) ++ noted_text xs

abbrev pub rest_note : ℕ → List ℕ
rest_note count =
    if count == 0 then codes " none" else
    if nat_lt most_noted count
    then codes " " ++ (decimal (count - most_noted) ++ codes " more") else []

abbrev pub allowed_note : Option (Vec Allowed Global) → List ℕ
allowed_note None = []
allowed_note (Some xs) =
    codes "allowed:" ++ (noted_text (take most_noted xs.items) ++ rest_note (length xs.items))
