-- What a sink puts before the lines of a text.
use Rattle.std.specs.Prelude.{ℕ, Bool, true, false, List, [], ◌++◌, codes}

-- the name and a colon, before a part of a line where they don't stand yet
abbrev pub name_text : List ℕ → Bool → List ℕ
name_text name true = []
name_text name false = name ++ codes ": "
