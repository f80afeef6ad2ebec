-- Which entries a walk may read, and which it can't, as lines.
--
--     may read: level L [HEX] = HEX KIND, WRITTEN
--     can't read: [HEX] = HEX, WRITTEN: event K overwrites it and comes before event D
--
-- KIND is absent, reserved, table, or leaf with the address of its page. WRITTEN is the event that
-- wrote the value, or `never written`. Of the first at most 64 lines stand there, and of the second
-- 16; where there are more, a line of two dots follows.
use Rattle.std.specs.Prelude.{ℕ, ◌+◌, ◌==◌, if◌then◌else◌, List, [], ◌∷◌, ◌++◌}
use Rattle.std.specs.Prelude.{Option, Some, None, codes, decimal}
use Rattle.pg_entry.specs.declared.Cfg.{Cfg}
use Rattle.pg_entry.specs.declared.Kind.{Kind}
use Rattle.pg_entry.specs.declared.Kind.TheVariants as kinds
use Rattle.pg_entry.specs.declared.Level.{Level}
use Rattle.pg_entry.specs.Kinds.{kind_of}
use Rattle.pg_explain.specs.Line.{hex, word_text}
use Rattle.pg_explain.specs.Names.{level_number}
use Rattle.pg_span_text.specs.declared.seen.Gone.{Gone}
use Rattle.pg_span_text.specs.declared.seen.Seen.{Seen}

abbrev pub kind_text : Kind → List ℕ
kind_text kinds.Absent = codes "absent"
kind_text kinds.Reserved = codes "reserved"
kind_text (kinds.Table addr) = codes "table"
kind_text (kinds.Leaf frame shift global_bit) = codes "leaf " ++ hex frame

abbrev pub writer_text : Option ℕ → List ℕ
writer_text None = codes ", never written"
writer_text (Some number) = codes ", written by event " ++ decimal number

abbrev pub held_text : ℕ → ℕ → List ℕ
held_text address value = word_text address ++ (codes " = " ++ hex value)

abbrev pub level_text : Level → List ℕ
level_text level = codes "may read: level " ++ (decimal (level_number level) ++ codes " ")

-- a word, what it holds, and what that is
abbrev pub entry_text : Cfg → Seen → List ℕ
entry_text cfg x =
    held_text x.address x.value ++ (codes " " ++ kind_text (kind_of cfg x.level x.value))

abbrev pub may_line : Cfg → Seen → List ℕ
may_line cfg x =
    level_text x.level ++ (entry_text cfg x ++ (writer_text x.writer ++ codes "\n"))

abbrev pub reason_text : Gone → List ℕ
reason_text gone =
    codes ": event " ++ (decimal gone.by
    ++ (codes " overwrites it and comes before event " ++ (decimal gone.before ++ codes "\n")))

abbrev pub gone_line : Seen → Gone → List ℕ
gone_line x gone =
    codes "can't read: " ++ (held_text x.address x.value
    ++ (writer_text x.writer ++ reason_text gone))

abbrev pub gone_line_of : Seen → Option Gone → List ℕ
gone_line_of x None = []
gone_line_of x (Some gone) = gone_line x gone

abbrev pub cannot_line : Seen → List ℕ
cannot_line x = gone_line_of x x.gone

-- the lines of entries, where so many stand before them
abbrev pub may_lines : Cfg → ℕ → List Seen → List ℕ
may_lines cfg i [] = []
may_lines cfg i (x ∷ xs) =
    if i == 64 then codes "..\n" else may_line cfg x ++ may_lines cfg (i + 1) xs

abbrev pub cannot_lines : ℕ → List Seen → List ℕ
cannot_lines i [] = []
cannot_lines i (x ∷ xs) =
    if i == 16 then codes "..\n" else cannot_line x ++ cannot_lines (i + 1) xs
