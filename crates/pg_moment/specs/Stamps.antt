-- The stamps of a word: its last one, and the others, which are in the log or in a list.
use Rattle.std.specs.Prelude.{◌≡◌, ℕ, zero, suc, ◌<◌, ◌≤◌, nat_eq, nat_lt, if◌then◌else◌}
use Rattle.std.specs.Prelude.{Bool, true, false, List, [], ◌∷◌, ◌++◌, length, slice_index_or}
use Rattle.std.specs.Prelude.{slice_get}
use Rattle.std.specs.Option.{option_map, unwrap_or}
use Rattle.pg_timeline.specs.declared.timeline.Stamp.{Stamp}
use Rattle.pg_timeline.specs.Keyed.{AreBelow, stamps_in}
use Rattle.pg_moment.specs.declared.word.Word.{Word}
use Rattle.pg_moment.specs.declared.word.Others.{Others}
use Rattle.pg_moment.specs.declared.word.Others.TheVariants.{Unwritten, Logged, Listed}
use Rattle.pg_moment.specs.declared.word.Others.TheVariants.{LastForgotten}
use Rattle.pg_moment.specs.declared.log.Older.{Older}

-- the lists of words, by address
abbrev pub Lists : Type 0
Lists = List (ℕ × List (Stamp ℕ))

-- what is read at a place that the log does not have
abbrev pub nothing : Older
nothing = record { value = 0; moment = 0; before = 0 }

-- a word that was never written
abbrev pub unwritten : Word
unwritten = record { value = 0; moment = 0; others = Unwritten }

abbrev pub stamp_of : Older → Stamp ℕ
stamp_of o = record { moment = o.moment; value = o.value }

abbrev pub last_stamp : Word → Stamp ℕ
last_stamp w = record { moment = w.moment; value = w.value }

-- the stamps of a word with so many values in the log, the last of them at a place
abbrev pub logged : List Older → ℕ → ℕ → List (Stamp ℕ)
logged log zero place = []
logged log (suc n) place =
    let o = slice_index_or log place nothing in logged log n o.before ++ stamp_of o ∷ []

-- they are in the log, and their moments rise
abbrev pub AreLogged : List Older → ℕ → ℕ → Type 0
AreLogged log zero place = Unit {0}
AreLogged log (suc n) place =
    let o = slice_index_or log place nothing in
    (place < length log) × AreLogged log n o.before × AreBelow o.moment (logged log n o.before)

-- the stamps of a word at an address but its last
abbrev pub others_of : List Older → Lists → ℕ → Others → List (Stamp ℕ)
others_of log lists addr Unwritten = []
others_of log lists addr (Logged place count) = logged log count place
others_of log lists addr Listed = stamps_in nat_eq lists addr
others_of log lists addr LastForgotten = stamps_in nat_eq lists addr

-- whether a word has a last value
abbrev pub has_last : Others → Bool
has_last Unwritten = false
has_last (Logged place count) = true
has_last Listed = true
has_last LastForgotten = false

-- all stamps of a word at an address
abbrev pub stamps_of : List Older → Lists → ℕ → Word → List (Stamp ℕ)
stamps_of log lists addr w = others_of log lists addr w.others
    ++ (if has_last w.others then last_stamp w ∷ [] else [])

-- values that are in the log are there, and few; a last value comes after all others
abbrev pub AreOthers : List Older → Lists → ℕ → ℕ → Others → Type 0
AreOthers log lists addr last Unwritten = Unit {0}
AreOthers log lists addr last (Logged place count) =
    AreLogged log count place × (count ≤ 32) × AreBelow last (logged log count place)
AreOthers log lists addr last Listed = AreBelow last (stamps_in nat_eq lists addr)
AreOthers log lists addr last LastForgotten = Unit {0}

-- a word at an address, of this log and these lists
abbrev pub IsWord : List Older → Lists → ℕ → Word → Type 0
IsWord log lists addr w = AreOthers log lists addr w.moment w.others

-- all stamps of a word are its others now, and every other word has what it had
pub record Keeps (log : List Older) (lists : Lists) (log' : List Older) (lists' : Lists)
    (addr : ℕ) (w : Word) (others : Others) : Type 0 where
  pub more : List Older
  pub grown : log' ≡ log ++ more
  pub elsewhere : (a : ℕ) → nat_eq addr a ≡ false →
      stamps_in nat_eq lists' a ≡ stamps_in nat_eq lists a
  pub same : others_of log' lists' addr others ≡ stamps_of log lists addr w
  pub last : has_last others ≡ true
  pub holds : (moment : ℕ) → AreBelow moment (stamps_of log lists addr w) →
      AreOthers log' lists' addr moment others

-- a word without its values from a moment on, where so many others are in the log: the value
-- before the last takes its place until it is below that moment
abbrev pub cut_logged : List Older → ℕ → ℕ → ℕ → Word → Word
cut_logged log m zero place w = if nat_lt w.moment m then w else unwritten
cut_logged log m (suc n) place w = if nat_lt w.moment m then w
    else unwrap_or (option_map (λ o. cut_logged log m n o.before
    (record { value = o.value; moment = o.moment; others = Logged o.before n }))
    (slice_get log place)) unwritten

-- a word without its values from a moment on, wherever the others are
abbrev pub cut_by : List Older → ℕ → Word → Others → Word
cut_by log m w Unwritten = w
cut_by log m w (Logged place count) = cut_logged log m count place w
cut_by log m w Listed =
    if nat_lt w.moment m then w
    else record { value = w.value; moment = w.moment; others = LastForgotten }
cut_by log m w LastForgotten = w

abbrev pub cut_word : List Older → ℕ → Word → Word
cut_word log m w = cut_by log m w w.others
