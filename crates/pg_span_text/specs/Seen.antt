-- Which entries a walk may read after an event of its processor, and which it can't, in whichever
-- order.
use Rattle.std.specs.Prelude.{ℕ, ◌^◌, nat_lt, if◌then◌else◌, fold}
use Rattle.std.specs.Prelude.{List, [], ◌∷◌, ◌++◌, Option, Some, None}
use Rattle.pg_entry.specs.declared.Cfg.{Cfg}
use Rattle.pg_entry.specs.declared.Kind.{Kind}
use Rattle.pg_entry.specs.declared.Kind.TheVariants as kinds
use Rattle.pg_entry.specs.declared.Level.{Level}
use Rattle.pg_entry.specs.declared.Level.TheVariants.{Four, Three, Two, One}
use Rattle.pg_entry.specs.Kinds.{kind_of}
use Rattle.pg_event.specs.Walk.{entry_address}
use Rattle.pg_span_run.specs.Orders.{Spanned}
use Rattle.pg_span_text.specs.declared.seen.Gone.{Gone}
use Rattle.pg_span_text.specs.declared.seen.Seen.{Seen}
use Rattle.pg_span_text.specs.declared.seen.Walk.{Walk}
use Rattle.pg_span_run.specs.declared.span.Span.{Span}
use Rattle.pg_span_text.specs.declared.words.Written.{Written}
use Rattle.pg_span_text.specs.Drops.{put_once}
use Rattle.pg_span_text.specs.Words.{writes_of, overwriter, is_any_before}

-- ---- a word

-- after which event an entry of this kind is read: what must be read anew is read after the event
-- that drops it, if there is one. An entry that is absent or has a reserved bit is cached nowhere
-- (Intel SDM, vol. 3, 4.10.2.3), so it is read at the asked event itself
abbrev pub bound_for : Walk → Kind → Option Span
bound_for walk kinds.Absent = Some walk.event
bound_for walk kinds.Reserved = Some walk.event
bound_for walk (kinds.Table addr) = walk.drop
bound_for walk (kinds.Leaf frame shift global_bit) = walk.drop

abbrev pub bound_of : Cfg → Walk → Level → ℕ → Option Span
bound_of cfg walk level value = bound_for walk (kind_of cfg level value)

abbrev pub gone_for : Span → Option ℕ → Option Gone
gone_for bound None = None
gone_for bound (Some by) = Some (record { by = by; before = bound.number })

-- which of the later writes in every order overwrites a write before an event
abbrev pub gone_by : Option Span → Span → List Written → Option Gone
gone_by None span later = None
gone_by (Some bound) span later =
    if nat_lt span.number bound.number then gone_for bound (overwriter later span bound) else None

-- what a write leaves in its word, where these are the later ones
abbrev pub seen_of_write : Cfg → Walk → Level → ℕ → Written → List Written → Seen
seen_of_write cfg walk level a w later = record {
  level = level;
  address = a;
  value = w.value;
  writer = Some w.span.number;
  gone = gone_by (bound_of cfg walk level w.value) w.span later;
}

-- what all of these leave
abbrev pub seen_from : Cfg → Walk → Level → ℕ → List Written → List Seen
seen_from cfg walk level a [] = []
seen_from cfg walk level a (w ∷ ws) =
    seen_of_write cfg walk level a w ws ∷ seen_from cfg walk level a ws

-- that the word is unwritten, unless some write must come before the asked event: it is absent then
abbrev pub unwritten : Walk → Level → ℕ → List Written → List Seen
unwritten walk level a ws =
    if is_any_before ws walk.event then [] else
    record { level = level; address = a; value = 0; writer = None; gone = None } ∷ []

abbrev pub seen_by : Cfg → Walk → Level → ℕ → List Written → List Seen
seen_by cfg walk level a ws = unwritten walk level a ws ++ seen_from cfg walk level a ws

-- what a word holds at times that are not surely after the asked event
abbrev pub seen_word : Spanned → Walk → Level → ℕ → List Seen
seen_word s walk level a = seen_by s.head.cfg walk level a (writes_of s walk.event a)

-- ---- a level

-- what the word of the walk in a table holds. Each table lies below 2^52
abbrev pub seen_in : Spanned → Walk → Level → ℕ → List Seen
seen_in s walk level table =
    if nat_lt table (2 ^ 52) then seen_word s walk level (entry_address table level walk.la)
    else []

abbrev pub seen_at : Spanned → Walk → Level → List ℕ → List Seen
seen_at s walk level [] = []
seen_at s walk level (table ∷ tables) =
    seen_in s walk level table ++ seen_at s walk level tables

-- the table that an entry refers to, after others
abbrev pub put_table : List ℕ → Kind → List ℕ
put_table tables kinds.Absent = tables
put_table tables kinds.Reserved = tables
put_table tables (kinds.Table addr) = put_once tables addr
put_table tables (kinds.Leaf frame shift global_bit) = tables

abbrev pub put_open : Cfg → List ℕ → Seen → Option Gone → List ℕ
put_open cfg tables x None = put_table tables (kind_of cfg x.level x.value)
put_open cfg tables x (Some gone) = tables

-- the table that an entry refers to, after others, where the walk may read the entry
abbrev pub put_below : Cfg → List ℕ → Seen → List ℕ
put_below cfg tables x = put_open cfg tables x x.gone

-- the tables that a walk may come to by these entries, once each, as they are found
abbrev pub tables_below : Cfg → List Seen → List ℕ
tables_below cfg xs = fold (put_below cfg) [] xs

-- what the words of the walk hold at the next level
abbrev pub seen_next : Spanned → Walk → Level → List Seen → List Seen
seen_next s walk level above = seen_at s walk level (tables_below s.head.cfg above)

-- ---- the walk, from level 4 down

abbrev pub seen_from_two : Spanned → Walk → List Seen → List Seen
seen_from_two s walk two = two ++ seen_next s walk One two

abbrev pub seen_from_three : Spanned → Walk → List Seen → List Seen
seen_from_three s walk three = three ++ seen_from_two s walk (seen_next s walk Two three)

abbrev pub seen_from_four : Spanned → Walk → List Seen → List Seen
seen_from_four s walk four = four ++ seen_from_three s walk (seen_next s walk Three four)

-- what the words hold that a walk from these roots may read, level by level
abbrev pub seen_of : Spanned → Walk → List ℕ → List Seen
seen_of s walk roots = seen_from_four s walk (seen_at s walk Four roots)
