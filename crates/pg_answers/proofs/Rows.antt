-- Texts of runs, to the byte, and which records name no moments.
use Rattle.std.proofs.Common.{◌≡◌, ℕ, true, false, List, [], ◌∷◌, ◌++◌, refl}
use Rattle.std.specs.Prelude.{codes}
use Rattle.std.specs.Fmt.{digits}
use Rattle.pg_event.specs.declared.event.Event.{Event}
use Rattle.pg_event.specs.declared.event.Event.TheVariants.{Write}
use Rattle.pg_run_of.specs.Plan.{steps_of}
use Rattle.pg_answers.specs.Runs.{run_text}
use Rattle.pg_answers.specs.Unnamed.{is_unnamed}
use Rattle.pg_event.proofs.RowsBase.{base, words, tables, four, read, faulted, user_read}

-- the text of the run of these events under the base header
abbrev text_of : List Event → List ℕ
text_of events = run_text (steps_of base events)

abbrev writes : List ℕ
writes = codes "do 0\ndo 1\ndo 2\ndo 3\n"

abbrev fills : List ℕ
fills = codes "fill4 0 0x5123\nfill3 0 0x5123 0x2000 wu-\nfill2 0 0x5123 0x3000 wu-\nleaf 0 0x5123 1 0x4000 wu-\n"

run_of_fresh_walk : text_of (tables 0x9007 ++ read (four 4) ∷ []) ≡ writes ++ fills ++ codes "do 4\n"
unfolding digits
run_of_fresh_walk = refl

run_of_stale_leaf : text_of (tables 0x9007 ++ Write 0 0x4028 0 ∷ read (four 4) ∷ []) ≡ writes ++ fills ++ codes "do 4\ndo 5\n"
unfolding digits
run_of_stale_leaf = refl

run_of_reserved_fault : text_of (words 0x2007 0x3007 0x602087 0x9007 ++ faulted user_read 0xd (4 ∷ 4 ∷ 4 ∷ []) ∷ [])
    ≡ writes ++ codes "fill4 0 0x5123\nfill3 0 0x5123 0x2000 wu-\ndo 4\n"
unfolding digits
run_of_reserved_fault = refl

run_of_same_access_twice : text_of (tables 0x9007 ++ read (four 4) ∷ read (four 4) ∷ []) ≡ writes ++ fills ++ fills ++ codes "do 4\ndo 5\n"
unfolding digits
run_of_same_access_twice = refl

placeholders_alone : is_unnamed (tables 0x9007 ++ read (0 ∷ []) ∷ faulted user_read 0x4 (0 ∷ []) ∷ []) ≡ true
unfolding is_unnamed
placeholders_alone = refl

one_access_with_moments : is_unnamed (tables 0x9007 ++ read (0 ∷ []) ∷ read (four 4) ∷ []) ≡ false
unfolding is_unnamed
one_access_with_moments = refl

first_moment_0_of_four : is_unnamed (tables 0x9007 ++ read (four 0) ∷ []) ≡ false
unfolding is_unnamed
first_moment_0_of_four = refl

no_access : is_unnamed (tables 0x9007) ≡ false
unfolding is_unnamed
no_access = refl
