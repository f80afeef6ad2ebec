-- Worked rows of the machine: what is forgotten, and accessed and dirty flags (Intel SDM, vol. 3,
-- 4.8 and 4.10).
use Rattle.std.proofs.Common.{◌≡◌, ℕ, Bool, true, false, not, ◌||◌, List, [], ◌∷◌}
use Rattle.std.proofs.Common.{refl, inl, lit<, subst}
use Rattle.pg_entry.specs.declared.AccessKind.{AccessKind}
use Rattle.pg_entry.specs.declared.Level.{Level}
use Rattle.pg_entry.specs.declared.Level.TheVariants.{Four, Three, Two, One}
use Rattle.pg_entry.specs.Kinds.{kind_of}
use Rattle.pg_entry.specs.Permission.{all_rights, joined}
use Rattle.pg_event.specs.declared.event.Event.TheVariants as events
use Rattle.pg_event.specs.declared.event.Outcome.TheVariants.{Page, Fault}
use Rattle.pg_event.specs.declared.version.Version.{Version}
use Rattle.pg_event.specs.declared.version.Version.TheVariants as versions
use Rattle.pg_event.specs.declared.walk.Parent.{Parent}
use Rattle.pg_event.specs.Heads.{Head}
use Rattle.pg_event.specs.Form.{access_kind}
use Rattle.pg_event.specs.Values.{loaded}
use Rattle.pg_event.specs.Invalidation.{structure_key, translation_key}
use Rattle.pg_event.specs.Wants.{may_dirty}
use Rattle.pg_machine.specs.declared.step.Structure.{Structure}
use Rattle.pg_machine.specs.declared.step.Translation.{Translation}
use Rattle.pg_machine.specs.declared.step.Member.TheVariants as members
use Rattle.pg_machine.specs.declared.step.Step.{Step}
use Rattle.pg_machine.specs.declared.step.Step.TheVariants.{Fill4, Fill3, Fill2, FillLeaf, Do}
use Rattle.pg_machine.specs.Listed.{value_at}
use Rattle.pg_machine.specs.Machine.{State, MayRead, MayCome, MayTake, Answers, IsRun}
use Rattle.pg_machine.specs.Machine.{may_cache, may_serve, entry_now, after, after_event, without}
use Rattle.pg_machine.specs.NoRun.{one_processor}

-- the settings, by the version
abbrev of_version : Version → Head
of_version version = record one_processor { version = version }

abbrev version_1 : Head
version_1 = of_version versions.One

abbrev version_2 : Head
version_2 = of_version versions.Two

-- the table at an address, with all rights
abbrev table_at : ℕ → Parent
table_at table = record { table = table; rights = all_rights }

-- the words of memory, and what each processor has cached; the root is 0x1000 and the PCID 1
abbrev state : List (ℕ × ℕ) → List Structure → List Translation → State
state words structures translations = record {
  memory = value_at words;
  control = λ p. loaded 40 0x1001 true;
  structures = λ p. structures;
  translations = λ p. translations;
}

-- the structure entry of a table, and the translation to 0x9000, for address 0x5123
abbrev structure : Level → ℕ → Structure
structure level table =
    record { key = structure_key 1 level 0x5123; table = table; rights = all_rights }

abbrev translation : Bool → Translation
translation dirty = record {
  key = translation_key 1 12 false 0x5123;
  frame = 0x9000;
  rights = all_rights;
  dirty = dirty;
}

-- what is forgotten
-- refutes: a processor that forgets one entry forgets all
other_structure_kept : (without (state [] (structure Two 0x4000 ∷ structure Two 0x6000 ∷ []) []) 0
    (members.Structure (structure Two 0x4000))).structures 0
    ≡ structure Two 0x6000 ∷ []
other_structure_kept = refl

-- refutes: a processor that forgets one entry forgets all
other_translation_kept : (without (state [] [] (translation true ∷ translation false ∷ [])) 0
    (members.Translation (translation false))).translations 0
    ≡ translation true ∷ []
other_translation_kept = refl

-- refutes: a structure entry takes its translations with it
translation_kept : (without (state [] (structure Two 0x4000 ∷ []) (translation true ∷ [])) 0
    (members.Structure (structure Two 0x4000))).translations 0
    ≡ translation true ∷ []
translation_kept = refl

structure_kept : (without (state [] (structure Two 0x4000 ∷ []) (translation true ∷ [])) 0
    (members.Translation (translation true))).structures 0
    ≡ structure Two 0x4000 ∷ []
structure_kept = refl

-- refutes: all processors forget
other_processor_keeps : (without (state [] (structure Two 0x4000 ∷ []) []) 0
    (members.Structure (structure Two 0x4000))).structures 1
    ≡ structure Two 0x4000 ∷ []
other_processor_keeps = refl

-- fills and A
-- refutes: an entry with A = 0 is cached in version 2
no_fill_without_a : ¬ MayTake version_2 (state ((0x1000, 0x2007) ∷ []) [] []) (Fill4 0 0x5123)
no_fill_without_a take = let cached = take.1.2 in cc

fill_with_a : MayTake version_2 (state ((0x1000, 0x2027) ∷ []) [] []) (Fill4 0 0x5123)
fill_with_a = (0x2000, ((lit< tt, refl), refl, refl, refl))

-- refutes: a page with A = 0 is cached in version 2
no_leaf_without_a : ¬ MayTake version_2
    (state ((0x4028, 0x9007) ∷ []) (structure Two 0x4000 ∷ []) [])
    (FillLeaf 0 0x5123 One (table_at 0x4000))
no_leaf_without_a take = let cached = take.3.2 in cc

leaf_with_a : MayTake version_2 (state ((0x4028, 0x9027) ∷ []) (structure Two 0x4000 ∷ []) [])
    (FillLeaf 0 0x5123 One (table_at 0x4000))
leaf_with_a = (0x9000, 12, false, ((lit< tt, refl), inl refl, refl, refl))

-- version 1 asks for no A, and for no D
-- refutes: A is asked in version 1
fill_without_a_in_version_1 :
    MayTake version_1 (state ((0x1000, 0x2007) ∷ []) [] []) (Fill4 0 0x5123)
fill_without_a_in_version_1 = (0x2000, ((lit< tt, refl), refl, refl, refl))

each_entry_in_version_1 : (entry : ℕ) → may_cache versions.One entry ≡ true
each_entry_in_version_1 entry = refl

each_translation_in_version_1 : (access : AccessKind) (t : Translation) →
    may_serve versions.One access t ≡ true
each_translation_in_version_1 access t = refl

-- translations and D
-- refutes: a translation is dirty always
clean_leaf : (after version_2 (state ((0x4028, 0x9027) ∷ []) (structure Two 0x4000 ∷ []) [])
    (FillLeaf 0 0x5123 One (table_at 0x4000))).translations 0
    ≡ translation false ∷ []
clean_leaf = refl

dirty_leaf : (after version_2 (state ((0x4028, 0x9067) ∷ []) (structure Two 0x4000 ∷ []) [])
    (FillLeaf 0 0x5123 One (table_at 0x4000))).translations 0
    ≡ translation true ∷ []
dirty_leaf = refl

-- refutes: a write is answered by a translation without D
no_write_without_d : ¬ Answers version_2 (access_kind 5) 0x5123 (translation false) (Page 0x9123)
no_write_without_d answers = let served = answers.1 in cc

write_with_d : Answers version_2 (access_kind 5) 0x5123 (translation true) (Page 0x9123)
write_with_d = (refl, refl, refl)

-- refutes: a read asks for D
read_without_d : Answers version_2 (access_kind 4) 0x5123 (translation false) (Page 0x9123)
read_without_d = (refl, refl, refl)

-- refutes: a write that is denied asks for D
denied_write_without_d : Answers version_2 (access_kind 5) 0x5123
    (record (translation false) { rights = record all_rights { write = false } })
    (Fault 7)
denied_write_without_d = (refl, refl)

-- what an assist leaves
-- refutes: an assist leaves its word
assist_sets_a : (after_event version_2 (state ((0x1000, 0x2007) ∷ []) [] [])
    (events.Assist 0 4 0x5123 0x1000 (0 ∷ []))).memory 0x1000
    ≡ 0x2027
assist_sets_a = refl

-- refutes: a dirty assist sets D alone
assist_sets_a_and_d : (after_event version_2 (state ((0x4028, 0x9007) ∷ []) [] [])
    (events.Assist 0 0x15 0x5123 0x4028 (0 ∷ []))).memory 0x4028
    ≡ 0x9067
assist_sets_a_and_d = refl

-- refutes: an assist sets its bits in other words
assist_keeps_other_words :
    (after_event version_2 (state ((0x1000, 0x2007) ∷ (0x1008, 0x3007) ∷ []) [] [])
    (events.Assist 0 4 0x5123 0x1000 (0 ∷ []))).memory 0x1008
    ≡ 0x3007
assist_keeps_other_words = refl

-- refutes: an assist drops what it walked for
assist_keeps_structures :
    (after_event version_2 (state ((0x4028, 0x9007) ∷ []) (structure Two 0x4000 ∷ []) [])
    (events.Assist 0 0x15 0x5123 0x4028 (0 ∷ []))).structures 0
    ≡ structure Two 0x4000 ∷ []
assist_keeps_structures = refl

-- refutes: a dirty assist drops the clean translation
assist_keeps_translations :
    (after_event version_2 (state ((0x4028, 0x9007) ∷ []) [] (translation false ∷ []))
    (events.Assist 0 0x15 0x5123 0x4028 (0 ∷ []))).translations 0
    ≡ translation false ∷ []
assist_keeps_translations = refl

-- which assists may come
-- the level 4 entry is a table
abbrev with_table_alone : State
with_table_alone = state ((0x1000, 0x2007) ∷ []) [] []

assist_of_table : MayCome version_2 with_table_alone (events.Assist 0 4 0x5123 0x1000 (0 ∷ []))
assist_of_table = (Four, table_at 0x1000, refl, refl, refl, refl)

-- the entry of a level may be made dirty for a write by user code
abbrev is_dirtied : State → Level → Parent → Bool
is_dirtied s level from =
    let entry = entry_now s 0x5123 level from in
    not true
    || may_dirty version_2.cfg (access_kind 0x15) (joined from.rights entry)
    (kind_of version_2.cfg level entry)

not_dirtied : (level : Level) (from : Parent) → MayRead with_table_alone 0 0x5123 level from →
    ¬ (is_dirtied with_table_alone level from ≡ true)
not_dirtied Four from root dirtied =
    let h = subst (λ (f : Parent). is_dirtied with_table_alone Four f ≡ true) root dirtied in cc
not_dirtied Three from led dirtied = led
not_dirtied Two from led dirtied = led
not_dirtied One from led dirtied = led

-- refutes: a table is made dirty
no_dirty_assist_of_table :
    ¬ MayCome version_2 with_table_alone (events.Assist 0 0x15 0x5123 0x1000 (0 ∷ []))
no_dirty_assist_of_table comes = not_dirtied comes.0 comes.1 comes.2 comes.5

dirty_assist_of_page :
    MayCome version_2 (state ((0x4028, 0x9007) ∷ []) (structure Two 0x4000 ∷ []) [])
    (events.Assist 0 0x15 0x5123 0x4028 (0 ∷ []))
dirty_assist_of_page = (One, table_at 0x4000, inl refl, refl, refl, refl)

-- refutes: an assist asks that A was 0
assist_again : MayCome version_2 (state ((0x1000, 0x2027) ∷ []) [] [])
    (events.Assist 0 4 0x5123 0x1000 (0 ∷ []))
assist_again = (Four, table_at 0x1000, refl, refl, refl, refl)

-- refutes: a record of version 1 has assists
no_assist_in_version_1 : ¬ MayTake version_1 with_table_alone
    (Do (events.Assist 0 4 0x5123 0x1000 (0 ∷ [])))
no_assist_in_version_1 take = let formed = take.0 in cc

-- a run of version 2: a walk for a write sets A and D of the page's entry first
abbrev marking_run : List Step
marking_run =
    Do (events.Write 0 0x1000 0x2027) ∷ Do (events.Write 0 0x2000 0x3027)
    ∷ Do (events.Write 0 0x3000 0x4027) ∷ Do (events.Write 0 0x4028 0x9007)
    ∷ Fill4 0 0x5123 ∷ Fill3 0 0x5123 (table_at 0x2000) ∷ Fill2 0 0x5123 (table_at 0x3000)
    ∷ Do (events.Assist 0 0x15 0x5123 0x4028 (0 ∷ []))
    ∷ FillLeaf 0 0x5123 One (table_at 0x4000)
    ∷ Do (events.Access 0 5 0x5123 (Page 0x9123) (0 ∷ [])) ∷ []

marking_runs : IsRun version_2 marking_run
marking_runs = (
  (refl, tt),
  (
    (refl, tt),
    (
      (refl, tt),
      (
        (refl, tt),
        (
          (0x2000, ((lit< tt, refl), refl, refl, refl)),
          (
            (0x3000, ((lit< tt, refl), inl refl, refl, refl)),
            (
              (0x4000, ((lit< tt, refl), inl refl, refl, refl)),
              (
                (refl, (One, table_at 0x4000, inl refl, refl, refl, refl)),
                (
                  (0x9000, 12, false, ((lit< tt, refl), inl refl, refl, refl)),
                  ((refl, (translation true, inl refl, refl, (refl, refl, refl))), tt),
                ),
              ),
            ),
          ),
        ),
      ),
    ),
  ),
)
