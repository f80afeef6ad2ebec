-- The addresses that words give, from one moment to the next.
use Rattle.std.proofs.Common.{◌≡◌, ◌≢◌, ℕ, zero, suc, ◌+◌, ◌<◌, ◌≤◌, ◌⊎◌, ◌%◌, ◌==◌, Bool, true, false, cond, List, [], ◌∷◌, ◌++◌, length, take, refl, ap, sym, ◌∙◌, subst, inl, inr, arith, Option, Some, None}
use Rattle.std.specs.Prelude.{slice_get, fold, option_to_list}
use Rattle.std.specs.List.{Contains}
use Rattle.std.proofs.lemmas.Bool.{cases_Bool, cases_eq, cases_lt, eqb-true}
use Rattle.std.proofs.lemmas.List.Elements.{Contains-append_left, Contains-append_right}
use Rattle.std.proofs.lemmas.List.Sums.{fold-append}
use Rattle.std.proofs.lemmas.Option.{slice_get-get_or}
use Rattle.pg_entry.specs.declared.Cfg.{Cfg}
use Rattle.pg_entry.specs.declared.Kind.{Kind}
use Rattle.pg_entry.specs.declared.Kind.TheVariants as kinds
use Rattle.pg_entry.specs.declared.Level.{Level}
use Rattle.pg_entry.specs.declared.Level.TheVariants.{Four, Three, Two, One}
use Rattle.pg_entry.specs.Kinds.{marked, is_reserved, table_of}
use Rattle.pg_event.specs.Form.{says_dirty}
use Rattle.pg_event.specs.declared.event.Event.{Event}
use Rattle.pg_event.specs.declared.event.Event.TheVariants.{Write, Access, Assist, MovCr3, Invlpg, Invpcid, MovCr4Pge}
use Rattle.pg_event.specs.Spelling.{Recorded}
use Rattle.pg_event.specs.Values.{written, mem_at}
use Rattle.pg_event.specs.Walk.{entry_address}
use Rattle.pg_search.proofs.Stepping.{take_next}
use Rattle.pg_reach.proofs.Histories.{event_there}
use Rattle.pg_search.specs.Writers.{word_of, written_from, HaveWritten}
use Rattle.pg_search.specs.declared.written.Written.{Written}
use Rattle.pg_reach.specs.Given.{page_of, page_by}
use Rattle.pg_outcomes.specs.Pages.{page_at, with_pages, HavePages}

-- ---- memory

unwritten : (a value : ℕ) (e : Event) → word_of e ≢ Some a → written a value e ≡ value
unwritten a value (Write p addr new) h =
    elim (cases_Bool (addr == a)) as (λ _. cond (addr == a) new value ≡ value) [
      | inl t ↦ absurd (h (ap Some (eqb-true addr a t)))
      | inr f ↦ ap (λ b. cond b new value) f
    ]
unwritten a value (Access p flags la outcome moments) h = refl
unwritten a value (Assist p flags la word moments) h =
    elim (cases_Bool (word == a)) as (λ _. written a value (Assist p flags la word moments) ≡ value) [
      | inl t ↦ absurd (h (ap Some (eqb-true word a t)))
      | inr f ↦ ap (λ b. cond b (marked (says_dirty flags) value) value) f
    ]
unwritten a value (MovCr3 p operand) h = refl
unwritten a value (Invlpg p la) h = refl
unwritten a value (Invpcid p kind pcid la) h = refl
unwritten a value (MovCr4Pge p on) h = refl

-- a word that an event does not write keeps its value
same_value : (events : List Event) (i a : ℕ) (e : Event) → slice_get events i ≡ Some e → word_of e ≢ Some a → mem_at events (i + 1) a ≡ mem_at events i a
same_value events i a e at h =
    let n : i + 1 ≡ suc i = omega arith in
    ap (λ k. mem_at events k a) n ∙ ap (fold (written a) 0) (take_next events i e at) ∙ fold-append (written a) 0 (take i events) (e ∷ []) ∙ unwritten a (mem_at events i a) e h

nothing_yet : (events : List Event) (a : ℕ) → mem_at events 0 a ≡ 0
nothing_yet [] a = refl
nothing_yet (e ∷ es) a = refl

-- ---- entries

no_page : (absent reserved : Bool) (k : Kind) (la page : ℕ) → page_of k la ≡ None → page_of (cond absent kinds.Absent (cond reserved kinds.Reserved k)) la ≡ Some page → ⊥
no_page true reserved k la page none h = cc
no_page false true k la page none h = cc
no_page false false k la page none h = cc

-- an entry of level 4 refers to no page
pub no_page_at_four : (cfg : Cfg) (value la page : ℕ) → page_by cfg Four value la ≡ Some page → ⊥
no_page_at_four cfg value la page h = no_page _ (is_reserved cfg Four value) (kinds.Table (table_of cfg.m value)) la page refl h

chosen : (b : Bool) (o : Option ℕ) (page : ℕ) → cond b o None ≡ Some page → (b ≡ true) × (o ≡ Some page)
chosen true o page h = (refl, h)
chosen false o page h = absurd (cc)

-- what is given is given by the value of a word at the place of the entry
by_value : (r : Recorded) (w word : ℕ) (level : Level) (la page : ℕ) → page_at r w word level la ≡ Some page →
    ((word % 4096 == entry_address 0 level la) ≡ true) × (page_by r.head.cfg level (mem_at r.events w word) la ≡ Some page)
by_value r w word level la page h = chosen (word % 4096 == entry_address 0 level la) (page_by r.head.cfg level (mem_at r.events w word) la) page h

-- and only by the value
pub same_page : (r : Recorded) (v w word : ℕ) (level : Level) (la page : ℕ) → mem_at r.events v word ≡ mem_at r.events w word → page_at r v word level la ≡ Some page → page_at r w word level la ≡ Some page
same_page r v w word level la page same h =
    ap (λ value. cond (word % 4096 == entry_address 0 level la) (page_by r.head.cfg level value la) None) (sym same) ∙ h

-- ---- lists

listed : (o : Option ℕ) (page : ℕ) → o ≡ Some page → Contains (option_to_list o) page
listed (Some x) page h = let is : x ≡ page = cc in (0, omega arith, is)
listed None page h = absurd (cc)

-- a word that was never written gives none
no_page_of_nothing : (r : Recorded) (w word : ℕ) (level : Level) (la page : ℕ) → mem_at r.events w word ≡ 0 → page_at r w word level la ≡ Some page → ⊥
no_page_of_nothing r w word level la page value h =
    absent level (subst (λ v. page_by r.head.cfg level v la ≡ Some page) value (by_value r w word level la page h).1)
  where
    absent : (l : Level) → page_by r.head.cfg l 0 la ≡ Some page → ⊥
    absent l given = cc

-- those of a word that is written are in the list
of_word : (xs : List ℕ) (r : Recorded) (w word la page : ℕ) (level : Level) → page_at r w word level la ≡ Some page → Contains (with_pages xs r w word la) page
of_word xs r w word la page Four h = absurd (no_page_at_four r.head.cfg (mem_at r.events w word) la page (by_value r w word Four la page h).1)
of_word xs r w word la page Three h =
    Contains-append_left _ _ page (Contains-append_left _ _ page (Contains-append_right xs _ page (listed (page_at r w word Three la) page h)))
of_word xs r w word la page Two h =
    Contains-append_left _ _ page (Contains-append_right (xs ++ option_to_list (page_at r w word Three la)) _ page (listed (page_at r w word Two la) page h))
of_word xs r w word la page One h =
    Contains-append_right (xs ++ option_to_list (page_at r w word Three la) ++ option_to_list (page_at r w word Two la)) _ page (listed (page_at r w word One la) page h)

-- what a word has at a moment it had at none, or an event before it left it
abbrev IsLeft : List Event → ℕ → ℕ → Type 0
IsLeft events w word = (mem_at events w word ≡ 0)
    ⊎ ((i : ℕ) × (e : Event) × (i < w) × (slice_get events i ≡ Some e) × (word_of e ≡ Some word) × (mem_at events (i + 1) word ≡ mem_at events w word))

left_on : (events : List Event) (w word : ℕ) → mem_at events w word ≡ mem_at events (suc w) word → IsLeft events w word → IsLeft events (suc w) word
left_on events w word same (inl none) = inl (sym same ∙ none)
left_on events w word same (inr h) = inr (h.0, h.1, omega (arith, h.2), h.3, h.4, h.5 ∙ same)

-- by what the event before the moment writes
left_by : (events : List Event) (w word : ℕ) (e : Event) (o : Option ℕ) → slice_get events w ≡ Some e → word_of e ≡ o → IsLeft events w word → IsLeft events (suc w) word
left_by events w word e None at is before =
    let next : w + 1 ≡ suc w = omega arith in
    let apart : word_of e ≢ Some word = λ same. let no : None ≡ Some word = sym is ∙ same in absurd (cc) in
    left_on events w word (sym (same_value events w word e at apart) ∙ ap (λ k. mem_at events k word) next) before
left_by events w word e (Some x) at is before =
    let next : w + 1 ≡ suc w = omega arith in
    elim (cases_eq x word) as (λ _. IsLeft events (suc w) word) [
      | inl same ↦ inr (w, e, omega arith, at, is ∙ ap Some same, ap (λ k. mem_at events k word) next)
      | inr other ↦
          let apart : word_of e ≢ Some word = λ same. let both : Some x ≡ Some word = sym is ∙ same in let one : x ≡ word = cc in other one in
          left_on events w word (sym (same_value events w word e at apart) ∙ ap (λ k. mem_at events k word) next) before
    ]

last_left : (events : List Event) (w word : ℕ) → w ≤ length events → IsLeft events w word
last_left events zero word le = inl (nothing_yet events word)
last_left events (suc w) word le =
    let there = event_there events w (omega (arith, le)) in
    left_by events w word there.0 (word_of there.0) there.1 refl (last_left events w word (omega (arith, le)))

-- ---- words that were written, one after another

-- what the first so many of these give is in the list
abbrev pub HaveFirst : Recorded → ℕ → List Written → ℕ → List ℕ → Type 0
HaveFirst r la ws k pages = (j page : ℕ) (x : Written) (level : Level) → j < k → slice_get ws j ≡ Some x → page_at r x.since x.word level la ≡ Some page → Contains pages page

pub first_none : (r : Recorded) (la : ℕ) (ws : List Written) (pages : List ℕ) → HaveFirst r la ws 0 pages
first_none r la ws pages j page x level lt at h = absurd (omega (arith, lt))

some_written : (x y : Written) → Some x ≡ Some y → x ≡ y
some_written x y h = cc

pub first_more : (r : Recorded) (la : ℕ) (ws : List Written) (k : ℕ) (x : Written) (pages : List ℕ) → slice_get ws k ≡ Some x → HaveFirst r la ws k pages → HaveFirst r la ws (k + 1) (with_pages pages r x.since x.word la)
first_more r la ws k x pages there h j page y level lt at given =
    elim (cases_lt j k) as (λ _. Contains (with_pages pages r x.since x.word la) page) [
      | inl before ↦ Contains-append_left _ _ page (Contains-append_left _ _ page (Contains-append_left pages _ page (h j page y level before at given)))
      | inr end ↦
          let same : j ≡ k = omega (arith, lt, end) in
          let one : y ≡ x = some_written y x (sym at ∙ ap (slice_get ws) same ∙ there) in
          of_word pages r x.since x.word la page level (subst (λ (z : Written). page_at r z.since z.word level la ≡ Some page) one given)
    ]

-- all that a word gives at a moment is in the list
pub first_all : (r : Recorded) (la moment k : ℕ) (ws : List Written) (pages : List ℕ) → moment ≤ length r.events → length ws ≤ k → HaveWritten r.events moment ws → HaveFirst r la ws k pages → HavePages r moment la pages
first_all r la moment k ws pages le all have h w word page level low given =
    elim (last_left r.events w word (omega (arith, le, low))) as (λ _. Contains pages page) [
      | inl none ↦ absurd (no_page_of_nothing r w word level la page none given)
      | inr left ↦
          let there = have left.0 word left.1 (omega (arith, left.2, low)) left.3 left.4 in
          let at : slice_get ws there.0 ≡ Some (written_from (left.0 + 1) word) = slice_get-get_or ws there.0 (written_from (left.0 + 1) word) there.1 ∙ ap Some there.2 in
          h there.0 page (written_from (left.0 + 1) word) level (omega (arith, all, there.1)) at
          (same_page r w (left.0 + 1) word level la page (sym left.5) given)
    ]
