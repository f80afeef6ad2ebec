-- A turn of an access carries it out, or brings its walk further.
use Rattle.std.proofs.Common.{◌≡◌, ℕ, ◌+◌, ◌≤◌, ◌<◌, Bool, true, false, not, cond, ◌&&◌, ◌⊎◌, inl, inr, List, [], ◌∷◌, ◌++◌, length, refl, ap, sym, ◌∙◌, subst, arith, eq-eqb, Option, Some, None}
use Rattle.std.specs.Prelude.{slice_get}
use Rattle.std.proofs.lemmas.Bool.{cond_both}
use Rattle.pg_entry.specs.declared.AccessKind.{AccessKind}
use Rattle.pg_entry.specs.declared.Cfg.{Cfg}
use Rattle.pg_entry.specs.declared.Kind.{Kind}
use Rattle.pg_entry.specs.declared.Kind.TheVariants as kinds
use Rattle.pg_entry.specs.declared.Level.{Level}
use Rattle.pg_entry.specs.declared.Level.TheVariants.{Four, Three, Two, One}
use Rattle.pg_entry.specs.declared.Rights.{Rights}
use Rattle.pg_entry.specs.Bits.{has_bit, field}
use Rattle.pg_entry.specs.Kinds.{kind_of, is_reserved}
use Rattle.pg_event.specs.declared.event.Event.{Event}
use Rattle.pg_event.specs.declared.event.Want.TheVariants as wants
use Rattle.pg_event.specs.declared.keys.StructureKey.{StructureKey}
use Rattle.pg_event.specs.declared.version.Version.{Version}
use Rattle.pg_event.specs.declared.version.Version.TheVariants as versions
use Rattle.pg_event.specs.declared.walk.Parent.{Parent}
use Rattle.pg_event.specs.Form.{access_kind}
use Rattle.pg_event.specs.Heads.{Head, judges_accessed}
use Rattle.pg_event.specs.Invalidation.{structure_key}
use Rattle.pg_event.specs.Values.{control_at}
use Rattle.pg_event.specs.Walk.{below, root_of}
use Rattle.pg_event.specs.Wants.{is_table, is_wanted}
use Rattle.pg_guest.specs.declared.instruction.Instruction.{Instruction}
use Rattle.pg_guest.specs.declared.instruction.Instruction.TheVariants.{Write, Access, MovCr3, Invlpg, Invpcid, MovCr4Pge}
use Rattle.pg_shadow.specs.declared.entries.Found.{Found}
use Rattle.pg_shadow.specs.declared.entries.Found.TheVariants.{Hit, Partial, Miss}
use Rattle.pg_shadow.specs.declared.entries.KeptTable.{KeptTable}
use Rattle.pg_shadow.specs.Caches.{Caches}
use Rattle.pg_world.specs.declared.receipt.Receipt.{Receipt}
use Rattle.pg_world.specs.declared.walk.LevelRead.TheVariants.{Entry, Assisted}
use Rattle.pg_world.specs.declared.walk.Walk.{Walk}
use Rattle.pg_world.specs.Recording.{Recording, receipt_of}
use Rattle.pg_world.specs.Walks.{address_of, word_now, moments_of, lacks_dirty, lacks_flags, assist_of, used_entry, found_entry, found_in}
use Rattle.pg_guest.specs.declared.advance.Advance.TheVariants as answers
use Rattle.pg_guest.specs.Turn.{Processor, Turned, keeps, after_read, assisted, goes_on, begun, turned_by, turned}
use Rattle.pg_guest.specs.Home.{WalkPosition, at_root, word_at, position_below, Along, FromRoot, EndsInTable, IsSoundTable, IsUnderWay, IsUnderWayFor, HasSoundCaches}
use Rattle.pg_guest.specs.Progress.{EntriesArePresent, depth, progress, GoesFurther, ReadsGoFurther, NoneAssistInVersionOne}
use Rattle.pg_guest.proofs.Turns.{begun_under}

-- ---- what a read gives

present_by : (b : Bool) (read : Receipt) (value moment v m : ℕ) (P : ℕ → Type 0) → P value → cond b (Assisted read) (Entry value moment) ≡ Entry v m → P v
present_by true read value moment v m P here h = absurd (cc)
present_by false read value moment v m P here h = let same : value ≡ v = cc in subst P same here

present_entry : (head : Head) (es : List Event) (p : ℕ) (walk : Walk) (value v m : ℕ) (k : Kind) → kind_of head.cfg walk.level value ≡ k → found_entry head es p walk value k ≡ Entry v m →
    is_wanted wants.Present (kind_of head.cfg walk.level v) ≡ true
present_entry head es p walk value v m kinds.Absent is h = absurd (cc)
present_entry head es p walk value v m kinds.Reserved is h = absurd (cc)
present_entry head es p walk value v m (kinds.Table addr) is h =
    let assist : Event = assist_of es p walk (lacks_dirty head.cfg walk value (kinds.Table addr)) in
    present_by (lacks_flags head walk value (kinds.Table addr)) (receipt_of es assist) value (length es) v m (λ v. is_wanted wants.Present (kind_of head.cfg walk.level v) ≡ true) (ap (is_wanted wants.Present) is) h
present_entry head es p walk value v m (kinds.Leaf frame shift g) is h =
    let assist : Event = assist_of es p walk (lacks_dirty head.cfg walk value (kinds.Leaf frame shift g)) in
    present_by (lacks_flags head walk value (kinds.Leaf frame shift g)) (receipt_of es assist) value (length es) v m (λ v. is_wanted wants.Present (kind_of head.cfg walk.level v) ≡ true) (ap (is_wanted wants.Present) is) h

pub entries_are_present : EntriesArePresent
entries_are_present r p walk value moment h =
    let word : ℕ = word_now r.events (address_of walk) in
    present_entry r.head r.events p walk word value moment (kind_of r.head.cfg walk.level word) refl h

-- ---- levels

chosen_leaf : (b c : Bool) (frame shift : ℕ) (g : Bool) → is_table (cond b kinds.Absent (cond c kinds.Reserved (kinds.Leaf frame shift g))) ≡ true → ⊥
chosen_leaf true c frame shift g h = cc
chosen_leaf false true frame shift g h = cc
chosen_leaf false false frame shift g h = cc

no_table_at_one : (cfg : Cfg) (level : Level) (e : ℕ) → level ≡ One → is_table (kind_of cfg level e) ≡ true → ⊥
no_table_at_one cfg Four e same h = cc
no_table_at_one cfg Three e same h = cc
no_table_at_one cfg Two e same h = cc
no_table_at_one cfg One e same h = chosen_leaf (not (has_bit e 0)) (is_reserved cfg One e) (field e 12 cfg.m) 12 (has_bit e 8) h

along_not_one : (head : Head) (es : List Event) (p la : ℕ) (key : StructureKey) (kept : KeptTable) → key.level ≡ One → (at : WalkPosition) (w : ℕ) (ws : List ℕ) →
    Along head es p la key.pcid (EndsInTable head es p la key kept) at w ws → ⊥
along_not_one head es p la key kept same at w [] h = no_table_at_one head.cfg at.level (word_at es la at w) (h.level_is ∙ same) h.link.table
along_not_one head es p la key kept same at w (x ∷ ws) h = along_not_one head es p la key kept same (position_below head.cfg.m es la at w) x ws h.1

from_root_not_one : (head : Head) (es : List Event) (p la : ℕ) (key : StructureKey) (kept : KeptTable) → key.level ≡ One → (ws : List ℕ) →
    FromRoot head es p la key.pcid (EndsInTable head es p la key kept) ws → ⊥
from_root_not_one head es p la key kept same [] h = h
from_root_not_one head es p la key kept same (w ∷ ws) h = along_not_one head es p la key kept same (at_root (control_at head es p w)) w ws h

-- level 1 gives no table
pub not_one : (head : Head) (es : List Event) (p pcid la : ℕ) (level : Level) (kept : KeptTable) → IsSoundTable head es p (structure_key pcid level la) kept → level ≡ One → ⊥
not_one head es p pcid la level kept sound same =
    from_root_not_one head es p la (structure_key pcid level la) kept same kept.moments (sound.each la (eq-eqb _ _ refl))

pub deeper : (level : Level) → (level ≡ One → ⊥) → depth level + 1 ≡ depth (below level)
deeper Four high = refl
deeper Three high = refl
deeper Two high = refl
deeper One high = absurd (high refl)

pub depth_most : (level : Level) → depth level ≤ 4
depth_most Four = omega arith
depth_most Three = omega arith
depth_most Two = omega arith
depth_most One = omega arith

pub progress_most : (way : Found) → progress way ≤ 4
progress_most (Hit frame shift rights global moments) = omega arith
progress_most (Partial level table rights moments) = depth_most level
progress_most Miss = omega arith

-- ---- what a turn of an access comes to

-- the instruction is carried out; or it is still the next, and so holds
abbrev IsCarriedOut : Processor → Turned → Type 0
IsCarriedOut x t = (t.processor.place ≡ x.place + 1) × ((receipt : Receipt) × (t.answer ≡ answers.Done receipt))

abbrev pub CarriesOr : (Turned → Type 0) → Processor → Turned → Type 0
CarriesOr P x t = (t.processor.instructions ≡ x.instructions) × (IsCarriedOut x t ⊎ ((t.processor.place ≡ x.place) × P t))

abbrev walk_in : AccessKind → ℕ → Level → ℕ → Rights → Option (List ℕ) → Walk
walk_in kind la level table rights ms = record { la = la; kind = kind; level = level; table = table; rights = rights; moments = ms }

-- what holds of each turn that reads a level and carries nothing out
pub record Reads (P : Turned → Type 0) (p : ℕ) (r : Recording) (x : Processor) (way : Found) (walk : Walk) : Type 0 where
  pub table : (value addr : ℕ) (ms : List ℕ) → P (keeps r x walk value ms (kinds.Table addr))
  pub leaf : (value frame shift : ℕ) (g : Bool) (ms : List ℕ) → P (keeps r x walk value ms (kinds.Leaf frame shift g))
  pub assist : (with_dirty : Bool) → found_in r p walk ≡ Assisted (receipt_of r.events (assist_of r.events p walk with_dirty)) →
      judges_accessed r.head.version ≡ true → P (assisted r x way (receipt_of r.events (assist_of r.events p walk with_dirty)))

judged_by : (a b : Bool) → (a && b) ≡ true → a ≡ true
judged_by true b h = refl
judged_by false b h = absurd (cc)

pub read_comes : (P : Turned → Type 0) (p : ℕ) (r : Recording) (x : Processor) (way : Found) (kind : AccessKind) (la : ℕ) (level : Level) (table : ℕ) (rights : Rights) (ms : Option (List ℕ)) →
    let walk : Walk = walk_in kind la level table rights ms in Reads P p r x way walk →
    (k : Kind) → kind_of r.head.cfg level (word_now r.events (address_of walk)) ≡ k →
    CarriesOr P x (after_read r x way walk (found_entry r.head r.events p walk (word_now r.events (address_of walk)) k))
read_comes P p r x way kind la level table rights ms reads kinds.Absent is = (refl, inl (refl, (_, refl)))
read_comes P p r x way kind la level table rights ms reads kinds.Reserved is = (refl, inl (refl, (_, refl)))
read_comes P p r x way kind la level table rights ms reads (kinds.Table addr) is =
    let walk : Walk = walk_in kind la level table rights ms in
    let value : ℕ = word_now r.events (address_of walk) in
    let d : Bool = lacks_dirty r.head.cfg walk value (kinds.Table addr) in
    let receipt : Receipt = receipt_of r.events (assist_of r.events p walk d) in
    let here : found_in r p walk ≡ used_entry r.head r.events p walk value (kinds.Table addr) = ap (found_entry r.head r.events p walk value) is in
    cond_both (lacks_flags r.head walk value (kinds.Table addr)) (Assisted receipt) (Entry value (length r.events)) (λ read. CarriesOr P x (after_read r x way walk read))
    (λ lacks. (refl, inr (refl, reads.assist d (here ∙ ap (λ b. cond b (Assisted receipt) (Entry value (length r.events))) lacks) (judged_by _ _ lacks))))
    (λ none. subst (λ (k : Kind). CarriesOr P x (keeps r x walk value (moments_of ms ++ length r.events ∷ []) k)) (sym is) (refl, inr (refl, reads.table value addr _)))
read_comes P p r x way kind la level table rights ms reads (kinds.Leaf frame shift g) is =
    let walk : Walk = walk_in kind la level table rights ms in
    let value : ℕ = word_now r.events (address_of walk) in
    let d : Bool = lacks_dirty r.head.cfg walk value (kinds.Leaf frame shift g) in
    let receipt : Receipt = receipt_of r.events (assist_of r.events p walk d) in
    let here : found_in r p walk ≡ used_entry r.head r.events p walk value (kinds.Leaf frame shift g) = ap (found_entry r.head r.events p walk value) is in
    cond_both (lacks_flags r.head walk value (kinds.Leaf frame shift g)) (Assisted receipt) (Entry value (length r.events)) (λ read. CarriesOr P x (after_read r x way walk read))
    (λ lacks. (refl, inr (refl, reads.assist d (here ∙ ap (λ b. cond b (Assisted receipt) (Entry value (length r.events))) lacks) (judged_by _ _ lacks))))
    (λ none. subst (λ (k : Kind). CarriesOr P x (keeps r x walk value (moments_of ms ++ length r.events ∷ []) k)) (sym is) (refl, inr (refl, reads.leaf value frame shift g _)))

-- a turn of an access whose walk has come so far
goes_comes : (P : Turned → Type 0) (p : ℕ) (r : Recording) (x : Processor) (flags la : ℕ) → HasSoundCaches r.head r.events p x → (way : Found) → IsUnderWay r.head x.caches la (access_kind flags) way →
    ((level : Level) (table : ℕ) (rights : Rights) (ms : Option (List ℕ)) → progress way < depth level → Reads P p r x way (walk_in (access_kind flags) la level table rights ms)) →
    CarriesOr P x (goes_on p r x flags la way)
goes_comes P p r x flags la home (Hit frame shift rights global moments) under reads = (refl, inl (refl, (_, refl)))
goes_comes P p r x flags la home (Partial level table rights moments) under reads =
    let kept : KeptTable = record { table = table; rights = rights; moments = moments } in
    let c : ℕ = x.caches.control.pcid in
    let next : depth level + 1 ≡ depth (below level) = deeper level (not_one r.head r.events p c la level kept (home.sound.tables (structure_key c level la) kept under)) in
    read_comes P p r x (Partial level table rights moments) (access_kind flags) la (below level) table rights (Some moments)
    (reads (below level) table rights (Some moments) (omega (arith, next))) _ refl
goes_comes P p r x flags la home Miss under reads =
    let root : Parent = root_of x.caches.control in
    read_comes P p r x Miss (access_kind flags) la Four root.table root.rights None (reads Four root.table root.rights None (omega arith)) _ refl

begun_progress : (head : Head) (s : Caches) (la : ℕ) (kind : AccessKind) (way : Found) → progress way ≤ progress (begun head s la kind way)
begun_progress head s la kind (Hit frame shift rights global moments) = omega arith
begun_progress head s la kind (Partial level table rights moments) = omega arith
begun_progress head s la kind Miss = omega arith

-- what a turn with an instruction to carry out comes to, where this is so of accesses
pub turned_comes : (P : Turned → Type 0) (p : ℕ) (r : Recording) (x : Processor) (o : Option Instruction) → slice_get x.instructions x.place ≡ o → (o ≡ None → ⊥) →
    ((flags la : ℕ) → o ≡ Some (Access flags la) → CarriesOr P x (goes_on p r x flags la (begun r.head x.caches la (access_kind flags) x.way))) →
    CarriesOr P x (turned_by p r x o)
turned_comes P p r x None at due access = absurd (due refl)
turned_comes P p r x (Some (Write addr value)) at due access = (refl, inl (refl, (_, refl)))
turned_comes P p r x (Some (Access flags la)) at due access = access flags la refl
turned_comes P p r x (Some (MovCr3 operand)) at due access = (refl, inl (refl, (_, refl)))
turned_comes P p r x (Some (Invlpg la)) at due access = (refl, inl (refl, (_, refl)))
turned_comes P p r x (Some (Invpcid kind pcid la)) at due access = (refl, inl (refl, (_, refl)))
turned_comes P p r x (Some (MovCr4Pge on)) at due access = (refl, inl (refl, (_, refl)))

-- ---- the walk comes further

-- the turn answers that it read a level, and the walk has come further than this
abbrev IfRead : ℕ → Turned → Type 0
IfRead n t = (level : Level) → t.answer ≡ answers.Read level → n < progress t.processor.way

abbrev IsFurther : ℕ → Turned → Type 0
IsFurther n t = n < progress t.processor.way

reads_if : (p : ℕ) (r : Recording) (x : Processor) (way : Found) (walk : Walk) (n : ℕ) → n < depth walk.level → Reads (IfRead n) p r x way walk
reads_if p r x way walk n lt =
    let most : depth walk.level ≤ 4 = depth_most walk.level in record {
      table = λ value addr ms level h. lt;
      leaf = λ value frame shift g ms level h. omega (arith, lt, most);
      assist = λ with_dirty found judged level h. absurd (cc);
    }

one_judges_nothing : (version : Version) → version ≡ versions.One → judges_accessed version ≡ true → ⊥
one_judges_nothing versions.One same h = cc
one_judges_nothing versions.Two same h = cc

reads_further : (p : ℕ) (r : Recording) (x : Processor) (way : Found) (walk : Walk) (n : ℕ) → r.head.version ≡ versions.One → n < depth walk.level → Reads (IsFurther n) p r x way walk
reads_further p r x way walk n one lt =
    let most : depth walk.level ≤ 4 = depth_most walk.level in record {
      table = λ value addr ms. lt;
      leaf = λ value frame shift g ms. omega (arith, lt, most);
      assist = λ with_dirty found judged. absurd (one_judges_nothing r.head.version one judged);
    }

pub under_of : (p : ℕ) (r : Recording) (x : Processor) (flags la : ℕ) → HasSoundCaches r.head r.events p x → slice_get x.instructions x.place ≡ Some (Access flags la) →
    IsUnderWay r.head x.caches la (access_kind flags) (begun r.head x.caches la (access_kind flags) x.way)
under_of p r x flags la home at = begun_under r.head x.caches la (access_kind flags) x.way (subst (λ o. IsUnderWayFor r.head x.caches x.way o) at home.way)

below_both : (a b c : ℕ) → a ≤ b → b < c → a < c
below_both a b c h k = omega arith

go_further : (p : ℕ) (r : Recording) (x : Processor) (level : Level) (t : Turned) → CarriesOr (IfRead (progress x.way)) x t → t.answer ≡ answers.Read level → GoesFurther x t.processor
go_further p r x level t (same, inl carried) h = let contrary : answers.Done carried.1.0 ≡ answers.Read level = sym carried.1.1 ∙ h in absurd (cc)
go_further p r x level t (same, inr went) h = record { further = went.1 level h; most = progress_most t.processor.way; place = went.0 }

some_or_none : (o : Option Instruction) → (o ≡ None) ⊎ (o ≡ None → ⊥)
some_or_none None = inl refl
some_or_none (Some i) = inr (λ h. cc)

pub reads_go_further : ReadsGoFurther
reads_go_further p r x level home h =
    let o : Option Instruction = slice_get x.instructions x.place in
    elim (some_or_none o) [
      | inl none ↦ let ended : answers.Ended ≡ answers.Read level = ap (λ o. (turned_by p r x o).answer) (sym none) ∙ h in absurd (cc)
      | inr due ↦
          go_further p r x level (turned p r x)
          (turned_comes (IfRead (progress x.way)) p r x o refl due (λ flags la at.
          let way : Found = begun r.head x.caches la (access_kind flags) x.way in
          let low : progress x.way ≤ progress way = begun_progress r.head x.caches la (access_kind flags) x.way in
          goes_comes (IfRead (progress x.way)) p r x flags la home way (under_of p r x flags la home at) (λ l table rights ms deep.
          reads_if p r x way (walk_in (access_kind flags) la l table rights ms) (progress x.way) (below_both (progress x.way) (progress way) (depth l) low deep)))) h
    ]

-- in version 1 each turn does
pub one_goes_further : (p : ℕ) (r : Recording) (x : Processor) → r.head.version ≡ versions.One → HasSoundCaches r.head r.events p x → (slice_get x.instructions x.place ≡ None → ⊥) →
    CarriesOr (IsFurther (progress x.way)) x (turned p r x)
one_goes_further p r x one home due =
    turned_comes (IsFurther (progress x.way)) p r x (slice_get x.instructions x.place) refl due (λ flags la at.
    let way : Found = begun r.head x.caches la (access_kind flags) x.way in
    let low : progress x.way ≤ progress way = begun_progress r.head x.caches la (access_kind flags) x.way in
    goes_comes (IsFurther (progress x.way)) p r x flags la home way (under_of p r x flags la home at) (λ l table rights ms deep.
    reads_further p r x way (walk_in (access_kind flags) la l table rights ms) (progress x.way) one (below_both (progress x.way) (progress way) (depth l) low deep)))

-- ---- no assist in version 1

abbrev IsNoAssist : Turned → Type 0
IsNoAssist t = (receipt : Receipt) → t.answer ≡ answers.Assisted receipt → ⊥

reads_no_assist : (p : ℕ) (r : Recording) (x : Processor) (way : Found) (walk : Walk) → r.head.version ≡ versions.One → Reads IsNoAssist p r x way walk
reads_no_assist p r x way walk one = record {
  table = λ value addr ms receipt h. cc;
  leaf = λ value frame shift g ms receipt h. cc;
  assist = λ with_dirty found judged. absurd (one_judges_nothing r.head.version one judged);
}

goes_no_assist : (p : ℕ) (r : Recording) (x : Processor) (flags la : ℕ) → r.head.version ≡ versions.One → (way : Found) → CarriesOr IsNoAssist x (goes_on p r x flags la way)
goes_no_assist p r x flags la one (Hit frame shift rights global moments) = (refl, inl (refl, (_, refl)))
goes_no_assist p r x flags la one (Partial level table rights moments) =
    let walk : Walk = walk_in (access_kind flags) la (below level) table rights (Some moments) in
    read_comes IsNoAssist p r x (Partial level table rights moments) (access_kind flags) la (below level) table rights (Some moments) (reads_no_assist p r x (Partial level table rights moments) walk one) _ refl
goes_no_assist p r x flags la one Miss =
    let root : Parent = root_of x.caches.control in
    let walk : Walk = walk_in (access_kind flags) la Four root.table root.rights None in
    read_comes IsNoAssist p r x Miss (access_kind flags) la Four root.table root.rights None (reads_no_assist p r x Miss walk one) _ refl

carries_no_assist : (x : Processor) (t : Turned) → CarriesOr IsNoAssist x t → IsNoAssist t
carries_no_assist x t (same, inl carried) receipt h = let contrary : answers.Done carried.1.0 ≡ answers.Assisted receipt = sym carried.1.1 ∙ h in absurd (cc)
carries_no_assist x t (same, inr went) receipt h = went.1 receipt h

turned_no_assist : (p : ℕ) (r : Recording) (x : Processor) → r.head.version ≡ versions.One → IsNoAssist (turned p r x)
turned_no_assist p r x one receipt h =
    let o : Option Instruction = slice_get x.instructions x.place in
    elim (some_or_none o) [
      | inl none ↦ let ended : answers.Ended ≡ answers.Assisted receipt = ap (λ o. (turned_by p r x o).answer) (sym none) ∙ h in absurd (cc)
      | inr due ↦
          carries_no_assist x (turned p r x)
          (turned_comes IsNoAssist p r x o refl due (λ flags la at. goes_no_assist p r x flags la one (begun r.head x.caches la (access_kind flags) x.way))) receipt h
    ]

pub none_assist_in_version_one : NoneAssistInVersionOne
none_assist_in_version_one p r x t receipt one (inl halt) h = let contrary : answers.Stopped halt.why ≡ answers.Assisted receipt = sym (ap (λ (t : Turned). t.answer) halt.is) ∙ h in absurd (cc)
none_assist_in_version_one p r x t receipt one (inr went) h = turned_no_assist p r x one receipt (sym (ap (λ (t : Turned). t.answer) went.is) ∙ h)
