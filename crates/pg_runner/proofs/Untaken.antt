-- Turns don't ask which segments were given out.
use Rattle.std.proofs.Common.{◌≡◌, ℕ, List, [], ◌∷◌, ◌++◌, refl, ap, sym, ◌∙◌, subst, Option, Some, None, inl, inr}
use Rattle.pg_entry.specs.declared.Kind.{Kind}
use Rattle.pg_entry.specs.declared.Kind.TheVariants as kinds
use Rattle.pg_entry.specs.Kinds.{kind_of}
use Rattle.pg_event.specs.Form.{access_kind}
use Rattle.pg_guest.specs.declared.instruction.Instruction.{Instruction}
use Rattle.pg_guest.specs.declared.instruction.Instruction.TheVariants.{Write, Access, MovCr3, Invlpg, Invpcid, MovCr4Pge}
use Rattle.pg_shadow.specs.declared.entries.Found.{Found}
use Rattle.pg_shadow.specs.declared.entries.Found.TheVariants.{Hit, Partial, Miss}
use Rattle.pg_world.specs.declared.walk.LevelRead.{LevelRead}
use Rattle.pg_world.specs.declared.walk.LevelRead.TheVariants as founds
use Rattle.pg_world.specs.declared.walk.Walk.{Walk}
use Rattle.pg_world.specs.Recording.{Recording}
use Rattle.pg_world.specs.Walks.{moments_of, found_in}
use Rattle.pg_guest.specs.declared.advance.Advance.{Advance}
use Rattle.pg_guest.specs.declared.advance.Advance.TheVariants as answers
use Rattle.pg_guest.specs.declared.advance.Stop.{Stop}
use Rattle.pg_guest.specs.Turn.{Processor, Turned, from_root, from_table, keeps, after_read, goes_on, begun, turned_by, turned, refused_by, MayStop, IsTurn}
use Rattle.pg_runner.specs.Boards.{untaken}

abbrev pub untake : Turned → Turned
untake t = record t { world = untaken t.world }

kept : (r : Recording) (x : Processor) (walk : Walk) (value : ℕ) (moments : List ℕ) (kind : Kind) → untake (keeps r x walk value moments kind) ≡ keeps (untaken r) x walk value moments kind
kept r x walk value moments kinds.Absent = refl
kept r x walk value moments kinds.Reserved = refl
kept r x walk value moments (kinds.Table addr) = refl
kept r x walk value moments (kinds.Leaf frame shift global_bit) = refl

read : (r : Recording) (x : Processor) (way : Found) (walk : Walk) (found : LevelRead) → untake (after_read r x way walk found) ≡ after_read (untaken r) x way walk found
read r x way walk (founds.Entry value moment) = kept r x walk value (moments_of walk.moments ++ moment ∷ []) (kind_of r.head.cfg walk.level value)
read r x way walk (founds.Fault receipt) = refl
read r x way walk (founds.Assisted receipt) = refl

walked : (p : ℕ) (r : Recording) (x : Processor) (flags la : ℕ) (way : Found) → untake (goes_on p r x flags la way) ≡ goes_on p (untaken r) x flags la way
walked p r x flags la (Hit frame shift rights global moments) = refl
walked p r x flags la (Partial level table rights moments) =
    let walk : Walk = from_table (access_kind flags) la level table rights moments in
    read r x (Partial level table rights moments) walk (found_in r p walk)
walked p r x flags la Miss =
    let walk : Walk = from_root x.caches.control (access_kind flags) la in
    read r x Miss walk (found_in r p walk)

stepped : (p : ℕ) (r : Recording) (x : Processor) (i : Option Instruction) → untake (turned_by p r x i) ≡ turned_by p (untaken r) x i
stepped p r x None = refl
stepped p r x (Some (Write addr value)) = refl
stepped p r x (Some (Access flags la)) = walked p r x flags la (begun r.head x.caches la (access_kind flags) x.way)
stepped p r x (Some (MovCr3 operand)) = refl
stepped p r x (Some (Invlpg la)) = refl
stepped p r x (Some (Invpcid kind pcid la)) = refl
stepped p r x (Some (MovCr4Pge on)) = refl

refused : (r : Recording) (due : Advance) → refused_by r due ≡ refused_by (untaken r) due
refused r (answers.Read level) = refl
refused r (answers.Assisted receipt) = refl
refused r (answers.Done receipt) = refl
refused r answers.Ended = refl
refused r (answers.Stopped why) = refl

may_stop : (r : Recording) (due : Advance) (why : Stop) → MayStop r due why → MayStop (untaken r) due why
may_stop r due why (inl memory) = inl memory
may_stop r due why (inr is) = inr (sym (refused r due) ∙ is)

pub turn_untaken : (p : ℕ) (r : Recording) (x : Processor) (t : Turned) → IsTurn p r x t → IsTurn p (untaken r) x (untake t)
turn_untaken p r x t (inl halt) =
    let same : untake (turned p r x) ≡ turned p (untaken r) x = stepped p r x (_) in
    inl record {
      why = halt.why;
      may = subst (λ (due : Turned). MayStop (untaken r) due.answer halt.why) same (may_stop r (turned p r x).answer halt.why halt.may);
      next = halt.next;
      is = ap untake halt.is;
    }
turn_untaken p r x t (inr met) =
    let same : untake (turned p r x) ≡ turned p (untaken r) x = stepped p r x (_) in
    inr record {
      granted = subst (λ (due : Turned). refused_by (untaken r) due.answer ≡ None) same (sym (refused r (turned p r x).answer) ∙ met.granted);
      is = ap untake met.is ∙ same;
    }
