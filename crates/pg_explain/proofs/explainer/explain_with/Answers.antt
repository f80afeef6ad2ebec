use Rattle.std.proofs.Common.{◌≡◌, ℕ, true, List, Some, refl}
use Rattle.std.specs.Prelude.{slice_get}
use Rattle.std.proofs.lemmas.Option.{slice_get_read}
use Rattle.pg_event.specs.declared.event.Event.{Event}
use Rattle.pg_event.specs.declared.event.Event.TheVariants.{Write, Access, Assist, MovCr3, Invlpg, Invpcid, MovCr4Pge}
use Rattle.pg_event.specs.declared.event.Reason.{Reason}
use Rattle.pg_event.specs.Heads.{Head}
use Rattle.pg_event.specs.Witness.{failing_event}
use Rattle.pg_search.specs.Law.{names_moments}
use Rattle.pg_explain.proofs.explainer.explain_with.Goals as goal

-- only an access and an assist can fail
failing_names : (head : Head) (events : List Event) (i : ℕ) (e : Event) (r : Reason) → failing_event head events i e ≡ Some r → names_moments e ≡ true
failing_names head events i (Write p addr value) r h = absurd cc
failing_names head events i (Access p flags la outcome moments) r h = refl
failing_names head events i (Assist p flags la word moments) r h = refl
failing_names head events i (MovCr3 p operand) r h = absurd cc
failing_names head events i (Invlpg p la) r h = absurd cc
failing_names head events i (Invpcid p kind pcid la) r h = absurd cc
failing_names head events i (MovCr4Pge p on) r h = absurd cc

pub returns-in-None : goal.returns-in-None
returns-in-None c =
    let at : slice_get c.args.history.now.events c.args.i ≡ Some c.index-events-i.result =
    slice_get_read _ _ _ _ refl c.requires.within (rw c.events.ensures.events at c.index-events-i.is) in
    rw at (rw c.in-None.is at c.in_ok-tell_event.ensures)

pub freshest_moments-requires-clause-names : goal.freshest_moments-requires-clause-names
freshest_moments-requires-clause-names c =
    let at : slice_get c.args.history.now.events c.args.i ≡ Some c.index-events-i.result =
    slice_get_read _ _ _ _ refl c.requires.within (rw c.events.ensures.events at c.index-events-i.is) in
    let told = rw c.in-Some.is at c.in_ok-tell_event.ensures in
    rw at (failing_names c.args.history.now.head c.args.history.now.events c.args.i c.index-events-i.result _ told.0)

pub last_of-requires-clause-names : goal.last_of-requires-clause-names
last_of-requires-clause-names c =
    let at : slice_get c.args.history.now.events c.args.i ≡ Some c.index-events-i.result =
    slice_get_read _ _ _ _ refl c.requires.within (rw c.events.ensures.events at c.index-events-i.is) in
    let told = rw c.in-Some.is at c.in_ok-tell_event.ensures in
    rw at (failing_names c.args.history.now.head c.args.history.now.events c.args.i c.index-events-i.result _ told.0)

pub returns-in_ok-last-in-Some : goal.returns-in_ok-last-in-Some
returns-in_ok-last-in-Some c =
    let at : slice_get c.args.history.now.events c.args.i ≡ Some c.index-events-i.result =
    slice_get_read _ _ _ _ refl c.requires.within (rw c.events.ensures.events at c.index-events-i.is) in
    let told = rw c.in-Some.is at c.in_ok-tell_event.ensures in
    let found = c.in_ok-other-in-Some.ensures in
    record {
      number = refl;
      reason = rw at told.0;
      finding = rw at told.1;
      walk = rw at told.2;
      other = found.some;
      freshest = found.freshest;
      none = found.none;
      final = found.run;
      last = c.in_ok-last-in-Some.ensures.last;
      never = c.in_ok-last-in-Some.ensures.never;
    }
