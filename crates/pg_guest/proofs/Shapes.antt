-- In version 1 each event carries an instruction out.
use Rattle.std.proofs.Common.{◌≡◌, Bool, true, false, Some, None, cond, refl, ap}
use Rattle.pg_event.specs.declared.event.Event.TheVariants as events
use Rattle.pg_event.specs.declared.event.Malformed.TheVariants as rules
use Rattle.pg_event.specs.declared.version.Version.{Version}
use Rattle.pg_event.specs.Form.{breaks_assist}
use Rattle.pg_guest.specs.ScriptLaws.{EachCarriesOut}

-- an assist breaks the rule of flags in version 1, if none before
flags_broken : (a b c flags : Bool) → flags ≡ true →
    cond a (Some rules.Processor) (cond b (Some rules.WordAddress) (cond c (Some rules.LinearAddress) (cond flags (Some rules.Flags) None))) ≡ None → ⊥
flags_broken true b c flags is h = cc
flags_broken false true c flags is h = cc
flags_broken false false true flags is h = cc
flags_broken false false false true is h = cc
flags_broken false false false false is h = cc

pub each_carries_out : EachCarriesOut
each_carries_out head (events.Write p addr value) one formed = refl
each_carries_out head (events.Access p flags la outcome moments) one formed = refl
each_carries_out head (events.Assist p flags la word moments) one formed =
    absurd (flags_broken _ _ _ (breaks_assist head.version flags) (ap (λ (version : Version). breaks_assist version flags) one) formed)
each_carries_out head (events.MovCr3 p operand) one formed = refl
each_carries_out head (events.Invlpg p la) one formed = refl
each_carries_out head (events.Invpcid p kind pcid la) one formed = refl
each_carries_out head (events.MovCr4Pge p on) one formed = refl
