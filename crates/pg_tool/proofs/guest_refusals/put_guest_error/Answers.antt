use Rattle.std.proofs.Common.{◌++◌, ◌∙◌, codes, ap, ap₂, sym}
use Rattle.pg_codec.proofs.Written.{puts_same}
use Rattle.pg_tool.specs.Guests.{guest_line, script_line}
use Rattle.pg_answers.specs.Refusals.{refusal_text}
use Rattle.pg_tool.proofs.guest_refusals.put_guest_error.Goals as goal

pub returns-in-TooLong : goal.returns-in-TooLong
returns-in-TooLong g c = puts_same g.W.Sink _ _ _ _ _ (ap guest_line (sym c.in-TooLong.is)) c.put_script_line.ensures

pub returns-in-Script : goal.returns-in-Script
returns-in-Script g c =
    let e = c.in-Script.error in
    puts_same g.W.Sink _ _ _ _ _ (ap₂ (script_line e.line) c.number.ensures c.name.ensures ∙ ap guest_line (sym c.in-Script.is)) c.put_script_line-in-Script.ensures

pub returns-in-Run : goal.returns-in-Run
returns-in-Run g c =
    puts_same g.W.Sink _ _ _ _ _ (ap₂ (λ number name. refusal_text number name ++ codes "\n") c.number-in-Run.ensures c.name-in-Run.ensures ∙ ap guest_line (sym c.in-Run.is)) c.put_line.ensures

pub returns-in-Device : goal.returns-in-Device
returns-in-Device g c = puts_same g.W.Sink _ _ _ _ _ (ap guest_line (sym c.in-Device.is)) c.put_error.ensures
