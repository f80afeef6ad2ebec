use Rattle.std.proofs.Common.{List, ℕ, Ok}
use Rattle.std.proofs.lemmas.Result.{err_from_is_err_and}
use Rattle.pg_event.specs.Reading.{◌>>=◌, Part, header_at, starts_at}
use Rattle.pg_event.specs.Heads.{Head}
use Rattle.pg_codec.specs.declared.settings.Settings.{Settings}
use Rattle.pg_codec.specs.Parts.{settings_at, head_of}
use Rattle.pg_codec.proofs.Steps.{pulls_failed, pulls_then, pulls_made, pulls_by, header_in_parts}
use Rattle.pg_codec.proofs.chunk.next_header.Goals as goal

behind : Settings → List ℕ → Part Head
behind s bytes = starts_at s.cfg.m s.count bytes >>= λ starts. Ok (head_of s starts.0, starts.1)

pub returns-in_err-settings-clause-pulls : goal.returns-in_err-settings-clause-pulls
unfolding behind
returns-in_err-settings-clause-pulls g c =
    let p = err_from_is_err_and c.from_residual.result c.from_residual.ensures.1 in
    rw (p.1, p.2) (pulls_by g.R.Source _ header_at _ _ _ header_in_parts (pulls_failed g.R.Source settings_at (λ s. behind s.0 s.1) c.in_err-settings.field-0.0 _ _ c.in_err-settings.ensures.pulls))

pub returns-in_err-processors-clause-pulls : goal.returns-in_err-processors-clause-pulls
unfolding behind
returns-in_err-processors-clause-pulls g c =
    let p = err_from_is_err_and c.from_residual-in_err-processors.result c.from_residual-in_err-processors.ensures.1 in
    let s = c.in_ok-settings.settings in
    rw (p.1, p.2) (pulls_by g.R.Source _ header_at _ _ _ header_in_parts (pulls_then g.R.Source settings_at behind s _ _ _ _ c.in_ok-settings.ensures.pulls
    (pulls_failed g.R.Source (starts_at s.cfg.m s.count) (λ starts. Ok (head_of s starts.0, starts.1)) c.in_err-processors.field-0.0 _ _ c.in_err-processors.ensures.pulls)))

pub returns-clause-pulls : goal.returns-clause-pulls
unfolding behind
returns-clause-pulls g c =
    let s = c.in_ok-settings.settings in
    pulls_by g.R.Source _ header_at _ _ _ header_in_parts (pulls_then g.R.Source settings_at behind s _ _ _ _ c.in_ok-settings.ensures.pulls
    (pulls_made g.R.Source (starts_at s.cfg.m s.count) (λ starts. head_of s starts) c.in_ok-processors.processors.items _ _ c.in_ok-processors.ensures.pulls))
