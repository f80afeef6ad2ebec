-- Reading events one by one.
use Rattle.std.proofs.Common.{◌≡◌, ℕ, suc, ◌+◌, List, [], ◌∷◌, ◌++◌, refl, sym, ap, append_assoc, Some, None, Ok, Err}
use Rattle.std.proofs.lemmas.List.{append-nil}
use Rattle.pg_event.specs.Heads.{Head}
use Rattle.pg_event.specs.Reading.{◌>>=◌}
use Rattle.pg_span_run.specs.declared.log.Stamped.{Stamped}
use Rattle.pg_span_run.specs.declared.log_error.LogRefusal.{LogRefusal}
use Rattle.pg_span_run.specs.declared.log_error.LogRefusal.TheVariants.{Field}
use Rattle.pg_event.specs.declared.refusal.Refusal.TheVariants.{Truncated}
use Rattle.pg_span_run.specs.LogReading.{LogPart, next_at, events_at}

-- events that were read, and what is still read
abbrev pub followed : List Stamped → LogPart (List Stamped) → LogPart (List Stamped)
followed front part = part >>= λ x. Ok (front ++ x.0, x.1)

pub nothing_read : (part : LogPart (List Stamped)) → part ≡ followed [] part
nothing_read (Ok (xs, rest)) = refl
nothing_read (Err e) = refl

one_read : (front : List Stamped) (x : Stamped) (part : LogPart (List Stamped)) → followed front (part >>= λ others. Ok (x ∷ others.0, others.1)) ≡ followed (front ++ x ∷ []) part
one_read front x (Ok (xs, rest)) = let e : front ++ (x ∷ xs) ≡ (front ++ x ∷ []) ++ xs = sym (append_assoc front (x ∷ []) xs) in ap (λ (ys : List Stamped). Ok (ys, rest)) e
one_read front x (Err e) = refl

pub read_more : (front : List Stamped) (n m : ℕ) (head : Head) (own i last : ℕ) (bytes : List ℕ) (x : Stamped) (rest : List ℕ) → n ≡ suc m → next_at head own i last bytes ≡ Ok (Some x, rest) →
    followed front (events_at n head own i last bytes) ≡ followed (front ++ x ∷ []) (events_at m head own (i + 1) x.end rest)
unfolding events_at
read_more front n m head own i last bytes x rest e h = rw (e, h) (one_read front x (events_at m head own (i + 1) x.end rest))

pub read_last : (front : List Stamped) (n m : ℕ) (head : Head) (own i last : ℕ) (bytes rest : List ℕ) → n ≡ suc m → next_at head own i last bytes ≡ Ok (None, rest) → followed front (events_at n head own i last bytes) ≡ Ok (front, rest)
unfolding events_at
read_last front n m head own i last bytes rest e h = rw (e, h) (ap (λ (ys : List Stamped). Ok (ys, rest)) (append-nil front))

pub read_refused : (front : List Stamped) (n m : ℕ) (head : Head) (own i last : ℕ) (bytes : List ℕ) (fault : LogRefusal) → n ≡ suc m → next_at head own i last bytes ≡ Err fault → followed front (events_at n head own i last bytes) ≡ Err fault
unfolding events_at
read_refused front n m head own i last bytes fault e h = rw (e, h) refl

pub read_none : (front : List Stamped) (n : ℕ) (head : Head) (own i last : ℕ) (bytes : List ℕ) → n ≡ 0 → followed front (events_at n head own i last bytes) ≡ Err (Field Truncated)
unfolding events_at
read_none front n head own i last bytes e = rw e refl
