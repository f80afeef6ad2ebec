-- Parts that a loop reads one after the other from what a reader has left.
use Rattle.std.proofs.Common.{◌≡◌, ℕ, ◌-◌, ◌+◌, ◌≤◌, ◌<◌, List, [], ◌∷◌, ◌++◌, Option, Some, None, Result, Ok, Err, Bool, refl, sym, ap, ◌∙◌, subst, append_assoc}
use Rattle.pg_event.specs.Reading.{Part}
use Rattle.pg_codec.specs.declared.error.ReadError.{ReadError}
use Rattle.pg_codec.specs.declared.error.ReadError.TheVariants as errors
use Rattle.pg_event.proofs.Chunks.{all_append}
use Rattle.pg_codec.specs.declared.stream.Source.{Ghosts}
use Rattle.pg_codec.specs.Reads.{left_in, is_device, Reads, Took, Pulls}
use Rattle.pg_codec.specs.Streams.{FailsWithDevice}
use Rattle.pg_codec.specs.Parts.{with_front}
use Rattle.pg_codec.proofs.Many.{IsMany, begins, goes_on, ends, is_done}

-- reading what is left now gives what reading all at the start gives
abbrev pub Going : {A : Type 0} → (List ℕ → Part A) → (List ℕ → Part A) → Option (List ℕ) → Option (List ℕ) → Type 0
Going total now None left = Unit {0}
Going total now (Some bytes) None = ⊥
Going total now (Some bytes) (Some rest) = now rest ≡ total bytes

module _ {A : Type 0} (one : ℕ → List ℕ → Part A) (many : ℕ → ℕ → List ℕ → Part (List A)) (is : IsMany one many) (base count : ℕ) where
  abbrev pub at_place : List A → ℕ → List ℕ → Part (List A)
  at_place front i bytes = with_front front (many (base + i) (count - i) bytes)

  pub going_starts : (left : Option (List ℕ)) → Going (many base count) (at_place [] 0) left left
  going_starts None = tt
  going_starts (Some bytes) = begins one many is base count bytes

  pub going_on : (front : List A) (i : ℕ) (x : A) (start before after : Option (List ℕ)) → i < count → Going (many base count) (at_place front i) start before
      → Reads before after (Ok x) (one (base + i)) → Going (many base count) (at_place (front ++ x ∷ []) (i + 1)) start after
  going_on front i x None before after lt so_far h = tt
  going_on front i x (Some bytes) None after lt so_far h = absurd so_far
  going_on front i x (Some bytes) (Some rest) None lt so_far h = absurd h
  going_on front i x (Some bytes) (Some rest) (Some more) lt so_far h = goes_on one many is front base count i rest x more (many base count bytes) lt h so_far

  going_fails : (front : List A) (i : ℕ) (e : ReadError) (bytes rest : List ℕ) → i < count → at_place front i rest ≡ many base count bytes → (after : Option (List ℕ))
      → Reads (Some rest) after (Err e) (one (base + i)) → Reads (Some bytes) after (Err e) (many base count)
  going_fails front i (errors.Refused d) bytes rest lt so_far after h = ends one many is front base count i rest d (many base count bytes) lt h so_far
  going_fails front i errors.Failed bytes rest lt so_far after h = absurd h
  going_fails front i errors.Device bytes rest lt so_far after h = tt
  going_fails front i errors.Memory bytes rest lt so_far after h = tt

  pub going_ends : (front : List A) (i : ℕ) (e : ReadError) (start before after : Option (List ℕ)) → i < count → Going (many base count) (at_place front i) start before
      → Reads before after (Err e) (one (base + i)) → Reads start after (Err e) (many base count)
  going_ends front i e None before after lt so_far h = tt
  going_ends front i e (Some bytes) None after lt so_far h = absurd so_far
  going_ends front i e (Some bytes) (Some rest) after lt so_far h = going_fails front i e bytes rest lt so_far after h

  pub going_done : (front : List A) (i : ℕ) (start after : Option (List ℕ)) → count ≤ i → Going (many base count) (at_place front i) start after → Reads start after (Ok front) (many base count)
  going_done front i None after le so_far = tt
  going_done front i (Some bytes) None le so_far = absurd so_far
  going_done front i (Some bytes) (Some rest) le so_far = is_done one many is front base count i rest (many base count bytes) le so_far

pub took_none : (left : Option (List ℕ)) → Took left left
took_none None = tt
took_none (Some bytes) = ([], tt, refl)

pub took_then : (a b c : Option (List ℕ)) → Took a b → Took b c → Took a c
took_then None b c p q = tt
took_then (Some bytes) None c p q = absurd p
took_then (Some bytes) (Some rest) None p q = absurd q
took_then (Some bytes) (Some rest) (Some more) p q = (p.0 ++ q.0, all_append (λ (b : ℕ). b < 256) p.0 q.0 p.1 q.1, p.2 ∙ ap (λ l. p.0 ++ l) q.2 ∙ sym (append_assoc p.0 q.0 more))

-- failures that are counted from an earlier call on
pub device_after : {X E : Type 0} (says : E → Bool) (r : Result X E) (a b c : ℕ) → b ≡ a → FailsWithDevice says b c r → FailsWithDevice says a c r
device_after says r a b c same h = subst (λ n. FailsWithDevice says n c r) same h

-- so many parts, of which the first were read, and nothing else happened since the start
pub record IsAlong {R A : Type 0} (g : Ghosts R) (total now : List ℕ → Part A) (start left : List ℕ × R) : Type 0 where
  pub reads : Going total now (left_in g start) (left_in g left)
  pub took : Took (left_in g start) (left_in g left)
  pub failures : g.failed left.1 ≡ g.failed start.1

module _ {R A : Type 0} (g : Ghosts R) (one : ℕ → List ℕ → Part A) (many : ℕ → ℕ → List ℕ → Part (List A)) (is : IsMany one many) (base count : ℕ) where
  pub along_starts : (start : List ℕ × R) → IsAlong g (many base count) (at_place one many is base count [] 0) start start
  along_starts start = record { reads = going_starts one many is base count (left_in g start); took = took_none (left_in g start); failures = refl }

  pub along_on : (front : List A) (i : ℕ) (x : A) (start before after : List ℕ × R) → i < count → IsAlong g (many base count) (at_place one many is base count front i) start before
      → Pulls g (one (base + i)) before after (Ok x) → IsAlong g (many base count) (at_place one many is base count (front ++ x ∷ []) (i + 1)) start after
  along_on front i x start before after lt was step = record {
    reads = going_on one many is base count front i x _ _ _ lt was.reads step.reads;
    took = took_then _ _ _ was.took step.took;
    failures = step.device ∙ was.failures;
  }

  pub along_ends : (front : List A) (i : ℕ) (e : ReadError) (start before after : List ℕ × R) → i < count → IsAlong g (many base count) (at_place one many is base count front i) start before
      → Pulls g (one (base + i)) before after (Err e) → Pulls g (many base count) start after (Err e)
  along_ends front i e start before after lt was step = record {
    reads = going_ends one many is base count front i e _ _ _ lt was.reads step.reads;
    took = tt;
    device = device_after {X = List A} is_device (Err e) _ _ _ was.failures step.device;
    live = λ h. step.live cc;
  }

  pub along_done : (front : List A) (i : ℕ) (start after : List ℕ × R) → count ≤ i → IsAlong g (many base count) (at_place one many is base count front i) start after
      → Pulls g (many base count) start after (Ok front)
  along_done front i start after le was = record {
    reads = going_done one many is base count front i _ _ le was.reads;
    took = was.took;
    device = was.failures;
    live = λ h. absurd cc;
  }
