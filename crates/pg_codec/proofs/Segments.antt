-- Segments that are written one after another.
use Rattle.std.proofs.Common.{◌≡◌, ℕ, zero, suc, ◌+◌, ◌-◌, ◌<◌, ◌≤◌, List, [], ◌∷◌, ◌++◌, length, take, drop, length-drop, Result, Ok, Err, refl, sym, ap, ◌∙◌, subst, arith, append_assoc}
use Rattle.std.proofs.lemmas.List.{append-nil}
use Rattle.std.specs.Io.KnownBytes.{Appends}
use Rattle.std.proofs.KnownBytes.{Appends-trans}
use Rattle.pg_event.specs.declared.event.Event.{Event}
use Rattle.pg_event.specs.declared.version.Version.{Version}
use Rattle.pg_event.specs.Heads.{Head}
use Rattle.pg_event.specs.Spelling.{segment_bytes, segments_bytes}
use Rattle.pg_codec.specs.declared.stream.Sink.{Ghosts}
use Rattle.pg_codec.specs.Streams.{raised}
use Rattle.pg_event.specs.Form.{processor_of}
use Rattle.pg_event.specs.Heads.{most_processors}
use Rattle.pg_event.proofs.Chunks.{all_cut}
use Rattle.pg_codec.specs.Writing.{Puts, FitVersion}
use Rattle.pg_codec.proofs.Written.{appends_some_after, appends_none, writes_after, failures_after}

-- the bound on how many segments there are does not matter, where it is not below the events
same_segments : (head : Head) (number n m : ℕ) (events : List Event) → 1 ≤ head.segment → length events ≤ n → length events ≤ m
    → segments_bytes head number n events ≡ segments_bytes head number m events
same_segments head number n m [] some p q = refl
same_segments head number zero m (e ∷ es) some p q = absurd (omega arith)
same_segments head number (suc n) zero (e ∷ es) some p q = absurd (omega arith)
same_segments head number (suc n) (suc m) (e ∷ es) some p q =
    let fewer : length (drop head.segment (e ∷ es)) ≡ length (e ∷ es) - head.segment = length-drop head.segment (e ∷ es) in
    ap (λ (l : List ℕ). segment_bytes head.version number (take head.segment (e ∷ es)) ++ l)
    (same_segments head (number + 1) n m (drop head.segment (e ∷ es)) some (omega (arith, fewer)) (omega (arith, fewer)))

-- the first segment, and those after it
pub first_segment : (head : Head) (number : ℕ) (events : List Event) → 1 ≤ head.segment → 0 < length events
    → segments_bytes head number (length events) events ≡ segment_bytes head.version number (take head.segment events)
    ++ segments_bytes head (number + 1) (length (drop head.segment events)) (drop head.segment events)
first_segment head number [] some more = absurd (omega arith)
first_segment head number (e ∷ es) some more =
    let fewer : length (drop head.segment (e ∷ es)) ≡ length (e ∷ es) - head.segment = length-drop head.segment (e ∷ es) in
    ap (λ (l : List ℕ). segment_bytes head.version number (take head.segment (e ∷ es)) ++ l)
    (same_segments head (number + 1) (length es) (length (drop head.segment (e ∷ es))) (drop head.segment (e ∷ es)) some (omega (arith, fewer)) (omega (arith, fewer)))

-- one text after another
pub puts_then : {W X Y E : Type 0} (g : Ghosts W) (first rest : List ℕ) (start mid new : W) (x : X) (r : Result Y E) → Puts {E = E} g first start mid (Ok x) → Puts g rest mid new r → Puts g (first ++ rest) start new r
puts_then g first rest start mid new x r p q =
    record { bytes = writes_after _ _ _ r first rest p.bytes q.bytes; failures = failures_after r _ _ _ p.failures q.failures }

-- a text that was not put whole, and another that was not tried
pub puts_fails : {W X Y E : Type 0} (g : Ghosts W) (first rest : List ℕ) (start new : W) (e : E) → Puts {X = X} g first start new (Err e) → Puts {X = Y} g (first ++ rest) start new (Err e)
puts_fails g first rest start new e p =
    record { bytes = appends_some_after _ _ _ [] first rest (appends_none (g.held start)) p.bytes; failures = p.failures }

module _ {W : Type 0} (g : Ghosts W) (head : Head) (events : List Event) where
  abbrev pub all_segments : List ℕ
  all_segments = segments_bytes head 0 (length events) events

  -- the segments below a number went on to a sink, and those of the other events are to come
  pub record IsSegmenting (start now : W) (number : ℕ) (rest : List Event) : Type 0 where
    pub written : List ℕ
    pub appends : Appends (g.held start) (g.held now) written
    pub whole : written ++ segments_bytes head number (length rest) rest ≡ all_segments
    pub failures : g.failed now ≡ g.failed start

  pub segmenting_starts : (start : W) → IsSegmenting start start 0 events
  segmenting_starts start = record { written = []; appends = appends_none (g.held start); whole = refl; failures = refl }

  parts : (number : ℕ) (written : List ℕ) (rest : List Event) → 1 ≤ head.segment → 0 < length rest → written ++ segments_bytes head number (length rest) rest ≡ all_segments
      → written ++ (segment_bytes head.version number (take head.segment rest) ++ segments_bytes head (number + 1) (length (drop head.segment rest)) (drop head.segment rest)) ≡ all_segments
  parts number written rest some more whole = ap (λ (l : List ℕ). written ++ l) (sym (first_segment head number rest some more)) ∙ whole

  pub segmenting_on : {X E : Type 0} (start now new : W) (number : ℕ) (rest : List Event) (x : X) → 1 ≤ head.segment → 0 < length rest → IsSegmenting start now number rest
      → Puts {E = E} g (segment_bytes head.version number (take head.segment rest)) now new (Ok x) → IsSegmenting start new (number + 1) (drop head.segment rest)
  segmenting_on start now new number rest x some more w put =
      let segment : List ℕ = segment_bytes head.version number (take head.segment rest) in
      let others : List ℕ = segments_bytes head (number + 1) (length (drop head.segment rest)) (drop head.segment rest) in
      record {
        written = w.written ++ segment;
        appends = Appends-trans _ _ _ w.written segment w.appends put.bytes;
        whole = append_assoc w.written segment others ∙ parts number w.written rest some more w.whole;
        failures = put.failures ∙ w.failures;
      }

  pub segmenting_fails : {X E : Type 0} (start now new : W) (number : ℕ) (rest : List Event) (e : E) → 1 ≤ head.segment → 0 < length rest → IsSegmenting start now number rest
      → Puts {X = X} g (segment_bytes head.version number (take head.segment rest)) now new (Err e) → Puts {X = X} g all_segments start new (Err e)
  segmenting_fails start now new number rest e some more w put = record {
    bytes = subst (λ (l : List ℕ). (n : ℕ) × Appends (g.held start) (g.held new) (take n l)) (parts number w.written rest some more w.whole)
        (appends_some_after _ _ _ w.written _ _ w.appends put.bytes);
    failures = put.failures ∙ ap raised w.failures;
  }

  pub segmenting_ends : {X E : Type 0} (start now : W) (number : ℕ) (x : X) → IsSegmenting start now number [] → Puts {E = E} g all_segments start now (Ok x)
  segmenting_ends start now number x w = record {
    bytes = subst (Appends (g.held start) (g.held now)) (sym (append-nil w.written) ∙ w.whole) w.appends;
    failures = w.failures;
  }

  -- the same for what a cut of the events gave
  module _ (version : Version) (size : ℕ) (rest front others : List Event) (version_is : version ≡ head.version) (size_is : size ≡ head.segment) (front_is : front ≡ take size rest)
      (others_is : others ≡ drop size rest) (some : 1 ≤ head.segment) (more : 0 < length rest) where
    segment_is : (number : ℕ) → segment_bytes version number front ≡ segment_bytes head.version number (take head.segment rest)
    segment_is number =
        ap (λ (v : Version). segment_bytes v number front) version_is
        ∙ ap (segment_bytes head.version number) (front_is ∙ ap (λ (k : ℕ). take k rest) size_is)

    pub cut_on : {X E : Type 0} (start now new : W) (number : ℕ) (x : X) → IsSegmenting start now number rest
        → Puts {E = E} g (segment_bytes version number front) now new (Ok x) → IsSegmenting start new (number + 1) others
    cut_on {X} {E} start now new number x w put =
        subst (λ (xs : List Event). IsSegmenting start new (number + 1) xs) (ap (λ (k : ℕ). drop k rest) (sym size_is) ∙ sym others_is)
        (segmenting_on start now new number rest x some more w (subst (λ (l : List ℕ). Puts {X = X} {E = E} g l now new (Ok x)) (segment_is number) put))

    pub cut_fails : {X E : Type 0} (start now new : W) (number : ℕ) (e : E) → IsSegmenting start now number rest
        → Puts {X = X} g (segment_bytes version number front) now new (Err e) → Puts {X = X} g all_segments start new (Err e)
    cut_fails {X} {E} start now new number e w put =
        segmenting_fails start now new number rest e some more w (subst (λ (l : List ℕ). Puts {X = X} {E = E} g l now new (Err e)) (segment_is number) put)

    pub cut_shorter : (number : ℕ) → number + length rest ≤ length events → number + 1 + length others ≤ length events
    cut_shorter number below =
        let count : length others ≡ length rest - size = ap (λ (xs : List Event). length xs) others_is ∙ length-drop size rest in
        omega (arith, count, size_is, some, more, below)

    pub cut_fit : FitVersion head.version rest → FitVersion head.version others
    cut_fit fit = subst (FitVersion head.version) (sym others_is) (all_cut (λ (e : Event). processor_of e < most_processors head.version) size rest fit).1
