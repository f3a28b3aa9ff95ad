-- What comes of a copy that has no fault: a part, a refusal, or a window past the end.
use Rattle.std.proofs.Common.{◌≡◌, ◌∙◌, ◌<◌, ◌≤◌, ℕ, Bool, true, false, List, refl, sym, ap, subst}
use Rattle.std.proofs.Common.{Option, Some, None, if◌then◌else◌, length}
use Rattle.std.specs.Prelude.{Result, Ok, Err, IfSome, OnOk, is_some, option_map}
use Rattle.std.specs.Io.KnownBytes.{IsAtEnd}
use Rattle.std.proofs.lemmas.Option.{IfSome_then}
use Rattle.vcd_core.specs.Devices.{DeviceEnd, HasText, IsRead}
use Rattle.vcd_text.specs.Grammar.{ParseState, initial_state, state_after}
use Rattle.vcd_copy.specs.Pieces.{Piece, state_of_pieces}
use Rattle.vcd_copy.specs.Copied.{IsCopy, IsTold}
use Rattle.vcd_text.specs.declared.reading.TheConstants.{VARIABLE_LIMIT, LONG_FILE_LIMIT}
use Rattle.vcd_text.specs.declared.reading.choice.TickRange.{TickRange}
use Rattle.vcd_part.specs.declared.request.Request.{Request}
use Rattle.vcd_part.specs.declared.request.Refusal.{Refusal}
use Rattle.vcd_part.specs.declared.amender.PartAmender.{PartAmender}
use Rattle.vcd_part.specs.Requests.{unmet}
use Rattle.vcd_part.specs.inside.PartCopy.{part_rules}
use Rattle.vcd_part.specs.PartEnds.{IsPart, IsRefused, IsPastEnd, PartEnds}
use Rattle.vcd_part.specs.declared.part.PartError.{PartError}
use Rattle.vcd_part.specs.declared.written_part.WrittenPart.{WrittenPart}
use Rattle.vcd_part.specs.WrittenPart.{written_part}
use Rattle.vcd_part.specs.declared.part.PartError.TheVariants as errors
use Rattle.vcd_part.specs.inside.PartAmender.{HasSeen, IsSaid, OutcomeOf, refusal_of}
use Rattle.vcd_copy.proofs.shared.StatesOfPieces.{at_any_limit}
use Rattle.vcd_part.proofs.amender.Decided.{answer_in, answer_with_window, answer_without_window, answer_with_refusal}
use Rattle.vcd_part.specs.PartOfFile.{IsPartOfFile}
use Rattle.vcd_part.proofs.laws.PartOfFile.{part_of_file}
use Rattle.vcd_part.proofs.part.CopiedPieces.{part_is_copied}
use Rattle.vcd_part.proofs.part.SameItems.{told_items, same_comments}

-- the answer does not depend on the greatest number of variables that may be kept
answer_at_limit : (r : Request) (pieces : List Piece)
    → answer_in r (state_of_pieces VARIABLE_LIMIT pieces) ≡ answer_in r (state_of_pieces 0 pieces)
answer_at_limit r pieces = ap (answer_in r) (at_any_limit VARIABLE_LIMIT pieces)

body_at_limit : (pieces : List Piece) → (state_of_pieces VARIABLE_LIMIT pieces).in_body
    ≡ (state_of_pieces 0 pieces).in_body
body_at_limit pieces = ap (λ (s : ParseState). s.in_body) (at_any_limit VARIABLE_LIMIT pieces)

-- a refusal that is not known means that there is none
not_done : (m : PartAmender) (file : List ℕ) → m.refusal ≡ None
    → IsTold VARIABLE_LIMIT (is_some m.refusal) (HasSeen m) file → IsTold VARIABLE_LIMIT false (HasSeen m) file
not_done m file none t = subst (λ (b : Bool). IsTold VARIABLE_LIMIT b (HasSeen m) file)
    (ap (λ (o : Option Refusal). is_some o) none) t

-- if the request is not refused, there is a window
record Decides (m : PartAmender) (pieces : List Piece) : Type 0 where
  window : TickRange
  known : m.window ≡ Some window
  decided : answer_in m.request (state_of_pieces VARIABLE_LIMIT pieces) ≡ Ok window

decides : (m : PartAmender) (pieces : List Piece) → HasSeen m pieces
    → (state_of_pieces VARIABLE_LIMIT pieces).in_body ≡ true → m.refusal ≡ None → Decides m pieces
decides m pieces seen body none = by_window m.window refl
  where
    here : (state_of_pieces 0 pieces).in_body ≡ true
    here = sym (body_at_limit pieces) ∙ body

    by_window : (o : Option TickRange) → m.window ≡ o → Decides m pieces
    by_window (Some w) is = record {
      window = w;
      known = is;
      decided = answer_at_limit m.request pieces
          ∙ answer_with_window m pieces (state_of_pieces 0 pieces) w seen.known is;
    }
    by_window None is =
        let s : ParseState = state_of_pieces 0 pieces in
        let (refusal, answer) = answer_without_window m pieces s seen.known here is in
        let never : None ≡ Some refusal = sym none ∙ seen.known.refusal
        ∙ ap (λ (b : Bool). if b then refusal_of (answer_in m.request s) else None) here ∙ ap refusal_of answer in
        absurd (cc)

-- the window begins up to the end
abbrev IsWithin : PartAmender → WrittenPart → TickRange → Type 0
IsWithin m written w = (w.first ≤ m.tick) × IsSaid m w written

-- the copy is a part
pub is_part : (m : PartAmender) (file text : List ℕ) (written : WrittenPart)
    → IsCopy VARIABLE_LIMIT (part_rules m.request) file text
    → IsTold VARIABLE_LIMIT (is_some m.refusal) (HasSeen m) file → m.refusal ≡ None
    → IfSome m.window (IsWithin m written) → IsPart m.request file text written
is_part m file text written copy told none said =
    let t = not_done m file none told in
    let same = told_items VARIABLE_LIMIT (part_rules m.request) (HasSeen m) file text copy t in
    let state : state_of_pieces VARIABLE_LIMIT t.pieces ≡ state_of_pieces VARIABLE_LIMIT copy.pieces =
    ap (state_after (initial_state VARIABLE_LIMIT)) (sym same) in
    let d = decides m t.pieces t.is_told (t.all refl).1 none in
    let here : IsWithin m written d.window =
    subst (λ (o : Option TickRange). IfSome o (IsWithin m written)) d.known said in
    record {
      pieces = copy.pieces;
      tail = copy.tail;
      ticks = d.window;
      part = record {
        cut = copy.cut;
        allowed = copy.allowed;
        in_body = copy.in_body;
        decided = ap (answer_in m.request) (sym state) ∙ d.decided;
        within = subst (λ (t : ℕ). d.window.first ≤ t) (t.is_told.known.tick
            ∙ sym (ap (λ (s : ParseState). s.tick) (at_any_limit VARIABLE_LIMIT t.pieces))
            ∙ ap (λ (s : ParseState). s.tick) state) here.0;
      };
      is = copy.is ∙ part_is_copied m.request copy.pieces copy.tail;
      said = here.1 t.pieces t.is_told ∙ ap (λ (s : ParseState). written_part m.request t.pieces s d.window)
          (sym (at_any_limit VARIABLE_LIMIT t.pieces) ∙ state)
          ∙ ap (λ n. record (written_part m.request copy.pieces (state_of_pieces VARIABLE_LIMIT copy.pieces) d.window) {
            comments = n;
          }) (same_comments t.pieces copy.pieces (sym same));
    }

-- the request is refused
pub is_refused : (m : PartAmender) (file : List ℕ) (refusal : Refusal) (pattern : Option (List ℕ))
    → IsTold VARIABLE_LIMIT (is_some m.refusal) (HasSeen m) file → m.refusal ≡ Some refusal
    → ((before : List Piece) → HasSeen m before
    → pattern ≡ unmet m.request (state_of_pieces 0 before).declared) → IsRefused m.request file refusal pattern
is_refused m file refusal pattern t is names =
    let (body, answer) = answer_with_refusal m t.pieces (state_of_pieces 0 t.pieces) refusal t.is_told.known is in
    record {
      pieces = t.pieces;
      later = t.later;
      words = t.words;
      allowed = t.allowed;
      in_body = body_at_limit t.pieces ∙ body;
      decided = answer_at_limit m.request t.pieces ∙ answer;
      pattern_is = names t.pieces t.is_told ∙ ap (λ (s : ParseState). unmet m.request s.declared)
          (sym (at_any_limit VARIABLE_LIMIT t.pieces));
    }

-- the window begins past the end
pub is_past_end : (m : PartAmender) (file text : List ℕ) (end : ℕ)
    → IsCopy VARIABLE_LIMIT (part_rules m.request) file text
    → IsTold VARIABLE_LIMIT (is_some m.refusal) (HasSeen m) file → m.refusal ≡ None → end ≡ m.tick
    → ((w : TickRange) × (m.window ≡ Some w) × (end < w.first)) → IsPastEnd m.request file end
is_past_end m file text end copy told none end_is past =
    let t = not_done m file none told in
    let same = told_items VARIABLE_LIMIT (part_rules m.request) (HasSeen m) file text copy t in
    let state : state_of_pieces VARIABLE_LIMIT t.pieces ≡ state_of_pieces VARIABLE_LIMIT copy.pieces =
    ap (state_after (initial_state VARIABLE_LIMIT)) (sym same) in
    let (w, known, later) = past in
    record {
      pieces = copy.pieces;
      tail = copy.tail;
      ticks = w;
      cut = copy.cut;
      allowed = copy.allowed;
      in_body = copy.in_body;
      decided = ap (answer_in m.request) (sym state) ∙ answer_at_limit m.request t.pieces
          ∙ answer_with_window m t.pieces (state_of_pieces 0 t.pieces) w t.is_told.known known;
      end_is = end_is ∙ t.is_told.known.tick
          ∙ sym (ap (λ (s : ParseState). s.tick) (at_any_limit VARIABLE_LIMIT t.pieces))
          ∙ ap (λ (s : ParseState). s.tick) state;
      past = later;
    }

-- ---- how writing ends

both_some : {A : Type 0} {P Q R : A → Type 0} (o : Option A) → IfSome o P → IfSome o Q
    → ((a : A) → P a → Q a → R a) → IfSome o R
both_some None p q both = tt
both_some (Some a) p q both = both a p q

module _ (m : PartAmender) (r : Request) (same : m.request ≡ r) (capture out : DeviceEnd)
    (read : capture.has_failed ≡ false) (wrote : out.has_failed ≡ false)
    (ended : is_some m.refusal ≡ false → IsAtEnd capture.after)
    (copied : is_some m.refusal ≡ false → IfSome capture.before (λ file. (length file ≤ LONG_FILE_LIMIT)
    × (text : List ℕ) × IsCopy VARIABLE_LIMIT (part_rules r) file text × HasText out text))
    (told : IfSome capture.before (IsTold VARIABLE_LIMIT (is_some m.refusal) (HasSeen m))) where
  own_rules : (file text : List ℕ) → IsCopy VARIABLE_LIMIT (part_rules r) file text
      → IsCopy VARIABLE_LIMIT (part_rules m.request) file text
  own_rules file text copy = subst (λ q. IsCopy VARIABLE_LIMIT (part_rules q) file text) (sym same) copy

  whole : is_some m.refusal ≡ false → IsRead LONG_FILE_LIMIT capture
  whole ready = (read, ended ready, IfSome_then capture.before (copied ready) (λ file is. is.0))

  pub part_ends : (result : Result WrittenPart PartError) → OutcomeOf m result → PartEnds r capture out result
  unfolding PartEnds
  part_ends (Ok written) (none, said) =
      let ready = ap is_some none in (
        whole ready,
        wrote,
        both_some capture.before (copied ready) told (λ file is t.
            let (small, text, copy, appends) = is in (
              text,
              subst (λ q. IsPart q file text written) same
                  (is_part m file text written (own_rules file text copy) t none said),
              appends,
            )),
      )
  part_ends (Err (errors.Copy e)) never = absurd never
  part_ends (Err (errors.Refused refusal pattern)) (is, names) = (
    read,
    IfSome_then capture.before told (λ file t.
        subst (λ q. IsRefused q file refusal (option_map (λ p. p.now) pattern)) same
        (is_refused m file refusal (option_map (λ p. p.now) pattern) t is names)),
  )
  part_ends (Err (errors.PastEnd end)) (none, end_is, w, known, past) =
      let ready = ap is_some none in (
        whole ready,
        both_some capture.before (copied ready) told (λ file is t.
            let (small, text, copy, appends) = is in
            subst (λ q. IsPastEnd q file end) same
            (is_past_end m file text end (own_rules file text copy) t none end_is (w, known, past))),
      )

  -- a part that is written is one for those who use it
  pub headline_of : (result : Result WrittenPart PartError) → OutcomeOf m result → OnOk result
      (IfSome capture.before (λ file. (text : List ℕ) × IsPartOfFile r file text × HasText out text))
  unfolding PartEnds
  headline_of (Ok written) of = IfSome_then capture.before (part_ends (Ok written) of).2 (λ file is.
      let (text, part, appends) = is in (text, part_of_file r file text written part, appends))
  headline_of (Err e) of = tt
