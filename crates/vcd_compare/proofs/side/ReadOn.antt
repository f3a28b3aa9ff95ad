-- A file that is read on, chunk by chunk.
use Rattle.std.proofs.Common.{◌≡◌, ℕ, ◌<◌, true, false, not, ◌&&◌, List, [], ◌∷◌, ◌++◌, length, drop, refl}
use Rattle.std.proofs.Common.{sym, ap, subst, ◌∙◌, arith, append_assoc, inl, inr, Option, Some, None, nat_le}
use Rattle.std.specs.Prelude.{IfSome, IsTrue}
use Rattle.std.proofs.lemmas.Bool.{cases_Bool, and_parts, leb-true, le-leb, both_ways}
use Rattle.std.proofs.lemmas.List.{append-nil, at_drop_all, length-drop}
use Rattle.vcd_core.specs.declared.capture.TheConstants.{SIGNAL_LIMIT}
use Rattle.vcd_text.specs.Grammar.{ParseState, initial_state}
use Rattle.vcd_text.specs.HeardChanges.{HeardChange, AreHeard}
use Rattle.vcd_text.specs.inside.reading.ChangeStream.{HasStreamed, heard_by}
use Rattle.vcd_text.specs.inside.reading.Parser.{ParserMatches}
use Rattle.vcd_text.specs.inside.reading.SkippedVariables.{HasSkipped}
use Rattle.vcd_text.specs.declared.reading.change_stream.ChangeStream.{ChangeStream}
use Rattle.vcd_compare.specs.inside.Side.{at_hand, needs_chunk, IsSideAt, ReadsOn, ReadsToEnd, IsHeardWhole}
use Rattle.vcd_compare.specs.inside.LeftOut.{HasCounted}
use Rattle.vcd_compare.specs.declared.last_ticks.LastTicks.{LastTicks}
use Rattle.vcd_compare.specs.declared.left_out.LeftOut.{LeftOut}
use Rattle.vcd_compare.specs.declared.side.Side.{Side}
use Rattle.vcd_compare.proofs.shared.HeardParts.{heard_none, heard_then, declared_where_heard}

-- ---- what is at hand

pub none_at_hand : (s : Side) → needs_chunk s ≡ true → at_hand s ≡ []
none_at_hand s needs =
    at_drop_all (λ hs. hs) (heard_by s.stream) s.taken
    (leb-true _ _ (and_parts (not s.is_ended) (nat_le (length (heard_by s.stream)) s.taken) needs).1)

some_first : (hs : List HeardChange) → 0 < length hs → (h : HeardChange) × (rest : List HeardChange) × (hs ≡ h ∷ rest)
some_first [] some = absurd (omega arith)
some_first (h ∷ hs) some = (h, hs, refl)

-- a file that goes on and needs no chunk has a change at hand
pub some_at_hand : (s : Side) → s.is_ended ≡ false → needs_chunk s ≡ false
    → (h : HeardChange) × (rest : List HeardChange) × (at_hand s ≡ h ∷ rest)
some_at_hand s on has =
    let hs = heard_by s.stream in
    elim (cases_Bool (nat_le (length hs) s.taken)) [
      | inl all ↦ absurd (both_ways _ has (ap (λ b. not b && nat_le (length hs) s.taken) on ∙ all))
      | inr some ↦ some_first (at_hand s) (omega (arith, length-drop s.taken hs, more hs s.taken some))
    ]
  where
    more : (hs : List HeardChange) (k : ℕ) → nat_le (length hs) k ≡ false → k < length hs
    more hs k some = grind (arith, le-leb)

-- ---- reading on

-- nothing was read
abbrev pub reads_none : (coming left : Option (List ℕ)) (state : ParseState) (given : List HeardChange) (s : Side)
    → IsSideAt coming left state given s → ReadsOn coming left state (given ++ at_hand s) given s
reads_none coming left state given s at = record {
  later = state;
  more = [];
  heard_more = heard_none state;
  at = at;
  all = sym (append-nil (given ++ at_hand s));
}

-- the file was read on once more
abbrev pub reads_then : (coming middle left : Option (List ℕ)) (state : ParseState)
    (heard given taken : List HeardChange) (now new : Side) (on : ReadsOn coming middle state heard given now)
    → ReadsOn coming left on.later (given ++ at_hand now) taken new
    → ReadsOn coming left state heard taken new
reads_then coming middle left state heard given taken now new on next = record {
  later = next.later;
  more = on.more ++ next.more;
  heard_more = heard_then state on.later next.later on.more next.more on.heard_more next.heard_more;
  at = next.at;
  all = next.all ∙ ap (λ hs. hs ++ next.more) on.all ∙ append_assoc heard on.more next.more;
}

-- the same of a file of which nothing was at hand
pub reaches_then : (coming middle left : Option (List ℕ)) (state : ParseState) (heard given : List HeardChange)
    (now new : Side) (on : ReadsOn coming middle state heard given now) → needs_chunk now ≡ true
    → ReadsOn coming left on.later (given ++ at_hand now) (given ++ at_hand now) new
    → ReadsOn coming left state heard given new
reaches_then coming middle left state heard given now new on needs next =
    subst (λ hs. ReadsOn coming left state heard hs new)
    (ap (λ hs. given ++ hs) (none_at_hand now needs) ∙ append-nil given)
    (reads_then coming middle left state heard given (given ++ at_hand now) now new on next)

-- the file has ended
pub reads_to_end : (coming left : Option (List ℕ)) (state : ParseState) (heard given : List HeardChange)
    (old new : Side) (on : ReadsOn coming left state heard given new) → new.is_ended ≡ true
    → (old.is_ended ≡ true → (on.later ≡ state) × (on.more ≡ []))
    → ReadsToEnd coming state heard old new
reads_to_end coming left state heard given old new on ended stays = record {
  later = on.later;
  more = on.more;
  heard_more = on.heard_more;
  at = on.at.at;
  whole = subst (IsHeardWhole coming on.later) on.all (on.at.ended ended);
  counted = subst (λ hs. HasCounted hs new.left_out new.last_ticks) on.all on.at.counted;
  stays = stays;
}

-- ---- the begin

-- a file before its first byte
pub nothing_read : (coming : Option (List ℕ)) (s : ChangeStream) (taken factor : ℕ) (left_out : LeftOut)
    (last_ticks : LastTicks) → taken ≡ length (heard_by s)
    → HasStreamed coming coming (initial_state SIGNAL_LIMIT) [] s → HasCounted [] left_out last_ticks
    → IsSideAt coming coming (initial_state SIGNAL_LIMIT) [] (record {
      stream = s;
      taken = taken;
      is_ended = false;
      factor = factor;
      left_out = left_out;
      last_ticks = last_ticks;
    })
nothing_read coming s taken factor left_out last_ticks all h counted =
    let none : drop taken (heard_by s) ≡ [] =
    at_drop_all (λ hs. hs) (heard_by s) taken (omega (arith, all)) in
    record {
      at = (
        h.asked,
        subst (ParserMatches h.asked s.reader.parser) h.state_is h.taken.at.0,
        subst (λ (c : ParseState). HasSkipped s.listener.skipped c.declared) h.state_is h.skipped,
      );
      heard = subst (AreHeard (initial_state SIGNAL_LIMIT) (initial_state SIGNAL_LIMIT)) (sym none)
          (heard_none (initial_state SIGNAL_LIMIT));
      goes_on = λ on. subst (λ hs. HasStreamed coming coming (initial_state SIGNAL_LIMIT) hs s) (sym none) h;
      ended = λ never. absurd (both_ways _ refl never);
      counted = subst (λ hs. HasCounted hs left_out last_ticks) (sym none) counted;
    }

-- where no chunk is needed, the declarations have ended
pub is_declared : (coming left : Option (List ℕ)) (state : ParseState) (s : Side) → IsSideAt coming left state [] s
    → needs_chunk s ≡ false → IfSome coming (λ file. IsTrue state.in_body)
is_declared None left state s at has = tt
is_declared (Some file) left state s at has =
    elim (cases_Bool s.is_ended) [
      | inl ended ↦ (at.ended ended).1.accepted.definitions_ended
      | inr on ↦
          let (h, rest, is) = some_at_hand s on has in
          declared_where_heard (initial_state SIGNAL_LIMIT) state h rest
          (subst (AreHeard (initial_state SIGNAL_LIMIT) state) is at.heard)
    ]
