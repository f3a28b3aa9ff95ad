-- The waves of signals that were read, in declared signals.
use Rattle.std.specs.Prelude.{Bool, true, false, ◌==◌, if◌then◌else◌, List, [], ◌∷◌, drop}
use Rattle.std.specs.Prelude.{Option, Some, None, option_map}
use Rattle.vcd_core.specs.Contents.{SignalContents, Contents}

-- a declared signal; if it is taken, it has the wave of the first of these signals, and there is
-- none if that has another width
abbrev pub with_next_wave : (takes : Bool) → SignalContents → (taken : List SignalContents)
    → Option SignalContents
with_next_wave false s taken = Some s
with_next_wave true s [] = None
with_next_wave true s (t ∷ taken) =
    if t.width == s.width then Some (record s { changes = t.changes }) else None

-- a signal and others, if there are both
abbrev pub and_others : Option SignalContents → Option (List SignalContents)
    → Option (List SignalContents)
and_others None others = None
and_others (Some s) others = option_map (λ ss. s ∷ ss) others

-- the declared signals; those that a test takes have the waves of these signals, one after another.
-- There are none if these are fewer or more, or if one has another width
abbrev pub with_waves : (takes : SignalContents → Bool) → (declared taken : List SignalContents)
    → Option (List SignalContents)
with_waves takes [] [] = Some []
with_waves takes [] (t ∷ taken) = None
with_waves takes (s ∷ declared) taken = and_others (with_next_wave (takes s) s taken)
    (with_waves takes declared (drop (if takes s then 1 else 0) taken))

-- a declared capture with the waves of a part, if they fit
abbrev pub with_part_waves : (takes : SignalContents → Bool) → (declared part : Contents)
    → Option Contents
with_part_waves takes declared part = option_map (λ ss. record declared { signals = ss })
    (with_waves takes declared.signals part.signals)
