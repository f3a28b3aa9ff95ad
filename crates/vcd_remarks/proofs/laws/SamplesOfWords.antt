-- The samples of SPI are those of its words: tick by tick, the parts in turn have the sampled ticks.
use Rattle.std.proofs.Common.{◌≡◌, ℕ, suc, ◌&&◌, not, Bool, true, false, if◌then◌else◌, List, [], ◌∷◌, ◌++◌, map, refl}
use Rattle.std.proofs.Common.{ap, ◌∙◌}
use Rattle.std.specs.List.{filter, flat_map, range_with_len, slice_split, onto_first}
use Rattle.vcd_decode.specs.Spi.{has_sampling_edge, is_selected}
use Rattle.vcd_remarks.specs.SpiLine.{SpiSamplesAreOfWords}

module _ (selected reads : ℕ → Bool) where
  -- the ticks of parts that are read, in turn
  abbrev read_in : List (List ℕ) → List ℕ
  read_in parts = flat_map (λ ts. ts) (map (filter reads) parts)

  abbrev if_read : Bool → ℕ → List ℕ
  if_read b t = if b then t ∷ [] else []

  in_front : (b : Bool) (t : ℕ) (ts us : List ℕ) → (if b then t ∷ ts else ts) ++ us ≡ if_read b t ++ (ts ++ us)
  in_front true t ts us = refl
  in_front false t ts us = refl

  -- a tick in front of the first part
  onto : (t : ℕ) (parts : List (List ℕ)) → read_in (onto_first t parts) ≡ if_read (reads t) t ++ read_in parts
  onto t [] = in_front (reads t) t [] []
  onto t (part ∷ parts) = in_front (reads t) t (filter reads part) (read_in parts)

  alone : (b : Bool) (t : ℕ) (ts : List ℕ) → if_read b t ++ ts ≡ (if b then t ∷ ts else ts)
  alone true t ts = refl
  alone false t ts = refl

  abbrev sampled : ℕ → Bool
  sampled t = selected t && reads t

  abbrev parts_of : List ℕ → List (List ℕ)
  parts_of ts = slice_split (λ t. not (selected t)) ts

  -- by whether the chip is selected at the first tick
  first_tick : (is : Bool) (t : ℕ) (ts : List ℕ) → selected t ≡ is → read_in (parts_of ts) ≡ filter sampled ts
      → read_in (parts_of (t ∷ ts)) ≡ filter sampled (t ∷ ts)
  first_tick true t ts is later = rw is (
      onto t (parts_of ts) ∙ ap (λ us. if_read (reads t) t ++ us) later
      ∙ alone (reads t) t (filter sampled ts)
      )
  first_tick false t ts is later = rw is later

  pub parts_read : (ts : List ℕ) → read_in (parts_of ts) ≡ filter sampled ts
  parts_read [] = refl
  parts_read (t ∷ ts) = first_tick (selected t) t ts refl (parts_read ts)

pub samples_of_words : SpiSamplesAreOfWords
samples_of_words u clk cs end = parts_read (is_selected cs) (has_sampling_edge u.mode clk) (range_with_len 0 (suc end))
