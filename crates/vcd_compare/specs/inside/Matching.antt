-- What a request says of two captures, by the names of their variables.
use Rattle.std.specs.Prelude.{◌≡◌, ℕ, not, true, List, [], ◌++◌, map}
use Rattle.std.specs.List.{list_any, position}
use Rattle.std.specs.Option.{unwrap_or}
use Rattle.vcd_part.specs.Pattern.{meets}
use Rattle.vcd_part.specs.Requests.{texts, meets_one}
use Rattle.vcd_compare.specs.Captures.{fits_map, mapped_name}
use Rattle.vcd_compare.specs.Pairs.{partners_of}
use Rattle.vcd_compare.specs.declared.request.CompareRequest.{CompareRequest}
use Rattle.vcd_compare.specs.declared.matching.Matching.{Matching}

-- of variables with these names it says this
pub record IsMatching (r : CompareRequest) (names others : List (List ℕ)) (m : Matching) : Type 0
  where
    pub by_name : m.by_name.items ≡ map (meets_one true (texts r.keep)) names
    pub by_mapped : m.by_mapped.items
        ≡ map (meets_one true (texts r.keep)) (map (mapped_name r.maps.now) names)
    pub of_second : m.of_second.items ≡ map (meets_one true (texts r.keep)) others
    pub partners : m.partners.items ≡ partners_of (map (mapped_name r.maps.now) names) others
    pub unmet_pattern : m.unmet_pattern ≡ position
        (λ p. not (list_any (meets p) (names ++ (map (mapped_name r.maps.now) names ++ others))))
        (unwrap_or (texts r.keep) [])
    pub unmet_map : m.unmet_map ≡ position (λ n. not (list_any (fits_map n) names)) r.maps.now
