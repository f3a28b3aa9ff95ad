-- A word is no map.
use Rattle.std.proofs.Common.{◌≡◌, ◌∙◌, [], ℕ, List, Option, None, inl, map, get_or, refl, sym, ap, arith}
use Rattle.std.specs.Borrow.{Bor}
use Rattle.std.specs.Prelude.{is_some, not, option_map}
use Rattle.std.proofs.lemmas.List.{get_or-map, length-map}
use Rattle.std.proofs.lemmas.List.Folds.{list_any_at}
use Rattle.vcd_compare.specs.declared.request.NameMap.{NameMap}
use Rattle.vcd_compare_program.specs.ProgramEnds.{map_of}
use Rattle.vcd_compare_program.proofs.request_words.read_maps.Goals as goal

pub returns-in-None-clause-fault : goal.returns-in-None-clause-fault
returns-in-None-clause-fault c =
    let texts = map (λ (w : Bor (List ℕ)). w.now) c.args.words.now in
    let k = c.loop-word.word-index in
    let none : map_of c.as_bytes.result.now ≡ None =
    sym c.map_of.ensures ∙ ap (λ (o : Option NameMap). option_map (λ m. (m.old.now, m.new.now)) o) c.in-None.is in
    let within = c.loop-word-test.true in
    let size = length-map c.args.words.now (λ (w : Bor (List ℕ)). w.now) in
    let here : get_or texts k [] ≡ c.as_bytes.result.now =
    get_or-map (λ (w : Bor (List ℕ)). w.now) c.args.words.now k (record { ref_ptr = (0, 0); now = [] }) []
    (omega (arith, within)) ∙ sym c.as_bytes.ensures.value in
    inl (
      list_any_at (λ word. not (is_some (map_of word))) texts k [] (omega (arith, size, c.loop-word-test.true))
          (ap (λ (w : List ℕ). not (is_some (map_of w))) here ∙ ap (λ o. not (is_some o)) none),
      refl,
    )
