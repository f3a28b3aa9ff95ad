-- A text that a sink took which compares is the file, if it took this whole.
use Rattle.std.proofs.Common.{◌≡◌, ℕ, List, [], ◌∷◌, ◌++◌, length, take, drop, get_or, Option, Some, None}
use Rattle.std.proofs.Common.{sym, ap, subst, ◌∙◌, append-nil}
use Rattle.std.specs.Prelude.{IfSome}
use Rattle.std.specs.Io.KnownBytes.{Appends}
use Rattle.std.proofs.Math.Seq.{take-append_seam, drop-append_seam}
use Rattle.vcd_devices.specs.Compared.{shown, shown_whole, ShowsWhole}
use Rattle.vcd_devices.proofs.compared.ShownBytes.{shown_first}

same_file : (file text other : List ℕ) → (length file ∷ file ++ []) ++ text ≡ shown_whole other → file ≡ text
same_file file text other is =
    let long : length file ≡ length other = ap (λ l. get_or l 0 0) is in
    let rest : file ++ text ≡ other ++ other = ap (λ l. l ++ text) (sym (append-nil file)) ∙ ap (drop 1) is in
    let front : file ≡ other = sym (take-append_seam file text)
    ∙ ap (take (length file)) rest
    ∙ ap (λ n. take n (other ++ other)) long
    ∙ take-append_seam other other in
    let back : text ≡ other = sym (drop-append_seam file text)
    ∙ ap (drop (length file)) rest
    ∙ ap (λ n. drop n (other ++ other)) long
    ∙ drop-append_seam other other in
    front ∙ sym back

of_first : (file text : List ℕ) (after : Option (List ℕ)) → Appends (Some (length file ∷ file ++ [])) after text
    → ShowsWhole after → file ≡ text
of_first file text None grows whole = absurd grows
of_first file text (Some bytes) grows whole = same_file file text whole.0 (sym grows ∙ whole.1)

pub whole_file : (file after : Option (List ℕ)) (text : List ℕ) → Appends (shown file file) after text
    → ShowsWhole after → IfSome file (λ bytes. bytes ≡ text)
whole_file None after text grows whole = tt
whole_file (Some file) after text grows whole =
    of_first file text after (subst (λ b. Appends b after text) (shown_first file) grows) whole
