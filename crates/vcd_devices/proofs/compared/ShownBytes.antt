-- What a sink that compares shows grows by what it takes.
use Rattle.std.proofs.Common.{◌≡◌, ℕ, ◌+◌, ◌-◌, ◌≤◌, Bool, true, false, List, [], ◌∷◌, ◌++◌, length, take, drop}
use Rattle.std.proofs.Common.{Option, Some, None, refl, sym, ap, subst, ◌∙◌, append_assoc, append-nil, arith}
use Rattle.std.specs.Prelude.{bytes_eq, if◌then◌else◌, IfSome}
use Rattle.std.specs.Option.{option_map}
use Rattle.std.specs.Io.KnownBytes.{Appends, Consumes, IsAtEnd}
use Rattle.std.proofs.lemmas.List.{take-append-drop, length-append}
use Rattle.std.proofs.lemmas.Slice.Eq.{bytes_eq-Decides}
use Rattle.std.proofs.Math.Seq.{take-append_seam, drop-append_seam}
use Rattle.vcd_devices.specs.Compared.{bytes_before, shown, shown_whole, ShowsWhole}

-- what comes before the last bytes of two parts
before_last : (front last : List ℕ) → bytes_before (front ++ last) last ≡ Some front
before_last front last =
    let n : length (front ++ last) - length last ≡ length front = omega (arith, length-append front last) in
    ap (λ n. if bytes_eq (drop n (front ++ last)) last then Some (take n (front ++ last)) else None) n
    ∙ (λ i. if bytes_eq (drop-append_seam front last i) last then Some (take-append_seam front last i) else None)
    ∙ ap (λ b. if b then Some front else None) ((bytes_eq-Decides last last).1 refl)

abbrev shown_of : (file : List ℕ) → Option (List ℕ) → Option (List ℕ)
shown_of file = option_map (λ took. length file ∷ file ++ took)

-- one write, by whether the file ends with what was left
one_write : (file front bytes left : List ℕ) (ends : Bool) → (ends ≡ true → file ≡ front ++ (bytes ++ left))
    → Appends (shown_of file (if ends then Some front else None)) (shown (Some file) (Some left)) bytes
unfolding shown
one_write file front bytes left false whole = tt
one_write file front bytes left true whole =
    let parts : file ≡ (front ++ bytes) ++ left = whole refl ∙ sym (append_assoc front bytes left) in
    let before : bytes_before file left ≡ Some (front ++ bytes)
    = ap (λ f. bytes_before f left) parts ∙ before_last (front ++ bytes) left in
    let grown : length file ∷ file ++ (front ++ bytes) ≡ (length file ∷ file ++ front) ++ bytes
    = ap (λ l. length file ∷ l) (sym (append_assoc file front bytes)) in
    subst (λ o. Appends (Some (length file ∷ file ++ front)) (shown_of file o) bytes) (sym before) grown

-- what is shown after bytes that came of the file
pub shown_grows : (file old new : Option (List ℕ)) (bytes : List ℕ) → Consumes old new bytes
    → Appends (shown file old) (shown file new) bytes
unfolding shown
shown_grows None old new bytes comes = tt
shown_grows (Some file) None new bytes comes = tt
shown_grows (Some file) (Some left) None bytes comes = absurd comes
shown_grows (Some file) (Some left) (Some rest) bytes comes =
    let n = length file - length left in
    one_write file (take n file) bytes rest (bytes_eq (drop n file) left)
    (λ ends. sym (take-append-drop n file)
    ∙ ap (λ l. take n file ++ l) ((bytes_eq-Decides (drop n file) left).0 ends ∙ comes))

-- nothing is taken at first
pub shown_first : (file : List ℕ) → shown (Some file) (Some file) ≡ Some (length file ∷ file ++ [])
unfolding shown
shown_first file = ap (shown_of file) (before_last [] file)

-- all is taken at the end
pub shown_last : (file left : Option (List ℕ)) → IsAtEnd left → ShowsWhole (shown file left)
unfolding shown
shown_last None left end = tt
shown_last (Some file) None end = tt
shown_last (Some file) (Some left) end =
    let before : bytes_before file left ≡ Some file
    = ap (bytes_before file) end ∙ ap (λ f. bytes_before f []) (sym (append-nil file)) ∙ before_last file [] in
    subst (λ o. ShowsWhole (shown_of file o)) (sym before) (file, refl)

-- a source that gives nothing more has nothing left
pub nothing_left : (old new : Option (List ℕ)) (count : ℕ) (buffer : List ℕ) → count ≡ 0
    → Consumes old new (take count buffer) → IsAtEnd new → IsAtEnd old
nothing_left None new count buffer none comes end = tt
nothing_left (Some left) None count buffer none comes end = absurd comes
nothing_left (Some left) (Some rest) count buffer none comes end =
    comes ∙ ap (λ n. take n buffer ++ rest) none ∙ end
