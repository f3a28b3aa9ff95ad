-- A comparison as a mark asks for it.
use Rattle.std.proofs.Common.{◌≡◌, ◌++◌, ◌∷◌, [], ◌-◌, ℕ, List, Option, Some, None, true, codes, map, ap, sym, ◌∙◌}
use Rattle.std.proofs.Common.{length, take, drop, take-append-drop, append_assoc}
use Rattle.std.specs.Prelude.{bytes_eq, decimal}
use Rattle.std.specs.List.{join_with_byte}
use Rattle.std.specs.Option.{option_copied}
use Rattle.std.specs.Borrow.{Bor}
use Rattle.std.proofs.lemmas.Slice.Eq.{bytes_eq-Decides}
use Rattle.clap.specs.Words.{Text}
use Rattle.vcd_copy.specs.MarkText.{escaped_word}
use Rattle.vcd_part.specs.Requests.{texts}
use Rattle.vcd_amend_program.specs.CommandLine.{options_in}
use Rattle.vcd_amend_program.specs.FoundMarks.{first_line, said_after}
use Rattle.vcd_amend_program.specs.VerifyOutcome.{asked_by, values_said}
use Rattle.vcd_amend_program.specs.inside.Comparisons.{IsFoundHead, sum_text}
use Rattle.vcd_amend_program.specs.declared.verify.FoundHead.{FoundHead}

-- the options that are made of a mark
pub options_said : (depth : ℕ) (capture : Bor Text) (mark : List ℕ) (keep remove : Option (Bor (List (Bor Text))))
    (from to : Option (Bor Text)) → texts keep ≡ values_said (said_after (codes "part keep ") mark)
    → texts remove ≡ values_said (said_after (codes "part remove ") mark)
    → option_copied from ≡ first_line (said_after (codes "part from ") mark)
    → option_copied to ≡ first_line (said_after (codes "part to ") mark)
    → options_in (record {
      input = None;
      capture = Some capture;
      script = None;
      verify = None;
      output = None;
      depth = depth;
      is_marked = true;
      is_quiet = true;
      is_all_or_nothing = true;
      keep = keep;
      remove = remove;
      from = from;
      to = to;
    }) ≡ asked_by depth capture.now mark
options_said depth capture mark keep remove from to keep_is remove_is from_is to_is = λ i. record {
  input = None;
  capture = Some capture.now;
  script = None;
  output = None;
  verify = None;
  depth = depth;
  is_marked = true;
  is_quiet = true;
  is_all_or_nothing = true;
  keep = keep_is i;
  remove = remove_is i;
  from = from_is i;
  to = to_is i;
}

-- the values of an option are those of its lines
pub values_are : (given : Option (Bor (List (Bor Text)))) (lent values : List (Bor Text)) (said : List Text)
    → texts given ≡ values_said (map (λ v. v.now) lent) → lent ≡ values → map (λ v. v.now) values ≡ said
    → texts given ≡ values_said said
values_are given lent values said is lend are =
    is ∙ ap (λ l. values_said (map (λ v. v.now) l)) lend ∙ ap values_said are

-- ---- the head

-- a line that ends with the sum
pub ends_so : (read name suffix text : List ℕ) → bytes_eq (drop (length read - length suffix) read) suffix ≡ true
    → name ≡ take (length read - length suffix) read → suffix ≡ text → read ≡ name ++ text
ends_so read name suffix text ends is same =
    let n = length read - length suffix in
    sym (take-append-drop n read)
    ∙ (λ i. sym is i ++ (((bytes_eq-Decides (drop n read) suffix).0 ends) ∙ same) i)

read_line : (name : List ℕ) (size : ℕ) (digest : List ℕ) → name ++ sum_text size digest
    ≡ join_with_byte 32 (name ∷ decimal size ∷ codes "bytes" ∷ codes "SHA-256" ∷ digest ∷ [])
read_line name size digest =
    ap (λ l. name ++ (32 ∷ l)) (append_assoc (decimal size) (codes " bytes SHA-256 ") digest)

-- the lines of a mark whose words these are
pub found_head : (mark title read name digest : List ℕ) (size : ℕ) (found : FoundHead)
    → first_line (said_after (codes " ") mark) ≡ Some title → first_line (said_after (codes "read ") mark) ≡ Some read
    → found.size ≡ size → read ≡ name ++ sum_text size digest → title ≡ escaped_word found.version.items
    → name ≡ escaped_word found.name.items → digest ≡ escaped_word found.digest.items → IsFoundHead mark found
found_head mark title read name digest size found at_title at_read is_size reads is_version is_name is_digest =
    λ o head from part.
    record {
      title = at_title ∙ ap Some (is_version ∙ ap escaped_word (sym from.version));
      read =
          at_read
          ∙ ap Some (reads ∙ read_line name size digest)
          ∙ (λ i. Some (join_with_byte 32 ((is_name ∙ ap escaped_word (sym from.name)) i
          ∷ decimal (sym (from.size ∙ is_size) i) ∷ codes "bytes" ∷ codes "SHA-256"
          ∷ (is_digest ∙ ap escaped_word (sym from.digest)) i ∷ [])));
      part = part;
    }
