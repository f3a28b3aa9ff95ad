-- Words of files and scripts, and the kinds of variables that are skipped (IEEE 1364-2005, 18.2).
use Rattle.std.specs.Prelude.{ℕ, Bool, not, ◌&&◌, ◌||◌, ◌==◌, nat_le, List, [], ◌∷◌, length, codes}
use Rattle.std.specs.List.{list_all, list_any}
use Rattle.std.specs.Str.{bytes_eq}

-- whether a byte is white space: tab, line feed, vertical tab, form feed, carriage return or space
abbrev pub is_white_space : ℕ → Bool
is_white_space byte = nat_le 9 byte && nat_le byte 13 || byte == 32

-- whether bytes are a word: at least one byte, none of them white space, and not `$end`
abbrev pub is_word : List ℕ → Bool
is_word bytes = not (length bytes == 0) && list_all (λ b. not (is_white_space b)) bytes
    && not (bytes_eq bytes (codes "$end"))

-- whether a word is one of these
abbrev pub is_one_of : List (List ℕ) → List ℕ → Bool
is_one_of words word = list_any (bytes_eq word) words

-- the kinds whose variables are skipped: they have no four-state values
abbrev pub skipped_kinds : List (List ℕ)
skipped_kinds = codes "real" ∷ codes "realtime" ∷ codes "real_parameter" ∷ codes "shortreal"
    ∷ codes "event"
    ∷ codes "string" ∷ []

-- whether variables of this kind are skipped
abbrev pub is_skipped_kind : List ℕ → Bool
is_skipped_kind = is_one_of skipped_kinds
