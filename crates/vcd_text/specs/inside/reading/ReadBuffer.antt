-- The view that contracts have of the buffer of a file.
use Rattle.std.specs.Prelude.{ℕ, List}

-- the bytes that have been read, and not yet taken as words, and the number of further bytes that
-- there is room for
pub record ReadBufferView : Type 0 where
  pub bytes : List ℕ
  pub room : ℕ
