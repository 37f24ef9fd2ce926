-- What a console holds, as contracts see it.
use Rattle.std.specs.Prelude.{Bool, List, ℕ}

-- The two blocks that the program lends, and where it is in them. Of the input's, the bytes from `at` up to `count` are still to be read, and
-- `ended` says whether no other block comes; of the output's, the first `pending` are still to be written, and `failed` says whether something
-- could not be.
pub record Blocks : Type 0 where
  pub input : List ℕ
  pub at : ℕ
  pub count : ℕ
  pub ended : Bool
  pub output : List ℕ
  pub pending : ℕ
  pub failed : Bool
