-- What inner calls have room for, apart from the mathematics: how wide input words may be, and how fine units, so that 64 bits hold every
-- number on the way, for a row.
use Rattle.std.specs.Prelude.{false, ◌≡◌, ℕ, ◌+◌, ◌*◌, ◌^◌, ◌≤◌}
use Rattle.values.specs.declared.rows.Row.{Row}

-- The highest degree whose power and whose Newton step the code has
abbrev pub highest_degree : ℕ
highest_degree = 2

abbrev pub widest_word : ℕ
widest_word = 20

abbrev pub finest_unit : ℕ
finest_unit = 21

-- Input words of w bits and s fraction bits: a number of s bits has a k-th power of k·s, and the argument is below 2^(w+k). Where the
-- function rises, what does not cancel of the value's side is below 2^(k·(s+1)). Where it falls, nothing cancels, and the number's side,
-- n^k times the argument, is below 2^(k·(s+1)+w).
pub record Room (row : Row) (w s : ℕ) : Type 0 where
  pub degree : row.k ≤ highest_degree
  pub w-small : w ≤ widest_word
  pub s-small : s ≤ finest_unit
  pub power : row.k * (s + 1) ≤ 63
  pub falls : row.rising ≡ false → row.k * (s + 1) + w ≤ 64

-- What follows in numbers, for everything that counts in table units: 2^w is at most `word_bound`,
abbrev pub word_bound : ℕ
word_bound = 2 ^ widest_word

-- X is below `input_bound`, and L below `floor_bound`;
abbrev pub input_bound : ℕ
input_bound = word_bound * 2

abbrev pub floor_bound : ℕ
floor_bound = 2 ^ (finest_unit + 1)

-- Hi, Lo and Hi - Lo are at most `slope_bound`, and (Hi + Lo)·2^w is at most `product_bound`: L(X) / (k·X) is at most 2^P / 2^w;
abbrev pub slope_bound : ℕ
slope_bound = floor_bound * 65536 * 2

abbrev pub product_bound : ℕ
product_bound = ((2 ^ finest_unit + 1) * 65536 + word_bound) * 2

-- and initial entries and sums in range are below `entry_bound`.
abbrev pub entry_bound : ℕ
entry_bound = floor_bound * 2
