-- Document 01, "Filling": what an offset means, exactly, on either side of zero.
use Rattle.std.specs.Prelude.{◌≡◌, Bool, cond, ℕ, ◌+◌, ◌-◌, ◌*◌, ◌%◌, ◌^◌, ℤ, pos, negsuc, nat_abs, neg_ℤ, ◌+ℤ◌, ◌*ℤ◌, ◌≤ℤ◌, ◌<ℤ◌}
use Rattle.entries.specs.Entries.{odd_number, offset_of}

-- (Hi+Lo)·j·2^(p_i) with the function's sign, its negative where the function falls. In units of 2^-18 table units;
-- `slopes` is Hi + Lo.
unfoldable pub signed_product : ℕ → ℕ → Bool → ℤ → ℤ
signed_product slopes p rising j = cond rising (pos slopes *ℤ j *ℤ pos (2 ^ p)) (neg_ℤ (pos slopes *ℤ j *ℤ pos (2 ^ p)))

-- "It stands for itself plus one half (000, section 5.3)." An entry n stands for each v between 2^18·n and 2^18·(n+1): the end
-- towards zero is one of them, the other end is not. So T stands for 2^18·T ≤ v < 2^18·(T+1), and -1 - T for the mirror image of that,
-- -2^18·(T+1) < v ≤ -2^18·T. Only v = 0 has two entries that stand for it, 0 and -1.
unfoldable pub StandsFor : ℤ → ℤ → Type 0
StandsFor (pos T) v = (pos (2 ^ 18 * T) ≤ℤ v) × (v <ℤ pos (2 ^ 18 * (T + 1)))
StandsFor (negsuc T) v = (neg_ℤ (pos (2 ^ 18 * (T + 1))) <ℤ v) × (v ≤ℤ neg_ℤ (pos (2 ^ 18 * T)))

-- What an entry means that is the offset of B
pub record Meaning (slopes b p : ℕ) (rising : Bool) (B : ℕ) (entry : ℤ) : Type 0 where
  -- "j = 2·B_i + 1 - 2^(b_i), an odd number of either sign", and so never 0; nor is the product, so that one entry alone stands for it
  pub odd : nat_abs (odd_number b B) % 2 ≡ 1
  pub not-zero : signed_product slopes p rising (odd_number b B) ≡ pos 0 → ⊥
  -- "The entry is T where j has the function's sign, and -1 - T where it has the other."
  pub stands : StandsFor entry (signed_product slopes p rising (odd_number b B))
  -- The entries of B and of 2^b - 1 - B, whose j are opposite numbers, add up to -1: with one half each, to 0.
  pub mirrored : entry +ℤ offset_of slopes b p rising (2 ^ b - 1 - B) ≡ negsuc 0
