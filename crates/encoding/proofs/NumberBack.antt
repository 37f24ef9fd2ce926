-- A number and its bytes, the highest first: reading what is written gives the number back, and writing what is read gives the bytes
-- back.
use mathlib.Core.Path.{◌≡◌, refl, sym, ap, ◌∙◌}
use mathlib.Core.List.{List, [], ◌∷◌}
use Prim.Native.Nat.{ℕ, zero, suc, ◌+◌, ◌*◌, ◌/◌, ◌%◌, ◌^◌, ◌<◌}
use native.Mathlib.Nat.{mod-one, mod-eq_of_lt}
use native.Mathlib.Omega.{arith}
use lib.ListN.{length}
use lib.Pow.{pow-add, high, low, mod-pow-add, field, mod-mod-pow}
use lib.Arith.{digits_lt}
use Rattle.encoding.specs.Bytes.{big_endian, number_in}
use Rattle.encoding.proofs.HexBack.{Bytes}

-- What is written are n bytes.
pub big-endian-length : (n v : ℕ) → length (big_endian n v) ≡ n
unfolding big_endian
big-endian-length zero v = refl
big-endian-length (suc n) v = ap suc (big-endian-length n v)

pub big-endian-bytes : (n v : ℕ) → Bytes (big_endian n v)
unfolding big_endian
big-endian-bytes zero v = tt
big-endian-bytes (suc n) v = (omega arith, big-endian-bytes n v)

-- A byte more is eight bits more.
more-bits : (n : ℕ) → 8 * suc n ≡ 8 + 8 * n
more-bits n = omega arith

-- n bytes keep the lowest 8n bits of a number.
number-low : (n v : ℕ) → number_in (big_endian n v) ≡ v % 2 ^ (8 * n)
unfolding big_endian number_in
number-low zero v = sym (mod-one v)
number-low (suc n) v = rw (big-endian-length n v, number-low n v, more-bits n) (sym (mod-pow-add v 8 (8 * n)))

-- A number that fits n bytes is read again from the n bytes that it is written as.
pub number-back : (n v : ℕ) → v < 2 ^ (8 * n) → number_in (big_endian n v) ≡ v
number-back n v h = number-low n v ∙ mod-eq_of_lt h

-- What n bytes hold fits n bytes.
pub number_lt : (bs : List ℕ) → Bytes bs → number_in bs < 2 ^ (8 * length bs)
unfolding number_in
number_lt [] small = omega arith
number_lt (b ∷ bs) small =
    rw (more-bits (length bs), pow-add 2 8 (8 * length bs)) (digits_lt small.0 (number_lt bs small.1))

-- Numbers with the same lowest 8n bits have the same n bytes.
same_bytes : (n v u : ℕ) → v % 2 ^ (8 * n) ≡ u % 2 ^ (8 * n) → big_endian n v ≡ big_endian n u
unfolding big_endian
same_bytes zero v u e = refl
same_bytes (suc n) v u e =
    let same = rw (more-bits n) at e in
    let first = sym (field v 8 (8 * n)) ∙ ap (λ x. x / 2 ^ (8 * n)) same ∙ field u 8 (8 * n) in
    let rest = sym (mod-mod-pow v 8 (8 * n)) ∙ ap (λ x. x % 2 ^ (8 * n)) same ∙ mod-mod-pow u 8 (8 * n) in
    rw (first, same_bytes n v u rest)

-- Bytes are what the number that they hold is written as.
pub number-again : (bs : List ℕ) → Bytes bs → big_endian (length bs) (number_in bs) ≡ bs
unfolding big_endian number_in
number-again [] small = refl
number-again (b ∷ bs) small =
    let below = number_lt bs small.1 in
    let same = low b (8 * length bs) below ∙ sym (mod-eq_of_lt below) in
    let rest = same_bytes (length bs) _ (number_in bs) same ∙ number-again bs small.1 in
    rw (high b (8 * length bs) below, mod-eq_of_lt small.0, rest)
