-- The entries of the table: a multiple from that of the higher of its bits and that of the others, and the blocks.
-- Assumes nothing.
use mathlib.Core.Path.{◌≡◌, sym, ap, ap₂, ◌∙◌, subst}
use mathlib.Core.List.{List, ◌++◌}
use Prim.Native.Nat.{ℕ, ◌+◌, ◌-◌, ◌*◌, ◌%◌, ◌^◌, ◌≤◌, ◌<◌}
use native.Mathlib.Nat.{one-mul, mul-add}
use native.Mathlib.Omega.{arith}
use lib.Arith.{lt-one}
use lib.ListN.{length, get_or, set, take, drop, get_or-append}
use lib.Seq.{get_or-set_same, get_or-set_other, get_or-append-add, length-take-le}
use lib.Pow.{pow-add, pow_mono}
use lib.Bits.{bit_xor, xor_shifted, xor_comm}
use borrow.Author.Count.{below_more}
use borrow.Rule.Slice.PartMut.{put_mid}
use Rattle.gf64.specs.Field.{product}
use Rattle.gf64.proofs.Ring.{product-add_r, product-zero_r, product_one_r, product_assoc, product_comm}
use Rattle.multiplier.specs.Table.{Filled, Multiples}
use Rattle.std.proofs.lemmas.List.{get_or-take}
use Rattle.multiplier.proofs.Places.{product_shifted}

-- ---- a block

-- its longest row ends where it does
pub row_within : (k : ℕ) → k < 4 → 1 * 2 ^ k % 2 ^ 64 + 1 * 2 ^ k % 2 ^ 64 ≤ 16
row_within k h = omega (arith, pow_mono {i = k} {j = 3} (omega arith))

pub filled_zero : (b : ℕ) (t : List ℕ) → 0 < length t → Filled b (set t 0 0) 1
filled_zero b t h v l =
    subst (λ (m : ℕ). get_or (set t 0 0) m 0 ≡ product b m) (sym (lt-one l))
    (get_or-set_same t 0 0 0 h ∙ sym (product-zero_r b))

-- the sum of the multiple by t^k and that by j, of fewer than k + 1 bits
pub filled_next : (b k count j step : ℕ) (t : List ℕ) → count ≡ 2 ^ k → step ≡ product b (2 ^ k) → j < count
    → count + j < length t → Filled b t (count + j)
    → Filled b (set t (count + j) (bit_xor (get_or t j 0) step)) (count + (j + 1))
filled_next b k count j step t ec es h inside filled v l =
    below_more (λ m. get_or (set t (count + j) (bit_xor (get_or t j 0) step)) m 0 ≡ product b m) (count + j)
    (λ m i. get_or-set_other t (count + j) m (bit_xor (get_or t j 0) step) 0 (omega arith) ∙ filled m i)
    (get_or-set_same t (count + j) (bit_xor (get_or t j 0) step) 0 inside ∙ sum) v (omega arith)
  where
    joined : bit_xor j count ≡ count + j
    joined =
        xor_comm j count ∙ ap (λ (u : ℕ). bit_xor u j) (ec ∙ sym (one-mul (2 ^ k))) ∙ xor_shifted 1 k j (rw ec at h)
        ∙ ap (λ (u : ℕ). u + j) (one-mul (2 ^ k) ∙ sym ec)

    sum : bit_xor (get_or t j 0) step ≡ product b (count + j)
    sum =
        ap₂ bit_xor (filled j (omega arith)) (es ∙ ap (product b) (sym ec)) ∙ sym (product-add_r b j count)
        ∙ ap (product b) joined

-- ---- the blocks of c

-- the first n blocks are those of the table of c
abbrev pub Blocks : (c : ℕ) (table : List ℕ) (n : ℕ) → Type 0
Blocks c table n = (i v : ℕ) → i < n → v < 2 ^ 4 → get_or table (16 * i + v) 0 ≡ product c (v * 2 ^ (4 * i))

placed : (c n b v : ℕ) → b ≡ product c (2 ^ (4 * n)) → product b v ≡ product c (v * 2 ^ (4 * n))
placed c n b v e =
    ap (λ (x : ℕ). product x v) e ∙ product_assoc c (2 ^ (4 * n)) v ∙ ap (product c) (product_comm (2 ^ (4 * n)) v)
    ∙ sym (product_assoc c v (2 ^ (4 * n))) ∙ product_shifted c v (4 * n)

-- entry i of a list in whose place from p on n entries are put
below_put : (p n i : ℕ) (table block : List ℕ) → i < p → p ≤ length table
    → get_or (put_mid p n table block) i 0 ≡ get_or table i 0
below_put p n i table block h l =
    get_or-append (take p table) (block ++ drop n (drop p table)) 0 i (omega (arith, length-take-le p table l))
    ∙ get_or-take p table i 0 h

put_at : (p n v : ℕ) (table block : List ℕ) → v < length block → p ≤ length table
    → get_or (put_mid p n table block) (p + v) 0 ≡ get_or block v 0
put_at p n v table block h l =
    ap (λ (m : ℕ). get_or (put_mid p n table block) (m + v) 0) (sym (length-take-le p table l))
    ∙ get_or-append-add (take p table) (block ++ drop n (drop p table)) v 0
    ∙ get_or-append block (drop n (drop p table)) 0 v h

pub blocks_next : (c n b : ℕ) (table block : List ℕ) → b ≡ product c (2 ^ (4 * n)) → 16 * n + 16 ≤ length table
    → length block ≡ 16 → Blocks c table n → Filled b block 16
    → Blocks c (put_mid (16 * n) (16 * n + 16 - 16 * n) table block) (n + 1)
blocks_next c n b table block eb inside sixteen blocks filled i v h l =
    below_more (λ m. get_or (put_mid (16 * n) (16 * n + 16 - 16 * n) table block) (16 * m + v) 0 ≡ product c (v * 2 ^ (4 * m)))
    n
    (λ m k. below_put (16 * n) (16 * n + 16 - 16 * n) (16 * m + v) table block (omega arith) (omega arith) ∙ blocks m v k l)
    (put_at (16 * n) (16 * n + 16 - 16 * n) v table block (omega arith) (omega arith) ∙ filled v (omega arith)
    ∙ placed c n b v eb)
    i h

pub next_place : (c n b next : ℕ) → b ≡ product c (2 ^ (4 * n)) → next ≡ product b (2 ^ 4)
    → next ≡ product c (2 ^ (4 * (n + 1)))
next_place c n b next eb en =
    en ∙ ap (λ (x : ℕ). product x (2 ^ 4)) eb ∙ product_shifted c (2 ^ (4 * n)) 4
    ∙ ap (product c) (sym (pow-add 2 (4 * n) 4) ∙ ap (λ (k : ℕ). 2 ^ k) (sym (mul-add 4 n 1)))

-- ---- the element whose table it is

-- entry 1 is the element itself
pub entry_one : (c : ℕ) (table : List ℕ) (n : ℕ) → c < 2 ^ 64 → 4 ≤ n → Blocks c table n → get_or table 1 0 ≡ c
entry_one c table n h l blocks = blocks 0 1 (omega arith) (omega arith) ∙ product_one_r c h

pub all_blocks : (c : ℕ) (table : List ℕ) (n : ℕ) → c < 2 ^ 64 → 4 ≤ n → Blocks c table n
    → Multiples (get_or table 1 0) table
all_blocks c table n h l blocks =
    subst (λ (x : ℕ). Multiples x table) (sym (entry_one c table n h l blocks))
    (record { at = λ i v k u. blocks i v (omega arith) u })
