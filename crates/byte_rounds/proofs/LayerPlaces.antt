-- Layers that lie in the bytes: where they begin, and an entry that is read from there. Assumes nothing.
use mathlib.Core.Path.{◌≡◌, refl, sym, ap, ◌∙◌}
use mathlib.Core.List.{List}
use Prim.Native.Nat.{ℕ, zero, suc, ◌+◌, ◌*◌, ◌%◌, ◌^◌, ◌≤◌, ◌<◌}
use native.Mathlib.Omega.{arith}
use lib.ListN.{length, get_or}
use lib.Pow.{pow_mono}
use Rattle.poly.proofs.Entries.{all_get_d}
use Rattle.coset.proofs.Sizes.{size_shifted}
use Rattle.fri.specs.Layout.{dimension, layer_start}
use Rattle.layout.specs.declared.Parameters.{Parameters}
use Rattle.layout.specs.Parameters.{steps_by, Valid}
use Rattle.layout.proofs.Sizes.{few_rounds, layer_small, start_few}
use Rattle.round_checks.specs.Judging.{layer_of, EntryWithin}
use Rattle.round_checks.proofs.Judged.{layer_same}
use Rattle.transcript.specs.Numerals.{entry_at}
use Rattle.transcript.specs.Sections.{run_in}
use Rattle.transcript.proofs.Numerals.{are_bytes, entry_of}
use Rattle.transcript.proofs.Sections.{run_fits}
use Rattle.byte_rounds.specs.Layers.{sent_in, layers_in, layer_at, LaidOut}

-- the numbers that the bytes carry
pub carried_elements : (bytes : List ℕ) → ((i : ℕ) → get_or bytes i 0 < 256) → (i : ℕ)
    → (get_or (run_in bytes).word i 0 < 2 ^ 64) × (get_or (run_in bytes).store i 0 < 2 ^ 64)
carried_elements bytes known i =
    let sent = run_fits bytes (are_bytes bytes known) in (
      all_get_d (λ a. a < 2 ^ 64) (run_in bytes).word i 0 (omega arith) sent.word,
      all_get_d (λ a. a < 2 ^ 64) (run_in bytes).store i 0 (omega arith) sent.store,
    )

-- ---- where the layers begin

pub at_first : (k : ℕ) (steps : List ℕ) (at : ℕ) → at ≡ layer_at k steps at 0
unfolding layer_at
at_first k steps at = refl

pub at_next : (k : ℕ) (steps : List ℕ) (at i : ℕ)
    → layer_at k steps at i + 8 * 2 ^ dimension k steps i + 4 ≡ layer_at k steps at (suc i)
unfolding layer_at
at_next k steps at i = refl

-- the word and the store before it, and a count for each layer
at_stored : (k : ℕ) (steps : List ℕ) (at i : ℕ)
    → at + 4 * suc i + 8 * (layer_start k steps (suc i) + 2 ^ k) ≡ layer_at k steps at (suc i)
unfolding layer_at layer_start dimension
at_stored k steps at zero = omega arith
at_stored k steps at (suc i) = omega (arith, at_stored k steps at i)

-- ---- an entry that is read

module _ (p : Parameters) (valid : Valid p) (bytes : List ℕ) (begin : ℕ)
    (laid : LaidOut bytes begin (layers_in p bytes)) where
  abbrev layer : (i : ℕ) → List ℕ
  layer i = layer_of p (run_in bytes).word (run_in bytes).store i

  entry_is : (i index : ℕ) → i < length (steps_by p) → index < 2 ^ dimension p.k (steps_by p) i
      → entry_at bytes (layer_at p.k (steps_by p) begin i + 8 * index) ≡ get_or (layer i) index 0
  entry_is i index h inside =
      sym
      (ap (λ (l : List ℕ). get_or l index 0) (layer_same (layers_in p bytes) i ∙ laid.entries i h)
      ∙ entry_of bytes (layer_at p.k (steps_by p) begin i) (2 ^ dimension p.k (steps_by p) i) index inside)

  module _ {i start index : ℕ} (w : EntryWithin p i start index) where
    -- all numbers are small
    pub start_small : start ≤ 19 * 2 ^ 20
    start_small = omega (arith, w.starts, start_few p valid i (omega (arith, w.round)))

    pub index_small : index < 2 ^ 20
    index_small = omega (arith, w.inside, layer_small p.k (steps_by p) i valid.k_most)

    pub rounds_small : i < 19
    rounds_small = omega (arith, w.round, few_rounds p valid)

    pub begin_small : begin ≤ 2 ^ 41
    begin_small = laid.begins

    pub size_is : 1 * 2 ^ p.k % 2 ^ 64 ≡ 2 ^ p.k
    size_is = size_shifted p.k (omega (arith, valid.k_most))

    -- the entries before a stored layer: at most 20 layers of 2^20
    pub before_small : start + 1 * 2 ^ p.k % 2 ^ 64 ≤ 20 * 2 ^ 20
    before_small = omega (arith, start_small, size_is, pow_mono {i = p.k} {j = 20} valid.k_most)

    pub first_read : i ≡ 0 → entry_at bytes (begin + 4 * i + 8 * (0 + index)) ≡ get_or (layer i) index 0
    first_read e =
        ap (λ (n : ℕ). entry_at bytes n) (omega (arith, e, at_first p.k (steps_by p) begin, ap (layer_at p.k (steps_by p) begin) e))
        ∙ entry_is i index w.round w.inside

    pub stored_read : 1 ≤ i
        → entry_at bytes (begin + 4 * i + 8 * (start + 1 * 2 ^ p.k % 2 ^ 64 + index)) ≡ get_or (layer i) index 0
    stored_read h =
        ap (λ (n : ℕ). entry_at bytes n) (omega (arith, size_is, w.starts, at_i))
        ∙ entry_is i index w.round w.inside
      where
        stored : (m : ℕ) → 1 ≤ m
            → begin + 4 * m + 8 * (layer_start p.k (steps_by p) m + 2 ^ p.k) ≡ layer_at p.k (steps_by p) begin m
        stored zero l = absurd (omega arith)
        stored (suc m) l = at_stored p.k (steps_by p) begin m

        at_i : begin + 4 * i + 8 * (layer_start p.k (steps_by p) i + 2 ^ p.k) ≡ layer_at p.k (steps_by p) begin i
        at_i = stored i h

-- the layers of a run are those of any other with the same bytes
pub laid_alone : (p : Parameters) (offset : ℕ) (basis challenges bytes last : List ℕ) (begin : ℕ)
    → LaidOut bytes begin (sent_in p offset basis challenges bytes last) → LaidOut bytes begin (layers_in p bytes)
laid_alone p offset basis challenges bytes last begin laid =
    record {
      entries =
          λ i h.
          sym (layer_same (layers_in p bytes) i)
          ∙ layer_same (sent_in p offset basis challenges bytes last) i
          ∙ laid.entries i h;
      begins = laid.begins;
    }
