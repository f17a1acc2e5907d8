-- The statements of specs/Theorems.antt, proved. Assumes nothing.
use mathlib.Core.Path.{◌≡◌, refl, sym, ap, ap₂, ◌∙◌, subst}
use mathlib.Core.List.{List, [], ◌∷◌, ◌++◌, map, append-nil}
use Prim.Native.Nat.{ℕ, zero, suc, ◌+◌, ◌-◌, ◌^◌, ◌≤◌}
use native.Mathlib.Nat.{add-zero, zero-add, suc-add, le_refl, le_of_eq, le_trans}
use native.Mathlib.Omega.{arith}
use lib.Pow.{pow_mono}
use lib.ListN.{length, replicate}
use lib.Seq.{take-length}
use lib.Bits.{bit_xor, xor_self, xor_zero_r}
use Rattle.gf64.specs.Field.{IsElement, sum, product, inverse}
use Rattle.poly.specs.Carrier.{gf64}
use Rattle.poly.specs.Polynomial.{All, Zeros, evaluate, plus, padded}
use Rattle.poly.proofs.AtField.{gf64_laws}
use Rattle.poly.proofs.Entries.{all_replicate, map_agree}
use Rattle.poly.proofs.Evaluation.{length-padded, padded_full, padded-elements, evaluate-padded}
use Rattle.poly.proofs.Interpolation.{values_elements}
use Rattle.coset.specs.Coset.{points}
use Rattle.coset.specs.Span.{Independent}
use Rattle.coset.specs.Steps.{step_elements}
use Rattle.coset.proofs.Points.{points-elements}
use Rattle.reed_solomon.specs.Codes.{encoded, interpolated}
use Rattle.reed_solomon.proofs.Values.{length-encoded}
use Rattle.reed_solomon.proofs.Theorems.{round_trips}
use Rattle.transform.specs.Transform.{weighted, squares, converted, converted_back, ratio_of, normalised_at}
use Rattle.transform.specs.Transform.{split_in_halves, joined_from_halves, transformed, transformed_back}
use Rattle.transform.specs.Theorems.{Steps, Transforms}
use Rattle.transform.proofs.Halves.{Block, second_twice, first_twice}
use Rattle.transform.proofs.Weighted.{weighted-plus, weighted_short, weighted_value}
use Rattle.transform.proofs.Regrouping.{block_is, regrouped-weighted, regrouped_undone}
use Rattle.transform.proofs.Scaling.{scaled_weighted, scaled_undone}
use Rattle.transform.proofs.Converting.{down_to, length_down_to, converted_block, converted_back_block}
use Rattle.transform.proofs.Converting.{converted_undone, converted-weighted}
use Rattle.transform.proofs.Splitting.{joined_block, split_undone, split_values}
use Rattle.transform.proofs.Normalised.{ratios_inverse, multiplier_element, multiplier_constant}
use Rattle.transform.proofs.Normalised.{multiplier_next, level, level_first, level_next, level_scaled}

-- ---- zeros behind a list

zeros_added : (n : ℕ) (p : List ℕ) → length p ≤ n → plus gf64 p (replicate n 0) ≡ p ++ replicate (n - length p) 0
unfolding plus
zeros_added n [] h = ap (λ (m : ℕ). replicate {A = ℕ} m 0) none
  where
    none : n ≡ n - 0
    none = omega arith
zeros_added zero (c ∷ p) h = absurd (omega arith)
zeros_added (suc n) (c ∷ p) h =
    ap₂ (λ (a : ℕ) (l : List ℕ). a ∷ l) (xor_zero_r c)
    (zeros_added n p (omega arith) ∙ ap (λ (m : ℕ). p ++ replicate m 0) less)
  where
    less : n - length p ≡ suc n - suc (length p)
    less = omega arith

weighted_zeros : (ws s : List ℕ) → Zeros gf64 s → weighted ws s ≡ 0
unfolding plus
weighted_zeros ws s h = ap (weighted ws) (sym (added_self s h)) ∙ weighted-plus ws s s ∙ xor_self (weighted ws s)
  where
    added_self : (l : List ℕ) → Zeros gf64 l → plus gf64 l l ≡ l
    added_self [] z = refl
    added_self (c ∷ l) z = ap₂ (λ (a : ℕ) (r : List ℕ). a ∷ r) (xor_self c ∙ sym z.0) (added_self l z.1)

weighted-padded : (ws : List ℕ) (n : ℕ) (p : List ℕ) → length p ≤ n → weighted ws (padded gf64 n p) ≡ weighted ws p
unfolding padded
weighted-padded ws n p h =
    ap (weighted ws) (sym (zeros_added n p h)) ∙ weighted-plus ws p (replicate n 0)
    ∙ ap (bit_xor (weighted ws p)) (weighted_zeros ws (replicate n 0) (all_replicate (λ c. c ≡ 0) n 0 refl))
    ∙ xor_zero_r (weighted ws p)

-- further weights do not matter to a short list
weighted_further : (z : ℕ → ℕ) (m n : ℕ) (s : List ℕ) → length s ≤ 2 ^ m
    → weighted (down_to z (n + m)) s ≡ weighted (down_to z m) s
unfolding down_to
weighted_further z m zero s h = ap (λ (l : ℕ). weighted (down_to z l) s) (zero-add m)
weighted_further z m (suc n) s h =
    ap (λ (l : ℕ). weighted (down_to z l) s) (suc-add n m)
    ∙ weighted_short (z (n + m)) (down_to z (n + m)) s
    (le_trans h (subst (λ (l : ℕ). 2 ^ m ≤ 2 ^ l) (sym (length_down_to z (n + m))) (pow_mono (omega arith))))
    ∙ weighted_further z m n s h

-- ---- over an independent basis

module _ (offset : ℕ) (basis : List ℕ) (eo : IsElement offset) (eb : All IsElement basis)
    (d : Independent basis) where
  abbrev k : ℕ
  k = length basis

  abbrev es : List ℕ
  es = step_elements k basis

  abbrev ds : List ℕ
  ds = map inverse es

  -- the value at x, by the products of the z_j
  at_point : (m : ℕ) (c : List ℕ) (x : ℕ) → All IsElement c → IsElement x → m ≤ k → length c ≤ 2 ^ m
      → weighted (down_to (λ j. normalised_at es ds j x) k)
      (padded gf64 (2 ^ k) (converted (ratio_of es ds) 0 m (padded gf64 (2 ^ m) c)))
      ≡ evaluate gf64 c x
  unfolding down_to
  at_point m c x ec ex hm hc =
      weighted-padded (down_to z k) (2 ^ k) t (le_trans (le_of_eq sized.0) (pow_mono hm))
      ∙ ap (λ (n : ℕ). weighted (down_to z n) t) whole ∙ weighted_further z m (k - m) t (le_of_eq sized.0)
      ∙ ap (λ (n : ℕ). weighted (down_to z n) t) (sym (zero-add m))
      ∙ converted-weighted (ratio_of es ds) z (level basis eb d x) k (λ j h. multiplier_element basis eb d j x)
      (λ j h. level_scaled basis eb d x j ex h) (λ j h. steps j) 0 m (padded gf64 (2 ^ m) c) (omega
      (arith, hm)) filled
      ∙ ap (λ (ws : List ℕ). weighted ws (padded gf64 (2 ^ m) c)) start
      ∙ weighted_value m (padded gf64 (2 ^ m) c) x ex filled.1 (le_of_eq counted)
      ∙ evaluate-padded gf64 IsElement gf64_laws (2 ^ m) c x
    where
      z : ℕ → ℕ
      z j = normalised_at es ds j x

      t : List ℕ
      t = converted (ratio_of es ds) 0 m (padded gf64 (2 ^ m) c)

      counted : length (padded gf64 (2 ^ m) c) ≡ 2 ^ m
      counted = length-padded gf64 (2 ^ m) c hc

      filled : Block (2 ^ (m + 0)) (padded gf64 (2 ^ m) c)
      filled = (
        counted ∙ ap (λ (n : ℕ). 2 ^ n) (sym (add-zero m)),
        padded-elements gf64 IsElement gf64_laws (2 ^ m) c ec,
      )

      sized : Block (2 ^ m) t
      sized =
          block_is (2 ^ (m + 0)) (2 ^ m) t (ap (λ (n : ℕ). 2 ^ n) (add-zero m))
          (converted_block (ratio_of es ds) 0 m (padded gf64 (2 ^ m) c) filled)

      whole : k ≡ k - m + m
      whole = omega (arith, hm)

      steps : (j : ℕ) → level basis eb d x (suc j) ≡ sum (product (z j) (z j)) (z j)
      steps j = level_next basis eb d x j

      start : squares (level basis eb d x 0) m ++ [] ≡ squares x m
      start = append-nil (squares (level basis eb d x 0) m) ∙ ap (λ (v : ℕ). squares v m) (level_first basis eb d x)

  pub transformed_values : (m : ℕ) (c : List ℕ) → All IsElement c → m ≤ k → length c ≤ 2 ^ m
      → transformed offset m basis c ≡ encoded offset basis c
  unfolding transformed encoded
  transformed_values m c ec hm hc =
      split_values (normalised_at es ds) basis (λ n o i h. multiplier_constant basis eb d n o i h)
      (λ n o h. multiplier_next basis eb d n o h) k offset s (le_refl k) sized
      ∙ ap (λ (b : List ℕ). map (λ x. weighted (down_to (λ j. normalised_at es ds j x) k) s) (points offset b))
      (take-length basis)
      ∙ map_agree (λ x. weighted (down_to (λ j. normalised_at es ds j x) k) s) (evaluate gf64 c) (points offset basis)
      (every (points offset basis) (points-elements offset basis eo eb))
    where
      s : List ℕ
      s = padded gf64 (2 ^ k) (converted (ratio_of es ds) 0 m (padded gf64 (2 ^ m) c))

      inner : Block (2 ^ (m + 0)) (converted (ratio_of es ds) 0 m (padded gf64 (2 ^ m) c))
      inner =
          converted_block (ratio_of es ds) 0 m (padded gf64 (2 ^ m) c) (
            length-padded gf64 (2 ^ m) c hc ∙ ap (λ (n : ℕ). 2 ^ n) (sym (add-zero m)),
            padded-elements gf64 IsElement gf64_laws (2 ^ m) c ec,
          )

      sized : Block (2 ^ k) s
      sized = (
        length-padded gf64 (2 ^ k) (converted (ratio_of es ds) 0 m (padded gf64 (2 ^ m) c))
            (le_trans (le_of_eq (inner.0 ∙ ap (λ (n : ℕ). 2 ^ n) (add-zero m))) (pow_mono hm)),
        padded-elements gf64 IsElement gf64_laws (2 ^ k) (converted (ratio_of es ds) 0 m (padded gf64 (2 ^ m) c))
            inner.1,
      )

      every : (xs : List ℕ) → All IsElement xs
          → All (λ x. weighted (down_to (λ j. normalised_at es ds j x) k) s ≡ evaluate gf64 c x) xs
      every [] h = record {}
      every (x ∷ xs) h = (at_point m c x ec h.0 hm hc, every xs h.1)

  -- ---- back

  module _ (word : List ℕ) (ew : All IsElement word) (hw : length word ≡ 2 ^ length basis) where
    joined : List ℕ
    joined = joined_from_halves (normalised_at es ds) basis k offset word

    joined_sized : Block (2 ^ (k + 0)) joined
    unfolding joined
    joined_sized =
        block_is (2 ^ k) (2 ^ (k + 0)) joined (ap (λ (n : ℕ). 2 ^ n) (sym (add-zero k)))
        (joined_block (normalised_at es ds) basis k offset word (hw, ew))

    back_sized : Block (2 ^ k) (transformed_back offset basis word)
    unfolding transformed_back joined
    back_sized =
        block_is (2 ^ (k + 0)) (2 ^ k) (converted_back (ratio_of ds es) 0 k joined)
        (ap (λ (n : ℕ). 2 ^ n) (add-zero k)) (converted_back_block (ratio_of ds es) 0 k joined joined_sized)

    pub word_again : transformed offset k basis (transformed_back offset basis word) ≡ word
    unfolding transformed transformed_back joined
    word_again =
        ap (split_in_halves (normalised_at es ds) basis k offset)
        (ap (λ (l : List ℕ). padded gf64 (2 ^ k) (converted (ratio_of es ds) 0 k l))
        (padded_full gf64 (2 ^ k) (converted_back (ratio_of ds es) 0 k joined) back_sized.0)
        ∙ ap (padded gf64 (2 ^ k))
        (converted_undone (ratio_of es ds) (ratio_of ds es) 0 k joined
        (λ j h. ratios_inverse basis eb d j (omega arith)) joined_sized)
        ∙ padded_full gf64 (2 ^ k) joined (joined_sized.0 ∙ ap (λ (n : ℕ). 2 ^ n) (add-zero k)))
        ∙ split_undone (normalised_at es ds) basis k offset word (hw, ew)

    pub transformed_coefficients : transformed_back offset basis word ≡ interpolated offset basis word
    transformed_coefficients =
        sym (padded_full gf64 (2 ^ k) back back_sized.0)
        ∙ sym (round_trips.coefficients offset basis back eo eb back_sized.1 d (le_of_eq back_sized.0))
        ∙ ap (interpolated offset basis)
        (sym (transformed_values k back back_sized.1 (le_refl k) (le_of_eq back_sized.0)) ∙ word_again)
      where
        back : List ℕ
        back = transformed_back offset basis word

  pub coefficients_again : (c : List ℕ) → All IsElement c → length c ≡ 2 ^ length basis
      → transformed_back offset basis (transformed offset k basis c) ≡ c
  unfolding encoded
  coefficients_again c ec hc =
      ap (transformed_back offset basis) (transformed_values k c ec (le_refl k) (le_of_eq hc))
      ∙ transformed_coefficients (encoded offset basis c) elements (length-encoded offset basis c)
      ∙ round_trips.coefficients offset basis c eo eb ec d (le_of_eq hc) ∙ padded_full gf64 (2 ^ k) c hc
    where
      elements : All IsElement (encoded offset basis c)
      elements =
          values_elements gf64 IsElement gf64_laws c (points offset basis) ec (points-elements offset basis eo eb)

pub steps : Steps
steps =
    record {
      second_twice = second_twice;
      first_twice = first_twice;
      regrouped_weights = regrouped-weighted;
      regrouped-back = regrouped_undone;
      scaled_weights = scaled_weighted;
      scaled_back = scaled_undone;
      joined_back = split_undone;
    }

pub transforms : Transforms
transforms =
    record {
      values = λ offset m basis c eo eb ec d hm hc. transformed_values offset basis eo eb d m c ec hm hc;
      coefficients = λ offset basis word eo eb ew d h. transformed_coefficients offset basis eo eb d word ew h;
      word_again = λ offset basis word eo eb ew d h. word_again offset basis eo eb d word ew h;
      coefficients_again = λ offset basis c eo eb ec d h. coefficients_again offset basis eo eb d c ec h;
    }
