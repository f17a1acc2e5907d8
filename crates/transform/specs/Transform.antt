-- The additive transform and its inverse, step by step; only inner functions cite this. A polynomial of degree below
-- 2^k is first converted from the powers of X to the products of the maps z_0, .., z_(k-1), where z_j is the subspace
-- polynomial of the first j basis elements divided by its value at basis element j; then its values are found by
-- splitting the coset in halves. Each step is its own inverse or has one, and the inverse transform takes them in the
-- opposite order.
use Rattle.std.specs.Prelude.{List, [], ◌∷◌, ◌++◌, map, ℕ, zero, suc, ◌+◌, ◌/◌, ◌^◌, length, get_or, take, drop}
use Rattle.gf64.specs.Field.{sum, product, power, inverse}
use Rattle.poly.specs.Carrier.{gf64}
use Rattle.poly.specs.Polynomial.{plus, scale, padded}
use Rattle.coset.specs.Coset.{tabulated}
use Rattle.coset.specs.Steps.{composed_maps, step_elements}

-- the sum over all i of c_i times the product of the weights whose bit of i is set, the first weight for the highest
-- bit
unfoldable pub weighted : (weights c : List ℕ) → ℕ
weighted [] c = get_or c 0 0
weighted (y ∷ weights) c =
    sum (weighted weights (take (2 ^ length weights) c))
    (product y (weighted weights (drop (2 ^ length weights) c)))

-- z^(2^(n-1)), .., z^2, z
unfoldable pub squares : (z n : ℕ) → List ℕ
squares z zero = []
squares z (suc n) = power z (2 ^ n) ∷ squares z n

-- ---- steps on the halves of a list

-- the first m entries plus c times the others, of 2 m entries; the others stay
unfoldable pub second_added : (c m : ℕ) (s : List ℕ) → List ℕ
second_added c m s = plus gf64 (take m s) (scale gf64 c (drop m s)) ++ drop m s

-- the entries from m on plus the first m, of 2 m entries; the first ones stay
unfoldable pub first_added : (m : ℕ) (s : List ℕ) → List ℕ
first_added m s = take m s ++ plus gf64 (take m s) (drop m s)

-- the n entries from p on replaced by f of them; the others stay
unfoldable pub on_part : (p n : ℕ) (f : List ℕ → List ℕ) (s : List ℕ) → List ℕ
on_part p n f s = take p s ++ (f (take n (drop p s)) ++ drop n (drop p s))

-- ---- from the powers of X to the products of the z_j

-- quarters a, b, c, d of q entries become a, b + c + d, c + d, d: for every y, since y^2 = (y^2 + y) + y,
-- a + b y + c y^2 + d y^3 = a + (b + c + d) y + (c + d + d y) (y^2 + y); y is a power z^(2^n), and y^2 + y that of
-- z^2 + z
unfoldable pub quarters : (q : ℕ) (s : List ℕ) → List ℕ
quarters q s = on_part q (q + q) (second_added 1 q) (on_part (q + q) (q + q) (second_added 1 q) s)

unfoldable pub quarters_back : (q : ℕ) (s : List ℕ) → List ℕ
quarters_back q s = on_part (q + q) (q + q) (second_added 1 q) (on_part q (q + q) (second_added 1 q) s)

-- the quarters exchanged so in a list of 2^upper runs of 2^lower entries, and then in its halves, as long as they have
-- four runs or more
unfoldable pub regrouped : (lower upper : ℕ) (s : List ℕ) → List ℕ
regrouped lower zero s = s
regrouped lower (suc zero) s = s
regrouped lower (suc (suc upper)) s =
    let t = quarters (2 ^ (upper + lower)) s in
    let half = 2 ^ (suc upper + lower) in
    regrouped lower (suc upper) (take half t) ++ regrouped lower (suc upper) (drop half t)

unfoldable pub regrouped_back : (lower upper : ℕ) (s : List ℕ) → List ℕ
regrouped_back lower zero s = s
regrouped_back lower (suc zero) s = s
regrouped_back lower (suc (suc upper)) s =
    let half = 2 ^ (suc upper + lower) in
    quarters_back (2 ^ (upper + lower))
    (regrouped_back lower (suc upper) (take half s) ++ regrouped_back lower (suc upper) (drop half s))

-- run i of 2^lower entries times r^i
unfoldable pub scaled_runs : (lower r : ℕ) (s : List ℕ) → List ℕ
scaled_runs lower r s = tabulated (λ i. product (power r (i / 2 ^ lower)) (get_or s i 0)) 0 (length s)

-- the conversion by its levels from `lower` on, `upper` of them; `ratio` gives the factor of each
unfoldable pub converted : (ratio : ℕ → ℕ) (lower upper : ℕ) (s : List ℕ) → List ℕ
converted ratio lower zero s = s
converted ratio lower (suc upper) s =
    converted ratio (suc lower) upper (regrouped lower (suc upper) (scaled_runs lower (ratio lower) s))

-- the same levels undone, from the last to the first; `inverse_ratio` gives the inverse of each factor
unfoldable pub converted_back : (inverse_ratio : ℕ → ℕ) (lower upper : ℕ) (s : List ℕ) → List ℕ
converted_back inverse_ratio lower zero s = s
converted_back inverse_ratio lower (suc upper) s =
    scaled_runs lower (inverse_ratio lower)
    (regrouped_back lower (suc upper) (converted_back inverse_ratio (suc lower) upper s))

-- e_j / e_(j-1)^2, or e_0, where the inverses are those of the elements e_j; with the two lists exchanged it is the
-- inverse of that
unfoldable pub ratio_of : (elements inverses : List ℕ) (j : ℕ) → ℕ
ratio_of elements inverses zero = get_or elements 0 0
ratio_of elements inverses (suc j) =
    product (get_or elements (suc j) 0) (product (get_or inverses j 0) (get_or inverses j 0))

-- ---- from the products of the z_j to values

-- z_n(x), from the elements of the maps X · (X - e) and their inverses
unfoldable pub normalised_at : (elements inverses : List ℕ) (n x : ℕ) → ℕ
normalised_at elements inverses n x = product (composed_maps (take n elements) x) (get_or inverses n 0)

-- halves a, b become a + c b, a + c b + b, where c = z_n(offset) and z_n(offset + b_n) = c + 1; then each half by
-- itself
unfoldable pub split_in_halves : (z : ℕ → ℕ → ℕ) (basis : List ℕ) (n offset : ℕ) (s : List ℕ) → List ℕ
split_in_halves z basis zero offset s = s
split_in_halves z basis (suc n) offset s =
    let half = 2 ^ n in
    let t = first_added half (second_added (z n offset) half s) in
    split_in_halves z basis n offset (take half t)
    ++ split_in_halves z basis n (sum offset (get_or basis n 0)) (drop half t)

unfoldable pub joined_from_halves : (z : ℕ → ℕ → ℕ) (basis : List ℕ) (n offset : ℕ) (s : List ℕ) → List ℕ
joined_from_halves z basis zero offset s = s
joined_from_halves z basis (suc n) offset s =
    let half = 2 ^ n in
    let t = joined_from_halves z basis n offset (take half s)
    ++ joined_from_halves z basis n (sum offset (get_or basis n 0)) (drop half s) in
    second_added (z n offset) half (first_added half t)

-- ---- the transform and its inverse, over a basis

-- from 2^m coefficients or fewer to the values at the 2^k points: the first 2^m entries are converted; then all 2^k, of
-- which the others are zero, are split in halves
unfoldable pub transformed : (offset m : ℕ) (basis coefficients : List ℕ) → List ℕ
transformed offset m basis coefficients =
    let k = length basis in
    let elements = step_elements k basis in
    let inverses = map inverse elements in
    let products = converted (ratio_of elements inverses) 0 m (padded gf64 (2 ^ m) coefficients) in
    split_in_halves (normalised_at elements inverses) basis k offset (padded gf64 (2 ^ k) products)

-- the values at the 2^k points to the coefficients
unfoldable pub transformed_back : (offset : ℕ) (basis word : List ℕ) → List ℕ
transformed_back offset basis word =
    let k = length basis in
    let elements = step_elements k basis in
    let inverses = map inverse elements in
    converted_back (ratio_of inverses elements) 0 k
    (joined_from_halves (normalised_at elements inverses) basis k offset word)
