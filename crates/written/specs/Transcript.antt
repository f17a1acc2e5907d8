-- The transcript of a run and its queries. `lists_of` says which lists its sections hold, `transcript_length` how long
-- these are.
use Rattle.std.specs.Prelude.{List, [], ◌∷◌, ℕ, zero, suc, ◌+◌, ◌*◌, ◌^◌, length}
use Rattle.fri.specs.Layout.{last_count, store_length}
use Rattle.fri.specs.Run.{Run, rounds_in, layer_in}
use Rattle.written.specs.Bytes.{sections_bytes}

-- layer i and those after it, `left` of them, then the last coefficients
unfoldable pub layers_then_last : (run : Run) (i left : ℕ) → List (List ℕ)
layers_then_last run i zero = run.last ∷ []
layers_then_last run i (suc left) = layer_in run i ∷ layers_then_last run (suc i) left

-- the lists of sections 1 to 5 + r: k, R, η; offset and basis; challenges; queries; layers 0 to r - 1; the last
-- coefficients
abbrev pub lists_of : (run : Run) (queries : List ℕ) → List (List ℕ)
lists_of run queries =
    (run.k ∷ run.rate ∷ run.step ∷ []) ∷ (run.offset ∷ run.basis) ∷ run.challenges ∷ queries
    ∷ layers_then_last run 0 (rounds_in run)

-- the bytes of the transcript
unfoldable pub transcript_of : (run : Run) (queries : List ℕ) → List ℕ
transcript_of run queries = sections_bytes (lists_of run queries)

-- how many there are, with so many queries and lists of the lengths due: 5 + r counts; 3 parameters, offset and basis,
-- challenges, queries, word, store and last coefficients
abbrev pub transcript_length : (k rate : ℕ) (steps : List ℕ) (queries : ℕ) → ℕ
transcript_length k rate steps queries =
    4 * (5 + length steps)
    + 8 * (3 + (1 + k) + length steps + queries + 2 ^ k + store_length k steps + last_count k rate steps)
