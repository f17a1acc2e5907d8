-- The cosets of all layers, and the honest layers, store and last coefficients for a word and its challenges.
use Rattle.std.specs.Prelude.{List, ℕ, zero, suc, ◌-◌, take}
use Rattle.coset.specs.Subspace.{next_offset, next_basis}
use Rattle.reed_solomon.specs.Codes.{interpolated}
use Rattle.fold.specs.Fold.{folded}
use Rattle.fri.specs.Layout.{step_at, last_count, joined_layers}
use Rattle.fri.specs.Run.{Run, steps_in, rounds_in, challenge_in, step_in}

-- the basis of layer i: that of the coset after layer i - 1's
unfoldable pub layer_basis : (steps basis : List ℕ) (i : ℕ) → List ℕ
layer_basis steps basis zero = basis
layer_basis steps basis (suc i) = next_basis (step_at steps i) (layer_basis steps basis i)

-- the offset of layer i
unfoldable pub layer_offset : (steps : List ℕ) (offset : ℕ) (basis : List ℕ) (i : ℕ) → ℕ
layer_offset steps offset basis zero = offset
layer_offset steps offset basis (suc i) =
    next_offset (step_at steps i) (layer_offset steps offset basis i) (layer_basis steps basis i)

-- the basis of layer i of a run
abbrev pub basis_in : (run : Run) (i : ℕ) → List ℕ
basis_in run i = layer_basis (steps_in run) run.basis i

-- and its offset
abbrev pub offset_in : (run : Run) (i : ℕ) → ℕ
offset_in run i = layer_offset (steps_in run) run.offset run.basis i

-- the fold of round i, of whatever stands for layer i, at challenge i
unfoldable pub fold_of : (run : Run) (i : ℕ) (entries : List ℕ) → List ℕ
fold_of run i entries = folded (step_in run i) (offset_in run i) (basis_in run i) entries (challenge_in run i)

-- honest: layer 0 is the word, layer i + 1 the fold of layer i at challenge i
unfoldable pub honest_layer : (run : Run) (i : ℕ) → List ℕ
honest_layer run zero = run.word
honest_layer run (suc i) = fold_of run i (honest_layer run i)

-- the honest store: layers 1 to r - 1
unfoldable pub honest_store : (run : Run) → List ℕ
honest_store run = joined_layers (honest_layer run) (rounds_in run - 1)

-- layer r's interpolant
unfoldable pub last_interpolant : (run : Run) → List ℕ
last_interpolant run =
    interpolated (offset_in run (rounds_in run)) (basis_in run (rounds_in run)) (honest_layer run (rounds_in run))

-- the honest last coefficients: the first d of it
unfoldable pub honest_last : (run : Run) → List ℕ
honest_last run = take (last_count run.k run.rate (steps_in run)) (last_interpolant run)

-- the run with the honest store and the honest last coefficients
abbrev pub honest : (run : Run) → Run
honest run =
    record {
      k = run.k;
      rate = run.rate;
      step = run.step;
      offset = run.offset;
      basis = run.basis;
      challenges = run.challenges;
      word = run.word;
      store = honest_store run;
      last = honest_last run;
    }
