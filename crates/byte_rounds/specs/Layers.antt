-- Where the layers of a run lie in the bytes, and what is read from them there, as the code finds it. Only inner
-- functions cite this.
use Rattle.std.specs.Prelude.{◌≡◌, List, [], ℕ, zero, suc, ◌+◌, ◌*◌, ◌^◌, ◌≤◌, ◌<◌}
use Rattle.fri.specs.Layout.{dimension}
use Rattle.fri.specs.Run.{Run, steps_in, rounds_in, layer_in}
use Rattle.layout.specs.declared.Parameters.{Parameters}
use Rattle.layout.specs.Parameters.{run_of}
use Rattle.transcript.specs.Numerals.{entries_at}
use Rattle.transcript.specs.Sections.{run_in}

-- a run whose word and store are those that the bytes carry
abbrev pub sent_in : (p : Parameters) (offset : ℕ) (basis challenges bytes last : List ℕ) → Run
sent_in p offset basis challenges bytes last =
    run_of p offset basis challenges (run_in bytes).word (run_in bytes).store last

-- the layers of such a run alone
abbrev pub layers_in : (p : Parameters) (bytes : List ℕ) → Run
layers_in p bytes = sent_in p 0 [] [] bytes []

-- where the entries of layer i begin, if those of layer 0 begin at `at`: a count stands between two layers
unfoldable pub layer_at : (k : ℕ) (steps : List ℕ) (at i : ℕ) → ℕ
layer_at k steps at zero = at
layer_at k steps at (suc i) = layer_at k steps at i + 8 * 2 ^ dimension k steps i + 4

-- the layers of the run lie in the bytes, the first from `at` on. The sections of a transcript begin before 2^40, since
-- there are at most 24, each of at most 4 + 8 · 2^32 bytes; whatever is well below 2^64 would do
pub record LaidOut (bytes : List ℕ) (at : ℕ) (run : Run) : Type 0 where
  pub entries : (i : ℕ) → i < rounds_in run
      → layer_in run i ≡ entries_at bytes (layer_at run.k (steps_in run) at i) (2 ^ dimension run.k (steps_in run) i)
  pub begins : at ≤ 2 ^ 41
