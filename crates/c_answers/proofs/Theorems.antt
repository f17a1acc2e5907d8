-- The statements of specs/Theorems.antt, proved. Assumes nothing.
use mathlib.Core.Path.{refl}
use Rattle.layout.proofs.Parts.{part_taken}
use Rattle.c_answers.specs.Theorems.{FoldNumbers, RunNumbers}

pub fold_numbers : FoldNumbers
fold_numbers = record { done = refl; wrong_length = refl }

pub run_numbers : RunNumbers
run_numbers =
    record {
      proved = refl;
      degree = refl;
      store = refl;
      accepted = refl;
      refused = refl;
      shared = refl;
      part = part_taken;
    }
