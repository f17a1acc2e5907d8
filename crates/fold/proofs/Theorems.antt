-- The statements of specs/Theorems.antt on folds and exceptional sets, proved. Assumes nothing.
use Rattle.fold.specs.Theorems.{Folds, ExceptionalSets, Halvings}
use Rattle.fold.proofs.Folding.{entry_by_agreement, coset_agrees, fold_is_word}
use Rattle.fold.proofs.Folding.{folded_by_rows, fold_keeps_degree, value_of_fold}
use Rattle.fold.proofs.Exceptional.{exceptional_by_rows, exceptional_bound}
use Rattle.fold.proofs.Lines.{entry_of_coset}

pub folds : Folds
folds =
    record {
      entry = entry_by_agreement;
      agrees = coset_agrees;
      word = fold_is_word;
      rows = folded_by_rows;
      degree = fold_keeps_degree;
      value = value_of_fold;
    }

pub exceptional_sets : ExceptionalSets
exceptional_sets = record { rows = exceptional_by_rows; bound = exceptional_bound }

pub halvings : Halvings
halvings = record { entry = entry_of_coset }
