-- The samples, by computation: every definition that they speak of is unfolded. Assumes nothing.
use mathlib.Core.Path.{refl}
use Rattle.gf64.specs.Field.{product, inverse, power, power_in, times_where}
use Rattle.gf64.specs.Polynomial.{carryless, carryless_in, remainder, remainder_in, times_t}
use Rattle.poly.specs.Polynomial.{evaluate, interpolant, plus, scale, times_linear}
use Rattle.poly.specs.Polynomial.{divided_differences, vanishing_polynomial}
use Rattle.poly.specs.Degree.{degree_bound}
use Rattle.coset.specs.Coset.{point, points, tabulated}
use Rattle.coset.specs.Span.{in_span, first_dependent_after, first_dependent}
use Rattle.coset.specs.Subspace.{next_offset, next_basis, image, subspace_polynomial}
use Rattle.reed_solomon.specs.Codes.{interpolated}
use Rattle.fold.specs.Fold.{folded, fold_entry, coset_points, coset_entries}
use Rattle.fri.specs.Layout.{dimension, last_count, layer_start, store_length, stored_layer, joined_layers, index_in}
use Rattle.fri.specs.Run.{layer_in}
use Rattle.fri.specs.Layers.{layer_basis, layer_offset, fold_of, honest_layer, honest_store, last_interpolant, honest_last}
use Rattle.fri.specs.Checks.{first_outside, among, first_repeated_after, first_shared}
use Rattle.fri.specs.Rounds.{value_computed, value_found, first_failing_round, rounds_outcome}
use Rattle.fri.specs.Reads.{entry_count, entries_read}
use Rattle.samples.specs.Samples.{every, same, bases_agree}
use Rattle.samples.specs.Agreement.{Agreement}

pub agreement : Agreement
unfolding product inverse power power_in times_where carryless carryless_in remainder remainder_in times_t evaluate
    interpolant plus scale times_linear divided_differences vanishing_polynomial degree_bound point points tabulated in_span
    first_dependent_after first_dependent next_offset next_basis image subspace_polynomial interpolated folded fold_entry
    coset_points coset_entries dimension last_count layer_start store_length stored_layer joined_layers index_in layer_in
    layer_basis layer_offset fold_of honest_layer honest_store last_interpolant honest_last first_outside
    among first_repeated_after first_shared value_computed value_found first_failing_round rounds_outcome entry_count entries_read
    every same bases_agree
agreement =
    record {
      layouts = refl;
      indices = refl;
      cosets = refl;
      lookups = refl;
      judged-of-table-a = refl;
      judged-accepted = refl;
      judged-failing-in-two-rounds = refl;
      judged-failing-in-three-rounds = refl;
      judged-at-high-degree = refl;
      judged-refused = refl;
      proved-well = refl;
      proved-at-high-degree = refl;
      proved-refused = refl;
    }
