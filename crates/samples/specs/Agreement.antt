-- On every sample the definitions give what the reference gives. proofs/Samples.antt has a value.
use Rattle.std.specs.Prelude.{◌≡◌, true}
use Rattle.samples.specs.Samples.{every, layout_agrees, index_agrees, coset_agrees}
use Rattle.samples.specs.Samples.{lookup_agrees, judged_agrees, proved_agrees}
use Rattle.samples.specs.Rows as rows

pub record Agreement : Type 0 where
  pub layouts : every layout_agrees rows.layouts ≡ true
  pub indices : every index_agrees rows.indices ≡ true
  pub cosets : every coset_agrees rows.cosets ≡ true
  pub lookups : every lookup_agrees rows.lookups ≡ true
  pub judged-of-table-a : every judged_agrees rows.judged_of_table_a ≡ true
  pub judged-accepted : every judged_agrees rows.judged_accepted ≡ true
  pub judged-failing-in-two-rounds : every judged_agrees rows.judged_failing_in_two_rounds ≡ true
  pub judged-failing-in-three-rounds : every judged_agrees rows.judged_failing_in_three_rounds ≡ true
  pub judged-at-high-degree : every judged_agrees rows.judged_at_high_degree ≡ true
  pub judged-refused : every judged_agrees rows.judged_refused ≡ true
  pub proved-well : every proved_agrees rows.proved_well ≡ true
  pub proved-at-high-degree : every proved_agrees rows.proved_at_high_degree ≡ true
  pub proved-refused : every proved_agrees rows.proved_refused ≡ true
