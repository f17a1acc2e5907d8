-- The one value of the record of every theorem. Assumes nothing.
use Rattle.gf64.proofs.Theorems as gf64
use Rattle.gf64.proofs.Cases as gf64-cases
use Rattle.refusal.proofs.Theorems as refusal
use Rattle.poly.proofs.Theorems as poly
use Rattle.poly.proofs.AtField as poly-at-field
use Rattle.poly.proofs.Degree as poly-degree
use Rattle.coset.proofs.Theorems as coset
use Rattle.reed_solomon.proofs.Theorems as reed-solomon
use Rattle.reed_solomon.proofs.Cases as reed-solomon-cases
use Rattle.transform.proofs.Theorems as transform
use Rattle.fold.proofs.Theorems as fold
use Rattle.fold.proofs.Outcomes as fold-outcomes
use Rattle.fold.proofs.Cases as fold_cases
use Rattle.fri.proofs.Layers as layers
use Rattle.fri.proofs.Lookups as lookups
use Rattle.fri.proofs.Refusals as refusals
use Rattle.fri.proofs.RoundChecks as round_checks
use Rattle.fri.proofs.Provers as provers
use Rattle.fri.proofs.Completeness as completeness
use Rattle.fri.proofs.Soundness as soundness
use Rattle.transcript.proofs.Theorems as transcript
use Rattle.transcript.proofs.Shared as transcript-shared
use Rattle.transcript.proofs.LongInputs as transcript-long-inputs
use Rattle.written.proofs.Sections as written_sections
use Rattle.written.proofs.RoundTrip as written-round-trip
use Rattle.written.proofs.Writer as written-writer
use Rattle.written.proofs.Written as written-written
use Rattle.line_text.proofs.Theorems as line-text
use Rattle.sheet_text.proofs.Theorems as sheet-text
use Rattle.writer.proofs.Theorems as writer
use Rattle.end_to_end.proofs.Theorems as end_to_end
use Rattle.c_answers.proofs.Theorems as c-answers
use Rattle.input.proofs.Printed as input-printed
use Rattle.table_a.proofs.TableA as table-a
use Rattle.table_a.proofs.Transcripts as table-a-transcripts
use Rattle.table_a.proofs.Needed as table-a-needed
use Rattle.samples.proofs.Samples as samples-samples
use Rattle.former_answers.proofs.LaterBases as former-answers-later-bases
use Rattle.former_answers.proofs.LongInputs as former-answers-long-inputs
use Rattle.theorems.specs.Theorems.{Theorems}

pub theorems : Theorems
theorems =
    record {
      polynomial_product = gf64.polynomial_product;
      division = gf64.division;
      sum_group = gf64.sum_group;
      product_ring = gf64.product_ring;
      inverses = gf64.inverses;
      powers = gf64.powers;
      field_cases = gf64-cases.field_cases;
      retired_numbers = refusal.retired_numbers;
      round_numbers = refusal.round_numbers;
      over_every_carrier = poly.over_every_carrier;
      at_field = poly-at-field.at_field;
      degrees = poly-degree.degrees;
      cosets = coset.cosets;
      first_dependent = coset.first_dependent;
      subspaces = coset.subspaces;
      next_cosets = coset.next_cosets;
      encoding = reed-solomon.encoding;
      round_trips = reed-solomon.round_trips;
      codes_accepted = reed-solomon.accepted;
      code_refusals = reed-solomon.refusals;
      code_cases = reed-solomon-cases.code_cases;
      transform_steps = transform.steps;
      transforms = transform.transforms;
      folds = fold.folds;
      exceptional_sets = fold.exceptional_sets;
      halvings = fold.halvings;
      fold_accepted = fold-outcomes.accepted;
      fold_refusals = fold-outcomes.refusals;
      fold_cases = fold_cases.fold_cases;
      layouts = layers.layouts;
      layer_cosets = layers.layer_cosets;
      honest_layers = layers.honest_run;
      lookups = lookups.lookups;
      sent_layers = lookups.sent_layers;
      passing = refusals.passing;
      refusals = refusals.refusals;
      shared_cosets = refusals.shared_cosets;
      round_checks = round_checks.round_checks;
      reads = round_checks.reads;
      prover_answers = provers.prover_answers;
      only_numbers = refusals.only_numbers;
      completeness = completeness.completeness;
      soundness = soundness.soundness;
      few_exceptional = soundness.few_exceptional;
      honest_proofs = completeness.honest_proofs;
      judging_bytes = transcript.judging_bytes;
      shared_in_bytes = transcript-shared.shared_in_bytes;
      long_transcripts = transcript.long_transcripts;
      long_inputs = transcript-long-inputs.long_inputs;
      transcript_numbers = transcript-long-inputs.transcript_numbers;
      transcript_completeness = transcript.transcript_completeness;
      transcript_soundness = transcript.transcript_soundness;
      written_sections = written_sections.written_sections;
      written_transcripts = written-round-trip.written_transcripts;
      writer_refusals = written-writer.writer_refusals;
      written_bytes = written-written.written_bytes;
      line_examples = line-text.examples;
      printed_rounds = line-text.printed_rounds;
      decimals = line-text.decimals;
      sheet_examples = sheet-text.examples;
      hexadecimals = sheet-text.hexadecimals;
      sheets = sheet-text.sheets;
      length_told = writer.length_told;
      proved_is_accepted = end_to_end.proved_is_accepted;
      written_is_accepted = end_to_end.written_is_accepted;
      judged_soundness = end_to_end.judged_soundness;
      fold_numbers = c-answers.fold_numbers;
      run_numbers = c-answers.run_numbers;
      prints_of_read = input-printed.prints_of_read;
      prints_of_whole = input-printed.prints_of_whole;
      table-a = table-a.table-a;
      transcript_cases = table-a-transcripts.transcript_cases;
      exceptional_sets_needed = table-a-needed.exceptional_sets_needed;
      agreement = samples-samples.agreement;
      removed_check = former-answers-later-bases.removed_check;
      answers_as_before = former-answers-later-bases.answers_as_before;
      changed_answers = former-answers-long-inputs.changed_answers;
    }
