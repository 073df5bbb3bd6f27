use Rattle.fair_runs.proofs.NamedSequences.{fair_sequence, fair_sequence_words, fair_sequence_classically}
use Rattle.fair_runs.proofs.laws.fair_computations_are_fair_sequences.Goals as goal

pub returns : goal.returns
returns c = record {
  sequence = λ p initial run is. record { first = is.first; next = λ k. (is.name k, is.leads k) };
  known = λ p initial well run is fair. fair_sequence p initial well run is fair;
  words = λ p initial well run is fair. fair_sequence_words p initial well run is fair;
  classical = λ p initial well run is fair. fair_sequence_classically p initial well run is fair;
}
