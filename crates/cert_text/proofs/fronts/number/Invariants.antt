use Rattle.std.proofs.Common.{◌≡◌, ◌+◌, drop}
use Rattle.std.specs.List.{prefix_len}
use Rattle.cert_text.specs.Letters.{is_digit}
use Rattle.cert_text.specs.Fronts.{number_by}
use Rattle.cert_text.proofs.fronts.number.Given as goal

abbrev pub invariant-loop-b : goal.invariant-loop-b
invariant-loop-b l = record {
  value : number_by l.value (drop l.b-index l.bytes) ≡ number_by 0 l.bytes;
  len : l.len ≡ l.b-index;
  rest : l.len + prefix_len is_digit (drop l.b-index l.bytes) ≡ prefix_len is_digit l.bytes;
}
