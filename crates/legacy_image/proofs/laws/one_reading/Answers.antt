use Rattle.legacy_image.proofs.Determined.{one_bytes, one_refusal, never_both}
use Rattle.legacy_image.proofs.Readings.{legacy_or_refused}
use Rattle.legacy_image.proofs.laws.one_reading.Goals as goal

pub returns : goal.returns
returns c = record {
  either = legacy_or_refused;
  never_both = λ input good bad. never_both input good.0 bad.0 bad.1 good.1 bad.2;
  bytes = one_bytes;
  refusal = one_refusal;
}
