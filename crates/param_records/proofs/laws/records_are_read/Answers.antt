use Rattle.std.proofs.Common.{ap, ◌+◌, sym, subst, List, length}
use Rattle.param_records.specs.Records.{Record, HasRecords, spelling, records_of}
use Rattle.param_records.proofs.RecordLemmas.{records_are, end_is}
use Rattle.param_records.proofs.WalkLemmas.{has_records}
use Rattle.param_records.proofs.StepLemmas.{front_is, no_records}
use Rattle.param_records.proofs.laws.records_are_read.Goals as goal

pub returns : goal.returns
returns c = record {
  has = λ bytes low front.
      let found = has_records bytes low front in
      subst (λ (n : _). HasRecords bytes (records_of bytes) n) (sym (end_is bytes found.0 found.1 found.2))
      (subst (λ (x : List Record). HasRecords bytes x found.1) (sym (records_are bytes found.0 found.1 found.2)) found.2);
  only = λ bytes records at h. (front_is bytes records at h, records_are bytes records at h, end_is bytes records at h);
  none = λ bytes other. (no_records bytes other, ap (λ (x : List Record). 4 + length (spelling x)) (no_records bytes other));
}
