use Rattle.sector_image.proofs.ImageLaws as image
use Rattle.sector_image.proofs.laws.one_of_both.Goals as goal

pub returns : goal.returns
returns c = record {
  either = image.either;
  never_both = λ w bytes p good bad. image.never_both w good.0 p good.1 bad;
  one_reading = image.one_reading;
  one_value = image.one_value;
  one_place = image.one_place;
}
