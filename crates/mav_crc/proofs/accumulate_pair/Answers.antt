use Rattle.mav_crc.proofs.Pairs.{two_bytes}
use Rattle.mav_crc.proofs.accumulate_pair.Goals as goal

pub returns : goal.returns
returns c =
    two_bytes c.args.register c.args.first c.args.second
    c.ranges.register.fits c.ranges.first.fits c.ranges.second.fits
