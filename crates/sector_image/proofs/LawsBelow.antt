-- The laws of the crates below, as they are proved there.
use Rattle.sector_log.specs.Laws.{InTwoParts, IsDetermined}
use Rattle.guard_row.specs.Laws.{OneOfBoth}
use Rattle.sector_log.proofs.SectorLemmas as sector
use Rattle.guard_row.proofs.RowLaws as row

pub sector_parts : InTwoParts
sector_parts = record {
  head = sector.head_cases;
  one_head = sector.one_head;
  no_bad_head = sector.no_bad_head;
  one_bad_head = sector.one_bad_head;
  log = sector.log_cases;
  no_bad_log = sector.no_bad_log;
  one_bad_log = sector.one_bad_log;
  has_head = sector.has_head;
  behind = sector.behind;
}

pub sector_reading : IsDetermined
sector_reading = record { sector = sector.one_sector; place = sector.one_place }

pub guard_law : OneOfBoth
guard_law = record { either = row.row_cases; never_both = row.never_both; one_count = row.one_count; one_place = row.one_place }
