-- The files of a times folder as they were fetched.
use Rattle.std.specs.Prelude.{◌≡◌}
use Rattle.flex_model.specs.declared.fault.InputFile.TheVariants.{ZoneText, ZoneTzif, Points, Direct, Walks}
use Rattle.flex_model.specs.declared.fault.RawFile.TheVariants.{Absent}
use Rattle.feed_meaning.specs.Folder.{Folder}
use Rattle.feed_meaning.specs.Told.{IsWithin}
use Rattle.place_times.specs.declared.fetch.TimesFiles.{TimesFiles}

-- the files are those of the folder
pub record AreFetched (folder : Folder) (files : TimesFiles) : Type 0 where
  pub zone_text : files.zone_text ≡ folder ZoneText
  pub zone_tzif : files.zone_text ≡ Absent → files.zone_tzif ≡ folder ZoneTzif
  pub points : files.points ≡ folder Points
  pub direct : files.direct ≡ folder Direct
  pub walks : files.walks ≡ folder Walks

-- the bytes of the tables can be counted in 32 bits
pub record AreCounted (files : TimesFiles) : Type 0 where
  pub points : IsWithin 4294967295 files.points
  pub direct : IsWithin 4294967295 files.direct
  pub walks : IsWithin 4294967295 files.walks
