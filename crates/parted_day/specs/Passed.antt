-- What `part_seconds` says of a run and of what parts send, for those who name partitions of a day and nothing that they are made of.
pub use Rattle.part_seconds.specs.declared.contents.Contents.{Contents}
pub use Rattle.part_seconds.specs.declared.runs.Run.{Run}
pub use Rattle.part_seconds.specs.Parcels.{nothing}
