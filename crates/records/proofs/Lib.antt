-- The laws of a log's lines and records.
pub mod FieldLaws
pub mod NumberLaws
pub mod NumeralLaws
pub mod RowLaws
pub mod LineLaws
pub mod SpellingLaws
pub mod RecordLines
pub mod ValueLaws
pub mod RangeLaws
pub mod Walk
