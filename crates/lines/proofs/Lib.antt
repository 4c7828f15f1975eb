-- The laws of the log's lines.
pub mod LinesLaws
pub mod EndLaws
pub mod CursorLaws
pub mod FeedLaws
pub mod StretchLaws
