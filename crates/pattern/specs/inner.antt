-- What only private functions promise: a reader of the public promises need not read it.
-- Assumes nothing.
pub mod Scanner
pub mod Nodes
