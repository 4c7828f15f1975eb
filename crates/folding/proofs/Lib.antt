pub mod FoldLeaf
pub mod FoldLaws
pub mod FoldSteps
