-- What only contracts of private functions and laws cite: no public promise does.
pub mod Cells
