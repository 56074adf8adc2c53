pub mod Numerals
pub mod Lengths
pub mod PairLoop
pub mod NameLoop
pub mod NumeralLaws
pub mod HexLaws
pub mod NameLaws
pub mod WordLaws
