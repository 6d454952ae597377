pub mod CodeLemmas
pub mod PieceLemmas
pub mod HexLines
pub mod HexLanes
