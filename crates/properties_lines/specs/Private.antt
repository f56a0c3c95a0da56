pub mod InputBuffer
pub mod PlainEnds
pub mod HeldLines
