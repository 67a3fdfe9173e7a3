pub mod Leading
pub mod LowestBits
pub mod Walking
pub mod Extended
pub mod Copies
pub mod Known
pub mod Redirected
