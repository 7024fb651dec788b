pub mod Translation
pub mod Laws
